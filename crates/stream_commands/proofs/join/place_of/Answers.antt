use Rattle.std.specs.List.{position_or_len}
use Rattle.std.specs.Str.{bytes_eq}
use Rattle.std.proofs.Common.{◌∙◌, ap}
use Rattle.stream_commands.specs.Join.{lent_keys}
use Rattle.stream_commands.proofs.Gather.{found_place, no_place}
use Rattle.stream_commands.proofs.join.place_of.Goals as goal

pub returns-in-Some : goal.returns-in-Some
returns-in-Some c = found_place c.as_bytes.result.now c.args.places.now.keys c.in-Some.place c.in-Some.ensures.index ∙ ap (λ k. position_or_len (bytes_eq k) (lent_keys c.args.places.now.keys)) c.as_bytes.ensures.value

pub returns-in-None : goal.returns-in-None
returns-in-None c = c.len.ensures.len ∙ no_place c.as_bytes.result.now c.args.places.now.keys c.in-None.ensures.index ∙ ap (λ k. position_or_len (bytes_eq k) (lent_keys c.args.places.now.keys)) c.as_bytes.ensures.value
