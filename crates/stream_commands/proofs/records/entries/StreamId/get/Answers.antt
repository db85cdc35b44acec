use Rattle.std.proofs.Common.{◌≡◌, ◌∙◌, Some, None, refl, sym}
use Rattle.resp_core.specs.View.{view}
use Rattle.stream_commands.specs.RecordViews.{fields_view}
use Rattle.stream_commands.specs.UnderNames.{under}
use Rattle.stream_commands.proofs.Lookups.{under-found, refused-is_none}
use Rattle.stream_commands.proofs.records.entries.StreamId.get.Goals as goal

pub returns-in-None : goal.returns-in-None
returns-in-None g c = let e : under c.args.key.now (fields_view c.args.self.now.map) ≡ None = under-found c.args.key.now c.args.self.now.map None c.in-None.ensures.value in rw e refl

pub returns-in-Ok : goal.returns-in-Ok
returns-in-Ok g c = let e : under c.args.key.now (fields_view c.args.self.now.map) ≡ Some (view c.in-Some.value.now) = under-found c.args.key.now c.args.self.now.map (Some c.in-Some.value.now) c.in-Some.ensures.value in rw e (sym c.in-Ok.ensures)

pub returns-else-is_memory : goal.returns-else-is_memory
returns-else-is_memory g c = let e : under c.args.key.now (fields_view c.args.self.now.map) ≡ Some (view c.in-Some.value.now) = under-found c.args.key.now c.args.self.now.map (Some c.in-Some.value.now) c.in-Some.ensures.value in rw e (sym (refused-is_none g.T.FromRedisValue.meaning _ c.in-Err.e (sym c.is_memory.ensures ∙ c.if-is_memory.false) c.in-Err.ensures))
