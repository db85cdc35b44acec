-- GET b: n1's link ends before a reply.
use Rattle.std.proofs.Common.{[], ◌∷◌, Err, refl, sym, ap, codes}
use Rattle.std.specs.Fmt.{digits}
use Rattle.std.specs.Str.{is_utf8, chars}
use lib.Utf8.{encode}
use Rattle.resp_core.specs.Errors.{by_cause, server_kind}
use Rattle.resp_core.specs.Parts.{first_error}
use Rattle.resp_core.specs.declared.errors.redis_error.Cause.TheVariants.{Io}
use Rattle.cluster_routing.specs.Examples.{first_node as n1}
use Rattle.cluster_routing.specs.HashSlot.{hash_slot}
use Rattle.cluster_routing.specs.Routing.{destination}
use Rattle.cluster_routing.specs.Split.{splitting_of}
use Rattle.cluster_routing.specs.Table.{rule_of, table}
use Rattle.cluster_calls.specs.Links.Events.{Runs}
use Rattle.cluster_calls.specs.Links.Faults.{refusal_by_fault}
use Rattle.cluster_calls.specs.Links.Request.{bytes_of}
use Rattle.cluster_calls.specs.OneServer.Headline.{PlayedCall}
use Rattle.cluster_calls.specs.WholeCalls.Base.{plain}
use Rattle.cluster_calls.specs.WholeCalls.KeyRuns.{get_a, get_b, played as played_call}
use Rattle.cluster_calls.specs.WholeCalls.MixedRun.{del}
use Rattle.cluster_calls.specs.WholeCalls.MixedPlay.{piped, at_last, by_none}
use Rattle.cluster_calls.proofs.WholePlay.LinkCalled.{lost}
use Rattle.cluster_calls.proofs.WholePlay.OneCall.{IsMade, made}

abbrev pub get_b_lost : PlayedCall
get_b_lost = played_call get_b (Err (by_cause Io)) (plain n1 get_b ∷ [])

runs : Runs piped.nodes at_last.nodes by_none
unfolding digits
runs = (at_last.nodes, lost piped.nodes at_last.nodes n1 (bytes_of (plain n1 get_a ∷ plain n1 (del (codes "b" ∷ [])) ∷ plain n1 get_b ∷ [])) 3 (plain n1 get_b) [] refl refl (refl, tt), refl)

pub get_b_made : IsMade piped at_last get_b_lost by_none
unfolding destination rule_of table hash_slot splitting_of digits first_error is_utf8 chars encode server_kind
get_b_made = made piped at_last get_b_lost by_none runs ((plain n1 get_b, refl), tt) (record { settings = refl; entries = refl; flag = refl; logged = refl; picks = refl; plain = refl; memory = refl }) (λ place. (refl, refl)) (λ e. cc) (λ faults agree place. ap (λ fault. Err (refusal_by_fault fault)) (sym agree.0))
