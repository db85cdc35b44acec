-- What is sent again and what is not, computed; and how a call may be refused.
use Rattle.std.specs.Prelude.{◌==◌, List, [], ◌∷◌, length, Err, codes, refl}
use Rattle.std.specs.Fmt.{digits}
use Rattle.std.specs.List.{list_any}
use Rattle.std.proofs.Common.{ap}
use Rattle.std.proofs.lemmas.Bool.{false≢true}
use Rattle.resp_core.specs.Trees.{okay, nil}
use Rattle.resp_core.specs.Errors.{by_cause}
use Rattle.resp_core.specs.Parts.{first_error}
use Rattle.resp_core.specs.declared.errors.redis_error.Cause.TheVariants.{Io}
use Rattle.cluster_routing.specs.HashSlot.{hash_slot}
use Rattle.cluster_routing.specs.Routing.{destination}
use Rattle.cluster_routing.specs.Split.{splitting_of}
use Rattle.cluster_routing.specs.Table.{rule_of, table}
use Rattle.cluster_routing.specs.Examples.{first_node as n1, second_node as n2}
use Rattle.cluster_calls.specs.Links.Events.{Event, fails}
use Rattle.cluster_calls.specs.Links.Faults.{io}
use Rattle.cluster_calls.specs.Links.Log.{Exchange}
use Rattle.cluster_calls.specs.Links.Request.{Request, slots_command}
use Rattle.cluster_calls.specs.Calls.Call.{Refresh}
use Rattle.cluster_calls.specs.Calls.Legal.{IsLegalCall}
use Rattle.cluster_calls.specs.OneServer.RefusedPlays.{IsRefusedByKind}
use Rattle.cluster_calls.specs.WholeCalls.Base.{on_halves, query, plain, log_over, text}
use Rattle.cluster_calls.specs.WholeCalls.KeyRuns.{get_a, played, answered, set_a}
use Rattle.cluster_calls.specs.WholeCalls.Pipelines.{three}

-- ---- a request that was answered, and one whose reply was lost

pub an_answered_request_is_not_sent_again : IsLegalCall on_halves [] (query get_a)
    (log_over [] (nil ∷ nil ∷ []) (plain n2 get_a ∷ plain n2 get_a ∷ [])) → ⊥
unfolding destination rule_of table hash_slot splitting_of digits first_error
an_answered_request_is_not_sent_again h = let e = h.1 in cc

pub a_lost_request_is_not_sent_again : IsLegalCall on_halves [] (query get_a)
    (log_over [] [] (plain n2 get_a ∷ plain n2 get_a ∷ [])) → ⊥
unfolding destination rule_of table hash_slot splitting_of digits first_error
a_lost_request_is_not_sent_again h = let e = h.1 in cc

-- ---- refreshes

pub a_refresh_asks_once : IsLegalCall on_halves [] (Refresh n1) (log_over [] [] (plain n1 slots_command ∷ []))
a_refresh_asks_once = refl

pub and_not_again : IsLegalCall on_halves [] (Refresh n1)
    (log_over (nil ∷ []) [] (plain n1 slots_command ∷ plain n1 slots_command ∷ [])) → ⊥
and_not_again h = cc

-- ---- pipelines: SET a 1, GET b, GET a, of which the first is sent twice

abbrev pub set_twice : List Exchange
set_twice = log_over [] (okay ∷ okay ∷ text (codes "1") ∷ [])
    (plain n2 set_a ∷ plain n2 set_a ∷ plain n2 get_a ∷ [])

pub a_pipeline_sends_each_once : IsLegalCall on_halves [] three set_twice → ⊥
unfolding destination rule_of table hash_slot splitting_of digits first_error
a_pipeline_sends_each_once h = false≢true (ap (λ qs. list_any (λ (q : Request). length q.args == 2) qs) h.0)

-- ---- GET a over a link that fails is refused by the link's fault, and is not answered

abbrev pub lost : List Event
lost = record { node = n2; requests = plain n2 get_a ∷ []; taken = []; ending = fails io } ∷ []

pub a_lost_request_refuses : IsRefusedByKind on_halves lost
    (played get_a (Err (by_cause Io)) (plain n2 get_a ∷ []))
unfolding destination rule_of table hash_slot splitting_of digits first_error
a_lost_request_refuses = λ had. refl

pub a_lost_request_does_not_answer : IsRefusedByKind on_halves lost (answered get_a nil (plain n2 get_a ∷ []))
    → ⊥
unfolding destination rule_of table hash_slot splitting_of digits first_error
a_lost_request_does_not_answer h = let e = h (λ f. cc) in cc
