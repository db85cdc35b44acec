-- The parts of split calls, computed: one slot, and a last argument that all parts share.
use Rattle.std.specs.Prelude.{◌≡◌, ℕ, List, [], ◌∷◌, Some, Ok, codes, refl}
use Rattle.std.specs.Fmt.{digits}
use Rattle.resp_core.specs.Trees.{Tree, nil}
use Rattle.resp_core.specs.Parts.{first_error}
use Rattle.cluster_routing.specs.HashSlot.{hash_slot}
use Rattle.cluster_routing.specs.Table.{rule_of, table}
use Rattle.cluster_routing.specs.Routing.{destination}
use Rattle.cluster_routing.specs.Examples.{first_node as n1, second_node as n2}
use Rattle.cluster_routing.specs.Split.{splitting_of}
use Rattle.cluster_routing.specs.Combine.{array_of}
use Rattle.cluster_routing.specs.Policies.{bad_reply}
use Rattle.cluster_calls.specs.Links.Log.{Exchange}
use Rattle.cluster_calls.specs.Calls.Call.{Call}
use Rattle.cluster_calls.specs.Calls.Plan.{plan}
use Rattle.cluster_calls.specs.Calls.Legal.{IsLegalCall}
use Rattle.cluster_calls.specs.Calls.Answer.{Value, kind}
use Rattle.cluster_calls.specs.WholeCalls.Base.{on_halves, a_fault, query, plain, goes_to, log_over, answer_on, text, one}

abbrev pub item : Tree → Tree
item t = array_of (t ∷ [])

-- ---- one slot is one part, combined all the same

abbrev pub mget_tag : List (List ℕ)
mget_tag = codes "MGET" ∷ codes "a" ∷ codes "{a}x" ∷ []

abbrev pub mget_tag_log : List Exchange
mget_tag_log = log_over [] (array_of (nil ∷ text (codes "5") ∷ []) ∷ []) (plain n2 mget_tag ∷ [])

pub one_slot_is_one_request : IsLegalCall on_halves [] (query mget_tag) mget_tag_log
unfolding destination rule_of table hash_slot splitting_of digits first_error
one_slot_is_one_request = (refl, refl)

pub one_slot_answers_its_array : answer_on on_halves (query mget_tag) mget_tag_log
    ≡ Ok (Value (array_of (nil ∷ text (codes "5") ∷ [])))
unfolding destination rule_of table hash_slot splitting_of digits first_error
one_slot_answers_its_array = refl

pub one_slot_is_combined_too : kind on_halves [] a_fault (query mget_tag)
    (log_over [] (one ∷ []) (plain n2 mget_tag ∷ [])) ≡ Some bad_reply
unfolding destination rule_of table hash_slot splitting_of digits first_error
one_slot_is_combined_too = refl

-- ---- JSON.MGET a b $: each part has the last argument

abbrev pub json_of : List ℕ → List (List ℕ)
json_of key = codes "JSON.MGET" ∷ key ∷ codes "$" ∷ []

abbrev pub json : Call
json = query (codes "JSON.MGET" ∷ codes "a" ∷ codes "b" ∷ codes "$" ∷ [])

pub json_plan : plan on_halves [] json
    ≡ Ok (goes_to n2 (json_of (codes "a")) ∷ goes_to n1 (json_of (codes "b")) ∷ [])
unfolding destination rule_of table hash_slot splitting_of digits
json_plan = refl

pub json_answers_in_order : answer_on on_halves json
    (log_over (item nil ∷ []) (item (text (codes "[1]")) ∷ [])
    (plain n2 (json_of (codes "a")) ∷ plain n1 (json_of (codes "b")) ∷ []))
    ≡ Ok (Value (array_of (text (codes "[1]") ∷ nil ∷ [])))
unfolding destination rule_of table hash_slot splitting_of digits first_error
json_answers_in_order = refl
