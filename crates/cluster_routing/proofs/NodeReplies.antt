-- Replies of several nodes, one more at a time.
use Rattle.std.specs.Prelude.{Result, Ok, Err}
use Rattle.std.proofs.Common.{◌≡◌, ℕ, List, [], ◌∷◌, ◌++◌, map, refl, sym, ap, ◌∙◌, append_assoc, append-nil, Vec, Global}
use Rattle.std.proofs.lemmas.List.{map-append}
use Rattle.resp_core.specs.Errors.{Refusal}
use Rattle.resp_core.specs.Trees.{Tree, nil, bulk, map as map_tree}
use Rattle.resp_core.specs.View.{pair_view, pairs_of, view}
use Rattle.resp_core.specs.declared.value.Value.{Value, BulkString, Map}
use Rattle.cluster_routing.specs.Address.{Address, written}
use Rattle.cluster_routing.specs.Outcomes.{map_or_refusal, outcomes_of, trees_or_refusal}
use Rattle.cluster_routing.specs.Policies.{Outcome, all_replies, all_succeeded, and_tree, bad_reply, combine_outcomes, combine_replies, first_not_nil, one_succeeded, or_bad_reply, or_first_refusal, or_later_reply, or_not_nil, reply_by_policy, tree_or_refusal, trees_by, with_reply}
use Rattle.cluster_routing.specs.Seen.{address}
use Rattle.cluster_routing.specs.declared.address.NodeAddress.{NodeAddress}
use Rattle.cluster_routing.specs.declared.policy.ResponsePolicy.{ResponsePolicy}
use Rattle.cluster_routing.specs.declared.policy.ResponsePolicy.TheVariants.{Aggregate, AggregateLogical, AllSucceeded, CombineArrays, CombineMaps, FirstSucceededNonEmptyOrAllEmpty, OneSucceeded, Special}
use Rattle.cluster_routing.specs.declared.policy.AggregateOp.{AggregateOp}
use Rattle.cluster_routing.specs.declared.policy.LogicalAggregateOp.{LogicalAggregateOp}
use Rattle.cluster_routing.specs.declared.policy.LogicalAggregateOp.TheVariants.{And}
use Rattle.cluster_routing.proofs.Counting.{map_view}
use Rattle.cluster_routing.proofs.Replies.{view-BulkString}

-- what is answered so far, and the outcomes behind it
abbrev pub all_from : Result Tree Refusal → List Outcome → Result Tree Refusal
all_from x [] = x
all_from x (o ∷ os) = or_first_refusal x (all_succeeded (o ∷ os))

abbrev pub one_from : Result Tree Refusal → List Outcome → Result Tree Refusal
one_from x [] = x
one_from x (o ∷ os) = or_later_reply x (one_succeeded (o ∷ os))

abbrev pub first_from : Result Tree Refusal → List Outcome → Result Tree Refusal
first_from x [] = x
first_from x (o ∷ os) = or_not_nil x (first_not_nil (o ∷ os))

all_in_turn : (x y z : Result Tree Refusal) → or_first_refusal x (or_first_refusal y z) ≡ or_first_refusal (or_first_refusal x y) z
all_in_turn (Ok t) (Ok u) (Ok v) = refl
all_in_turn (Ok t) (Ok u) (Err r) = refl
all_in_turn (Ok t) (Err r) z = refl
all_in_turn (Err r) y z = refl

pub all_step : (x : Result Tree Refusal) (o : Outcome) (os : List Outcome) → all_from x (o ∷ os) ≡ all_from (or_first_refusal x o.1) os
all_step x o [] = refl
all_step x o (p ∷ os) = all_in_turn x o.1 (all_succeeded (p ∷ os))

behind_nil : (y : Result Tree Refusal) → y ≡ or_first_refusal (Ok nil) y
behind_nil (Ok t) = refl
behind_nil (Err r) = refl

pub all_start : (o : Outcome) (os : List Outcome) → all_succeeded (o ∷ os) ≡ all_from (Ok nil) (o ∷ os)
all_start o os = behind_nil (all_succeeded (o ∷ os))

one_in_turn : (x y z : Result Tree Refusal) → or_later_reply x (or_later_reply y z) ≡ or_later_reply (or_later_reply x y) z
one_in_turn (Ok t) y z = refl
one_in_turn (Err r) y z = refl

pub one_step : (x : Result Tree Refusal) (o : Outcome) (os : List Outcome) → one_from x (o ∷ os) ≡ one_from (or_later_reply x o.1) os
one_step x o [] = refl
one_step x o (p ∷ os) = one_in_turn x o.1 (one_succeeded (p ∷ os))

first_in_turn : (x y z : Result Tree Refusal) → or_not_nil x (or_not_nil y z) ≡ or_not_nil (or_not_nil x y) z
first_in_turn (Ok nil) y z = refl
first_in_turn (Ok t) y z = refl
first_in_turn (Err r) (Ok nil) z = refl
first_in_turn (Err r) (Ok t) z = refl
first_in_turn (Err r) (Err s) (Ok nil) = refl
first_in_turn (Err r) (Err s) (Ok t) = refl
first_in_turn (Err r) (Err s) (Err q) = refl

pub first_step : (x : Result Tree Refusal) (o : Outcome) (os : List Outcome) → first_from x (o ∷ os) ≡ first_from (or_not_nil x o.1) os
first_step x o [] = refl
first_step x o (p ∷ os) = first_in_turn x o.1 (first_not_nil (p ∷ os))

-- ---- all replies

-- replies so far, and those behind them
abbrev pub trees_behind : List Tree → Result (List (Address × Tree)) Refusal → Result (List Tree) Refusal
trees_behind done (Ok replies) = Ok (done ++ trees_by replies)
trees_behind done (Err refusal) = Err refusal

abbrev pub named : Address × Tree → Tree × Tree
named r = (bulk (written r.0), r.1)

abbrev pub pairs_behind : List (Tree × Tree) → Result (List (Address × Tree)) Refusal → Result Tree Refusal
pairs_behind done (Ok replies) = Ok (map_tree (pairs_of (done ++ map named replies)))
pairs_behind done (Err refusal) = Err refusal

trees_step : (done : List Tree) (node : Address) (t : Tree) (r : Result (List (Address × Tree)) Refusal) → trees_behind done (with_reply node (Ok t) r) ≡ trees_behind (done ++ t ∷ []) r
trees_step done node t (Ok replies) = ap (λ ts. Ok ts) (sym (append_assoc done (t ∷ []) (trees_by replies)))
trees_step done node t (Err refusal) = refl

pairs_step : (done : List (Tree × Tree)) (node : Address) (t : Tree) (r : Result (List (Address × Tree)) Refusal) → pairs_behind done (with_reply node (Ok t) r) ≡ pairs_behind (done ++ (bulk (written node), t) ∷ []) r
pairs_step done node t (Ok replies) = ap (λ ps. Ok (map_tree (pairs_of ps))) (sym (append_assoc done ((bulk (written node), t) ∷ []) (map named replies)))
pairs_step done node t (Err refusal) = refl

abbrev NodeReply : Type 0
NodeReply = NodeAddress × Result Value Refusal

pub trees_start : (r : Result (List (Address × Tree)) Refusal) → trees_or_refusal r ≡ trees_behind [] r
trees_start (Ok replies) = refl
trees_start (Err refusal) = refl

pub trees_more : (values news : List Value) (os rest : List NodeReply) (o : NodeReply) (v : Value) → os ≡ o ∷ rest → o.1 ≡ Ok v → news ≡ values ++ v ∷ []
    → trees_behind (map view values) (all_replies (outcomes_of os)) ≡ trees_behind (map view news) (all_replies (outcomes_of rest))
trees_more values news os rest o v d k f =
    let later : Result (List (Address × Tree)) Refusal = all_replies (outcomes_of rest) in
    ap (λ us. trees_behind (map view values) (all_replies (outcomes_of us))) d
    ∙ ap (λ r. trees_behind (map view values) (with_reply (address o.0) (tree_or_refusal r) later)) k
    ∙ trees_step (map view values) (address o.0) (view v) later
    ∙ ap (λ ts. trees_behind ts later) (sym (map-append view values (v ∷ [])) ∙ ap (map view) (sym f))

pub trees_stopped : (values : List Value) (os rest : List NodeReply) (o : NodeReply) (e : Refusal) → os ≡ o ∷ rest → o.1 ≡ Err e → trees_behind (map view values) (all_replies (outcomes_of os)) ≡ Err e
trees_stopped values os rest o e d k =
    ap (λ us. trees_behind (map view values) (all_replies (outcomes_of us))) d ∙ ap (λ r. trees_behind (map view values) (with_reply (address o.0) (tree_or_refusal r) (all_replies (outcomes_of rest)))) k

pub trees_done : (values : List Value) (os : List NodeReply) → os ≡ [] → trees_behind (map view values) (all_replies (outcomes_of os)) ≡ Ok (map view values)
trees_done values os d = ap (λ us. trees_behind (map view values) (all_replies (outcomes_of us))) d ∙ ap (λ ts. Ok ts) (append-nil (map view values))

pub pairs_start : (r : Result (List (Address × Tree)) Refusal) → map_or_refusal r ≡ pairs_behind [] r
pairs_start (Ok replies) = refl
pairs_start (Err refusal) = refl

pub pairs_more : (pairs news : List (Value × Value)) (os rest : List NodeReply) (o : NodeReply) (v : Value) (text : Vec ℕ Global) → os ≡ o ∷ rest → o.1 ≡ Ok v → text.items ≡ written (address o.0) → news ≡ pairs ++ (BulkString text, v) ∷ []
    → pairs_behind (map pair_view pairs) (all_replies (outcomes_of os)) ≡ pairs_behind (map pair_view news) (all_replies (outcomes_of rest))
pairs_more pairs news os rest o v text d k t f =
    let later : Result (List (Address × Tree)) Refusal = all_replies (outcomes_of rest) in
    ap (λ us. pairs_behind (map pair_view pairs) (all_replies (outcomes_of us))) d
    ∙ ap (λ r. pairs_behind (map pair_view pairs) (with_reply (address o.0) (tree_or_refusal r) later)) k
    ∙ pairs_step (map pair_view pairs) (address o.0) (view v) later
    ∙ ap (λ (b : Tree). pairs_behind (map pair_view pairs ++ (b, view v) ∷ []) later) (sym (view-BulkString text ∙ ap (λ bytes. bulk bytes) t))
    ∙ ap (λ ps. pairs_behind ps later) (sym (map-append pair_view pairs ((BulkString text, v) ∷ [])) ∙ ap (map pair_view) (sym f))

pub pairs_stopped : (pairs : List (Value × Value)) (os rest : List NodeReply) (o : NodeReply) (e : Refusal) → os ≡ o ∷ rest → o.1 ≡ Err e → pairs_behind (map pair_view pairs) (all_replies (outcomes_of os)) ≡ Err e
pairs_stopped pairs os rest o e d k =
    ap (λ us. pairs_behind (map pair_view pairs) (all_replies (outcomes_of us))) d ∙ ap (λ r. pairs_behind (map pair_view pairs) (with_reply (address o.0) (tree_or_refusal r) (all_replies (outcomes_of rest)))) k

pub pairs_done : (pairs : Vec (Value × Value) Global) (os : List NodeReply) → os ≡ [] → pairs_behind (map pair_view pairs.items) (all_replies (outcomes_of os)) ≡ Ok (view (Map pairs))
pairs_done pairs os d =
    ap (λ us. pairs_behind (map pair_view pairs.items) (all_replies (outcomes_of us))) d
    ∙ ap (λ ps. Ok (map_tree (pairs_of ps))) (append-nil (map pair_view pairs.items)) ∙ ap (λ t. Ok t) (sym (map_view pairs))

-- ---- by the policy

pub values_refused : (r : Result (List (Address × Tree)) Refusal) (e : Refusal) (policy : ResponsePolicy) → Err e ≡ trees_or_refusal r → Err e ≡ reply_by_policy policy r
values_refused (Ok replies) e policy k = cc
values_refused (Err refusal) e policy k = let same : e ≡ refusal = cc in ap (λ f. Err f) same

pub values_replied : (r : Result (List (Address × Tree)) Refusal) (ts : List Tree) (policy : ResponsePolicy) (told : Result Tree Refusal) → Ok ts ≡ trees_or_refusal r
    → ((replies : List (Address × Tree)) → ts ≡ trees_by replies → told ≡ or_bad_reply (combine_replies policy replies)) → told ≡ reply_by_policy policy r
values_replied (Ok replies) ts policy told k h = h replies cc
values_replied (Err refusal) ts policy told k h = cc

pub by_map : (r : Result (List (Address × Tree)) Refusal) → map_or_refusal r ≡ reply_by_policy Special r
by_map (Ok replies) = refl
by_map (Err refusal) = refl

pub by_all : (policy : ResponsePolicy) (os : List Outcome) → (policy ≡ AllSucceeded → ⊥) → (policy ≡ OneSucceeded → ⊥) → (policy ≡ FirstSucceededNonEmptyOrAllEmpty → ⊥) → reply_by_policy policy (all_replies os) ≡ combine_outcomes policy os
by_all AllSucceeded os a o f = absurd (a refl)
by_all OneSucceeded os a o f = absurd (o refl)
by_all FirstSucceededNonEmptyOrAllEmpty os a o f = absurd (f refl)
by_all policy os a o f = refl

pub by_and : (op : LogicalAggregateOp) (replies : List (Address × Tree)) → and_tree (trees_by replies) ≡ combine_replies (AggregateLogical op) replies
by_and And replies = refl

pub other_values : (policy : ResponsePolicy) (replies : List (Address × Tree)) → ((op : AggregateOp) → policy ≡ Aggregate op → ⊥) → ((op : LogicalAggregateOp) → policy ≡ AggregateLogical op → ⊥) → (policy ≡ CombineArrays → ⊥) → (policy ≡ CombineMaps → ⊥) → (policy ≡ Special → ⊥)
    → Err bad_reply ≡ or_bad_reply (combine_replies policy replies)
other_values (Aggregate op) replies a l c m s = absurd (a op refl)
other_values (AggregateLogical op) replies a l c m s = absurd (l op refl)
other_values CombineArrays replies a l c m s = absurd (c refl)
other_values CombineMaps replies a l c m s = absurd (m refl)
other_values Special replies a l c m s = absurd (s refl)
other_values policy replies a l c m s = refl
