-- A task's requests to one node by link calls are the link calls that were made: where each has one request, and where no node has two.
-- And nodes without a request stay.
use Rattle.std.specs.List.{list_any, AllByRecursion}
use Rattle.std.proofs.Common.{◌≡◌, ◌≢◌, Bool, true, false, cond, List, [], ◌∷◌, ◌++◌, map, refl, sym, ap, ◌∙◌, subst, append-nil, ℕ, ◌<◌, length, arith}
use Rattle.cluster_routing.specs.Address.{Address, same_address}
use Rattle.cluster_routing.specs.Lists.{IsDistinct}
use Rattle.cluster_calls.specs.Links.Request.{Request, requests_to}
use Rattle.cluster_calls.specs.Links.World.{Node, link_at}
use Rattle.cluster_calls.specs.Links.Leaves.{Leaves}
use Rattle.cluster_calls.specs.Links.Events.{Event, AllTo, LinkCalled, Runs, log_of, calls_of}
use Rattle.cluster_calls.specs.Calls.Task.{Task, slot_map_of, one_command, pipeline_of, positions_of, several_nodes, one_node, read_of, transaction_of}
use Rattle.cluster_calls.specs.Links.Nodes.{in_one, link_calls}
use Rattle.cluster_calls.specs.Links.Chains.{IsSingle}
use Rattle.cluster_calls.specs.Calls.OneSlot.{args_of}
use Rattle.cluster_calls.specs.Calls.Transactions.{in_sizes, size}
use Rattle.cluster_calls.specs.Links.AttemptRuns.{IsAttempt}
use Rattle.cluster_calls.proofs.LinkLaws.Addresses.{same_true}
use Rattle.cluster_calls.proofs.LinkLaws.LinkPlaces.{set_other}
use Rattle.cluster_calls.proofs.LinkLaws.OpenLinks.{swapped}
use Rattle.cluster_calls.proofs.LinkLaws.LinkRuns.{or_parts, requests_same, requests_other, addresses}
use Rattle.cluster_calls.proofs.LinkLaws.EventLists.{concat_calls}
use Rattle.cluster_calls.proofs.LogLaws.Attempts.{size_of}
use Rattle.cluster_calls.proofs.LogLaws.Sizes.{in_sizes_are}

-- ---- each link call with one request

abbrev pub one_each : List Request → List (List Request)
one_each qs = map (λ q. q ∷ []) qs

singles_by : (x : Event) (xs : List Event) (a : Address) (q : Request) → x.requests ≡ q ∷ [] → AllTo x.node x.requests → calls_of xs a ≡ one_each (requests_to a (log_of xs))
    → (b : Bool) → same_address x.node a ≡ b → cond b (x.requests ∷ calls_of xs a) (calls_of xs a) ≡ one_each (requests_to a (x.requests ++ log_of xs))
singles_by x xs a q is all h true t =
    let to : AllTo a x.requests = subst (λ k. AllTo k x.requests) (same_true x.node a t) all in
    ap (λ qs. qs ∷ calls_of xs a) is ∙ ap (λ cs. (q ∷ []) ∷ cs) h ∙ ap (λ qs. one_each (qs ++ requests_to a (log_of xs))) (sym is) ∙ sym (ap one_each (requests_same a x.requests (log_of xs) to))
singles_by x xs a q is all h false t = h ∙ sym (ap one_each (requests_other x.node a x.requests (log_of xs) all t))

pub singles : (old new : List Node) (xs : List Event) → Runs old new xs → AllByRecursion IsSingle xs → (a : Address) → calls_of xs a ≡ one_each (requests_to a (log_of xs))
singles old new [] r h a = refl
singles old new (x ∷ xs) r h a = singles_by x xs a h.0.0 h.0.1 r.1.to_node (singles r.0 new xs r.2 h.1 a) (same_address x.node a) refl

-- ---- no node with two link calls

uncalled : (old new : List Node) (xs : List Event) → Runs old new xs → (a : Address) → list_any (λ k. same_address a k) (map (λ (x : Event). x.node) xs) ≡ false → (calls_of xs a ≡ []) × (requests_to a (log_of xs) ≡ [])
uncalled old new [] r a n = (refl, refl)
uncalled old new (x ∷ xs) r a n =
    let parts = or_parts (same_address a x.node) (list_any (λ k. same_address a k) (map (λ (x : Event). x.node) xs)) n in
    let e : same_address x.node a ≡ false = swapped x.node a ∙ parts.0 in
    let later = uncalled r.0 new xs r.2 a parts.1 in
    (ap (λ b. cond b (x.requests ∷ calls_of xs a) (calls_of xs a)) e ∙ later.0, requests_other x.node a x.requests (log_of xs) r.1.to_node e ∙ later.1)

in_one_is : (qs : List Request) → qs ≢ [] → in_one qs ≡ qs ∷ []
in_one_is [] some = absurd (some refl)
in_one_is (q ∷ qs) some = refl

once_by : (x : Event) (xs : List Event) (a : Address) → x.requests ≢ [] → AllTo x.node x.requests → (same_address x.node a ≡ true → (calls_of xs a ≡ []) × (requests_to a (log_of xs) ≡ []))
    → calls_of xs a ≡ in_one (requests_to a (log_of xs)) → (b : Bool) → same_address x.node a ≡ b → cond b (x.requests ∷ calls_of xs a) (calls_of xs a) ≡ in_one (requests_to a (x.requests ++ log_of xs))
once_by x xs a some all none h true t =
    let to : AllTo a x.requests = subst (λ k. AllTo k x.requests) (same_true x.node a t) all in
    let later = none t in
    let here : requests_to a (x.requests ++ log_of xs) ≡ x.requests = requests_same a x.requests (log_of xs) to ∙ ap (λ qs. x.requests ++ qs) later.1 ∙ append-nil x.requests in
    ap (λ cs. x.requests ∷ cs) later.0 ∙ sym (in_one_is x.requests some) ∙ sym (ap in_one here)
once_by x xs a some all none h false t = h ∙ sym (ap in_one (requests_other x.node a x.requests (log_of xs) all t))

pub once : (old new : List Node) (xs : List Event) → Runs old new xs → IsDistinct same_address (map (λ (x : Event). x.node) xs) → (a : Address) → calls_of xs a ≡ in_one (requests_to a (log_of xs))
once old new [] r d a = refl
once old new (x ∷ xs) r d a =
    once_by x xs a r.1.some r.1.to_node
    (λ t. uncalled r.0 new xs r.2 a (subst (λ k. list_any (λ j. same_address k j) (map (λ (x : Event). x.node) xs) ≡ false) (same_true x.node a t) d.0))
    (once r.0 new xs r.2 d.1 a) (same_address x.node a) refl

-- ---- an attempt each

some_requests : (commands : List (List (List ℕ))) → 0 < size commands
some_requests commands = omega arith

sized_calls : (commands : List (List (List ℕ))) (xs : List Event) (a : Address) → AllByRecursion (IsAttempt commands) xs → AllByRecursion (λ (qs : List Request). length qs ≡ size commands) (calls_of xs a)
sized_calls commands [] a h = tt
sized_calls commands (x ∷ xs) a h = by (same_address x.node a) (sized_calls commands xs a h.1)
  where
    AreSized : List (List Request) → Type 0
    AreSized calls = AllByRecursion (λ (qs : List Request). length qs ≡ size commands) calls

    by : (b : Bool) → AreSized (calls_of xs a) → AreSized (cond b (x.requests ∷ calls_of xs a) (calls_of xs a))
    by true later = (ap length h.0.1 ∙ size_of h.0.0 commands, later)
    by false later = later

pub attempts : (old new : List Node) (commands : List (List (List ℕ))) (xs : List Event) → Runs old new xs → AllByRecursion (IsAttempt commands) xs → (a : Address) → calls_of xs a ≡ in_sizes (size commands) (requests_to a (log_of xs))
attempts old new commands xs r h a =
    sym (in_sizes_are (size commands) (calls_of xs a) (some_requests commands) (sized_calls commands xs a h)) ∙ ap (in_sizes (size commands)) (concat_calls old new xs r a)

-- ---- as a task makes them

-- a pipeline makes one link call to a node, a transaction one for each attempt, others one for each request
abbrev pub AreLinkCalls : Task → List Event → Type 0
AreLinkCalls (pipeline_of entries) xs = IsDistinct same_address (map (λ (x : Event). x.node) xs)
AreLinkCalls (positions_of entries) xs = IsDistinct same_address (map (λ (x : Event). x.node) xs)
AreLinkCalls (transaction_of commands) xs = AllByRecursion (IsAttempt (args_of commands)) xs
AreLinkCalls _ xs = AllByRecursion IsSingle xs

pub link_calls_made : (old new : List Node) (xs : List Event) (task : Task) → Runs old new xs → AreLinkCalls task xs → (a : Address) → calls_of xs a ≡ link_calls task (requests_to a (log_of xs))
link_calls_made old new xs (slot_map_of node) r h a = singles old new xs r h a
link_calls_made old new xs (one_command command number order) r h a = singles old new xs r h a
link_calls_made old new xs (pipeline_of entries) r h a = once old new xs r h a
link_calls_made old new xs (positions_of entries) r h a = once old new xs r h a
link_calls_made old new xs (several_nodes command) r h a = singles old new xs r h a
link_calls_made old new xs (one_node node command) r h a = singles old new xs r h a
link_calls_made old new xs (transaction_of commands) r h a = attempts old new (args_of commands) xs r h a
link_calls_made old new xs (read_of options streams) r h a = singles old new xs r h a

-- ---- nodes without a request, also where memory was refused

no_parts : (xs ys : List Request) → xs ++ ys ≡ [] → (xs ≡ []) × (ys ≡ [])
no_parts [] ys e = (refl, e)
no_parts (x ∷ xs) ys e = cc

unasked_by : (old mid : List Node) (x : Event) (xs : List Event) (a : Address) (s : LinkCalled old mid x) → requests_to a (x.requests ++ log_of xs) ≡ [] → (b : Bool) → same_address x.node a ≡ b → (link_at mid a ≡ link_at old a) × (requests_to a (log_of xs) ≡ [])
unasked_by old mid x xs a s none true t =
    let to : AllTo a x.requests = subst (λ k. AllTo k x.requests) (same_true x.node a t) s.to_node in
    absurd (s.some (no_parts x.requests (requests_to a (log_of xs)) (sym (requests_same a x.requests (log_of xs) to) ∙ none)).0)
unasked_by old mid x xs a s none false t =
    (ap (λ ns. link_at ns a) s.now ∙ set_other old x.node a s.after t, sym (requests_other x.node a x.requests (log_of xs) s.to_node t) ∙ none)

unasked : (old new : List Node) (xs : List Event) → Runs old new xs → (a : Address) → requests_to a (log_of xs) ≡ [] → link_at new a ≡ link_at old a
unasked old new [] r a none = ap (λ ns. link_at ns a) r
unasked old new (x ∷ xs) r a none =
    let here = unasked_by old r.0 x xs a r.1 none (same_address x.node a) refl in
    unasked r.0 new xs r.2 a here.1 ∙ here.0

pub leaves : (old new : List Node) (xs : List Event) → Runs old new xs → Leaves old new (log_of xs)
leaves old new xs r = record { addresses = addresses old new xs r; unasked = λ a none. unasked old new xs r a none }
