-- The fault of each node is that of its one failed link call.
use Rattle.std.proofs.Common.{◌≡◌, Bool, true, false, cond, List, [], ◌∷◌, ◌++◌, Some, refl, sym, ap, ◌∙◌, subst}
use Rattle.std.proofs.lemmas.Bool.{false≢true}
use Rattle.resp_core.specs.Trees.{Tree}
use Rattle.resp_link.specs.Call.{Seen}
use Rattle.cluster_routing.specs.Address.{Address, same_address}
use Rattle.cluster_calls.specs.Links.Request.{Request}
use Rattle.cluster_calls.specs.Links.World.{Node, link_at, is_usable}
use Rattle.cluster_calls.specs.Links.Faults.{LinkFault}
use Rattle.cluster_calls.specs.Links.Events.{Event, Ending, answers, fails, EndsBy, LinkCalled, Runs, AgreesAt, Agrees, faults_of, fault_by}
use Rattle.cluster_calls.proofs.LinkLaws.Addresses.{same_true, same_refl}
use Rattle.cluster_calls.proofs.LinkLaws.LinkPlaces.{set_other}
use Rattle.cluster_calls.proofs.LinkLaws.EndLaws.{ends_was_open, ends_usable}
use Rattle.cluster_calls.proofs.LinkLaws.LinkRuns.{link_behind}

pub Agrees-last : (f : Address → LinkFault) (xs : List Event) (x : Event) → Agrees f (xs ++ x ∷ []) → AgreesAt f x.node x.ending
Agrees-last f [] x h = h.0
Agrees-last f (y ∷ xs) x h = Agrees-last f xs x h.1

pub Agrees-front : (f : Address → LinkFault) (xs ys : List Event) → Agrees f (xs ++ ys) → Agrees f xs
Agrees-front f [] ys h = tt
Agrees-front f (x ∷ xs) ys h = (h.0, Agrees-front f xs ys h.1)

pub Agrees-back : (f : Address → LinkFault) (xs ys : List Event) → Agrees f (xs ++ ys) → Agrees f ys
Agrees-back f [] ys h = h
Agrees-back f (x ∷ xs) ys h = Agrees-back f xs ys h.1

-- the fault of an open node
abbrev Knows : List Node → (Address → LinkFault) → List Event → Type 0
Knows ns f xs = (a : Address) → is_usable (link_at ns a) ≡ true → f a ≡ faults_of xs a

first_by : (f : Address → LinkFault) (node : Address) (e : Ending) (later : LinkFault) → f node ≡ fault_by e later → AgreesAt f node e
first_by f node (answers replies) later h = tt
first_by f node (fails fault) later h = h

later_by : (b a : Seen) (qs : List Request) (taken : List Tree) (e : Ending) (k later : LinkFault) → EndsBy b a qs taken e → a.usable ≡ true → k ≡ fault_by e later → k ≡ later
later_by b a qs taken (answers replies) k later d u h = h
later_by b a qs taken (fails fault) k later d u h = absurd (false≢true (sym (ends_usable b a qs taken (fails fault) d) ∙ u))

known_by : (old mid : List Node) (x : Event) (xs : List Event) (f : Address → LinkFault) (s : LinkCalled old mid x) → Knows old f (x ∷ xs) → (a : Address) → is_usable (link_at mid a) ≡ true
    → (b : Bool) → same_address x.node a ≡ b → f a ≡ faults_of xs a
known_by old mid x xs f s h a u true t =
    let is : x.node ≡ a = same_true x.node a t in
    let was : link_at old a ≡ Some s.before = subst (λ k. link_at old k ≡ Some s.before) is s.found in
    let now : link_at mid a ≡ Some s.after = subst (λ k. link_at mid k ≡ Some s.after) is (link_behind old mid x s) in
    let usable : s.after.usable ≡ true = ap is_usable (sym now) ∙ u in
    let here : f a ≡ fault_by x.ending (faults_of xs a) = h a (ap is_usable was ∙ ends_was_open s.before s.after x.requests x.taken x.ending s.ends) ∙ ap (λ b. cond b (fault_by x.ending (faults_of xs a)) (faults_of xs a)) t in
    later_by s.before s.after x.requests x.taken x.ending (f a) (faults_of xs a) s.ends usable here
known_by old mid x xs f s h a u false t =
    let same : link_at mid a ≡ link_at old a = ap (λ ns. link_at ns a) s.now ∙ set_other old x.node a s.after t in
    h a (ap is_usable (sym same) ∙ u) ∙ ap (λ b. cond b (fault_by x.ending (faults_of xs a)) (faults_of xs a)) t

agree : (old new : List Node) (xs : List Event) (f : Address → LinkFault) → Runs old new xs → Knows old f xs → Agrees f xs
agree old new [] f r h = tt
agree old new (x ∷ xs) f r h =
    let s = r.1 in
    let t : same_address x.node x.node ≡ true = same_refl x.node in
    let here : f x.node ≡ fault_by x.ending (faults_of xs x.node) =
    h x.node (ap is_usable s.found ∙ ends_was_open s.before s.after x.requests x.taken x.ending s.ends) ∙ ap (λ b. cond b (fault_by x.ending (faults_of xs x.node)) (faults_of xs x.node)) t in
    (first_by f x.node x.ending (faults_of xs x.node) here, agree r.0 new xs f r.2 (λ a u. known_by old r.0 x xs f s h a u (same_address x.node a) refl))

pub agrees : (old new : List Node) (xs : List Event) → Runs old new xs → Agrees (faults_of xs) xs
agrees old new xs r = agree old new xs (faults_of xs) r (λ a u. refl)
