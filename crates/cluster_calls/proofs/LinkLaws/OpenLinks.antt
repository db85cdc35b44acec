-- The open links behind a run of link calls are those before it, without the nodes that have an unanswered request.
use Rattle.std.specs.Prelude.{◌||◌, filter, not}
use Rattle.std.proofs.Common.{◌≡◌, ℕ, ◌+◌, ◌<◌, Bool, true, false, cond, List, [], ◌∷◌, ◌++◌, Some, refl, sym, ap, ◌∙◌, subst, length}
use Rattle.std.proofs.lemmas.Bool.{false≢true}
use Rattle.std.proofs.lemmas.List.Elements.{filter_agree}
use Rattle.resp_core.specs.Trees.{Tree}
use Rattle.resp_link.specs.Replies.{replies_of}
use Rattle.resp_link.specs.Call.{Seen}
use Rattle.cluster_routing.specs.Address.{Address, same_address}
use Rattle.cluster_calls.specs.Links.Request.{Request}
use Rattle.cluster_calls.specs.Links.Log.{Exchange, has_lost}
use Rattle.cluster_calls.specs.Links.World.{Node, link_at, set_link, open_links}
use Rattle.cluster_calls.specs.Calls.After.{links_after}
use Rattle.cluster_calls.specs.Links.Events.{Event, Ending, answers, fails, EndsBy, reply_count, pair_up, AllTo, Runs, exchanges_at, exchanges_of}
use Rattle.cluster_calls.proofs.LinkLaws.Addresses.{same_true, same_refl}
use Rattle.cluster_calls.proofs.LinkLaws.LinkPlaces.{set_open}
use Rattle.cluster_calls.proofs.LinkLaws.Pairing.{some_lost, other_lost, has_lost-append}
use Rattle.cluster_calls.proofs.LinkLaws.EndLaws.{ends_pairs, ends_was_open, ends_usable}
use Rattle.cluster_calls.proofs.LinkLaws.NodeLaws.{lost_here}

-- ---- lists of addresses

pub filter_all : (xs : List Address) → filter (λ k. not false) xs ≡ xs
filter_all [] = refl
filter_all (x ∷ xs) = ap (λ r. x ∷ r) (filter_all xs)

twice_by : (p q : Address → Bool) (x : Address) (b : Bool) (fs gs : List Address) → filter (λ k. not (q k)) fs ≡ gs
    → filter (λ k. not (q k)) (cond (not b) (x ∷ fs) fs) ≡ cond (not (b || q x)) (x ∷ gs) gs
twice_by p q x true fs gs h = h
twice_by p q x false fs gs h = ap (λ r. cond (not (q x)) (x ∷ r) r) h

filter_twice : (p q : Address → Bool) (xs : List Address) → filter (λ k. not (q k)) (filter (λ k. not (p k)) xs) ≡ filter (λ k. not (p k || q k)) xs
filter_twice p q [] = refl
filter_twice p q (x ∷ xs) = twice_by p q x (p x) (filter (λ k. not (p k)) xs) (filter (λ k. not (p k || q k)) xs) (filter_twice p q xs)

same_both : (a b : Address) (t u : Bool) → same_address a b ≡ t → same_address b a ≡ u → t ≡ u
same_both a b true true e f = refl
same_both a b false false e f = refl
same_both a b true false e f = absurd (false≢true (sym f ∙ subst (λ k. same_address k a ≡ true) (same_true a b e) (same_refl a)))
same_both a b false true e f = absurd (false≢true (sym e ∙ subst (λ k. same_address k b ≡ true) (same_true b a f) (same_refl b)))

pub swapped : (a b : Address) → same_address a b ≡ same_address b a
swapped a b = same_both a b (same_address a b) (same_address b a) refl refl

-- ---- a link that is closed

shut_kept : (a m : Address) (xs : List Address) → filter (λ k. not (same_address a k)) (filter (λ k. not (same_address k m)) xs) ≡ filter (λ k. not (same_address k m)) (filter (λ k. not (same_address a k)) xs)
shut_kept a m xs =
    filter_twice (λ k. same_address k m) (λ k. same_address a k) xs
    ∙ filter_agree (λ k. not (same_address k m || same_address a k)) (λ k. not (same_address a k || same_address k m)) (λ k. or_swapped (same_address k m) (same_address a k)) xs
    ∙ sym (filter_twice (λ k. same_address a k) (λ k. same_address k m) xs)
  where
    or_swapped : (a b : Bool) → not (a || b) ≡ not (b || a)
    or_swapped true true = refl
    or_swapped true false = refl
    or_swapped false true = refl
    or_swapped false false = refl

shut_own : (a m : Address) (xs : List Address) → m ≡ a → filter (λ k. not (same_address a k)) (filter (λ k. not (same_address k m)) xs) ≡ filter (λ k. not (same_address k m)) xs
shut_own a m xs e =
    filter_twice (λ k. same_address k m) (λ k. same_address a k) xs
    ∙ filter_agree (λ k. not (same_address k m || same_address a k)) (λ k. not (same_address k m)) (λ k. same k (same_address k m) refl) xs
  where
    same : (k : Address) (b : Bool) → same_address k m ≡ b → not (b || same_address a k) ≡ not b
    same k true t = refl
    same k false t = let n : same_address a k ≡ false = ap (λ j. same_address j k) (sym e) ∙ swapped m k ∙ t in rw n refl

shut_here : (n : Node) (ns : List Node) (a : Address) (u : Bool) → same_address n.address a ≡ true
    → filter (λ k. not (same_address k n.address)) (open_links ns)
    ≡ filter (λ k. not (same_address a k)) (cond u (n.address ∷ filter (λ k. not (same_address k n.address)) (open_links ns)) (filter (λ k. not (same_address k n.address)) (open_links ns)))
shut_here n ns a true t =
    let e : same_address a n.address ≡ true = swapped a n.address ∙ t in
    rw e (sym (shut_own a n.address (open_links ns) (same_true n.address a t)))
shut_here n ns a false t = sym (shut_own a n.address (open_links ns) (same_true n.address a t))

shut_there : (n : Node) (ns : List Node) (a : Address) (os : List Address) (u : Bool) → same_address n.address a ≡ false → os ≡ filter (λ k. not (same_address a k)) (open_links ns)
    → cond u (n.address ∷ filter (λ k. not (same_address k n.address)) os) (filter (λ k. not (same_address k n.address)) os)
    ≡ filter (λ k. not (same_address a k)) (cond u (n.address ∷ filter (λ k. not (same_address k n.address)) (open_links ns)) (filter (λ k. not (same_address k n.address)) (open_links ns)))
shut_there n ns a os true t h =
    let e : same_address a n.address ≡ false = swapped a n.address ∙ t in
    rw (h, e) (ap (λ r. n.address ∷ r) (sym (shut_kept a n.address (open_links ns))))
shut_there n ns a os false t h = rw h (sym (shut_kept a n.address (open_links ns)))

shut_case : (n : Node) (ns : List Node) (a : Address) (v : Seen) (b : Bool) → same_address n.address a ≡ b → v.usable ≡ false
    → open_links (set_link ns a v) ≡ filter (λ k. not (same_address a k)) (open_links ns)
    → open_links (cond b (record { address = n.address; link = v } ∷ ns) (n ∷ set_link ns a v)) ≡ filter (λ k. not (same_address a k)) (open_links (n ∷ ns))
shut_case n ns a v true t w h = rw w (shut_here n ns a n.link.usable t)
shut_case n ns a v false t w h = shut_there n ns a (open_links (set_link ns a v)) n.link.usable t h

-- closing a link takes it from the open ones
pub shut : (ns : List Node) (a : Address) (v : Seen) → v.usable ≡ false → open_links (set_link ns a v) ≡ filter (λ k. not (same_address a k)) (open_links ns)
shut [] a v w = refl
shut (n ∷ ns) a v w = shut_case n ns a v (same_address n.address a) refl w (shut ns a v w)

-- ---- one link call

lost_by : (node k : Address) (qs : List Request) (rs : List Tree) (place : ℕ) → AllTo node qs → length rs < reply_count qs → (b : Bool) → same_address node k ≡ b → b ≡ has_lost k (pair_up rs place qs)
lost_by node k qs rs place all few true t = sym (some_lost k qs rs place (subst (λ j. AllTo j qs) (same_true node k t) all) few)
lost_by node k qs rs place all few false t = sym (other_lost node k qs rs place all t)

links_by : (links : List Address) (node : Address) (b a : Seen) (qs : List Request) (taken : List Tree) (e : Ending) (place : ℕ) (ns : List Node) → links ≡ open_links (set_link ns node a) → link_at ns node ≡ Some b
    → EndsBy b a qs taken e → (qs ≡ [] → ⊥) → AllTo node qs → links ≡ links_after (open_links ns) (pair_up (replies_of taken) place qs)
links_by links node b a qs taken (answers replies) place ns now found d some all =
    now ∙ set_open ns node b a found (ends_usable b a qs taken (answers replies) d ∙ sym (ends_was_open b a qs taken (answers replies) d))
    ∙ sym (filter_agree (λ k. not (has_lost k (pair_up (replies_of taken) place qs))) (λ k. not false) (λ k. ap not (lost_here k qs (replies_of taken) replies place (ends_pairs b a qs taken (answers replies) some d))) (open_links ns) ∙ filter_all (open_links ns))
links_by links node b a qs taken (fails fault) place ns now found d some all =
    now ∙ shut ns node a (ends_usable b a qs taken (fails fault) d)
    ∙ filter_agree (λ k. not (same_address node k)) (λ k. not (has_lost k (pair_up (replies_of taken) place qs)))
    (λ k. ap not (lost_by node k qs (replies_of taken) place all (ends_pairs b a qs taken (fails fault) some d) (same_address node k) refl)) (open_links ns)

-- ---- runs

links_append : (links : List Address) (xs ys : List Exchange) → links_after (links_after links xs) ys ≡ links_after links (xs ++ ys)
links_append links xs ys =
    filter_twice (λ k. has_lost k xs) (λ k. has_lost k ys) links
    ∙ filter_agree (λ k. not (has_lost k xs || has_lost k ys)) (λ k. not (has_lost k (xs ++ ys))) (λ k. ap not (sym (has_lost-append k xs ys))) links

pub links_behind : (old new : List Node) (xs : List Event) (place : ℕ) → Runs old new xs → open_links new ≡ links_after (open_links old) (exchanges_of place xs)
links_behind old new [] place r = ap open_links r ∙ sym (filter_all (open_links old))
links_behind old new (x ∷ xs) place r =
    let s = r.1 in
    links_behind r.0 new xs (place + length x.requests) r.2
    ∙ ap (λ ls. links_after ls (exchanges_of (place + length x.requests) xs)) (links_by (open_links r.0) x.node s.before s.after x.requests x.taken x.ending place old (ap open_links s.now) s.found s.ends s.some s.to_node)
    ∙ links_append (open_links old) (exchanges_at place x) (exchanges_of (place + length x.requests) xs)
