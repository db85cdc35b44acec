-- Requests of one node and the replies that they take.
use Rattle.std.specs.Prelude.{slice_get, drop, is_none, ◌&&◌, ◌||◌}
use Rattle.std.proofs.Common.{◌≡◌, ℕ, zero, suc, ◌+◌, ◌-◌, ◌<◌, ◌≤◌, Bool, true, false, cond, List, [], ◌∷◌, ◌++◌, length, None, refl, sym, ap, ◌∙◌, subst, length-drop, inl, inr, ◌⊎◌, arith}
use Rattle.std.proofs.lemmas.List.Folds.{list_any-append}
use Rattle.std.proofs.lemmas.List.{drop-drop}
use Rattle.resp_core.specs.Trees.{Tree}
use Rattle.cluster_routing.specs.Address.{Address, same_address}
use Rattle.cluster_calls.specs.Links.Request.{Request, skipped}
use Rattle.cluster_calls.specs.Links.Log.{Exchange, is_unanswered, has_lost, exchanges, reply_at, left_after, left_after_all}
use Rattle.cluster_calls.specs.Links.Events.{AllTo, pair_up, reply_count}
use Rattle.cluster_calls.proofs.LinkLaws.Addresses.{same_refl}

-- ---- a list at a place

pub few_get : (rs : List Tree) (n : ℕ) → length rs ≤ n → slice_get rs n ≡ None
few_get [] n e = refl
few_get (x ∷ rs) zero e = absurd (omega arith)
few_get (x ∷ rs) (suc n) e = few_get rs n (omega arith)

many_get : (rs : List Tree) (n : ℕ) → n < length rs → is_none (slice_get rs n) ≡ false
many_get [] n e = absurd (omega arith)
many_get (x ∷ rs) zero e = refl
many_get (x ∷ rs) (suc n) e = many_get rs n (omega arith)

get_front : (rs more : List Tree) (n : ℕ) → n < length rs → slice_get (rs ++ more) n ≡ slice_get rs n
get_front [] more n e = absurd (omega arith)
get_front (x ∷ rs) more zero e = refl
get_front (x ∷ rs) more (suc n) e = get_front rs more n (omega arith)

drop_front : (rs more : List Tree) (n : ℕ) → n ≤ length rs → drop n (rs ++ more) ≡ drop n rs ++ more
drop_front rs more zero e = refl
drop_front [] more (suc n) e = absurd (omega arith)
drop_front (x ∷ rs) more (suc n) e = drop_front rs more n (omega arith)

drop_whole : (rs : List Tree) (n : ℕ) → length rs ≤ n → drop n rs ≡ []
drop_whole [] zero e = refl
drop_whole [] (suc n) e = refl
drop_whole (x ∷ rs) zero e = absurd (omega arith)
drop_whole (x ∷ rs) (suc n) e = drop_whole rs n (omega arith)

-- ---- replies that are there, and replies that are missing

and_false : (b : Bool) → (b && false) ≡ false
and_false true = refl
and_false false = refl

or_true : (b : Bool) → (b || true) ≡ true
or_true true = refl
or_true false = refl

-- with enough replies no request is lost
pub none_lost : (a : Address) (qs : List Request) (rs : List Tree) (place : ℕ) → reply_count qs ≤ length rs → has_lost a (pair_up rs place qs) ≡ false
none_lost a [] rs place h = refl
none_lost a (q ∷ qs) rs place h =
    let n = skipped q.asking in
    let there : is_none (slice_get rs n) ≡ false = many_get rs n (omega arith) in
    let l : length (drop (n + 1) rs) ≡ length rs - (n + 1) = length-drop (n + 1) rs in
    let later : has_lost a (pair_up (drop (n + 1) rs) (suc place) qs) ≡ false = none_lost a qs (drop (n + 1) rs) (suc place) (omega arith) in
    rw (there, later, and_false) refl

same_self : (a b : Address) → b ≡ a → same_address b a ≡ true
same_self a b e = subst (λ k. same_address k a ≡ true) (sym e) (same_refl a)

le_or_less : (x y : ℕ) → (x ≤ y) ⊎ (y < x)
le_or_less zero y = inl (omega arith)
le_or_less (suc x) zero = inr (omega arith)
le_or_less (suc x) (suc y) = elim (le_or_less x y) as (λ _. (suc x ≤ suc y) ⊎ (suc y < suc x)) [ inl e ↦ inl (omega arith) | inr e ↦ inr (omega arith) ]

lost_by : (a : Address) (q : Request) (qs : List Request) (rs : List Tree) (place : ℕ) → q.node ≡ a → length rs < skipped q.asking + 1 + reply_count qs
    → (length (drop (skipped q.asking + 1) rs) < reply_count qs → has_lost a (pair_up (drop (skipped q.asking + 1) rs) (suc place) qs) ≡ true)
    → (length rs ≤ skipped q.asking) ⊎ (skipped q.asking < length rs) → has_lost a (pair_up rs place (q ∷ qs)) ≡ true
lost_by a q qs rs place t h later (inl e) =
    let none : slice_get rs (skipped q.asking) ≡ None = few_get rs (skipped q.asking) e in
    rw (same_self a q.node t, none) refl
lost_by a q qs rs place t h later (inr e) =
    let l : length (drop (skipped q.asking + 1) rs) ≡ length rs - (skipped q.asking + 1) = length-drop (skipped q.asking + 1) rs in
    rw (later (omega arith)) (or_true _)

-- with fewer replies than that one is
pub some_lost : (a : Address) (qs : List Request) (rs : List Tree) (place : ℕ) → AllTo a qs → length rs < reply_count qs → has_lost a (pair_up rs place qs) ≡ true
some_lost a [] rs place t h = absurd (omega arith)
some_lost a (q ∷ qs) rs place t h =
    lost_by a q qs rs place t.0 h (λ l. some_lost a qs (drop (skipped q.asking + 1) rs) (suc place) t.1 l) (le_or_less (length rs) (skipped q.asking))

-- requests to another node say nothing of this one
pub other_lost : (node a : Address) (qs : List Request) (rs : List Tree) (place : ℕ) → AllTo node qs → same_address node a ≡ false → has_lost a (pair_up rs place qs) ≡ false
other_lost node a [] rs place t ne = refl
other_lost node a (q ∷ qs) rs place t ne =
    let e : same_address q.node a ≡ false = subst (λ k. same_address k a ≡ false) (sym t.0) ne in
    rw e (other_lost node a qs (drop (skipped q.asking + 1) rs) (suc place) t.1 ne)

pub has_lost-append : (a : Address) (xs ys : List Exchange) → has_lost a (xs ++ ys) ≡ (has_lost a xs || has_lost a ys)
has_lost-append a xs ys = list_any-append (λ (x : Exchange). same_address x.request.node a && is_unanswered x) xs ys

-- ---- replies of later requests

pub paired_front : (qs : List Request) (rs more : List Tree) (place : ℕ) → reply_count qs ≤ length rs → pair_up (rs ++ more) place qs ≡ pair_up rs place qs
paired_front [] rs more place h = refl
paired_front (q ∷ qs) rs more place h =
    let n = skipped q.asking in
    let l : length (drop (n + 1) rs) ≡ length rs - (n + 1) = length-drop (n + 1) rs in
    let here : slice_get (rs ++ more) n ≡ slice_get rs n = get_front rs more n (omega arith) in
    let rest : drop (n + 1) (rs ++ more) ≡ drop (n + 1) rs ++ more = drop_front rs more (n + 1) (omega arith) in
    let later = paired_front qs (drop (n + 1) rs) more (suc place) (omega arith) in
    rw (here, rest, later) refl

pub drop_wanted : (rs more : List Tree) (n : ℕ) → length rs ≡ n → drop n (rs ++ more) ≡ more
drop_wanted rs more n e = drop_front rs more n (omega arith) ∙ ap (λ s. s ++ more) (drop_whole rs n (omega arith))

pub drop_short : (rs : List Tree) (n : ℕ) → length rs < n → drop n rs ≡ []
drop_short rs n h = drop_whole rs n (omega arith)

-- ---- exchanges

pub exchanges_same : (qs : List Request) (f g : Address → List Tree) (place : ℕ) → ((a : Address) → f a ≡ g a) → exchanges f place qs ≡ exchanges g place qs
exchanges_same [] f g place h = refl
exchanges_same (q ∷ qs) f g place h =
    let head : reply_at (f q.node) q ≡ reply_at (g q.node) q = ap (λ ts. reply_at ts q) (h q.node) in
    let tail = exchanges_same qs (left_after f q) (left_after g q) (suc place) (λ a. rw h refl) in
    rw (head, tail) refl

-- what is left to each node when so many replies were taken from one
abbrev pub left_behind : (Address → List Tree) → Address → ℕ → Address → List Tree
left_behind f node n a = cond (same_address node a) (drop n (f a)) (f a)

left_none : (f : Address → List Tree) (node a : Address) (b : Bool) → f a ≡ cond b (drop 0 (f a)) (f a)
left_none f node a true = refl
left_none f node a false = refl

left_twice : (f : Address → List Tree) (q : Request) (node : Address) (n : ℕ) (a : Address) (b : Bool) → q.node ≡ node → same_address node a ≡ b
    → left_behind (left_after f q) node n a ≡ left_behind f node (skipped q.asking + 1 + n) a
left_twice f q node n a true e t =
    let u : same_address q.node a ≡ true = subst (λ k. same_address k a ≡ true) (sym e) t in
    rw (t, u) (drop-drop n (skipped q.asking + 1) (f a))
left_twice f q node n a false e t =
    let u : same_address q.node a ≡ false = subst (λ k. same_address k a ≡ false) (sym e) t in
    rw (t, u) refl

-- requests of one node take that node's next replies
pub exchanges_to : (qs later : List Request) (f : Address → List Tree) (place : ℕ) (node : Address) → AllTo node qs
    → exchanges f place (qs ++ later) ≡ pair_up (f node) place qs ++ exchanges (left_behind f node (reply_count qs)) (place + length qs) later
exchanges_to [] later f place node t =
    let z : place ≡ place + 0 = omega arith in
    exchanges_same later f (left_behind f node 0) place (λ a. left_none f node a (same_address node a)) ∙ ap (λ p. exchanges (left_behind f node 0) p later) z
exchanges_to (q ∷ qs) later f place node t =
    let g = left_after f q in
    let head : reply_at (f q.node) q ≡ reply_at (f node) q = ap (λ k. reply_at (f k) q) t.0 in
    let queue : g node ≡ drop (skipped q.asking + 1) (f node) = rw (same_self node q.node t.0) refl in
    let ih = exchanges_to qs later g (suc place) node t.1 in
    let p : suc place + length qs ≡ place + suc (length qs) = omega arith in
    let rest : exchanges (left_behind g node (reply_count qs)) (suc place + length qs) later ≡ exchanges (left_behind f node (skipped q.asking + 1 + reply_count qs)) (place + suc (length qs)) later =
    exchanges_same later (left_behind g node (reply_count qs)) (left_behind f node (skipped q.asking + 1 + reply_count qs)) (suc place + length qs) (λ a. left_twice f q node (reply_count qs) a (same_address node a) t.0 refl)
    ∙ ap (λ k. exchanges (left_behind f node (skipped q.asking + 1 + reply_count qs)) k later) p in
    rw (head, ih, queue, rest) refl

-- ---- what is left behind requests

pub left_same : (qs : List Request) (f g : Address → List Tree) → ((a : Address) → f a ≡ g a) → (a : Address) → left_after_all f qs a ≡ left_after_all g qs a
left_same [] f g h a = h a
left_same (q ∷ qs) f g h a = left_same qs (left_after f q) (left_after g q) (λ k. rw h refl) a

pub left-append : (qs rs : List Request) (f : Address → List Tree) (a : Address) → left_after_all f (qs ++ rs) a ≡ left_after_all (left_after_all f qs) rs a
left-append [] rs f a = refl
left-append (q ∷ qs) rs f a = left-append qs rs (left_after f q) a

-- behind requests of one node, that node's replies without theirs
pub left_to : (qs : List Request) (f : Address → List Tree) (node : Address) → AllTo node qs → (a : Address) → left_after_all f qs a ≡ left_behind f node (reply_count qs) a
left_to [] f node t a = left_none f node a (same_address node a)
left_to (q ∷ qs) f node t a = left_to qs (left_after f q) node t.1 a ∙ left_twice f q node (reply_count qs) a (same_address node a) t.0 refl
