-- Runs of link calls: what they mean for each node, and for the log.
use Rattle.std.specs.Prelude.{drop, ◌||◌}
use Rattle.std.proofs.Common.{◌≡◌, ℕ, ◌+◌, Bool, true, false, cond, List, [], ◌∷◌, ◌++◌, map, Some, refl, sym, ap, ◌∙◌, subst, append-nil, length, arith}
use Rattle.std.proofs.lemmas.Bool.{false≢true}
use Rattle.std.proofs.lemmas.List.Elements.{filter-append}
use Rattle.resp_core.specs.Trees.{Tree}
use Rattle.resp_link.specs.Replies.{replies_of}
use Rattle.resp_link.specs.Call.{Seen}
use Rattle.cluster_routing.specs.Address.{Address, same_address}
use Rattle.cluster_calls.specs.Links.Request.{Request, requests_to}
use Rattle.cluster_calls.specs.Links.Log.{exchanges, replies, has_lost, left_after_all}
use Rattle.cluster_calls.specs.Links.World.{Node, link_at}
use Rattle.cluster_calls.specs.Links.Faults.{io}
use Rattle.cluster_calls.specs.Links.Events.{Event, Ending, answers, fails, reply_count, pair_up, AllTo, LinkCalled, Runs, log_of, taken_of, calls_of, exchanges_at, exchanges_of, faults_of, is_memory_ending, is_answer_ending, lack_memory}
use Rattle.cluster_calls.specs.Links.Nodes.{NodeMade, NodesMade}
use Rattle.cluster_calls.proofs.LinkLaws.Addresses.{same_true, same_refl}
use Rattle.cluster_calls.proofs.LinkLaws.LinkPlaces.{set_same, set_other, set_addresses}
use Rattle.cluster_calls.proofs.LinkLaws.Pairing.{other_lost, has_lost-append, paired_front, drop_wanted, drop_short, exchanges_same, left_behind, exchanges_to, left_to, left_same, left-append}
use Rattle.cluster_calls.proofs.LinkLaws.EndLaws.{Pairs, ends_pairs, ends_was_open, ends_usable}
use Rattle.cluster_calls.proofs.LinkLaws.NodeLaws.{NodeMade-none, NodeMade-append}

-- ---- runs

pub Runs-append : (a b c : List Node) (xs ys : List Event) → Runs a b xs → Runs b c ys → Runs a c (xs ++ ys)
Runs-append a b c [] ys r s = subst (λ w. Runs w c ys) r s
Runs-append a b c (x ∷ xs) ys r s = (r.0, r.1, Runs-append r.0 b c xs ys r.2 s)

pub Runs-snoc : (a b c : List Node) (xs : List Event) (x : Event) → Runs a b xs → LinkCalled b c x → Runs a c (xs ++ x ∷ [])
Runs-snoc a b c xs x r s = Runs-append a b c xs (x ∷ []) r (c, s, refl)

pub or_parts : (a b : Bool) → (a || b) ≡ false → (a ≡ false) × (b ≡ false)
or_parts true b e = absurd (false≢true (sym e))
or_parts false b e = (refl, e)

pub had_memory : (x : Event) (xs : List Event) → lack_memory (x ∷ xs) ≡ false → (is_memory_ending x.ending ≡ false) × (lack_memory xs ≡ false)
had_memory x xs m = or_parts (is_memory_ending x.ending) (lack_memory xs) m

-- the link to a link call's node, behind it
pub link_behind : (old mid : List Node) (x : Event) (s : LinkCalled old mid x) → link_at mid x.node ≡ Some s.after
link_behind old mid x s = ap (λ ns. link_at ns x.node) s.now ∙ set_same old x.node s.before s.after s.found

-- ---- requests to a node

pub requests_same : (node : Address) (qs rs : List Request) → AllTo node qs → requests_to node (qs ++ rs) ≡ qs ++ requests_to node rs
requests_same node [] rs t = refl
requests_same node (q ∷ qs) rs t =
    let e : same_address q.node node ≡ true = subst (λ k. same_address k node ≡ true) (sym t.0) (same_refl node) in
    rw (e, requests_same node qs rs t.1) refl

pub requests_other : (node a : Address) (qs rs : List Request) → AllTo node qs → same_address node a ≡ false → requests_to a (qs ++ rs) ≡ requests_to a rs
requests_other node a [] rs t ne = refl
requests_other node a (q ∷ qs) rs t ne =
    let e : same_address q.node a ≡ false = subst (λ k. same_address k a ≡ false) (sym t.0) ne in
    rw e (requests_other node a qs rs t.1 ne)

-- ---- from a closed link nothing is taken

quiet_by : (old mid new : List Node) (x : Event) (xs : List Event) → LinkCalled old mid x → (a : Address) (s : Seen) → link_at old a ≡ Some s → s.usable ≡ false
    → (link_at mid a ≡ Some s → taken_of xs a ≡ []) → (b : Bool) → same_address x.node a ≡ b → cond b (x.taken ++ taken_of xs a) (taken_of xs a) ≡ []
quiet_by old mid new x xs st a s f u h true t =
    let is : x.node ≡ a = same_true x.node a t in
    let was : link_at old a ≡ Some st.before = subst (λ k. link_at old k ≡ Some st.before) is st.found in
    let same : st.before ≡ s = cc in
    absurd (false≢true (sym u ∙ ap (λ (k : Seen). k.usable) (sym same) ∙ ends_was_open st.before st.after x.requests x.taken x.ending st.ends))
quiet_by old mid new x xs st a s f u h false t = h (ap (λ ns. link_at ns a) st.now ∙ set_other old x.node a st.after t ∙ f)

pub quiet : (old new : List Node) (xs : List Event) → Runs old new xs → (a : Address) (s : Seen) → link_at old a ≡ Some s → s.usable ≡ false → taken_of xs a ≡ []
quiet old new [] r a s f u = refl
quiet old new (x ∷ xs) r a s f u = quiet_by old r.0 new x xs r.1 a s f u (λ m. quiet r.0 new xs r.2 a s m u) (same_address x.node a) refl

-- ---- all nodes

abbrev pub MadeAt : List Event → ℕ → Address → Seen → Seen → Type 0
MadeAt xs place a before after = NodeMade before after (calls_of xs a) (taken_of xs a) (has_lost a (exchanges_of place xs)) (faults_of xs a)

made_by : (old mid new : List Node) (x : Event) (xs : List Event) (place : ℕ) → LinkCalled old mid x → Runs mid new xs
    → (a : Address) (before after : Seen) → link_at old a ≡ Some before
    → ((between : Seen) → link_at mid a ≡ Some between → MadeAt xs (place + length x.requests) a between after)
    → (b : Bool) → same_address x.node a ≡ b → MadeAt (x ∷ xs) place a before after
made_by old mid new x xs place s r a before after f h true t =
    let is : x.node ≡ a = same_true x.node a t in
    let all : AllTo a x.requests = subst (λ k. AllTo k x.requests) is s.to_node in
    let was : link_at old a ≡ Some s.before = subst (λ k. link_at old k ≡ Some s.before) is s.found in
    let now : link_at mid a ≡ Some s.after = subst (λ k. link_at mid k ≡ Some s.after) is (link_behind old mid x s) in
    let same : s.before ≡ before = cc in
    rw (t, has_lost-append a (exchanges_at place x) (exchanges_of (place + length x.requests) xs), ← same)
    (NodeMade-append s.before s.after after a x.requests _ x.taken _ x.ending place _ _ s.some all (λ u. quiet mid new xs r a s.after now u) s.ends (h s.after now))
made_by old mid new x xs place s r a before after f h false t =
    let there : link_at mid a ≡ Some before = ap (λ ns. link_at ns a) s.now ∙ set_other old x.node a s.after t ∙ f in
    rw (
      t,
      has_lost-append a (exchanges_at place x) (exchanges_of (place + length x.requests) xs),
      other_lost x.node a x.requests (replies_of x.taken) place s.to_node t,
    ) (h before there)

-- one node
pub made : (old new : List Node) (xs : List Event) (place : ℕ) → Runs old new xs
    → (a : Address) (before after : Seen) → link_at old a ≡ Some before → link_at new a ≡ Some after → MadeAt xs place a before after
made old new [] place r a before after f g =
    let e : before ≡ after = cc in
    subst (λ s. NodeMade before s [] [] false io) e (NodeMade-none before io)
made old new (x ∷ xs) place r a before after f g =
    made_by old r.0 new x xs place r.1 r.2 a before after f
    (λ between e. made r.0 new xs (place + length x.requests) r.2 a between after e g)
    (same_address x.node a)
    refl

pub addresses : (old new : List Node) (xs : List Event) → Runs old new xs → map (λ (n : Node). n.address) new ≡ map (λ (n : Node). n.address) old
addresses old new [] r = ap (λ ns. map (λ (n : Node). n.address) ns) r
addresses old new (x ∷ xs) r =
    addresses r.0 new xs r.2 ∙ ap (λ ns. map (λ (n : Node). n.address) ns) r.1.now ∙ set_addresses old x.node r.1.after

-- what became of all nodes over the link calls
pub nodes_made : (old new : List Node) (xs : List Event) (place : ℕ) → Runs old new xs → NodesMade old new (calls_of xs) (exchanges_of place xs) (taken_of xs) (faults_of xs)
nodes_made old new xs place r = record { addresses = addresses old new xs r; each = λ a before after was now. made old new xs place r a before after was now }

-- ---- pairing

-- a link call's own replies, and those behind them
abbrev pub Behind : List Tree → List Request → ℕ → List Tree → Type 0
Behind rs qs place more = (pair_up (rs ++ more) place qs ≡ pair_up rs place qs) × (drop (reply_count qs) (rs ++ more) ≡ more)

behind_by : (rs : List Tree) (qs : List Request) (place : ℕ) (e : Ending) (more : List Tree) → Pairs rs qs e → (is_answer_ending e ≡ false → more ≡ []) → Behind rs qs place more
behind_by rs qs place (answers replies) more p quiet = (paired_front qs rs more place (let l = p.0 in omega arith), drop_wanted rs more (reply_count qs) p.0)
behind_by rs qs place (fails fault) more p quiet = rw (quiet refl, append-nil) (refl, drop_short rs (reply_count qs) p)

behind : (old mid new : List Node) (x : Event) (xs : List Event) (place : ℕ) → LinkCalled old mid x → Runs mid new xs → Behind (replies_of x.taken) x.requests place (replies_of (taken_of xs x.node))
behind old mid new x xs place s r =
    behind_by (replies_of x.taken) x.requests place x.ending (replies_of (taken_of xs x.node)) (ends_pairs s.before s.after x.requests x.taken x.ending s.some s.ends)
    (λ u. ap replies_of (quiet mid new xs r x.node s.after (link_behind old mid x s) (ends_usable s.before s.after x.requests x.taken x.ending s.ends ∙ u)))

left_by : (x : Event) (xs : List Event) (place : ℕ) (a : Address) (b : Bool) → same_address x.node a ≡ b → Behind (replies_of x.taken) x.requests place (replies_of (taken_of xs x.node))
    → left_behind (replies (taken_of (x ∷ xs))) x.node (reply_count x.requests) a ≡ replies (taken_of xs) a
left_by x xs place a true t h =
    let is : x.node ≡ a = same_true x.node a t in
    rw (t, filter-append, ← is) h.1
left_by x xs place a false t h = rw t refl

-- each request of the first link calls with the next reply from its node is the exchange that was made
pub pairing_first : (old new : List Node) (xs more : List Event) (place : ℕ) → Runs old new (xs ++ more) → exchanges (replies (taken_of (xs ++ more))) place (log_of xs) ≡ exchanges_of place xs
pairing_first old new [] more place r = refl
pairing_first old new (x ∷ es) more place r =
    let xs = es ++ more in
    let h = behind old r.0 new x xs place r.1 r.2 in
    let f = replies (taken_of (x ∷ xs)) in
    let t : same_address x.node x.node ≡ true = same_refl x.node in
    let queue : f x.node ≡ replies_of x.taken ++ replies_of (taken_of xs x.node) = rw (t, filter-append) refl in
    let head : pair_up (f x.node) place x.requests ≡ exchanges_at place x = rw queue h.0 in
    let tail : exchanges (left_behind f x.node (reply_count x.requests)) (place + length x.requests) (log_of es) ≡ exchanges_of (place + length x.requests) es =
    exchanges_same (log_of es) (left_behind f x.node (reply_count x.requests)) (replies (taken_of xs)) (place + length x.requests) (λ a. left_by x xs place a (same_address x.node a) refl h)
    ∙ pairing_first r.0 new es more (place + length x.requests) r.2 in
    exchanges_to x.requests (log_of es) f place x.node r.1.to_node ∙ ap (λ p. p ++ exchanges (left_behind f x.node (reply_count x.requests)) (place + length x.requests) (log_of es)) head
    ∙ ap (λ q. exchanges_at place x ++ q) tail

-- each request with the next reply from its node is the exchange that was made
pub pairing : (old new : List Node) (xs : List Event) (place : ℕ) → Runs old new xs → exchanges (replies (taken_of xs)) place (log_of xs) ≡ exchanges_of place xs
pairing old new xs place r =
    subst (λ ys. exchanges (replies (taken_of ys)) place (log_of xs) ≡ exchanges_of place xs) (append-nil xs)
    (pairing_first old new xs [] place (subst (λ ys. Runs old new ys) (sym (append-nil xs)) r))

-- what the first link calls leave to each node's later requests
pub left_first : (old new : List Node) (xs more : List Event) → Runs old new (xs ++ more) → (a : Address) → left_after_all (replies (taken_of (xs ++ more))) (log_of xs) a ≡ replies (taken_of more) a
left_first old new [] more r a = refl
left_first old new (x ∷ es) more r a =
    let xs = es ++ more in
    let h = behind old r.0 new x xs 0 r.1 r.2 in
    let f = replies (taken_of (x ∷ xs)) in
    let here : (k : Address) → left_after_all f x.requests k ≡ replies (taken_of xs) k =
    λ k. left_to x.requests f x.node r.1.to_node k ∙ left_by x xs 0 k (same_address x.node k) refl h in
    left-append x.requests (log_of es) f a ∙ left_same (log_of es) (left_after_all f x.requests) (replies (taken_of xs)) here a ∙ left_first r.0 new es more r.2 a
