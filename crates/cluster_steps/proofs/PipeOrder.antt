-- What came from each place, drawn for one command after another, are the replies in the pipeline's order.
use Rattle.std.specs.Prelude.{filter, nat_eq, ◌||◌}
use Rattle.std.specs.List.{AllByRecursion}
use Rattle.std.proofs.Common.{◌≡◌, ℕ, ◌==◌, Bool, true, false, cond, List, [], ◌∷◌, ◌++◌, map, length, Some, refl, sym, ap, ◌∙◌, subst, arith, eqb-true, eq-eqb}
use Rattle.std.proofs.lemmas.Bool.{false≢true}
use Rattle.std.proofs.lemmas.List.{length-map, map-append}
use Rattle.resp_core.specs.Trees.{Tree}
use Rattle.resp_args.specs.Packed.{sent}
use Rattle.cluster_routing.specs.Lists.{among, concat, draw, firsts, group_by_group, IsDistinct, Pairwise}
use Rattle.cluster_calls.specs.Links.Log.{Exchange}
use Rattle.cluster_steps.specs.Queues.{queued, no_queues}
use Rattle.cluster_calls.specs.Calls.Call.{Entry}
use Rattle.cluster_calls.specs.Calls.Replies.{args_slot, in_pipeline_order, reply_or_nil, with_slot}
use Rattle.cluster_steps.proofs.PipeGroups.{map_twice, all_both}
use Rattle.cluster_calls.proofs.ServerLaws.Distinct.{firsts_distinct, among-firsts}
use Rattle.cluster_calls.proofs.ServerLaws.Draw.{draw_each, drawn_same, draw-map, draw_self}
use Rattle.cluster_calls.proofs.ServerLaws.Grouping.{filter-map, filter-same}
use Rattle.cluster_calls.proofs.ServerLaws.Regroup.{filter-grouped_all}

-- ---- two lists beside each other

abbrev pub beside : {A B : Type 0} → List A → List B → List (A × B)
beside [] ys = []
beside (x ∷ xs) [] = []
beside (x ∷ xs) (y ∷ ys) = (x, y) ∷ beside xs ys

beside_pairs : {A B : Type 0} (xs : List A) (ys : List B) → length ys ≡ length xs → Pairwise (λ (x : A) (z : A × B). z.0 ≡ x) xs (beside xs ys)
beside_pairs [] ys e = tt
beside_pairs (x ∷ xs) [] e = absurd (let f : ⊥ = omega (arith, e) in f)
beside_pairs (x ∷ xs) (y ∷ ys) e = (refl, beside_pairs xs ys (omega (arith, e)))

beside_second : {A B : Type 0} (xs : List A) (ys : List B) → length ys ≡ length xs → map (λ (z : A × B). z.1) (beside xs ys) ≡ ys
beside_second [] [] e = refl
beside_second [] (y ∷ ys) e = absurd (let f : ⊥ = omega (arith, e) in f)
beside_second (x ∷ xs) [] e = absurd (let f : ⊥ = omega (arith, e) in f)
beside_second (x ∷ xs) (y ∷ ys) e = ap (λ r. y ∷ r) (beside_second xs ys (omega (arith, e)))

beside_map : {A B C : Type 0} (f : A → C) (xs : List A) (ys : List B) → beside (map f xs) ys ≡ map (λ (z : A × B). (f z.0, z.1)) (beside xs ys)
beside_map f [] ys = refl
beside_map f (x ∷ xs) [] = refl
beside_map f (x ∷ xs) (y ∷ ys) = ap (λ r. (f x, y) ∷ r) (beside_map f xs ys)

beside-append : {A B : Type 0} (xs xs' : List A) (ys ys' : List B) → length ys ≡ length xs → beside (xs ++ xs') (ys ++ ys') ≡ beside xs ys ++ beside xs' ys'
beside-append [] xs' [] ys' e = refl
beside-append [] xs' (y ∷ ys) ys' e = absurd (let f : ⊥ = omega (arith, e) in f)
beside-append (x ∷ xs) xs' [] ys' e = absurd (let f : ⊥ = omega (arith, e) in f)
beside-append (x ∷ xs) xs' (y ∷ ys) ys' e = ap (λ r. (x, y) ∷ r) (beside-append xs xs' ys ys' (omega (arith, e)))

beside_concat : {A B : Type 0} (f : ℕ → List A) (g : ℕ → List B) (ks : List ℕ) → ((k : ℕ) → length (g k) ≡ length (f k)) → beside (concat (map f ks)) (concat (map g ks)) ≡ concat (map (λ k. beside (f k) (g k)) ks)
beside_concat f g [] h = refl
beside_concat f g (k ∷ ks) h = beside-append (f k) (concat (map f ks)) (g k) (concat (map g ks)) (h k) ∙ ap (λ r. beside (f k) (g k) ++ r) (beside_concat f g ks h)

-- ---- queues that were put at their places

queued_none : (queues : ℕ → List Tree) (answers : List (ℕ × List Tree)) (s : ℕ) → among nat_eq s (map (λ (a : ℕ × List Tree). a.0) answers) ≡ false → queued queues answers s ≡ queues s
queued_none queues [] s e = refl
queued_none queues (a ∷ answers) s e = by (nat_eq s a.0) refl e (λ f. queued_none (λ n. cond (n == a.0) a.1 (queues n)) answers s f)
  where
    by : (b : Bool) → nat_eq s a.0 ≡ b → (b || among nat_eq s (map (λ (a : ℕ × List Tree). a.0) answers)) ≡ false
        → (among nat_eq s (map (λ (a : ℕ × List Tree). a.0) answers) ≡ false → queued (λ n. cond (n == a.0) a.1 (queues n)) answers s ≡ cond (s == a.0) a.1 (queues s))
        → queued (λ n. cond (n == a.0) a.1 (queues n)) answers s ≡ queues s
    by true f g ih = absurd (false≢true (sym g))
    by false f g ih = ih g ∙ ap (λ b. cond b a.1 (queues s)) f

queued_length : (count : ℕ → ℕ) (queues : ℕ → List Tree) (answers : List (ℕ × List Tree)) (s : ℕ) → AllByRecursion (λ (a : ℕ × List Tree). length a.1 ≡ count a.0) answers
    → among nat_eq s (map (λ (a : ℕ × List Tree). a.0) answers) ≡ true → length (queued queues answers s) ≡ count s
queued_length count queues [] s h e = absurd (false≢true e)
queued_length count queues (a ∷ answers) s h e =
    later (among nat_eq s (map (λ (a : ℕ × List Tree). a.0) answers)) refl (nat_eq s a.0) refl e (λ f. queued_length count (λ n. cond (n == a.0) a.1 (queues n)) answers s h.1 f)
  where
    later : (c : Bool) → among nat_eq s (map (λ (a : ℕ × List Tree). a.0) answers) ≡ c → (b : Bool) → nat_eq s a.0 ≡ b → (b || among nat_eq s (map (λ (a : ℕ × List Tree). a.0) answers)) ≡ true
        → (among nat_eq s (map (λ (a : ℕ × List Tree). a.0) answers) ≡ true → length (queued (λ n. cond (n == a.0) a.1 (queues n)) answers s) ≡ count s)
        → length (queued (λ n. cond (n == a.0) a.1 (queues n)) answers s) ≡ count s
    later true f b g k ih = ih f
    later false f true g k ih =
        ap length (queued_none (λ n. cond (n == a.0) a.1 (queues n)) answers s f) ∙ ap (λ b. length (cond b a.1 (queues s))) g ∙ h.0 ∙ ap count (sym (eqb-true s a.0 g))
    later false f false g k ih = absurd (false≢true (sym f ∙ k))

-- where no place stands twice each answer is its place's queue
pub queued_each : (queues : ℕ → List Tree) (answers : List (ℕ × List Tree)) → IsDistinct nat_eq (map (λ (a : ℕ × List Tree). a.0) answers) → map (λ (a : ℕ × List Tree). a.1) answers ≡ map (λ (a : ℕ × List Tree). queued queues answers a.0) answers
queued_each queues [] d = refl
queued_each queues (a ∷ answers) d =
    ap (λ ts. ts ∷ map (λ (a : ℕ × List Tree). a.1) answers)
    (sym (queued_none (λ n. cond (n == a.0) a.1 (queues n)) answers a.0 d.0 ∙ ap (λ b. cond b a.1 (queues a.0)) (eq-eqb a.0 a.0 refl)))
    ∙ ap (λ r. queued queues (a ∷ answers) a.0 ∷ r) (queued_each (λ n. cond (n == a.0) a.1 (queues n)) answers d.1)

-- ---- each command with its reply

pairwise_first : {A B : Type 0} (xs : List A) (zs : List (A × B)) → Pairwise (λ (x : A) (z : A × B). z.0 ≡ x) xs zs → map (λ (z : A × B). z.0) zs ≡ xs
pairwise_first [] [] h = refl
pairwise_first [] (z ∷ zs) h = absurd h
pairwise_first (x ∷ xs) [] h = absurd h
pairwise_first (x ∷ xs) (z ∷ zs) h = ap (λ a. a ∷ map (λ (z : _). z.0) zs) h.0 ∙ ap (λ r. x ∷ r) (pairwise_first xs zs h.1)

pairwise_all : {A B : Type 0} (P : A → Type 0) (xs : List A) (zs : List (A × B)) → Pairwise (λ (x : A) (z : A × B). z.0 ≡ x) xs zs → AllByRecursion P xs → AllByRecursion (λ (z : A × B). P z.0) zs
pairwise_all P [] [] h k = tt
pairwise_all P [] (z ∷ zs) h k = absurd h
pairwise_all P (x ∷ xs) [] h k = absurd h
pairwise_all P (x ∷ xs) (z ∷ zs) h k = (subst P (sym h.0) k.0, pairwise_all P xs zs h.1 k.1)

pub eq_swap : (a b : ℕ) → (a == b) ≡ (b == a)
eq_swap a b = by (a == b) refl (b == a) refl
  where
    by : (t : Bool) → (a == b) ≡ t → (u : Bool) → (b == a) ≡ u → t ≡ u
    by true t true u = refl
    by false t false u = refl
    by true t false u = absurd (false≢true (sym u ∙ eq-eqb b a (sym (eqb-true a b t))))
    by false t true u = absurd (false≢true (sym t ∙ eq-eqb a b (sym (eqb-true b a u))))

pub none_kept : {D : Type 0} (key : D → ℕ) (s : ℕ) (ds : List D) → among nat_eq s (map key ds) ≡ false → filter (λ c. s == key c) ds ≡ []
none_kept key s [] e = refl
none_kept key s (d ∷ ds) e = by (nat_eq s (key d)) e (λ f. none_kept key s ds f)
  where
    by : (b : Bool) → (b || among nat_eq s (map key ds)) ≡ false → (among nat_eq s (map key ds) ≡ false → filter (λ c. s == key c) ds ≡ []) → cond b (d ∷ filter (λ c. s == key c) ds) (filter (λ c. s == key c) ds) ≡ []
    by true f ih = absurd (false≢true (sym f))
    by false f ih = ih f

all_among : {D : Type 0} (key : D → ℕ) (ds es : List D) → ((s : ℕ) → among nat_eq s (map key es) ≡ true → among nat_eq s (map key ds) ≡ true) → AllByRecursion (λ c. among nat_eq (key c) (map key ds) ≡ true) es
all_among key ds [] h = tt
all_among key ds (e ∷ es) h = (
  h (key e) (ap (λ b. b || among nat_eq (key e) (map key es)) (eq-eqb (key e) (key e) refl)),
  all_among key ds es (λ s k. h s (either (nat_eq s (key e)) k)),
)
  where
    either : {c : Bool} (b : Bool) → c ≡ true → (b || c) ≡ true
    either true k = refl
    either false k = k

-- ---- the order

-- what counts of a command and its reply: the arguments and the tree
abbrev pub Told : Type 0
Told = List (List ℕ) × Tree

abbrev pub told_slot : Told → ℕ
told_slot p = args_slot p.0

module _ {D : Type 0} (key : D → ℕ) (args : D → List (List ℕ)) (cds : List D) (answers : List (ℕ × List Tree))
    (keys : map (λ (a : ℕ × List Tree). a.0) answers ≡ firsts nat_eq (map key cds))
    (counts : AllByRecursion (λ (a : ℕ × List Tree). length a.1 ≡ length (filter (λ c. a.0 == key c) cds)) answers)
    (place_by : ℕ → ℕ) (placed : AllByRecursion (λ c. key c ≡ place_by (args_slot (args c))) cds) where
  abbrev order : List ℕ
  order = firsts nat_eq (map key cds)

  abbrev own : ℕ → List D
  own s = filter (λ c. s == key c) cds

  abbrev queue : ℕ → List Tree
  queue = queued no_queues answers

  lengths : (s : ℕ) → length (queue s) ≡ length (own s)
  lengths s = by (among nat_eq s (map (λ (a : ℕ × List Tree). a.0) answers)) refl
    where
      by : (b : Bool) → among nat_eq s (map (λ (a : ℕ × List Tree). a.0) answers) ≡ b → length (queue s) ≡ length (filter (λ c. s == key c) cds)
      by true e = queued_length (λ n. length (filter (λ c. n == key c) cds)) no_queues answers s counts e
      by false e =
          let nowhere : among nat_eq s (map key cds) ≡ false = absent (among nat_eq s (map key cds)) refl in
          ap length (queued_none no_queues answers s e) ∙ sym (ap length (none_kept key s cds nowhere))
        where
          absent : (b : Bool) → among nat_eq s (map key cds) ≡ b → b ≡ false
          absent true f = absurd (false≢true (sym e ∙ ap (among nat_eq s) keys ∙ among-firsts nat_eq eqb-true s (map key cds) f))
          absent false f = refl

  -- the commands of each place with their replies
  abbrev pairs : ℕ → List (D × Tree)
  pairs s = beside (own s) (queue s)

  -- and all commands in order with theirs
  abbrev all : List (D × Tree)
  all = draw (map key cds) pairs

  drawn : Pairwise (λ (c : D) (z : D × Tree). z.0 ≡ c) cds all × ((s : ℕ) → filter (λ (z : D × Tree). s == key z.0) all ≡ pairs s)
  drawn = draw_each (λ (c : D) (z : D × Tree). z.0 ≡ c) key (λ (z : D × Tree). key z.0) (λ c z h. ap key h) cds pairs (λ s. beside_pairs (filter (λ c. s == key c) cds) (queue s) (lengths s))

  pub commands : map (λ (z : D × Tree). z.0) all ≡ cds
  commands = pairwise_first cds all drawn.0

  pub trees : draw (map key cds) queue ≡ map (λ (z : D × Tree). z.1) all
  trees =
      drawn_same (map key cds) queue (λ s. map (λ (z : D × Tree). z.1) (pairs s)) (λ s. sym (beside_second (filter (λ c. s == key c) cds) (queue s) (lengths s)))
      ∙ draw-map (λ (z : D × Tree). z.1) (map key cds) pairs

  abbrev told : D × Tree → Told
  told z = (args z.0, z.1)

  -- the place of a slot's node
  abbrev place_of : D × Tree → ℕ
  place_of z = place_by (args_slot (args z.0))

  places : AllByRecursion (λ (z : D × Tree). key z.0 ≡ place_of z) all
  places = pairwise_all (λ c. key c ≡ place_by (args_slot (args c))) cds all drawn.0 placed

  among_order : AllByRecursion (λ (z : D × Tree). among nat_eq (place_of z) order ≡ true) all
  among_order =
      all_both (λ (z : D × Tree). key z.0 ≡ place_of z) (λ (z : D × Tree). among nat_eq (key z.0) (map key cds) ≡ true) (λ (z : D × Tree). among nat_eq (place_of z) (firsts nat_eq (map key cds)) ≡ true)
      (λ z p h. among-firsts nat_eq eqb-true (place_of z) (map key cds) (subst (λ n. among nat_eq n (map key cds) ≡ true) p h)) all places
      (pairwise_all (λ c. among nat_eq (key c) (map key cds) ≡ true) cds all drawn.0 (all_among key cds cds (λ s h. h)))

  -- what came place by place
  abbrev pub by_place : List Told
  by_place = concat (map (λ k. map told (pairs k)) order)

  grouped : (ks : List ℕ) → concat (map (λ k. map told (pairs k)) ks) ≡ map told (group_by_group nat_eq place_of ks all)
  grouped [] = refl
  grouped (k ∷ ks) =
      ap (λ q. map told q ++ concat (map (λ k. map told (pairs k)) ks)) (sym (drawn.1 k) ∙ filter-same (λ (z : D × Tree). k == key z.0) (λ (z : D × Tree). nat_eq (place_of z) k) all
      (all_both (λ (z : D × Tree). key z.0 ≡ place_of z) (λ (z : D × Tree). key z.0 ≡ place_of z) (λ (z : D × Tree). (k == key z.0) ≡ nat_eq (place_of z) k) (λ z p q. ap (λ n. k == n) p ∙ eq_swap k (place_of z)) all places places))
      ∙ ap (λ r. map told (filter (λ (z : D × Tree). nat_eq (place_of z) k) all) ++ r) (grouped ks)
      ∙ sym (map-append told (filter (λ (z : D × Tree). nat_eq (place_of z) k) all) (group_by_group nat_eq place_of ks all))

  -- at each slot they stand in the pipeline's order
  at_slot : (s : ℕ) → filter (λ p. s == told_slot p) by_place ≡ filter (λ p. s == told_slot p) (map told all)
  at_slot s =
      ap (filter (λ p. s == told_slot p)) (grouped order) ∙ sym (filter-map told (λ p. s == told_slot p) (group_by_group nat_eq place_of order all))
      ∙ ap (map told) (filter-grouped_all nat_eq eqb-true place_of (λ (z : D × Tree). s == args_slot (args z.0)) (place_by s) (λ z e. ap place_by (sym (eqb-true s (args_slot (args z.0)) e))) order all (firsts_distinct nat_eq (map key cds)) among_order)
      ∙ filter-map told (λ p. s == told_slot p) all

  slots : map told_slot (map told all) ≡ map (λ c. args_slot (args c)) cds
  slots = map_twice told told_slot all ∙ sym (map_twice (λ (z : D × Tree). z.0) (λ c. args_slot (args c)) all) ∙ ap (map (λ c. args_slot (args c))) commands

  pub ordered : draw (map (λ c. args_slot (args c)) cds) (λ s. filter (λ p. s == told_slot p) by_place) ≡ map told all
  ordered =
      ap (λ ks. draw ks (λ s. filter (λ p. s == told_slot p) by_place)) (sym slots)
      ∙ draw_self told_slot (map told all) (λ s. filter (λ p. s == told_slot p) by_place) (λ s. at_slot s)

  -- ---- the exchanges

  abbrev told_by : Exchange → Told
  told_by x = (x.request.args, reply_or_nil x)

  exchanged : (xs : List Exchange) (argss : List (List (List ℕ))) (ts : List Tree) → map (λ (x : Exchange). x.request.args) xs ≡ argss → map (λ (x : Exchange). x.reply) xs ≡ map (λ tree. Some tree) ts → map told_by xs ≡ beside argss ts
  exchanged [] [] ts e f = refl
  exchanged [] (a ∷ as') ts e f = cc
  exchanged (x ∷ xs) [] ts e f = cc
  exchanged (x ∷ xs) (a ∷ as') [] e f = cc
  exchanged (x ∷ xs) (a ∷ as') (t ∷ ts) e f =
      let first : x.request.args ≡ a = cc in
      let reply : x.reply ≡ Some t = cc in
      let more : map (λ (x : Exchange). x.request.args) xs ≡ as' = cc in
      let later : map (λ (x : Exchange). x.reply) xs ≡ map (λ tree. Some tree) ts = cc in
      rw (first, reply, exchanged xs as' ts more later) refl

  queues_are : map (λ (a : ℕ × List Tree). a.1) answers ≡ map queue order
  queues_are =
      queued_each no_queues answers (subst (IsDistinct nat_eq) (sym keys) (firsts_distinct nat_eq (map key cds)))
      ∙ sym (map_twice (λ (a : ℕ × List Tree). a.0) queue answers) ∙ ap (map queue) keys

  abbrev args_at : ℕ → List (List (List ℕ))
  args_at k = map args (own k)

  args_lengths : (k : ℕ) → length (queue k) ≡ length (args_at k)
  args_lengths k = lengths k ∙ sym (length-map _ _)

  told_at : (ks : List ℕ) → map (λ k. beside (args_at k) (queue k)) ks ≡ map (λ k. map told (pairs k)) ks
  told_at [] = refl
  told_at (k ∷ ks) = ap (λ q. q ∷ map (λ k. beside (map args (own k)) (queue k)) ks) (beside_map args (own k) (queue k)) ∙ ap (λ r. map told (beside (own k) (queue k)) ∷ r) (told_at ks)

  abbrev args_by_place : List (List (List ℕ))
  args_by_place = concat (map (λ k. map args (filter (λ c. k == key c) cds)) (firsts nat_eq (map key cds)))

  all_told : (xs : List Exchange) → map (λ (x : Exchange). x.request.args) xs ≡ args_by_place → map (λ (x : Exchange). x.reply) xs ≡ map (λ tree. Some tree) (concat (map (λ (a : ℕ × List Tree). a.1) answers)) → map told_by xs ≡ by_place
  all_told xs e f =
      exchanged xs args_by_place (concat (map (λ (a : ℕ × List Tree). a.1) answers)) e f
      ∙ ap (λ tss. beside args_by_place (concat tss)) queues_are
      ∙ beside_concat args_at queue order args_lengths ∙ ap concat (told_at order)

  -- the replies in the pipeline's order are those that are drawn
  pub replies_drawn : (entries : List Entry) (xs : List Exchange) → map (λ (e : Entry). args_slot (sent e.command)) entries ≡ map (λ c. args_slot (args c)) cds
      → map (λ (x : Exchange). x.request.args) xs ≡ args_by_place → map (λ (x : Exchange). x.reply) xs ≡ map (λ tree. Some tree) (concat (map (λ (a : ℕ × List Tree). a.1) answers))
      → map reply_or_nil (in_pipeline_order entries xs) ≡ draw (map key cds) queue
  replies_drawn entries xs same e f =
      let here : (s : ℕ) → map told_by (with_slot s xs) ≡ filter (λ p. s == told_slot p) by_place =
      λ s. filter-map told_by (λ p. s == told_slot p) xs ∙ ap (filter (λ p. s == told_slot p)) (all_told xs e f) in
      let in_order : map told_by (in_pipeline_order entries xs) ≡ map told all =
      sym (draw-map told_by (map (λ (e : Entry). args_slot (sent e.command)) entries) (λ s. with_slot s xs))
      ∙ drawn_same (map (λ (e : Entry). args_slot (sent e.command)) entries) (λ s. map told_by (with_slot s xs)) (λ s. filter (λ p. s == told_slot p) by_place) here
      ∙ ap (λ ks. draw ks (λ s. filter (λ p. s == told_slot p) by_place)) same ∙ ordered in
      sym (map_twice told_by (λ (p : Told). p.1) (in_pipeline_order entries xs)) ∙ ap (map (λ (p : Told). p.1)) in_order ∙ map_twice told (λ (p : Told). p.1) all ∙ sym trees
