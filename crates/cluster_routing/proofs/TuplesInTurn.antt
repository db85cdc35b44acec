-- Tuples taken off the front, one after another.
use Rattle.std.proofs.Common.{◌≡◌, ℕ, zero, suc, ◌+◌, ◌-◌, ◌*◌, ◌/◌, ◌%◌, ◌<◌, ◌≤◌, Bool, true, false, ◌==◌, if◌then◌else◌, List, [], ◌∷◌, ◌++◌, length, take, drop, map, refl, sym, ap, ◌∙◌, arith, append_assoc, append-nil, add-one, Some, None}
use Rattle.std.specs.Borrow.{Bor}
use Rattle.std.proofs.Math.Nat.{div-mul-le_self, suc-mul}
use Rattle.std.proofs.lemmas.List.{drop-drop, length-map, take-map, drop-map}
use Rattle.cluster_routing.specs.declared.policy.MultiSlotArgPattern.{MultiSlotArgPattern}
use Rattle.cluster_routing.specs.Info.{lent}
use Rattle.cluster_routing.specs.Parts.{argument_slots, in_tuples, len_in_tuples, tuple_count, tuple_slot, tuples_from}

-- so many of the tuples are passed: their slots, and the arguments that are left
pub record Slotted (width : ℕ) (args : List (Bor (List ℕ))) (slots : List ℕ) (passed count start : ℕ) : Type 0 where
  pub enough : start + (count - passed) * width ≤ length args
  pub gathered : argument_slots (tuples_from count width (lent args)) ≡ slots ++ argument_slots (tuples_from (count - passed) width (drop start (lent args)))

pub slotted_start : (width count : ℕ) (args : List (Bor (List ℕ))) (slots : List ℕ) → count * width ≤ length args → slots ≡ [] → Slotted width args slots 0 count 0
slotted_start width count args slots h e =
    let z : count - 0 ≡ count = omega arith in
    record {
      enough = let k : (count - 0) * width ≡ count * width = ap (λ n. n * width) z in omega (arith, h, k);
      gathered = ap (λ n. argument_slots (tuples_from n width (lent args))) (sym z) ∙ ap (λ s. s ++ argument_slots (tuples_from (count - 0) width (lent args))) (sym e);
    }

-- the count that is left before a step
left_is : (count passed : ℕ) → passed < count → count - passed ≡ suc (count - (passed + 1))
left_is count passed lt = omega arith

pub has_tuple : {width : ℕ} {args : List (Bor (List ℕ))} {slots : List ℕ} {passed count start : ℕ} → Slotted width args slots passed count start → passed < count → start + width ≤ length args
has_tuple {width} {args} {slots} {passed} {count} {start} s lt =
    let m : ℕ = count - (passed + 1) in
    let k : (count - passed) * width ≡ m * width + width = ap (λ n. n * width) (left_is count passed lt) ∙ suc-mul m width in
    omega (arith, k, s.enough)

const-lent : (x : ℕ) (raw : List (Bor (List ℕ))) → map (λ _. x) raw ≡ map (λ _. x) (lent raw)
const-lent x [] = refl
const-lent x (a ∷ raw) = ap (λ ys. x ∷ ys) (const-lent x raw)

pub slotted_more : {width : ℕ} {args : List (Bor (List ℕ))} {slots more : List ℕ} {passed count start : ℕ} (raw : List (Bor (List ℕ))) (slot : ℕ) → Slotted width args slots passed count start → passed < count
    → lent raw ≡ take width (drop start (lent args)) → slot ≡ tuple_slot (lent raw) → more ≡ slots ++ map (λ _. slot) raw → Slotted width args more (passed + 1) count (start + width)
slotted_more {width} {args} {slots} {more} {passed} {count} {start} raw slot s lt t same e =
    let m : ℕ = count - (passed + 1) in
    let k : (count - passed) * width ≡ m * width + width = ap (λ n. n * width) (left_is count passed lt) ∙ suc-mul m width in
    let added : map (λ _. slot) raw ≡ map (λ _. tuple_slot (lent raw)) (lent raw) = const-lent slot raw ∙ ap (λ x. map (λ _. x) (lent raw)) same in
    let rest : List ℕ = argument_slots (tuples_from m width (drop width (drop start (lent args)))) in
    record {
      enough = omega (arith, k, s.enough);
      gathered =
          s.gathered ∙ ap (λ n. slots ++ argument_slots (tuples_from n width (drop start (lent args)))) (left_is count passed lt)
          ∙ ap (λ (u : List (List ℕ)). slots ++ (map (λ _. tuple_slot u) u ++ rest)) (sym t)
          ∙ ap (λ (ys : List ℕ). slots ++ (ys ++ rest)) (sym added)
          ∙ sym (append_assoc slots (map (λ _. slot) raw) rest)
          ∙ ap (λ (ys : List ℕ). ys ++ rest) (sym e)
          ∙ ap (λ zs. more ++ argument_slots (tuples_from m width zs)) (drop-drop width start (lent args));
    }

pub slotted_all : {width : ℕ} {args : List (Bor (List ℕ))} {slots : List ℕ} {passed count start : ℕ} → Slotted width args slots passed count start → count ≤ passed → slots ≡ argument_slots (tuples_from count width (lent args))
slotted_all {width} {args} {slots} {passed} {count} {start} s le =
    let none : count - passed ≡ 0 = omega arith in
    sym (s.gathered ∙ ap (λ n. slots ++ argument_slots (tuples_from n width (drop start (lent args)))) none ∙ append-nil slots)

-- parts of lent arguments
pub lent-slice : (args : List (Bor (List ℕ))) (start width : ℕ) → lent (take (start + width - start) (drop start args)) ≡ take width (drop start (lent args))
lent-slice args start width =
    let e : start + width - start ≡ width = omega arith in
    ap (λ n. lent (take n (drop start args))) e ∙ sym (take-map (λ (a : Bor (List ℕ)). a.now) width (drop start args)) ∙ ap (take width) (sym (drop-map (λ (a : Bor (List ℕ)). a.now) start args))

pub lent-front : (pattern : MultiSlotArgPattern) (args : List (Bor (List ℕ))) (n : ℕ) → n ≡ len_in_tuples pattern (length args) → lent (take n args) ≡ in_tuples pattern (lent args)
lent-front pattern args n h =
    sym (take-map (λ (a : Bor (List ℕ)). a.now) n args)
    ∙ ap (λ k. take k (lent args)) (h ∙ ap (len_in_tuples pattern) (sym (length-map args (λ (a : Bor (List ℕ)). a.now))))

-- a slot more
next-slot : (slot : ℕ) (raw : List (Bor (List ℕ))) (i : ℕ) → i < length raw → map (λ _. slot) (drop i raw) ≡ slot ∷ map (λ _. slot) (drop (suc i) raw)
next-slot slot [] i lt = absurd (omega arith)
next-slot slot (a ∷ raw) zero lt = refl
next-slot slot (a ∷ raw) (suc i) lt = next-slot slot raw i (omega (arith, lt))

pub pushed_one : (slot : ℕ) (raw : List (Bor (List ℕ))) (slots new : List ℕ) (i : ℕ) → i < length raw → new ≡ slots ++ slot ∷ [] → slots ++ map (λ _. slot) (drop i raw) ≡ new ++ map (λ _. slot) (drop (i + 1) raw)
pushed_one slot raw slots new i lt e =
    ap (λ (ys : List ℕ). slots ++ ys) (next-slot slot raw i lt) ∙ sym (append_assoc slots (slot ∷ []) (map (λ _. slot) (drop (suc i) raw)))
    ∙ ap (λ (ys : List ℕ). ys ++ map (λ _. slot) (drop (suc i) raw)) (sym e) ∙ ap (λ k. new ++ map (λ _. slot) (drop k raw)) (sym (add-one i))

-- counts of tuples
pub count_fits : (width len count : ℕ) → Some count ≡ tuple_count width len → count * width ≤ len
count_fits width len count h = by (len % width == 0) h
  where
    by : (b : Bool) → Some count ≡ (if b then Some (len / width) else None) → count * width ≤ len
    by true e = let c : count ≡ len / width = cc in let k : count * width ≡ len / width * width = ap (λ n. n * width) c in omega (arith, k, div-mul-le_self len width)
    by false e = cc
