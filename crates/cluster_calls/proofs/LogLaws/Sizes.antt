-- Lists that all have one size, put together and parted again.
use Rattle.std.specs.Prelude.{◌*◌, ◌/◌}
use Rattle.std.specs.List.{AllByRecursion}
use Rattle.std.proofs.Common.{◌≡◌, ℕ, zero, suc, ◌+◌, ◌<◌, List, [], ◌∷◌, ◌++◌, length, take, drop, refl, ap, ◌∙◌, length-append, mul-div_cancel, arith}
use Rattle.cluster_routing.specs.Lists.{concat}
use Rattle.cluster_calls.specs.Calls.Transactions.{in_sizes, so_many}

-- the front of so many elements, and the rest
pub take_all : {X : Type 0} (n : ℕ) (xs ys : List X) → length xs ≡ n → take n (xs ++ ys) ≡ xs
take_all zero [] ys e = refl
take_all zero (x ∷ xs) ys e = absurd (omega arith)
take_all (suc n) [] ys e = absurd (omega arith)
take_all (suc n) (x ∷ xs) ys e = ap (λ zs. x ∷ zs) (take_all n xs ys (omega arith))

pub drop_all : {X : Type 0} (n : ℕ) (xs ys : List X) → length xs ≡ n → drop n (xs ++ ys) ≡ ys
drop_all zero [] ys e = refl
drop_all zero (x ∷ xs) ys e = absurd (omega arith)
drop_all (suc n) [] ys e = absurd (omega arith)
drop_all (suc n) (x ∷ xs) ys e = drop_all n xs ys (omega arith)

module _ {X : Type 0} (n : ℕ) where
  abbrev AreSized : List (List X) → Type 0
  AreSized xss = AllByRecursion (λ (xs : List X). length xs ≡ n) xss

  whole_length : (xss : List (List X)) → AreSized xss → length (concat xss) ≡ length xss * n
  whole_length [] h = omega arith
  whole_length (xs ∷ xss) h =
      let parts : length (xs ++ concat xss) ≡ length xs + length (concat xss) = length-append xs (concat xss) in
      let later = whole_length xss h.1 in
      let here = h.0 in
      let more : suc (length xss) * n ≡ n + length xss * n = omega arith in
      omega (arith, parts, later, here, more)

  parted : (xss : List (List X)) → AreSized xss → so_many (length xss) n (concat xss) ≡ xss
  parted [] h = refl
  parted (xs ∷ xss) h =
      ap (λ ys. ys ∷ so_many (length xss) n (drop n (xs ++ concat xss))) (take_all n xs (concat xss) h.0)
      ∙ ap (λ ys. xs ∷ so_many (length xss) n ys) (drop_all n xs (concat xss) h.0)
      ∙ ap (λ yss. xs ∷ yss) (parted xss h.1)

  pub in_sizes_are : (xss : List (List X)) → 0 < n → AreSized xss → in_sizes n (concat xss) ≡ xss
  in_sizes_are xss some h =
      ap (λ k. so_many k n (concat xss)) (ap (λ l. l / n) (whole_length xss h) ∙ mul-div_cancel (length xss) some) ∙ parted xss h
