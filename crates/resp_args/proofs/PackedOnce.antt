-- Equal packed bytes come from equal arguments, also those of commands one after another.
use Rattle.std.proofs.Common.{◌≡◌, ℕ, ◌<◌, ◌^◌, List, [], ◌∷◌, ◌++◌, length, refl, subst, arith, decimal, append_assoc}
use Rattle.std.specs.List.{AllByRecursion, flat_map}
use Rattle.std.specs.Char.{digit_value}
use Rattle.std.specs.Str.Parse.{AllDigits}
use Rattle.std.proofs.lemmas.Fmt.{decimal_is_IsNumeral, decimal_injective}
use Rattle.resp_args.specs.Packed.{packed, packed_arg, packed_args}
use Rattle.resp_args.specs.Laws.{AllPackedOnce, PackedOnce, Sendable}

-- digits, then the end of the line
line-same : (ds es rest others : List ℕ) → AllDigits 10 ds → AllDigits 10 es → ds ++ 13 ∷ rest ≡ es ++ 13 ∷ others → (ds ≡ es) × (rest ≡ others)
line-same [] [] rest others h k e = (refl, cc)
line-same [] (c ∷ es) rest others h k e = let same : 13 ≡ c = cc in absurd (subst (λ x. digit_value x < 10 → ⊥) same (λ low. absurd (omega arith)) k.0)
line-same (d ∷ ds) [] rest others h k e = let same : 13 ≡ d = cc in absurd (subst (λ x. digit_value x < 10 → ⊥) same (λ low. absurd (omega arith)) h.0)
line-same (d ∷ ds) (c ∷ es) rest others h k e =
    let head : d ≡ c = cc in
    let tail : ds ++ 13 ∷ rest ≡ es ++ 13 ∷ others = cc in
    let more = line-same ds es rest others h.1 k.1 tail in
    let first : ds ≡ es = more.0 in
    (cc, more.1)

-- as many bytes, then more
bytes-same : (xs ys rest others : List ℕ) → length xs ≡ length ys → xs ++ rest ≡ ys ++ others → (xs ≡ ys) × (rest ≡ others)
bytes-same [] [] rest others h e = (refl, e)
bytes-same [] (y ∷ ys) rest others h e = absurd (omega (arith, h))
bytes-same (x ∷ xs) [] rest others h e = absurd (omega (arith, h))
bytes-same (x ∷ xs) (y ∷ ys) rest others h e =
    let head : x ≡ y = cc in
    let tail : xs ++ rest ≡ ys ++ others = cc in
    let less : length xs ≡ length ys = omega (arith, h) in
    let more = bytes-same xs ys rest others less tail in
    let first : xs ≡ ys = more.0 in
    (cc, more.1)

-- an argument and what stands behind it
laid_out : (arg rest : List ℕ) → packed_arg arg ++ rest ≡ 36 ∷ (decimal (length arg) ++ 13 ∷ 10 ∷ (arg ++ 13 ∷ 10 ∷ rest))
laid_out arg rest = simp append_assoc

-- as many arguments, then more
args-same : (args others : List (List ℕ)) → (rest more : List ℕ) → length args ≡ length others → AllByRecursion (λ arg. length arg < 2 ^ 64) args → AllByRecursion (λ arg. length arg < 2 ^ 64) others → packed_args args ++ rest ≡ packed_args others ++ more → (args ≡ others) × (rest ≡ more)
args-same [] [] rest more l h k e = (refl, e)
args-same [] (b ∷ others) rest more l h k e = absurd (omega (arith, l))
args-same (a ∷ args) [] rest more l h k e = absurd (omega (arith, l))
args-same (a ∷ args) (b ∷ others) rest more l h k e =
    let one = laid_out a (packed_args args ++ rest) in
    let other = laid_out b (packed_args others ++ more) in
    let front = append_assoc (packed_arg a) (packed_args args) rest in
    let fronts = append_assoc (packed_arg b) (packed_args others) more in
    let both : decimal (length a) ++ 13 ∷ 10 ∷ (a ++ 13 ∷ 10 ∷ (packed_args args ++ rest)) ≡ decimal (length b) ++ 13 ∷ 10 ∷ (b ++ 13 ∷ 10 ∷ (packed_args others ++ more)) = cc in
    let num = decimal_is_IsNumeral (length a) h.0 in
    let nums = decimal_is_IsNumeral (length b) k.0 in
    let lines = line-same (decimal (length a)) (decimal (length b)) (10 ∷ (a ++ 13 ∷ 10 ∷ (packed_args args ++ rest))) (10 ∷ (b ++ 13 ∷ 10 ∷ (packed_args others ++ more))) num.0.1 nums.0.1 both in
    let lens : length a ≡ length b = decimal_injective (length a) (length b) h.0 k.0 lines.0 in
    let after : 10 ∷ (a ++ 13 ∷ 10 ∷ (packed_args args ++ rest)) ≡ 10 ∷ (b ++ 13 ∷ 10 ∷ (packed_args others ++ more)) = lines.1 in
    let bytes : a ++ 13 ∷ 10 ∷ (packed_args args ++ rest) ≡ b ++ 13 ∷ 10 ∷ (packed_args others ++ more) = cc in
    let parts = bytes-same a b (13 ∷ 10 ∷ (packed_args args ++ rest)) (13 ∷ 10 ∷ (packed_args others ++ more)) lens bytes in
    let first : a ≡ b = parts.0 in
    let left : 13 ∷ 10 ∷ (packed_args args ++ rest) ≡ 13 ∷ 10 ∷ (packed_args others ++ more) = parts.1 in
    let tail : packed_args args ++ rest ≡ packed_args others ++ more = cc in
    let fewer : length args ≡ length others = omega (arith, l) in
    let behind = args-same args others rest more fewer h.1 k.1 tail in
    let same : args ≡ others = behind.0 in
    (cc, behind.1)

-- a command and what stands behind it
counted : (args : List (List ℕ)) (rest : List ℕ) → packed args ++ rest ≡ 42 ∷ (decimal (length args) ++ 13 ∷ 10 ∷ (packed_args args ++ rest))
counted args rest = simp append_assoc

-- a command, then more
pub packed-same : (args others : List (List ℕ)) → (rest more : List ℕ) → Sendable args → Sendable others → packed args ++ rest ≡ packed others ++ more → (args ≡ others) × (rest ≡ more)
packed-same args others rest more h k e =
    let one = counted args rest in
    let other = counted others more in
    let both : decimal (length args) ++ 13 ∷ 10 ∷ (packed_args args ++ rest) ≡ decimal (length others) ++ 13 ∷ 10 ∷ (packed_args others ++ more) = cc in
    let num = decimal_is_IsNumeral (length args) h.0 in
    let nums = decimal_is_IsNumeral (length others) k.0 in
    let lines = line-same (decimal (length args)) (decimal (length others)) (10 ∷ (packed_args args ++ rest)) (10 ∷ (packed_args others ++ more)) num.0.1 nums.0.1 both in
    let lens : length args ≡ length others = decimal_injective (length args) (length others) h.0 k.0 lines.0 in
    let left : 10 ∷ (packed_args args ++ rest) ≡ 10 ∷ (packed_args others ++ more) = lines.1 in
    let tail : packed_args args ++ rest ≡ packed_args others ++ more = cc in
    args-same args others rest more lens h.1 k.1 tail

pub packed-once : PackedOnce
packed-once args others h k e =
    let both : packed args ++ [] ≡ packed others ++ [] = cc in
    (packed-same args others [] [] h k both).0

-- the bytes of a command and those of others behind it
pub all_packed-once : AllPackedOnce
all_packed-once [] [] h k e = refl
all_packed-once [] (b ∷ others) h k e = let shown = counted b (flat_map packed others) in cc
all_packed-once (a ∷ commands) [] h k e = let shown = counted a (flat_map packed commands) in cc
all_packed-once (a ∷ commands) (b ∷ others) h k e =
    let both = packed-same a b (flat_map packed commands) (flat_map packed others) h.0 k.0 e in
    let first : a ≡ b = both.0 in
    let rest : commands ≡ others = all_packed-once commands others h.1 k.1 both.1 in
    cc
