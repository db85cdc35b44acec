-- A reply that was read is read back as itself, once it is written in RESP3.
use Rattle.std.proofs.Common.{◌≡◌, ℕ, Bool, true, false, cond, eqb, ◌&&◌, List, [], ◌∷◌, ◌++◌, length, Ok, Err, refl, sym, ap, ◌∙◌, append_assoc, IsUtf8}
use Rattle.std.proofs.lemmas.Bool.{and_parts}
use Rattle.std.proofs.lemmas.Str.{chars-encodes, encodes-append}
use Rattle.std.specs.Char.{is_whitespace}
use Rattle.std.specs.Str.{trim, trim_start, trim_end, chars, skip_leading_whitespace, drop_trailing_whitespace}
use lib.Utf8.{scalar, scalars, encodes}
use Rattle.resp_core.specs.Grammar.{HasNoCrLf}
use Rattle.resp_core.specs.Reading.{Read, line_at}
use Rattle.resp_core.specs.Written.{one_line, has_no_end}
use Rattle.resp_core.proofs.Lines.{line_sound}

-- ---- trimming

split_skip : (cs : List ℕ) → (w : List ℕ) × (cs ≡ w ++ skip_leading_whitespace cs)
split_skip [] = ([], refl)
split_skip (c ∷ cs) = go (is_whitespace c) (split_skip cs)
  where
    go : (b : Bool) → (w : List ℕ) × (cs ≡ w ++ skip_leading_whitespace cs) → (w : List ℕ) × (c ∷ cs ≡ w ++ cond {A = List ℕ} b (skip_leading_whitespace cs) (c ∷ cs))
    go true h = (c ∷ h.0, ap (λ (l : List ℕ). c ∷ l) h.1)
    go false h = ([], refl)

split_drop : (cs : List ℕ) → (v : List ℕ) × (cs ≡ drop_trailing_whitespace cs ++ v)
split_drop [] = ([], refl)
split_drop (c ∷ cs) = go (is_whitespace c && eqb (length (drop_trailing_whitespace cs)) 0) (split_drop cs)
  where
    go : (b : Bool) → (v : List ℕ) × (cs ≡ drop_trailing_whitespace cs ++ v) → (v : List ℕ) × (c ∷ cs ≡ cond {A = List ℕ} b [] (c ∷ drop_trailing_whitespace cs) ++ v)
    go true h = (c ∷ cs, refl)
    go false h = (h.0, ap (λ (l : List ℕ). c ∷ l) h.1)

drops_again : (cs : List ℕ) → drop_trailing_whitespace (drop_trailing_whitespace cs) ≡ drop_trailing_whitespace cs
drops_again [] = refl
drops_again (c ∷ cs) = go (is_whitespace c && eqb (length (drop_trailing_whitespace cs)) 0) refl (drops_again cs)
  where
    go : (b : Bool) → (is_whitespace c && eqb (length (drop_trailing_whitespace cs)) 0) ≡ b → drop_trailing_whitespace (drop_trailing_whitespace cs) ≡ drop_trailing_whitespace cs
        → drop_trailing_whitespace (cond {A = List ℕ} b [] (c ∷ drop_trailing_whitespace cs)) ≡ cond {A = List ℕ} b [] (c ∷ drop_trailing_whitespace cs)
    go true e h = refl
    go false e h = rw (h, e) refl

skips_again : (cs : List ℕ) → skip_leading_whitespace (drop_trailing_whitespace (skip_leading_whitespace cs)) ≡ drop_trailing_whitespace (skip_leading_whitespace cs)
skips_again [] = refl
skips_again (c ∷ cs) = go (is_whitespace c) refl (skips_again cs)
  where
    go : (b : Bool) → is_whitespace c ≡ b → skip_leading_whitespace (drop_trailing_whitespace (skip_leading_whitespace cs)) ≡ drop_trailing_whitespace (skip_leading_whitespace cs)
        → skip_leading_whitespace (drop_trailing_whitespace (cond {A = List ℕ} b (skip_leading_whitespace cs) (c ∷ cs))) ≡ drop_trailing_whitespace (cond {A = List ℕ} b (skip_leading_whitespace cs) (c ∷ cs))
    go true e h = h
    go false e h = rw e (rw e refl)

scalars_behind : (xs ys : List ℕ) → scalars (xs ++ ys) ≡ true → scalars ys ≡ true
scalars_behind [] ys h = h
scalars_behind (x ∷ xs) ys h = scalars_behind xs ys (and_parts (scalar x) _ h).1

scalars_before : (xs ys : List ℕ) → scalars (xs ++ ys) ≡ true → scalars xs ≡ true
scalars_before [] ys h = refl
scalars_before (x ∷ xs) ys h = let k = and_parts (scalar x) _ h in rw (k.0, scalars_before xs ys k.1) refl

-- what trimming leaves of a text, as characters
pub record Trims (bs : List ℕ) : Type 0 where
  pub before : List ℕ
  pub behind : List ℕ
  pub inner : List ℕ
  pub scalar : scalars inner ≡ true
  pub is : trim bs ≡ encodes inner
  pub parts : bs ≡ before ++ (trim bs ++ behind)
  pub skipped : skip_leading_whitespace inner ≡ inner
  pub dropped : drop_trailing_whitespace inner ≡ inner

trims : (bs : List ℕ) → IsUtf8 bs → Trims bs
unfolding trim_start trim_end
trims bs u =
    let cs : List ℕ = u.0 in
    let ds : List ℕ = skip_leading_whitespace cs in
    let es : List ℕ = drop_trailing_whitespace ds in
    let w = split_skip cs in
    let v = split_drop ds in
    let good : scalars ds ≡ true = scalars_behind w.0 ds (ap scalars (sym w.1) ∙ u.1.0) in
    let inner : scalars es ≡ true = scalars_before es v.0 (ap scalars (sym v.1) ∙ good) in
    let first : chars bs ≡ cs = ap chars (sym u.1.1) ∙ chars-encodes cs u.1.0 in
    let second : chars (encodes ds) ≡ ds = chars-encodes ds good in
    let is : trim bs ≡ encodes es = rw (first, second) refl in
    let whole : bs ≡ encodes w.0 ++ (encodes es ++ encodes v.0) =
    sym u.1.1 ∙ ap encodes w.1 ∙ encodes-append w.0 ds ∙ ap (λ (l : List ℕ). encodes w.0 ++ l) (ap encodes v.1 ∙ encodes-append es v.0) in
    record {
      before = encodes w.0;
      behind = encodes v.0;
      inner = es;
      scalar = inner;
      is = is;
      parts = whole ∙ ap (λ (l : List ℕ). encodes w.0 ++ (l ++ encodes v.0)) (sym is);
      skipped = skips_again cs;
      dropped = drops_again ds;
    }

pub trims_again : (bs : List ℕ) → IsUtf8 bs → trim (trim bs) ≡ trim bs
unfolding trim_start trim_end
trims_again bs u =
    let k = trims bs u in
    let here : chars (encodes k.inner) ≡ k.inner = chars-encodes k.inner k.scalar in
    ap trim k.is ∙ rw (here, k.skipped, here, k.dropped) refl ∙ sym k.is

pub trimmed_line : (bs : List ℕ) → IsUtf8 bs → HasNoCrLf bs → HasNoCrLf (trim bs)
trimmed_line bs u h front back e =
    let k = trims bs u in
    h (k.before ++ front) (back ++ k.behind) (k.parts ∙ ap (λ (l : List ℕ). k.before ++ (l ++ k.behind)) e ∙ simp append_assoc)

pub line_one : (bs : List ℕ) → HasNoCrLf bs → one_line bs ≡ true
line_one bs h = go (line_at bs) refl
  where
    go : (r : Read (List ℕ)) → line_at bs ≡ r → has_no_end r ≡ true
    go (Ok x) e = absurd (h x.0 x.1 (line_sound bs x.0 x.1 e).parts)
    go (Err g) e = refl
