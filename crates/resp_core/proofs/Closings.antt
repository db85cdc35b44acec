-- Rows within rows: what they make of a value that is whole.
use Rattle.std.proofs.Common.{◌≡◌, ℕ, zero, suc, ◌+◌, ◌-◌, ◌<◌, ◌≤◌, List, [], ◌∷◌, ◌++◌, length, Ok, Err, refl, sym, ap, subst, ◌∙◌, arith, length-append, get_or, set, take, drop, take-append-drop, drop-cons, drop_of_length-le, ap₂}
use Rattle.std.proofs.lemmas.List.{take-set, drop-set}
use Rattle.resp_core.specs.declared.parser.frame.Frame.{Frame}
use Rattle.resp_core.specs.declared.parser.stop.Stop.{Stop}
use Rattle.resp_core.specs.declared.parser.stop.Stop.TheVariants as kinds
use Rattle.resp_core.specs.declared.parser.stack.Progress.TheVariants as progress
use Rattle.resp_core.specs.declared.parser.Head.TheVariants.{Fresh}
use Rattle.resp_core.specs.declared.value.Value.{Value}
use Rattle.resp_core.specs.Trees.{Tree}
use Rattle.resp_core.specs.View.{view}
use Rattle.resp_core.specs.Reading.{Gap, short, fault, Read, ◌>>=◌, value_at}
use Rattle.resp_core.specs.Frames.{rest_of, closing}
use Rattle.resp_core.specs.Placing.{Refuses, Settles}

pub closing_err : (l : ℕ) (fs : List Frame) (g : Gap) → closing l fs (Err g) ≡ Err g
closing_err l [] g = refl
closing_err l (f ∷ fs) g = ap (λ (r : Read Tree). r >>= λ x. rest_of (l - 1) f x) (closing_err (l - 1) fs g)

pub closing_inner : (l : ℕ) (fs : List Frame) (f : Frame) (r : Read Tree) (k : ℕ) → k ≡ l - length fs - 1 → closing l (fs ++ f ∷ []) r ≡ closing l fs (r >>= λ x. rest_of k f x)
closing_inner l [] f r k e = let is : l - 1 ≡ k = omega arith in rw is refl
closing_inner l (g ∷ fs) f r k e = ap (λ (s : Read Tree). s >>= λ x. rest_of (l - 1) g x) (closing_inner (l - 1) fs f r k (omega arith))

pub refuses_outward : (l : ℕ) (fs : List Frame) (e : Stop) (r : Read Tree) → Refuses e r → Refuses e (closing l fs r)
refuses_outward l fs kinds.Memory r h = tt
refuses_outward l fs kinds.Short r h = h
refuses_outward l fs kinds.Fault r h = ap (closing l fs) h ∙ closing_err l fs fault

-- a row is open behind others
pub settles_open : (l k : ℕ) (read : List ℕ → Read Tree) (f : Frame) (inner new : List Frame) → new ≡ inner ++ f ∷ [] → k ≡ l - length inner - 1
    → ((bs : List ℕ) → read bs ≡ (value_at k bs >>= λ x. rest_of k f x)) → Settles l (Ok (progress.On Fresh)) read inner new
settles_open l k read f inner new is e next bs =
    let levels : l - length new ≡ k = omega (arith, ap length is, length-append inner (f ∷ [])) in
    ap (closing l inner) (next bs) ∙ sym (closing_inner l inner f (value_at k bs) k e) ∙ ap (λ (fs : List Frame). closing l fs (value_at k bs)) (sym is) ∙ ap (λ (j : ℕ). closing l new (value_at j bs)) (sym levels)

-- the innermost row
pub innermost : (fs : List Frame) (n : ℕ) (f : Frame) → n ≡ length fs - 1 → 0 < length fs → f ≡ get_or fs n f → fs ≡ take n fs ++ f ∷ []
innermost fs n f e some is =
    let past : drop (suc n) fs ≡ [] = drop_of_length-le fs {i = suc n} (omega arith) in
    sym (take-append-drop n fs) ∙ ap (λ (gs : List Frame). take n fs ++ gs) (drop-cons fs n f (omega arith) ∙ ap₂ (λ (g : Frame) (gs : List Frame). g ∷ gs) (sym is) past)

pub innermost_after : (fs : List Frame) (n : ℕ) (g : Frame) → n ≡ length fs - 1 → 0 < length fs → set fs n g ≡ take n fs ++ g ∷ []
innermost_after fs n g e some =
    let past : drop (n + 1) fs ≡ [] = drop_of_length-le fs {i = n + 1} (omega arith) in
    sym (take-append-drop n (set fs n g)) ∙ ap₂ (λ (gs hs : List Frame). gs ++ hs) (take-set fs n g) (drop-set fs n g (omega arith) ∙ ap (λ (gs : List Frame). g ∷ gs) past)

-- a value is put into the innermost row
module _ (l : ℕ) (fs : List Frame) (n : ℕ) (f : Frame) (t : Tree) where
  puts : n ≡ length fs - 1 → 0 < length fs → f ≡ get_or fs n f → (bs : List ℕ) → closing l fs (Ok (t, bs)) ≡ closing l (take n fs) (rest_of (l - length (take n fs) - 1) f (t, bs))
  puts e some is bs =
      ap (λ (gs : List Frame). closing l gs (Ok (t, bs))) (innermost fs n f e some is) ∙ closing_inner l (take n fs) f (Ok (t, bs)) (l - length (take n fs) - 1) refl

  pub puts_last : (v : Value) → n ≡ length fs - 1 → 0 < length fs → f ≡ get_or fs n f → ((k : ℕ) (bs : List ℕ) → rest_of k f (t, bs) ≡ Ok (view v, bs))
      → (bs : List ℕ) → closing l fs (Ok (t, bs)) ≡ closing l (take n fs) (Ok (view v, bs))
  puts_last v e some is closes bs = puts e some is bs ∙ ap (closing l (take n fs)) (closes (l - length (take n fs) - 1) bs)

  pub puts_next : (g : Frame) → n ≡ length fs - 1 → 0 < length fs → f ≡ get_or fs n f → ((k : ℕ) (bs : List ℕ) → rest_of k f (t, bs) ≡ (value_at k bs >>= λ x. rest_of k g x))
      → (bs : List ℕ) → closing l fs (Ok (t, bs)) ≡ closing l (set fs n g) (value_at (l - length (set fs n g)) bs)
  puts_next g e some is next bs =
      let after = innermost_after fs n g e some in
      let level : l - length (set fs n g) ≡ l - length (take n fs) - 1 = omega (arith, ap length after, length-append (take n fs) (g ∷ [])) in
      let k = l - length (take n fs) - 1 in
      puts e some is bs ∙ ap (closing l (take n fs)) (next k bs) ∙ sym (closing_inner l (take n fs) g (value_at k bs) k refl)
      ∙ ap (λ (gs : List Frame). closing l gs (value_at k bs)) (sym after) ∙ ap (λ (j : ℕ). closing l (set fs n g) (value_at j bs)) (sym level)

  pub puts_refused : (e : Stop) → n ≡ length fs - 1 → 0 < length fs → f ≡ get_or fs n f → ((k : ℕ) (bs : List ℕ) → Refuses e (rest_of k f (t, bs)))
      → (bs : List ℕ) → Refuses e (closing l fs (Ok (t, bs)))
  puts_refused e at some is refused bs =
      subst (λ (r : Read Tree). Refuses e r) (sym (puts at some is bs)) (refuses_outward l (take n fs) e _ (refused (l - length (take n fs) - 1) bs))

pub no_frames : (fs : List Frame) → length fs ≡ 0 → fs ≡ []
no_frames [] e = refl
no_frames (f ∷ fs) e = absurd (omega arith)
