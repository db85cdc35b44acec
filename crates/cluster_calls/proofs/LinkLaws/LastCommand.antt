-- The last command of a pipeline is changed.
use Rattle.std.specs.Prelude.{slice_get, slice_set}
use Rattle.std.proofs.Common.{◌≡◌, ◌≢◌, ◌-◌, ℕ, zero, suc, Bool, true, false, cond, List, [], ◌∷◌, ◌++◌, length, Some, refl, sym, ap, ◌∙◌, arith}
use Rattle.resp_args.specs.Command.{Command}
use Rattle.resp_args.specs.declared.cmd.Arg.{Arg}
use Rattle.cluster_calls.specs.Calls.Call.{Entry}
use Rattle.cluster_calls.specs.Links.Building.{ignoring, with_args, with_last}

last_set : {A : Type 0} (f : A → A) (xs : List A) (i : ℕ) (old : A) → suc i ≡ length xs → slice_get xs i ≡ Some old → slice_set xs i (f old) ≡ with_last f xs
last_set f [] i old e g = absurd (let h : ⊥ = omega (arith, e) in h)
last_set f (x ∷ []) zero old e g = let same : x ≡ old = cc in ap (λ y. f y ∷ []) (sym same)
last_set f (x ∷ []) (suc i) old e g = absurd (let h : ⊥ = omega (arith, e) in h)
last_set f (x ∷ y ∷ xs) zero old e g = absurd (let h : ⊥ = omega (arith, e) in h)
last_set f (x ∷ y ∷ xs) (suc i) old e g = ap (λ r. x ∷ r) (last_set f (y ∷ xs) i old (omega (arith, e)) g)

set_back : {A : Type 0} (xs : List A) (i : ℕ) (old : A) → slice_get xs i ≡ Some old → slice_set xs i old ≡ xs
set_back [] i old g = cc
set_back (x ∷ xs) zero old g = let same : x ≡ old = cc in ap (λ y. y ∷ xs) (sym same)
set_back (x ∷ xs) (suc i) old g = ap (λ r. x ∷ r) (set_back xs i old g)

pub index_last : {A : Type 0} (xs : List A) (n : ℕ) → xs ≢ [] → n ≡ length xs → suc (n - 1) ≡ length xs
index_last [] n some e = absurd (some refl)
index_last (x ∷ xs) n some e = omega (arith, e)

-- arguments were put behind those of the last command, or memory was refused
pub args_behind : (xs now : List Entry) (i : ℕ) (old : Entry) (command : Command) (b : Bool) (args : List (Arg (List ℕ))) → xs ≡ now → suc i ≡ length xs → slice_get xs i ≡ Some old
    → command ≡ cond b (record { args = old.command.args ++ args; cursor = old.command.cursor; no_response = old.command.no_response }) old.command
    → slice_set xs i (record { command = command; ignored = old.ignored }) ≡ cond b (with_last (with_args args) now) now
args_behind xs now i old command true args e at g is =
    ap (λ c. slice_set xs i (record { command = c; ignored = old.ignored })) is ∙ last_set (with_args args) xs i old at g ∙ ap (with_last (with_args args)) e
args_behind xs now i old command false args e at g is = ap (λ c. slice_set xs i (record { command = c; ignored = old.ignored })) is ∙ set_back xs i old g ∙ e

-- the last command's reply is left out
pub last_ignored : (xs now : List Entry) (i : ℕ) (old : Entry) → xs ≡ now → suc i ≡ length xs → slice_get xs i ≡ Some old → slice_set xs i (record { command = old.command; ignored = true }) ≡ with_last ignoring now
last_ignored xs now i old e at g = last_set ignoring xs i old at g ∙ ap (with_last ignoring) e
