-- Bytes as texts.
use Rattle.std.proofs.Common.{◌≡◌, ℕ, List, Bool, true, false, Some, None, String, Global, string_bytes, IsUtf8, refl, if◌then◌else◌}
use Rattle.std.proofs.lemmas.Str.{IsUtf8-string_bytes, is_utf8-from_IsUtf8, IsUtf8-from_is_utf8}
use Rattle.std.specs.Str.{is_utf8}
use Rattle.resp_args.specs.Convert.{utf8}

pub utf8-text : (t : String Global) (b : List ℕ) → string_bytes t ≡ b → utf8 b ≡ Some (string_bytes t)
utf8-text t b e = rw (← e, is_utf8-from_IsUtf8 (string_bytes t) (IsUtf8-string_bytes t)) refl

pub utf8-refused : (b : List ℕ) → (IsUtf8 b → ⊥) → utf8 b ≡ None
utf8-refused b h = at (is_utf8 b) (λ e. h (IsUtf8-from_is_utf8 b e))
  where
    at : (t : Bool) → (t ≡ true → ⊥) → (if t then Some b else None) ≡ None
    at true h' = absurd (h' refl)
    at false h' = refl
