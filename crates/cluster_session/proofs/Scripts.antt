-- What a line adds to a script.
use Rattle.std.proofs.Common.{◌≡◌, ℕ, suc, ◌+◌, ◌-◌, ◌<◌, Bool, true, false, ◌||◌, List, [], ◌∷◌, ◌++◌, length, get_or, take, drop, drop-cons, Option, Some, None, is_some, option_map, if◌then◌else◌, unwrap_or, ok_or, Result, Err, refl, ap, sym, subst, ◌∙◌, add-one}
use Rattle.std.specs.Borrow.{Bor}
use Rattle.std.specs.List.{list_any}
use Rattle.std.specs.Str.{IsUtf8, is_utf8}
use Rattle.std.proofs.lemmas.Str.{is_utf8-from_IsUtf8, IsUtf8-from_is_utf8}
use Rattle.std.proofs.lemmas.List.{take_rest}
use Rattle.resp_args.specs.Command.{Command}
use Rattle.cluster_calls.specs.Calls.Call.{Entry}
use Rattle.cluster_calls.specs.Links.Building.{ignoring, with_last}
use Rattle.cluster_session.specs.Lines.{Meaning, Words, is_skipped, said_by_text}
use Rattle.cluster_session.specs.LinesRead.{words_in}
use Rattle.cluster_session.specs.Script.{Draft, add_inside, add_outside, add_to, add_unpiped, add_line, add_lines, add_said, and_then, is_run, nothing_yet, said_by_line}
use Rattle.cluster_session.specs.ScriptRead.{Makes}
use Rattle.cluster_session.specs.declared.session.lines.LineError.{LineError}
use Rattle.cluster_session.specs.declared.session.lines.LineError.TheVariants.{Bad}

-- a line ends a pipeline
pub any_words : (lines : List (Bor (List ℕ))) → list_any is_run (words_in lines) ≡ list_any (λ line. is_run line.now) lines
any_words [] = refl
any_words (l ∷ ls) = ap (λ b. is_run l.now || b) (any_words ls)

-- the reply of the last command is left out
pub last_is_ignored : (xs : List Entry) (e : Entry) → with_last ignoring (xs ++ e ∷ []) ≡ xs ++ ignoring e ∷ []
last_is_ignored [] e = refl
last_is_ignored (x ∷ []) e = refl
last_is_ignored (x ∷ y ∷ xs) e = ap (λ l. x ∷ l) (last_is_ignored (y ∷ xs) e)

-- inside a pipeline, and outside one
pub said_inside : (inside : Option (List Entry)) (later : Words) (said : Meaning) (draft : Draft) → is_some inside ≡ true → add_said inside later said draft ≡ add_inside (unwrap_or inside []) said draft
said_inside None later said draft e = cc
said_inside (Some entries) later said draft e = refl

pub said_outside : (inside : Option (List Entry)) (later : Words) (said : Meaning) (draft : Draft) → is_some inside ≡ false → add_said inside later said draft ≡ add_unpiped draft.transaction later said draft
said_outside None later said draft e = refl
said_outside (Some entries) later said draft e = cc

-- inside a transaction, and outside one
pub said_to : (inside : Option (List Command)) (later : Words) (said : Meaning) (draft : Draft) → is_some inside ≡ true → add_unpiped inside later said draft ≡ add_to (unwrap_or inside []) said draft
said_to None later said draft e = cc
said_to (Some commands) later said draft e = refl

pub said_unpiped : (inside : Option (List Command)) (later : Words) (said : Meaning) (draft : Draft) → is_some inside ≡ false → add_unpiped inside later said draft ≡ add_outside later said draft
said_unpiped None later said draft e = refl
said_unpiped (Some commands) later said draft e = cc

-- ---- a line that is not skipped

pub said_by_utf8 : (line : List ℕ) (said : Meaning) → is_skipped line ≡ false → IsUtf8 line → said_by_text line ≡ Some said → said_by_line line ≡ Some (Some said)
said_by_utf8 line said stays utf8 says = rw (stays, is_utf8-from_IsUtf8 line utf8, says) refl

pub said_by_no_utf8 : (line : List ℕ) → is_skipped line ≡ false → ¬ (IsUtf8 line) → said_by_line line ≡ None
said_by_no_utf8 line stays refused = rw stays (by (is_utf8 line) (λ e. refused (IsUtf8-from_is_utf8 line e)))
  where
    by : (b : Bool) → (b ≡ true → ⊥) → (if b then option_map Some (said_by_text line) else None) ≡ None
    by true never = absurd (never refl)
    by false never = refl

-- ---- the lines one after another

-- the lines from one on: it, and those behind it
lines_from : (lines : List (Bor (List ℕ))) (i : ℕ) (d : Bor (List ℕ)) → i < length lines → words_in (drop i lines) ≡ (get_or lines i d).now ∷ words_in (drop (i + 1) lines)
lines_from lines i d lt = ap words_in (drop-cons lines i d lt) ∙ ap (λ k. (get_or lines i d).now ∷ words_in (drop k lines)) (sym (add-one i))

-- what the slice behind a line is
abbrev behind : List (Bor (List ℕ)) → ℕ → List (Bor (List ℕ))
behind lines i = take (length lines - (i + 1)) (drop (i + 1) lines)

-- what a refused line says of it
abbrev pub IsBad : Option Draft → LineError → Type 0
IsBad said e = Makes {T = ℕ} said nothing_yet (Err e)

pub bad_line : (lines : List (Bor (List ℕ))) (i : ℕ) (d : Bor (List ℕ)) (draft : Draft) (all : Result Draft ℕ) (e : LineError) → i < length lines
    → add_lines (suc i) (words_in (drop i lines)) draft ≡ all → e ≡ Bad → IsBad (add_line (words_in (behind lines i)) (get_or lines i d).now draft) e → all ≡ Err (i + 1)
bad_line lines i d draft all e lt so_far is_bad made =
    let bad : add_line (words_in (behind lines i)) (get_or lines i d).now draft ≡ None = subst (λ e. IsBad (add_line (words_in (behind lines i)) (get_or lines i d).now draft) e) is_bad made in
    let line : add_line (words_in (drop (i + 1) lines)) (get_or lines i d).now draft ≡ None = rw (sym (take_rest lines (i + 1))) bad in
    sym so_far ∙ ap (λ ws. add_lines (suc i) ws draft) (lines_from lines i d lt)
    ∙ ap (λ o. and_then (λ next. add_lines (suc (suc i)) (words_in (drop (i + 1) lines)) next) (ok_or o (suc i))) line ∙ ap (λ n. Err n) (sym (add-one i))

pub next_line : (lines : List (Bor (List ℕ))) (i : ℕ) (d : Bor (List ℕ)) (draft next : Draft) (all : Result Draft ℕ) → i < length lines
    → add_lines (suc i) (words_in (drop i lines)) draft ≡ all → add_line (words_in (behind lines i)) (get_or lines i d).now draft ≡ Some next
    → add_lines (suc (i + 1)) (words_in (drop (i + 1) lines)) next ≡ all
next_line lines i d draft next all lt so_far good =
    let line : add_line (words_in (drop (i + 1) lines)) (get_or lines i d).now draft ≡ Some next = rw (sym (take_rest lines (i + 1))) good in
    ap (λ n. add_lines (suc n) (words_in (drop (i + 1) lines)) next) (add-one i)
    ∙ sym (ap (λ o. and_then (λ next. add_lines (suc (suc i)) (words_in (drop (i + 1) lines)) next) (ok_or o (suc i))) line)
    ∙ sym (ap (λ ws. add_lines (suc i) ws draft) (lines_from lines i d lt)) ∙ so_far
