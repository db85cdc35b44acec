-- Adding to a command's buffer and table.
use Rattle.std.proofs.Math.Seq.{take-suc}
use Rattle.std.proofs.lemmas.List.{drop-take, take-take}
use Rattle.std.proofs.Common.{zero, suc, get_or, add-one, ◌<◌, ◌≡◌, ℕ, ◌+◌, ◌-◌, ◌≤◌, List, [], ◌∷◌, ◌++◌, length, take, drop, refl, ap, arith, length-append, slice_range}
use Rattle.std.proofs.lemmas.Grind.{common_steps}
use Rattle.resp_args.specs.declared.cmd.Arg.{Arg}
use Rattle.resp_args.specs.declared.cmd.Arg.TheVariants.{Simple, Cursor}
use Rattle.resp_args.specs.Table.{args_from, Ascends, end_of}

-- the ends ascend, so none is below the start
pub Ascends-le : (start : ℕ) (ends : List (Arg ℕ)) (len : ℕ) → Ascends start ends len → start ≤ len
Ascends-le start [] len h = omega arith
Ascends-le start (Simple end ∷ ends) len h = let below : end ≤ len = Ascends-le end ends len h.1 in omega arith
Ascends-le start (Cursor ∷ ends) len h = Ascends-le start ends len h

pub Ascends-push : (buffer arg : List ℕ) (start : ℕ) (ends : List (Arg ℕ)) → Ascends start ends (length buffer) → Ascends start (ends ++ Simple (length buffer + length arg) ∷ []) (length (buffer ++ arg))
Ascends-push buffer arg start [] h = rw length-append (omega arith, refl)
Ascends-push buffer arg start (Simple end ∷ ends) h = (h.0, Ascends-push buffer arg end ends h.1)
Ascends-push buffer arg start (Cursor ∷ ends) h = Ascends-push buffer arg start ends h

pub Ascends-gap : (start : ℕ) (ends : List (Arg ℕ)) (len : ℕ) → Ascends start ends len → Ascends start (ends ++ Cursor ∷ []) len
Ascends-gap start [] len h = h
Ascends-gap start (Simple end ∷ ends) len h = (h.0, Ascends-gap end ends len h.1)
Ascends-gap start (Cursor ∷ ends) len h = Ascends-gap start ends len h

slice_range-append : (xs ys : List ℕ) (i j : ℕ) → j ≤ length xs → slice_range (xs ++ ys) i j ≡ slice_range xs i j
slice_range-append xs ys i j h = grind (arith, common_steps)

slice_range-rest : (xs ys : List ℕ) → slice_range (xs ++ ys) (length xs) (length xs + length ys) ≡ ys
slice_range-rest xs ys = grind (arith, common_steps)

-- more bytes behind the ends change no argument
pub args_from-append : (buffer more : List ℕ) (start : ℕ) (ends : List (Arg ℕ)) → Ascends start ends (length buffer) → args_from (buffer ++ more) start ends ≡ args_from buffer start ends
args_from-append buffer more start [] h = refl
args_from-append buffer more start (Simple end ∷ ends) h =
    let within : end ≤ length buffer = Ascends-le end ends (length buffer) h.1 in
    rw (args_from-append buffer more end ends h.1, slice_range-append buffer more start end within) refl
args_from-append buffer more start (Cursor ∷ ends) h = rw (args_from-append buffer more start ends h) refl

pub args_from-push : (buffer arg : List ℕ) (start : ℕ) (ends : List (Arg ℕ)) → Ascends start ends (length buffer) → args_from (buffer ++ arg) start (ends ++ Simple (length buffer + length arg) ∷ []) ≡ args_from buffer start ends ++ Simple arg ∷ []
args_from-push buffer arg start [] h = rw (h, slice_range-rest buffer arg) refl
args_from-push buffer arg start (Simple end ∷ ends) h =
    let within : end ≤ length buffer = Ascends-le end ends (length buffer) h.1 in
    rw (args_from-push buffer arg end ends h.1, slice_range-append buffer arg start end within) refl
args_from-push buffer arg start (Cursor ∷ ends) h = rw (args_from-push buffer arg start ends h) refl

pub args_from-gap : (buffer : List ℕ) (start : ℕ) (ends : List (Arg ℕ)) → args_from buffer start (ends ++ Cursor ∷ []) ≡ args_from buffer start ends ++ Cursor ∷ []
args_from-gap buffer start [] = refl
args_from-gap buffer start (Simple end ∷ ends) = rw (args_from-gap buffer end ends) refl
args_from-gap buffer start (Cursor ∷ ends) = rw (args_from-gap buffer start ends) refl

pub length-args_from : (buffer : List ℕ) (start : ℕ) (ends : List (Arg ℕ)) → length (args_from buffer start ends) ≡ length ends
length-args_from buffer start [] = refl
length-args_from buffer start (Simple end ∷ ends) = ap suc (length-args_from buffer end ends)
length-args_from buffer start (Cursor ∷ ends) = ap suc (length-args_from buffer start ends)

pub end_of-le : (start : ℕ) (ends : List (Arg ℕ)) (len n : ℕ) → Ascends start ends len → end_of start (take n ends) ≤ len
end_of-le start ends len zero h = Ascends-le start ends len h
end_of-le start [] len (suc n) h = Ascends-le start [] len h
end_of-le start (Simple end ∷ ends) len (suc n) h = end_of-le end ends len n h.1
end_of-le start (Cursor ∷ ends) len (suc n) h = end_of-le start ends len n h

start-le_end_of : (start : ℕ) (ends : List (Arg ℕ)) (len n : ℕ) → Ascends start ends len → start ≤ end_of start (take n ends)
start-le_end_of start ends len zero h = omega arith
start-le_end_of start [] len (suc n) h = omega arith
start-le_end_of start (Simple end ∷ ends) len (suc n) h = let rest : end ≤ end_of end (take n ends) = start-le_end_of end ends len n h.1 in omega (arith, h.0)
start-le_end_of start (Cursor ∷ ends) len (suc n) h = start-le_end_of start ends len n h

pub Ascends-take : (start : ℕ) (ends : List (Arg ℕ)) (len n : ℕ) → Ascends start ends len → Ascends start (take n ends) (end_of start (take n ends))
Ascends-take start ends len zero h = refl
Ascends-take start [] len (suc n) h = refl
Ascends-take start (Simple end ∷ ends) len (suc n) h = (h.0, Ascends-take end ends len n h.1)
Ascends-take start (Cursor ∷ ends) len (suc n) h = Ascends-take start ends len n h

slice_range-take : (xs : List ℕ) (i j m : ℕ) → i ≤ j → j ≤ m → slice_range (take m xs) i j ≡ slice_range xs i j
slice_range-take xs i j m k h =
    let whole : take m xs ≡ take (i + (m - i)) xs = ap (λ n. take n xs) (omega arith) in
    let within : j - i ≤ m - i = omega arith in
    rw (whole, drop-take i (m - i) xs, take-take (j - i) (m - i) (drop i xs) within) refl

pub args_from-take : (buffer : List ℕ) (start : ℕ) (ends : List (Arg ℕ)) (len n m : ℕ) → Ascends start ends len → end_of start (take n ends) ≤ m → args_from (take m buffer) start (take n ends) ≡ take n (args_from buffer start ends)
args_from-take buffer start ends len zero m h k = refl
args_from-take buffer start [] len (suc n) m h k = refl
args_from-take buffer start (Simple end ∷ ends) len (suc n) m h k =
    let within : end ≤ m = omega (arith, start-le_end_of end ends len n h.1, k) in
    rw (slice_range-take buffer start end m h.0 within, args_from-take buffer end ends len n m h.1 k) refl
args_from-take buffer start (Cursor ∷ ends) len (suc n) m h k = rw (args_from-take buffer start ends len n m h k) refl

pub end_of-push : (start : ℕ) (ends : List (Arg ℕ)) (e : Arg ℕ) → end_of start (ends ++ e ∷ []) ≡ end_of (end_of start ends) (e ∷ [])
end_of-push start [] e = refl
end_of-push start (Simple end ∷ ends) e = end_of-push end ends e
end_of-push start (Cursor ∷ ends) e = end_of-push start ends e

pub length_take_at : (n : ℕ) (xs : List ℕ) → n ≤ length xs → length (take n xs) ≡ n
length_take_at n xs h = grind (arith, common_steps)

pub end_of-next : (ends : List (Arg ℕ)) (i : ℕ) (e : Arg ℕ) (d : Arg ℕ) → i < length ends → get_or ends i d ≡ e → end_of 0 (take (i + 1) ends) ≡ end_of (end_of 0 (take i ends)) (e ∷ [])
end_of-next ends i e d lt is = rw (add-one, take-suc ends i d lt, is) (end_of-push 0 (take i ends) e)
