-- The examples of whole commands, by computation.
use Rattle.std.proofs.Common.{◌≡◌, ℕ, List, [], ◌∷◌, Bool, true, false, ◌&&◌, refl, ap, sym, ◌∙◌}
use Rattle.std.specs.Fmt.{digits}
use Rattle.std.specs.Str.{bytes_eq}
use Rattle.stream_commands.specs.Clauses.{Args}
use Rattle.stream_commands.specs.Examples.{words, Writes, XaddWrites, XtrimWrites, XreadWrites, XrangeWrites, XclaimWrites, XautoclaimWrites, XpendingWrites, XinfoWrites, XdelexWrites}

-- argument by argument equal
equal : Args → Args → Bool
equal [] [] = true
equal [] (w ∷ ws) = false
equal (v ∷ vs) [] = false
equal (v ∷ vs) (w ∷ ws) = bytes_eq v w && equal vs ws

written : (args : Args) (line other : List ℕ) → args ≡ words line → equal args args ≡ true → equal args (words other) ≡ false → Writes args line other
written args line other e itself apart = record { right = e; no_other = λ same. let f : true ≡ false = sym itself ∙ ap (equal args) same ∙ apart in cc }

pub xadd_writes : XaddWrites
unfolding equal digits
xadd_writes = (written _ _ _ refl refl refl, written _ _ _ refl refl refl)

pub xtrim_writes : XtrimWrites
unfolding equal digits
xtrim_writes = written _ _ _ refl refl refl

pub xread_writes : XreadWrites
unfolding equal digits
xread_writes = (written _ _ _ refl refl refl, written _ _ _ refl refl refl, written _ _ _ refl refl refl)

pub xrange_writes : XrangeWrites
unfolding equal digits
xrange_writes = written _ _ _ refl refl refl

pub xclaim_writes : XclaimWrites
unfolding equal digits
xclaim_writes = written _ _ _ refl refl refl

pub xautoclaim_writes : XautoclaimWrites
unfolding equal digits
xautoclaim_writes = written _ _ _ refl refl refl

pub xpending_writes : XpendingWrites
unfolding equal digits
xpending_writes = written _ _ _ refl refl refl

pub xinfo_writes : XinfoWrites
unfolding equal digits
xinfo_writes = (written _ _ _ refl refl refl, written _ _ _ refl refl refl, written _ _ _ refl refl refl)

pub xdelex_writes : XdelexWrites
unfolding equal digits
xdelex_writes = (written _ _ _ refl refl refl, written _ _ _ refl refl refl)
