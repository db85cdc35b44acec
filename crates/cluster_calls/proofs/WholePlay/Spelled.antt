-- Texts of replies, and the values that they spell, by reading them.
use Rattle.std.proofs.Common.{◌≡◌, ◌≤◌, ℕ, IsTrue, List, [], ◌∷◌, filter, length, Ok, refl}
use Rattle.resp_core.specs.Incoming.{SpelledInOrder}
use Rattle.resp_core.specs.Reading.{value_at}
use Rattle.resp_core.specs.Trees.{Tree}
use Rattle.resp_core.proofs.Fronts.{begins_with}
use Rattle.resp_link.specs.Replies.{is_push, replies_of, ends_in_reply}
use Rattle.cluster_calls.proofs.WholePlay.LinksEnd.{IsOneRead}

spells_one : (got : List ℕ) (t : Tree) → value_at 100 got ≡ Ok (t, []) → SpelledInOrder 100 got (t ∷ [])
spells_one got t e = let b = begins_with 100 got t [] e in (b.0, [], b.2, b.1, refl)

spells_two : (got rest : List ℕ) (t u : Tree) → value_at 100 got ≡ Ok (t, rest) → value_at 100 rest ≡ Ok (u, []) → SpelledInOrder 100 got (t ∷ u ∷ [])
spells_two got rest t u e f = let b = begins_with 100 got t rest e in (b.0, rest, b.2, b.1, spells_one rest u f)

spells_three : (got second third : List ℕ) (t u v : Tree) → value_at 100 got ≡ Ok (t, second) → value_at 100 second ≡ Ok (u, third) → value_at 100 third ≡ Ok (v, []) → SpelledInOrder 100 got (t ∷ u ∷ v ∷ [])
spells_three got second third t u v e f g = let b = begins_with 100 got t second e in (b.0, second, b.2, b.1, spells_two second third u v f g)

-- a text that is short enough for one read, and values without a push
abbrev pub FitsRead : List ℕ → List Tree → Type 0
FitsRead got trees = (1 ≤ length got) × (length got ≤ 4096) × (filter is_push trees ≡ []) × (replies_of trees ≡ trees) × IsTrue (ends_in_reply trees)

reads : (got : List ℕ) (trees : List Tree) → SpelledInOrder 100 got trees → FitsRead got trees → IsOneRead got trees
reads got trees spells fits = record { spells = spells; some = fits.0; few = fits.1; none = fits.2; all = fits.3; settled = fits.4 }

pub reads_one : (got : List ℕ) (t : Tree) → value_at 100 got ≡ Ok (t, []) → FitsRead got (t ∷ []) → IsOneRead got (t ∷ [])
reads_one got t e fits = reads got (t ∷ []) (spells_one got t e) fits

pub reads_two : (got rest : List ℕ) (t u : Tree) → value_at 100 got ≡ Ok (t, rest) → value_at 100 rest ≡ Ok (u, []) → FitsRead got (t ∷ u ∷ []) → IsOneRead got (t ∷ u ∷ [])
reads_two got rest t u e f fits = reads got (t ∷ u ∷ []) (spells_two got rest t u e f) fits

pub reads_three : (got second third : List ℕ) (t u v : Tree) → value_at 100 got ≡ Ok (t, second) → value_at 100 second ≡ Ok (u, third) → value_at 100 third ≡ Ok (v, []) → FitsRead got (t ∷ u ∷ v ∷ []) → IsOneRead got (t ∷ u ∷ v ∷ [])
reads_three got second third t u v e f g fits = reads got (t ∷ u ∷ v ∷ []) (spells_three got second third t u v e f g) fits
