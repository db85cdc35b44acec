-- What is spelled under one limit is spelled under every greater one.
use Rattle.std.proofs.Common.{ℕ, List, ◌≤◌}
use Rattle.std.proofs.Math.Nat.{le_trans}
use Rattle.resp_core.specs.Trees.{Tree, Trees}
use Rattle.resp_core.specs.Grammar.{Spells, SpellsAll, by_line, by_bytes, by_values, none, more}
use Rattle.resp_core.specs.Laws.{SameUnderGreater}

mutual
  under : {limit level : ℕ} {bytes : List ℕ} {t : Tree} (greater : ℕ) → limit ≤ greater → Spells limit level bytes t → Spells greater level bytes t
  under greater h (by_line le o e) = by_line (le_trans le h) o e
  under greater h (by_bytes text le o e len made) = by_bytes text (le_trans le h) o e len made
  under greater h (by_values le o e all first) = by_values (le_trans le h) o e (all_under greater h all) first

  all_under : {limit level n : ℕ} {bytes : List ℕ} {ts : Trees} (greater : ℕ) → limit ≤ greater → SpellsAll limit level n bytes ts → SpellsAll greater level n bytes ts
  all_under greater h none = none
  all_under greater h (more x xs) = more (under greater h x) (all_under greater h xs)

pub same_under_greater : SameUnderGreater
same_under_greater limit greater level bytes t h spells = under greater h spells
