-- Entries are equal where they are shown alike.
use Rattle.std.proofs.Common.{◌≡◌, ℕ, pos, Bool, true, ◌&&◌, nat_eq, List, [], ◌∷◌, map, String, Global, Option, Some, None, option_map, refl, ap, string_bytes}
use Rattle.std.specs.Bool.{Decides}
use Rattle.std.specs.Cmp.{first_so, second_so, unsigned_Decides}
use Rattle.std.specs.Cmp.Lexicographic.{pointwise, bytes_decides}
use Rattle.std.specs.Option.{option_eq}
use Rattle.resp_core.specs.declared.value.Value.{Value}
use Rattle.resp_core.specs.Trees.{Tree}
use Rattle.resp_core.specs.View.{view}
use Rattle.resp_core.proofs.SameValues.{of_both, values_tell}
use Rattle.stream_commands.specs.declared.records.entries.StreamId.{StreamId}
use Rattle.stream_commands.specs.RecordViews.{entry_view}
use Rattle.stream_commands.specs.SameEntries.{same_entry, same_field}

abbrev fields_of : List (String Global × Value) → List (List ℕ × Tree)
fields_of fs = map {B = List ℕ × Tree} (λ f. (string_bytes f.0, view f.1)) fs

abbrev first_or : List ℕ × Tree → List (List ℕ × Tree) → List ℕ × Tree
first_or f [] = f
first_or f (g ∷ gs) = g

abbrev behind : List (List ℕ × Tree) → List (List ℕ × Tree)
behind [] = []
behind (f ∷ fs) = fs

fields_tell : (fs gs : List (String Global × Value)) → Decides (pointwise same_field fs gs) (fields_of fs ≡ fields_of gs)
fields_tell [] [] = (λ h. refl, λ e. refl)
fields_tell [] (g ∷ gs) = (λ h. cc, λ e. cc)
fields_tell (f ∷ fs) [] = (λ h. cc, λ e. cc)
fields_tell (f ∷ fs) (g ∷ gs) =
    let tells = of_both (of_both (bytes_decides (string_bytes f.0) (string_bytes g.0)) (values_tell f.1 g.1)) (fields_tell fs gs) in (
      λ h. let t = tells.0 h in λ i. (t.0.0 i, t.0.1 i) ∷ t.1 i,
      λ e.
          let here : List ℕ × Tree = (string_bytes f.0, view f.1) in
          let name : string_bytes f.0 ≡ string_bytes g.0 = ap (λ l. (first_or here l).0) e in
          let value : view f.1 ≡ view g.1 = ap (λ l. (first_or here l).1) e in
          let later : fields_of fs ≡ fields_of gs = ap behind e in
          tells.1 ((name, value), later),
    )

times_tell : (n m : Option ℕ) → Decides (option_eq nat_eq n m) (option_map pos n ≡ option_map pos m)
times_tell None None = (λ h. refl, λ e. refl)
times_tell None (Some m) = (λ h. cc, λ e. cc)
times_tell (Some n) None = (λ h. cc, λ e. cc)
times_tell (Some n) (Some m) = let tells = unsigned_Decides n m in (λ h. ap (λ k. Some (pos k)) (tells.0 h), λ e. let same : n ≡ m = cc in tells.1 same)

pub entries_tell : (a b : StreamId) → Decides (same_entry a b) (entry_view a ≡ entry_view b)
entries_tell a b =
    let tells = of_both (bytes_decides (string_bytes a.id) (string_bytes b.id)) (of_both (fields_tell a.map.entries b.map.entries)
    (of_both (times_tell a.milliseconds_elapsed_from_delivery b.milliseconds_elapsed_from_delivery) (times_tell a.delivered_count b.delivered_count))) in (
      λ h. let t = tells.0 h in λ i. record { id = t.0 i; fields = t.1.0 i; milliseconds = t.1.1.0 i; deliveries = t.1.1.1 i },
      λ e. tells.1 (ap (λ s. s.id) e, (ap (λ s. s.fields) e, (ap (λ s. s.milliseconds) e, ap (λ s. s.deliveries) e))),
    )
