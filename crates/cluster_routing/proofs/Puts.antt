-- Ranges put in one after another.
use Rattle.std.proofs.Common.{◌≡◌, List, [], ◌∷◌, ◌++◌, refl}
use Rattle.cluster_routing.specs.Ranges.{put}
use Rattle.cluster_routing.specs.SlotMap.{SlotEntries, Range, entry_of, put_all}

pub put_all-push : (entries : SlotEntries) (rs : List Range) (r : Range) → put_all entries (rs ++ r ∷ []) ≡ put (put_all entries rs) (entry_of r)
put_all-push entries [] r = refl
put_all-push entries (q ∷ rs) r = put_all-push (put entries (entry_of q)) rs r
