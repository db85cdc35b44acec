-- When a reply to CLUSTER SLOTS is accepted: where it is no error and holds none.
use Rattle.std.specs.Prelude.{◌≡◌, ℕ, List, [], Some, None, Result, Ok, Err}
use Rattle.resp_core.specs.Trees.{Tree, ErrorText}
use Rattle.resp_core.specs.Parts.{first_error}
use Rattle.resp_core.specs.Errors.{Refusal, by_server}
use Rattle.cluster_routing.specs.SlotMap.{SlotEntries, put_all}
use Rattle.cluster_routing.specs.SlotsReply.{ranges}

-- a reply to CLUSTER SLOTS holds no error, and is read as a slot map; or holds one, by which it is refused
abbrev pub IsAccepted : Tree → List ℕ → Result SlotEntries Refusal → Type 0
IsAccepted tree host (Ok entries) = (first_error tree ≡ None) × (entries ≡ put_all [] (ranges tree host))
IsAccepted tree host (Err refusal) = (error : ErrorText) × (first_error tree ≡ Some error)
    × (refusal ≡ by_server error)
