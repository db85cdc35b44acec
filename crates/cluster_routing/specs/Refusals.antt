-- What a reading of an address answers.
use Rattle.std.specs.Prelude.{◌≡◌, Option, Some, None, Result, Ok, Err, IsSome}
use Rattle.resp_core.specs.declared.errors.redis_error.Cause.TheVariants.{UnreadableAddress, Memory}
use Rattle.resp_core.specs.Errors.{Refusal, by_cause}
use Rattle.cluster_routing.specs.Address.{Address}
use Rattle.cluster_routing.specs.Seen.{address}
use Rattle.cluster_routing.specs.declared.address.NodeAddress.{NodeAddress}

-- the refusal of a text that spells no address; memory is refused for one that spells an address alone
abbrev pub IsUnread : Option Address → Refusal → Type 0
IsUnread read (by_cause UnreadableAddress) = read ≡ None
IsUnread read (by_cause Memory) = IsSome read
IsUnread read _ = ⊥

-- what reading the address that a text spells answers: the text is cut at its last colon
abbrev pub Reads : Option Address → Result NodeAddress Refusal → Type 0
Reads read (Ok a) = read ≡ Some (address a)
Reads read (Err e) = IsUnread read e
