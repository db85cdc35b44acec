-- A call over devices that promise to refuse none.
use Rattle.std.specs.Prelude.{◌≡◌, ℕ, ◌^◌, ◌≤◌, false, List, length}
use Rattle.std.specs.Io.KnownBytes.{Consumes, IsAtEnd}
use Rattle.resp_core.specs.Counts.{counted}
use Rattle.resp_core.specs.Errors.{Refusal, by_cause}
use Rattle.resp_core.specs.Promise.{refuses_none}
use Rattle.resp_core.specs.Standing.{BeginsFaulty}
use Rattle.resp_core.specs.declared.errors.redis_error.Cause.TheVariants.{NoLink, Io, Parse, Memory}
use Rattle.resp_link.specs.Call.{Seen, Fails}

-- Why a call is refused whose devices keep this promise: the link was closed; a write found no room in
-- memory; the bytes ended; 2^32 reads gave as many bytes or more, and too few; the bytes are faulty; or
-- memory was refused.
pub data WhyRefused (old new : Seen) (refusal : Refusal) : Type 0 where
  was_closed : old.usable ≡ false → new ≡ old → refusal ≡ by_cause NoLink → WhyRefused old new refusal
  no_room_to_write : new.write_counts.no_room ≡ counted old.write_counts.no_room → refusal ≡ by_cause Io
      → WhyRefused old new refusal
  bytes_ended : IsAtEnd new.unread → refusal ≡ by_cause Io → WhyRefused old new refusal
  reads_ran_out : (got : List ℕ) → Consumes old.unread new.unread got → 2 ^ 32 ≤ length got
      → refusal ≡ by_cause Io → WhyRefused old new refusal
  bytes_faulty : (held : List ℕ) → BeginsFaulty old.limit held → refusal ≡ by_cause Parse
      → WhyRefused old new refusal
  no_memory : refusal ≡ by_cause Memory → WhyRefused old new refusal

-- Over devices that promise to refuse none a call is refused only where the link was closed, a write found no
-- room, the bytes end, 2^32 reads gave too few of them, the bytes are faulty, or memory was refused.
abbrev pub FaultsHaveACause : Type 0
FaultsHaveACause = (old new : Seen) (bytes : List ℕ) (wanted : ℕ) (refusal : Refusal)
    → old.counts.promise ≡ refuses_none → old.write_counts.promise ≡ refuses_none
    → Fails old new bytes wanted refusal → WhyRefused old new refusal
