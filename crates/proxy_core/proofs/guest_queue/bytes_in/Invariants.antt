use Rattle.std.proofs.Common.{◌≡◌, ◌+◌, ◌*◌, ◌≤◌, drop}
use Rattle.proxy_core.specs.Guests.{queue_bytes}
use Rattle.proxy_core.proofs.guest_queue.bytes_in.Given as goal

abbrev pub invariant-entries : goal.invariant-entries
invariant-entries g l = record {
  whole : l.sum + queue_bytes g.C.Bytes.bytes g.V.Bytes.bytes (drop l.i l.entries.items) ≡ queue_bytes g.C.Bytes.bytes g.V.Bytes.bytes l.entries.items;
  small : l.sum ≤ l.i * 18446744073709551615;
}
