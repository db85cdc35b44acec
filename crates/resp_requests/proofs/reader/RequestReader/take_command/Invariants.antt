use Rattle.std.proofs.Common.{◌≡◌, ◌-◌, length}
use Rattle.resp_requests.specs.Advancing.{SameStanding}
use Rattle.resp_requests.proofs.reader.RequestReader.take_command.Given as goal

abbrev pub invariant-requests : goal.invariant-requests
invariant-requests l = record {
  standing : SameStanding l.initial.self l.self;
  buffer : l.self.buffer ≡ l.initial.self.buffer;
  told : l.self.fault ≡ l.initial.self.fault;
  limits : l.self.limits ≡ l.initial.self.limits;
}

abbrev pub decreases-requests : goal.decreases-requests
decreases-requests l = length l.self.buffer.items - l.self.front
