-- calls over devices that promise to refuse none
use Rattle.std.proofs.Common.{◌≡◌, ℕ, ◌+◌, ◌^◌, ◌≤◌, List, length, subst, inl, inr, arith}
use Rattle.resp_core.specs.Errors.{Refusal, by_cause}
use Rattle.resp_core.specs.Promise.{refuses_none, MayRefuse}
use Rattle.resp_core.specs.Incoming.{Awaits}
use Rattle.resp_core.proofs.GivenReads.{given_in}
use Rattle.resp_link.specs.Call.{Seen, SendFails, ReadFails, Fails, closed, sending, receiving, at_start, at_end}
use Rattle.resp_link.specs.Promised.{WhyRefused, was_closed, no_room_to_write, bytes_ended, reads_ran_out, bytes_faulty, no_memory, FaultsHaveACause}

pub faults_have_a_cause : FaultsHaveACause
faults_have_a_cause old new bytes wanted refusal reads writes (closed was same is) = was_closed was same is
faults_have_a_cause old new bytes wanted refusal reads writes (sending fails is) = elim fails.sent.counted.cause [
  | inl room ↦ no_room_to_write room is
  | inr kept ↦ absurd (subst (λ p. MayRefuse p new.write_counts.writes) writes kept.1)
]
faults_have_a_cause old new bytes wanted refusal reads writes (receiving fails) = elim fails.lacks.ends.ends [
  | inl stops ↦ elim stops.0.cause [
    | inl refused ↦ absurd (subst (λ p. MayRefuse p new.counts.reads) reads refused.1)
    | inr (inl ended) ↦ bytes_ended ended.1 stops.1
    | inr (inr seeks) ↦
        let given = given_in (Awaits old.limit fails.lacks.ends.trees) (at_start old) (record { unread = new.unread; held = fails.lacks.held; counts = new.counts; allowed = fails.lacks.allowed; limit = old.limit }) seeks.0.takes.got seeks.0.needed in
        reads_ran_out seeks.0.takes.got seeks.0.takes.consumed (omega (arith, given.1, given.2.0, seeks.1)) stops.1
  ]
  | inr (inl meets) ↦ bytes_faulty fails.lacks.held meets.0.faulty meets.1
  | inr (inr seeks) ↦ no_memory seeks.1
]
