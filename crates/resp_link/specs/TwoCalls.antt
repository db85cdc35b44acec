-- A link call in two: bytes are sent by one call, and their replies are taken by a later one. Between the two the
-- link owes replies, and is not open.
-- Source: documentation of the crate `redis`, `Connection::send_packed_command` and `Connection::recv_response`.
use Rattle.std.specs.Prelude.{◌≡◌, ℕ, ◌+◌, true, false, List, [], ◌∷◌, map, Result, MatchResult, Vec}
use Rattle.std.specs.declared.alloc.Global.{Global}
use Rattle.resp_core.specs.declared.value.Value.{Value}
use Rattle.resp_core.specs.declared.errors.redis_error.RedisError.{RedisError}
use Rattle.resp_core.specs.View.{view}
use Rattle.resp_core.specs.Trees.{Tree}
use Rattle.resp_core.specs.Errors.{Refusal, by_cause}
use Rattle.resp_core.specs.declared.errors.redis_error.Cause.TheVariants.{NoLink, Io}
use Rattle.resp_link.specs.Call.{Seen, SendFails, Fails, CallsMany, at_start, at_end}
use Rattle.resp_link.specs.Sending.{SentAll}
use Rattle.resp_link.specs.Replies.{TakesReplies, LacksReplies}

-- ---- the first call

-- The bytes were sent, and nothing was read: the link owes replies.
pub record ComesToOwe (old new : Seen) (bytes : List ℕ) : Type 0 where
  pub was_open : old.usable ≡ true
  pub closed : new.usable ≡ false
  pub owes : new.owes ≡ true
  pub flushed : new.flushed ≡ true
  pub sent : SentAll old.sent new.sent old.write_counts new.write_counts bytes
  pub unread : new.unread ≡ old.unread
  pub held : new.held ≡ old.held
  pub pushes : new.pushes ≡ old.pushes
  pub counts : new.counts ≡ old.counts
  pub limit : new.limit ≡ old.limit

-- how a refused sending went
pub data SendRefused (old new : Seen) (bytes : List ℕ) (refusal : Refusal) : Type 0 where
  -- the link was not open, and nothing was touched
  closed : old.usable ≡ false → new ≡ old → refusal ≡ by_cause NoLink → SendRefused old new bytes refusal
  sending : SendFails old new bytes → refusal ≡ by_cause Io → SendRefused old new bytes refusal

-- What a sending did: the bytes went out and were flushed, nothing was read, and the link owes replies; or it
-- was refused: the link was not open and nothing was touched, or a write or flush failed behind a front of the
-- bytes, and the link is closed and owes nothing.
abbrev pub Sends : {T : Type 0} → Seen → Seen → List ℕ → Result T RedisError → Type 0
Sends old new bytes result = MatchResult result (λ _. ComesToOwe old new bytes)
    (λ e. SendRefused old new bytes e)

-- ---- the later call

-- nothing was written
pub record StaysSent (old new : Seen) : Type 0 where
  pub sent : new.sent ≡ old.sent
  pub write_counts : new.write_counts ≡ old.write_counts
  pub flushed : new.flushed ≡ old.flushed

-- Behind `offset` dropped replies, `count` that were owed were taken; the link is open again.
pub record TakesOwed (old new : Seen) (offset count : ℕ) (replies : List Tree) : Type 0 where
  pub owed : old.owes ≡ true
  pub usable : new.usable ≡ true
  pub owes : new.owes ≡ false
  pub writes : StaysSent old new
  pub allowed : ℕ
  pub takes : TakesReplies (at_start old) (at_end new allowed) old.pushes new.pushes offset count replies

-- Fewer replies than wanted were taken, and the link is closed.
pub record LacksOwed (old new : Seen) (wanted : ℕ) (refusal : Refusal) : Type 0 where
  pub owed : old.owes ≡ true
  pub closed : new.usable ≡ false
  pub owes : new.owes ≡ false
  pub writes : StaysSent old new
  pub limit : new.limit ≡ old.limit
  pub lacks : LacksReplies (at_start old) new.unread new.counts old.pushes new.pushes wanted refusal

-- how a refused taking went
pub data ReceiveRefused (old new : Seen) (wanted : ℕ) (refusal : Refusal) : Type 0 where
  -- the link owed nothing, and nothing was touched
  nothing_owed : old.owes ≡ false → new ≡ old → refusal ≡ by_cause NoLink
      → ReceiveRefused old new wanted refusal
  receiving : LacksOwed old new wanted refusal → ReceiveRefused old new wanted refusal

-- a taking of the owed replies behind `offset` others did what these say
abbrev pub ReceivesMany : Seen → Seen → ℕ → ℕ → Result (Vec Value Global) RedisError → Type 0
ReceivesMany old new offset count result = MatchResult result
    (λ replies. TakesOwed old new offset count (map view replies.items))
    (λ e. ReceiveRefused old new (offset + count) e)

-- a taking of the one owed reply did what these say
abbrev pub ReceivesOne : Seen → Seen → Result Value RedisError → Type 0
ReceivesOne old new result = MatchResult result
    (λ reply. TakesOwed old new 0 1 (view reply ∷ []))
    (λ e. ReceiveRefused old new 1 e)

-- What a taking of owed replies did: nothing was written, the replies are the answer, and the link is open
-- again; or it was refused: the link owed nothing and nothing was touched, or fewer replies came than wanted,
-- and the link is closed and owes nothing.
abbrev pub Receives : Seen → Seen → ℕ → Result (Vec Value Global) RedisError → Type 0
Receives old new count result = MatchResult result
    (λ replies. TakesOwed old new 0 count (map view replies.items))
    (λ e. ReceiveRefused old new count e)

-- ---- both together are one call

-- What was sent by the first and taken by the later one is what a call sends and takes, and is refused alike.
abbrev pub TwoCallsAreOne : Type 0
TwoCallsAreOne = (old mid new : Seen) (bytes : List ℕ) (count : ℕ) (result : Result (Vec Value Global) RedisError)
    → ComesToOwe old mid bytes → Receives mid new count result → CallsMany old new bytes 0 count result

-- a sending that is refused is a refused call
abbrev pub RefusedSendsAreRefusedCalls : Type 0
RefusedSendsAreRefusedCalls = (old new : Seen) (bytes : List ℕ) (wanted : ℕ) (refusal : Refusal)
    → SendRefused old new bytes refusal → Fails old new bytes wanted refusal
