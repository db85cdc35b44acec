-- What a conversion makes of a reply: a refusal of its own, or want of memory.
use Rattle.std.proofs.Common.{◌≡◌, ◌≢◌, Option, [], refl, inl, inr, ap, Result, Ok, Err}
use Rattle.resp_core.specs.Trees.{Tree}
use Rattle.resp_core.specs.Errors.{Refusal, Unreadable, by_cause, refused, no_memory, unread}
use Rattle.resp_core.specs.declared.errors.redis_error.Cause.TheVariants.{Memory}
use Rattle.resp_args.specs.Convert.{Answers}
use Rattle.cluster_routing.specs.Choice.{Strategy}
use Rattle.cluster_calls.specs.Calls.Answer.{Answer}
use Rattle.cluster_calls.specs.Calls.Call.{Call}
use Rattle.cluster_calls.specs.Links.Converted.{ConvertsTo, value_answer}
use Rattle.cluster_calls.specs.Links.Happened.{CallMade, LacksLate}
use Rattle.cluster_calls.specs.Links.World.{World}
use Rattle.cluster_client.proofs.Ending.{lacks_late}

pub unread_converts : {T M : Type 0} (meaning : T → M) (convert : Tree → Option M) (tree : Tree) (e : Unreadable) → Answers {S = T} meaning (convert tree) (Err e) → ConvertsTo {T = T} meaning convert (Ok tree) (Err (unread e))
unread_converts meaning convert tree (refused text) none = inl (none, refl)
unread_converts meaning convert tree no_memory none = inr refl

-- ---- the call whose reply is converted lacked memory, or its conversion did

module _ {T M : Type 0} (meaning : T → M) (convert : Tree → Option M) (strategy : Option Strategy) (old new : World) (call : Call) where
  pub read_lacks : (reply : Result Tree Refusal) (result : Result T Refusal) → CallMade strategy old new call (value_answer reply) → ConvertsTo meaning convert reply result → result ≡ Err (by_cause Memory) → new.log ≢ [] → LacksLate strategy old new call
  read_lacks (Ok tree) result m converted lacks some = lacks_late m (inr (λ k. cc k)) some
  read_lacks (Err refusal) (Ok value) m converted lacks some = cc lacks
  read_lacks (Err refusal) (Err told) m converted lacks some = let lack : refusal ≡ by_cause Memory = cc (converted, lacks) in lacks_late m (inl (ap Err lack)) some

  -- it picked nothing where nothing was sent
  pub read_unpicked : (reply : Result Tree Refusal) (result : Result T Refusal) → CallMade strategy old new call (value_answer reply) → ((a : Answer) → CallMade strategy old new call (Ok a) → new.log ≡ [] → new.picked ≡ [])
      → ConvertsTo meaning convert reply result → result ≡ Err (by_cause Memory) → new.log ≡ [] → new.picked ≡ []
  read_unpicked (Ok tree) result m answered converted lacks none = answered _ m none
  read_unpicked (Err refusal) (Ok value) m answered converted lacks none = cc lacks
  read_unpicked (Err refusal) (Err told) m answered converted lacks none = let lack : refusal ≡ by_cause Memory = cc (converted, lacks) in m.unpicked (ap Err lack) none
