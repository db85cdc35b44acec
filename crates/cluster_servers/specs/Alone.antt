-- A batch of guests' commands of which each is asked by itself, one after another, so that its redirects are
-- followed.
use Rattle.std.specs.Prelude.{◌≡◌, ◌≢◌, ℕ, Bool, List, [], ◌∷◌, None, Result, Err}
use Rattle.resp_core.specs.Trees.{Tree}
use Rattle.resp_core.specs.Errors.{Refusal, by_cause}
use Rattle.resp_core.specs.declared.errors.redis_error.Cause.TheVariants.{Memory}
use Rattle.cluster_calls.specs.Calls.Call.{Query}
use Rattle.cluster_calls.specs.Links.Converted.{value_answer}
use Rattle.cluster_calls.specs.Links.Happened.{CallMade, Happened}
use Rattle.cluster_calls.specs.Links.World.{World}
use Rattle.proxy_core.specs.declared.outcome.Outcome.{Outcome}
use Rattle.cluster_servers.specs.declared.command.GuestCommand.{GuestCommand}
use Rattle.cluster_servers.specs.declared.reply.Reply.{Reply}
use Rattle.cluster_servers.specs.Fates.{fate_alone}
use Rattle.cluster_servers.specs.Replies.{IsReplyTo}

-- the command was asked by a query, whose result this is, and the proxy was told
pub record IsAskedAlone (patient : Bool) (old new : World) (command : GuestCommand)
    (outcome : Outcome Reply) : Type 0 where
  pub result : Result Tree Refusal
  pub happened : Happened None old new (Query command.command 0)
  pub made : result ≢ Err (by_cause Memory)
      → CallMade None old new (Query command.command 0) (value_answer result)
  pub fate : outcome.fate ≡ fate_alone patient new.log result
  pub reply : IsReplyTo command.protocol result outcome.reply

-- one after another
abbrev pub AreAskedAlone : Bool → World → World → List (ℕ × GuestCommand) → List (Outcome Reply) → Type 0
AreAskedAlone patient old new [] [] = new ≡ old
AreAskedAlone patient old new (b ∷ batch) (outcome ∷ outcomes) = (between : World)
    × IsAskedAlone patient old between b.1 outcome × AreAskedAlone patient between new batch outcomes
AreAskedAlone patient old new _ _ = ⊥
