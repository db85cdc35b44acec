-- A batch of guests' commands that goes out as one pipeline.
use Rattle.std.specs.Prelude.{◌≡◌, ℕ, false, List, [], ◌∷◌, map, None, Result, Ok, ⊤}
use Rattle.resp_core.specs.Trees.{Tree}
use Rattle.resp_core.specs.Errors.{Refusal}
use Rattle.resp_core.specs.declared.value.Value.{Value}
use Rattle.resp_core.specs.declared.value.write.Protocol.{Protocol}
use Rattle.resp_core.specs.View.{view}
use Rattle.cluster_calls.specs.Calls.Call.{Entry}
use Rattle.cluster_calls.specs.Calls.Each.{fate_of}
use Rattle.cluster_calls.specs.Links.EachMade.{EachMade}
use Rattle.cluster_calls.specs.Links.World.{World, tree_result}
use Rattle.proxy_core.specs.declared.outcome.Outcome.{Outcome}
use Rattle.proxy_core.specs.declared.servers.Waiting.{Waiting}
use Rattle.proxy_core.specs.Batch.{batch_of}
use Rattle.cluster_servers.specs.declared.command.GuestCommand.{GuestCommand}
use Rattle.cluster_servers.specs.declared.reply.Reply.{Reply}
use Rattle.cluster_servers.specs.Fates.{fate_by}
use Rattle.cluster_servers.specs.Replies.{IsReplyTo}

-- the commands of a batch, each as a pipeline has it
abbrev pub entry_of : GuestCommand → Entry
entry_of c = record { command = c.command; ignored = false }

abbrev pub entries_of : List (ℕ × GuestCommand) → List Entry
entries_of batch = map (λ (b : ℕ × GuestCommand). entry_of b.1) batch

-- as a pipeline the batch was told this, position by position
abbrev pub GoesTogether : World → World → List (Waiting GuestCommand) → List (Result Value Refusal) → Type 0
GoesTogether old new batch told =
    EachMade None old new (entries_of (batch_of batch)) (Ok (map (tree_result view) told))

-- the outcome of a position, as the proxy is told
pub record IsTold (protocol : Protocol) (told : Result Tree Refusal) (outcome : Outcome Reply) : Type 0 where
  pub fate : outcome.fate ≡ fate_by (fate_of told)
  pub reply : IsReplyTo protocol told outcome.reply

-- position by position
abbrev pub AreTold : List (ℕ × GuestCommand) → List (Result Tree Refusal) → List (Outcome Reply) → Type 0
AreTold [] [] [] = ⊤
AreTold (b ∷ batch) (told ∷ more) (outcome ∷ outcomes) =
    IsTold b.1.protocol told outcome × AreTold batch more outcomes
AreTold _ _ _ = ⊥

-- the batch was asked as a pipeline that tells of each position, and each was told
pub record AskedTogether (old new : World) (batch : List (ℕ × GuestCommand))
    (outcomes : List (Outcome Reply)) : Type 0 where
  pub told : List (Result Tree Refusal)
  pub made : EachMade None old new (entries_of batch) (Ok told)
  pub each : AreTold batch told outcomes
