-- What the steps of a call come to: a query of one command, and a pipeline that was refused for memory.
use Rattle.std.proofs.Common.{◌≡◌, ◌≢◌, [], Some, None, Result, Ok, Err, refl, sym, ap, subst, inl, inr}
use Rattle.resp_core.specs.Errors.{Refusal, by_cause}
use Rattle.resp_core.specs.Trees.{Tree}
use Rattle.resp_core.specs.View.{view}
use Rattle.resp_core.specs.declared.errors.redis_error.Cause.TheVariants.{Memory}
use Rattle.resp_core.specs.declared.value.Value.{Value}
use Rattle.resp_args.specs.Command.{Command}
use Rattle.cluster_calls.specs.Calls.Call.{Query}
use Rattle.cluster_calls.specs.Links.Converted.{ConvertsTo, ValueMade, value_answer}
use Rattle.cluster_calls.specs.Links.Happened.{CallMade}
use Rattle.cluster_calls.specs.Links.Run.{with_log}
use Rattle.cluster_calls.specs.Links.World.{World, tree_result}
use Rattle.cluster_servers.specs.Asked.{AsksCluster, Cluster}

-- ---- a query

converted : (reply : Result Tree Refusal) (told : Result Value Refusal) → ConvertsTo view (λ t. Some t) reply told → tree_result view told ≢ Err (by_cause Memory) → reply ≡ tree_result view told
converted (Ok tree) (Ok value) e had = cc
converted (Ok tree) (Err refusal) (inl none) had = absurd (let no : ⊥ = cc in no)
converted (Ok tree) (Err refusal) (inr lacks) had = absurd (had (ap Err lacks))
converted (Err refusal) (Ok value) e had = absurd e
converted (Err refusal) (Err other) e had = ap Err (sym e)

pub made_alone : (old new : World) (command : Command) (told : Result Value Refusal) → ValueMade None old new (Query command 0) view (λ t. Some t) told → tree_result view told ≢ Err (by_cause Memory) → CallMade None old new (Query command 0) (value_answer (tree_result view told))
made_alone old new command told v had =
    subst (λ r. CallMade None old new (Query command 0) (value_answer r)) (converted v.reply told v.converted had) v.made.made

-- ---- a pipeline without memory

pub refused_asks : (old new : Cluster) → new.world ≡ with_log old.world [] [] → new.alone ≡ old.alone → new.patient ≡ old.patient → AsksCluster old [] [] new
refused_asks old new stays alone patient = inl (record { world = inr stays; alone = alone; patient = patient; nothing = refl; none = refl })
