-- The fate that a proxy is told of a command, by what its call came to. Source: the Redis Cluster
-- specification, in which a node that answers MOVED or ASK does not serve the command.
use Rattle.std.specs.Prelude.{Bool, cond, List, [], ◌∷◌, Option, Some, None, Result, Ok, Err}
use Rattle.resp_core.specs.Trees.{Tree}
use Rattle.resp_core.specs.Errors.{Refusal, cause_of}
use Rattle.resp_core.specs.declared.errors.redis_error.Cause.{Cause}
use Rattle.resp_core.specs.declared.errors.redis_error.Cause.TheVariants.{NoNode, NoLink, Memory}
use Rattle.cluster_calls.specs.Calls.Each.{answered, redirected, lost}
use Rattle.cluster_calls.specs.Calls.Each as told
use Rattle.cluster_calls.specs.Links.Request.{Request}
use Rattle.proxy_core.specs.declared.outcome.Fate.{Fate}
use Rattle.proxy_core.specs.declared.outcome.Fate.TheVariants as fates

-- of a position of a pipeline
abbrev pub fate_by : told.Fate → Fate
fate_by answered = fates.Answered
fate_by redirected = fates.Redirected
fate_by lost = fates.Lost

-- of a command of which nothing was sent: where its node, a link or memory may yet come it waits, if the proxy
-- is patient; else its guest is told
abbrev pub unsent_fate : Bool → Option Cause → Fate
unsent_fate patient (Some NoNode) = cond patient fates.NotAsked fates.Answered
unsent_fate patient (Some NoLink) = cond patient fates.NotAsked fates.Answered
unsent_fate patient (Some Memory) = cond patient fates.NotAsked fates.Answered
unsent_fate patient _ = fates.Answered

-- of a command of which something was sent, and that was refused: by a server, or it may have been done
abbrev pub sent_fate : Option Cause → Fate
sent_fate None = fates.Answered
sent_fate (Some cause) = fates.Lost

abbrev pub refused_fate : Bool → List Request → Option Cause → Fate
refused_fate patient [] cause = unsent_fate patient cause
refused_fate patient (request ∷ log) cause = sent_fate cause

-- of a command that was asked by itself, by its requests
abbrev pub fate_alone : Bool → List Request → Result Tree Refusal → Fate
fate_alone patient log (Ok tree) = fates.Answered
fate_alone patient log (Err refusal) = refused_fate patient log (cause_of refusal)
