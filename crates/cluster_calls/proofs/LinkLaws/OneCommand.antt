-- A call of which nothing was sent.
use Rattle.std.specs.Prelude.{◌&&◌, not}
use Rattle.std.proofs.Common.{◌≡◌, ◌≢◌, Bool, true, false, List, [], Option, refl, sym, ◌∙◌, Result, Err, arith}
use Rattle.std.proofs.lemmas.Bool.{false≢true}
use Rattle.resp_core.specs.Errors.{Refusal, by_cause}
use Rattle.resp_core.specs.declared.errors.redis_error.Cause.TheVariants.{Memory}
use Rattle.cluster_routing.specs.Address.{Address}
use Rattle.cluster_routing.specs.Choice.{Strategy}
use Rattle.cluster_routing.specs.Split.{has_split_word}
use Rattle.cluster_calls.specs.Links.Request.{Request}
use Rattle.cluster_calls.specs.Links.World.{World}
use Rattle.cluster_calls.specs.Links.Nodes.{link_calls}
use Rattle.cluster_calls.specs.Links.Happened.{client_of, is_refresh, Answered, Happened, CallMade}
use Rattle.cluster_calls.specs.Links.Converted.{ReplyMade}
use Rattle.cluster_calls.specs.Links.Run.{with_log}
use Rattle.cluster_calls.specs.Calls.Call.{Call}
use Rattle.cluster_calls.specs.Calls.Task.{Task, slot_map_of, one_command, pipeline_of, positions_of, several_nodes, one_node, read_of, task_of, transaction_of}
use Rattle.cluster_calls.specs.Calls.Plan.{plan}
use Rattle.cluster_calls.specs.Calls.Picks.{ArePicks}
use Rattle.cluster_calls.specs.Calls.Answer.{Answer}
use Rattle.cluster_calls.specs.Calls.OneReply.{has_reply}
use Rattle.cluster_calls.specs.Calls.OneSlot.{args_of}
use Rattle.cluster_calls.specs.Calls.Transactions.{size}
use Rattle.cluster_calls.proofs.LinkLaws.LinkCalls.{AreLinkCalls}
use Rattle.cluster_calls.proofs.LinkLaws.MovedLaws.{answered_plain}
use Rattle.cluster_calls.proofs.LinkLaws.PlainAnswers.{refused_answer}
use Rattle.cluster_calls.proofs.LinkLaws.Played.{call_made}
use Rattle.cluster_calls.proofs.Lists.{or_none}
use Rattle.cluster_calls.proofs.LogLaws.ExecAnswers.{none_unanswered}
use Rattle.cluster_calls.proofs.LogLaws.Sizes.{in_sizes_are}

-- the world stays, but for its log, which is empty, and its picks
pub record Untouched (old new : World) : Type 0 where
  pub nodes : new.nodes ≡ old.nodes
  pub log : new.log ≡ []
  pub entries : new.entries ≡ old.entries
  pub settings : new.settings ≡ old.settings
  pub flag : new.needs_refresh ≡ old.needs_refresh

-- the world with another empty log and picks that are none
pub relogged : (old : World) (log : List Request) (picked : List Address) → log ≡ [] → picked ≡ [] → with_log old log picked ≡ with_log old [] []
relogged old log picked e f = λ i. with_log old (e i) (f i)

-- a world whose log was emptied, and whose picks are these
pub relogged_untouched : (old new : World) (picks : List Address) → new ≡ with_log old [] picks → Untouched old new
relogged_untouched old new picks e = rw e (record { nodes = refl; log = refl; entries = refl; settings = refl; flag = refl })

-- no requests are no link calls, and have no reply
pub nothing_of : (task : Task) → ([] ≡ link_calls task []) × AreLinkCalls task [] × (has_reply task [] ≡ false)
nothing_of (slot_map_of node) = (refl, tt, refl)
nothing_of (one_command command number order) = (refl, tt, none_of (not (has_split_word command.args)))
  where
    none_of : (b : Bool) → (b && false) ≡ false
    none_of true = refl
    none_of false = refl
nothing_of (pipeline_of entries) = (refl, tt, refl)
nothing_of (positions_of entries) = (refl, tt, refl)
nothing_of (several_nodes command) = (refl, tt, refl)
nothing_of (one_node node command) = (refl, tt, refl)
nothing_of (transaction_of commands) = (sym (in_sizes_are (size (args_of commands)) [] (omega arith) tt), tt, none_unanswered (args_of commands))
nothing_of (read_of options streams) = (refl, tt, refl)

-- of a call that sent nothing no reply is there
pub no_reply : (task : Task) → has_reply task [] ≡ false
no_reply task = (nothing_of task).2

abbrev pub nothing_happened : (strategy : Option Strategy) (old new : World) (call : Call) → Untouched old new → Happened strategy old new call
nothing_happened strategy old new call u = record {
  events = [];
  runs = u.nodes;
  stops = λ e. tt;
  logged = u.log;
  calls = λ node. (nothing_of (task_of call)).0;
  picks = λ some. absurd (some u.log);
  begins = λ some place. absurd (some u.log);
  settings = u.settings;
  map_stays = λ n. u.entries;
  flag = λ n. u.flag ∙ sym (or_none old.needs_refresh);
}

-- memory was refused before anything was sent
pub not_begun : (strategy : Option Strategy) (old new : World) (call : Call) → Untouched old new → new.picked ≡ [] → CallMade strategy old new call (Err (by_cause Memory))
not_begun strategy old new call u none =
    call_made strategy old new call (Err (by_cause Memory)) (nothing_happened strategy old new call u) (λ m. absurd (m refl)) (λ e r. record { entries = u.entries; flag = u.flag }) (λ e l. none)
    (λ e some. absurd (some u.log))

abbrev pub refused_by : Refusal → Result Answer Refusal
refused_by e = Err e

-- what is answered where a check before sending was not met
pub unsent_answered : (strategy : Option Strategy) (old new : World) (call : Call) (refusal : Refusal) → is_refresh call ≡ false → (u : Untouched old new)
    → (refused_by refusal ≢ Err (by_cause Memory) → (plan (client_of old) new.picked call ≡ Err refusal) × ArePicks strategy (client_of old) call new.picked) → refused_by refusal ≢ Err (by_cause Memory)
    → Answered strategy old new call [] (Err refusal)
unsent_answered strategy old new call refusal n u why m =
    let told = why m in
    answered_plain strategy old new call (Err refusal) (nothing_happened strategy old new call u) n (nothing_of (task_of call)).1 (λ e. refl) u.log told.1 (λ place. rw told.0 refl)
    (λ faults agrees place. refused_answer (client_of old) new.picked faults call [] refusal (rw told.0 refl))

-- a check before sending was not met, or memory was refused before anything was sent
pub not_sent : (strategy : Option Strategy) (old new : World) (call : Call) (refusal : Refusal) → is_refresh call ≡ false → Untouched old new → new.picked ≡ []
    → (refused_by refusal ≢ Err (by_cause Memory) → (plan (client_of old) new.picked call ≡ Err refusal) × ArePicks strategy (client_of old) call new.picked) → CallMade strategy old new call (Err refusal)
not_sent strategy old new call refusal n u none why =
    call_made strategy old new call (Err refusal) (nothing_happened strategy old new call u) (unsent_answered strategy old new call refusal n u why) (λ e r. absurd (false≢true (sym n ∙ r))) (λ e l. none)
    (λ e some. absurd (some u.log))

-- ---- the same of a call that is told by its reply

pub reply_not_begun : (strategy : Option Strategy) (old new : World) (call : Call) → Untouched old new → new.picked ≡ [] → ReplyMade strategy old new call (Err (by_cause Memory))
unfolding not_begun call_made
reply_not_begun strategy old new call u none = record { made = not_begun strategy old new call u none; missing = λ lacks place. no_reply (task_of call) }

pub reply_not_sent : (strategy : Option Strategy) (old new : World) (call : Call) (refusal : Refusal) → is_refresh call ≡ false → Untouched old new → new.picked ≡ []
    → (refused_by refusal ≢ Err (by_cause Memory) → (plan (client_of old) new.picked call ≡ Err refusal) × ArePicks strategy (client_of old) call new.picked) → ReplyMade strategy old new call (Err refusal)
unfolding not_sent call_made
reply_not_sent strategy old new call refusal n u none why = record { made = not_sent strategy old new call refusal n u none why; missing = λ lacks place. no_reply (task_of call) }
