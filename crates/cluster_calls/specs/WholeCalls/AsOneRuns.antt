-- A transaction of two commands on one key, over honest nodes: on one server it is one operation. Beside it one
-- whose reply is lost, and one that was refused, by which nothing may have been done.
use Rattle.std.specs.Prelude.{true, List, [], ◌∷◌, map, None, Ok, Err, codes, refl}
use Rattle.std.specs.Fmt.{digits}
use Rattle.std.proofs.Common.{lit<}
use Rattle.resp_core.specs.Trees.{Tree, okay, server_error, simple}
use Rattle.resp_core.specs.Errors.{by_cause, by_server, server_kind}
use Rattle.resp_core.specs.Parts.{first_error}
use Rattle.resp_core.specs.declared.errors.redis_error.Cause.TheVariants.{Io}
use Rattle.resp_args.specs.Command.{Command}
use Rattle.cluster_routing.specs.Combine.{array_of}
use Rattle.cluster_routing.specs.Examples.{second_node as n2}
use Rattle.cluster_routing.specs.HashSlot.{hash_slot}
use Rattle.cluster_routing.specs.Lists.{concat}
use Rattle.cluster_routing.specs.Routing.{destination}
use Rattle.cluster_routing.specs.Split.{splitting_of}
use Rattle.cluster_routing.specs.Table.{rule_of, table}
use Rattle.stream_commands.specs.Commands.{plain_command}
use Rattle.cluster_calls.specs.Links.Request.{Request, exec, multi}
use Rattle.cluster_calls.specs.Calls.Answer.{Value}
use Rattle.cluster_calls.specs.Calls.Call.{Transaction}
use Rattle.cluster_calls.specs.OneServer.Operations.{RunAsOne, Reply}
use Rattle.cluster_calls.specs.OneServer.Keyspace.{Step, History}
use Rattle.cluster_calls.specs.OneServer.Meaning.{DoOperation, AreAllowed}
use Rattle.cluster_calls.specs.OneServer.Honest.{HonestRun}
use Rattle.cluster_calls.specs.OneServer.Headline.{PlayedCall, RepliedCall, with_replies, IsPlayedFrom, command_logs, AsOneServer}
use Rattle.cluster_calls.specs.WholeCalls.Base.{on_halves, a_fault, error_text, taken, plain, text}
use Rattle.cluster_calls.specs.WholeCalls.Deeds.{was_done}
use Rattle.cluster_calls.specs.WholeCalls.KeyRuns.{set_a, get_a, slot_a, sets_a, gets_a, meaning, none_done, only_b, a_and_b, put_again}

-- SET a 1 and GET a, as one
abbrev pub commands : List Command
commands = map plain_command (set_a ∷ get_a ∷ [])

abbrev pub requests : List Request
requests = plain n2 multi ∷ plain n2 set_a ∷ plain n2 get_a ∷ plain n2 exec ∷ []

abbrev pub queued : Tree
queued = simple (codes "QUEUED")

abbrev pub ran : Tree
ran = array_of (okay ∷ text (codes "1") ∷ [])

-- ---- done, and answered

abbrev pub one_call : List PlayedCall
one_call = record { call = Transaction commands; picks = []; answer = Ok (Value ran); log = requests } ∷ []

abbrev pub one_replied : List RepliedCall
one_replied = with_replies (taken [] (okay ∷ queued ∷ queued ∷ ran ∷ [])) one_call

pub it_is_played : IsPlayedFrom None on_halves a_fault one_replied
unfolding destination rule_of table hash_slot splitting_of digits first_error
it_is_played = (refl, (refl, refl), refl, tt)

abbrev pub both_steps : List Step
both_steps = sets_a ∷ gets_a ∷ []

pub both_done : DoOperation (RunAsOne (set_a ∷ get_a ∷ [])) both_steps (Reply ran)
unfolding destination rule_of table hash_slot splitting_of digits first_error
both_done = (
  (
    record { deed = refl; slot = refl; response = tt },
    (record { deed = refl; slot = refl; response = tt }, tt),
  ),
  refl,
)

pub both_allowed : AreAllowed meaning both_steps
both_allowed = ((0, lit< tt, refl), ((1, lit< tt, refl), tt))

pub both_lead : History only_b (concat (both_steps ∷ [])) a_and_b
both_lead = (refl, (refl, λ slot. put_again a_and_b slot_a slot))

pub it_is_honest : HonestRun meaning only_b none_done (command_logs one_replied) a_and_b
unfolding destination rule_of table hash_slot splitting_of digits first_error
it_is_honest = (
  both_steps ∷ [],
  (was_done (Reply ran) refl both_done both_allowed, tt),
  both_lead,
)

pub it_is_as_on_one_server : AsOneServer meaning only_b none_done one_replied a_and_b
it_is_as_on_one_server = record {
  responses = (Reply ran ∷ []) ∷ [];
  counts = (refl, tt);
  served = (both_steps ∷ [], ((both_done, both_allowed), tt), both_lead);
  answers = ((ran, refl, refl), tt);
}

-- ---- EXEC's reply is lost, and it was done

abbrev pub lost_replied : List RepliedCall
lost_replied = with_replies (taken [] (okay ∷ queued ∷ queued ∷ []))
    (record { call = Transaction commands; picks = []; answer = Err (by_cause Io); log = requests } ∷ [])

pub a_lost_one_may_have_been_done : HonestRun meaning only_b (λ place. true)
    (command_logs lost_replied) a_and_b
unfolding destination rule_of table hash_slot splitting_of digits first_error
a_lost_one_may_have_been_done = (
  both_steps ∷ [],
  (was_done (Reply ran) tt both_done both_allowed, tt),
  both_lead,
)

-- ---- refused, so that nothing was done

abbrev pub aborted : Tree
aborted = server_error (error_text (codes "EXECABORT") (codes "x"))

abbrev pub refused_replied : List RepliedCall
refused_replied = with_replies (taken [] (okay ∷ queued ∷ aborted ∷ aborted ∷ []))
    (record {
      call = Transaction commands;
      picks = [];
      answer = Err (by_server (error_text (codes "EXECABORT") (codes "x")));
      log = requests;
    } ∷ [])

pub a_refused_one_did_nothing : HonestRun meaning only_b none_done (command_logs refused_replied) only_b
unfolding destination rule_of table hash_slot splitting_of digits first_error server_kind
a_refused_one_did_nothing = ([] ∷ [], (refl, tt), λ slot. refl)
