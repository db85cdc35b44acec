-- Runs whose replies to reads of streams are respelled send the same and answer the same.
use Rattle.std.proofs.Common.{◌≡◌, ℕ, suc, ◌+◌, Bool, true, false, not, cond, ◌&&◌, ◌||◌, List, [], ◌∷◌, ◌++◌, map, filter, length, drop, Option, Some, None, Result, option_map, refl, sym, ap, ◌∙◌, subst}
use Rattle.std.specs.Prelude.{option_and_then, is_none, is_some, codes, slice_get}
use Rattle.std.specs.List.{AllByRecursion, flat_map}
use Rattle.std.proofs.lemmas.List.{append_assoc}
use Rattle.std.proofs.lemmas.Bool.{false≢true}
use Rattle.resp_core.specs.Trees.{Tree}
use Rattle.resp_core.specs.Errors.{Refusal}
use Rattle.resp_args.specs.Packed.{sent}
use Rattle.resp_args.specs.Command.{Command}
use Rattle.cluster_routing.specs.Address.{Address, same_address}
use Rattle.cluster_routing.specs.Choice.{Strategy}
use Rattle.cluster_routing.specs.Lists.{Pairwise}
use Rattle.cluster_routing.specs.Policies.{or_bad_reply}
use Rattle.cluster_routing.specs.Routing.{destination}
use Rattle.cluster_routing.specs.Split.{Splitting, splitting_of, with_tuples, shared_by, cut, split_of}
use Rattle.cluster_routing.specs.Table.{table, rule_of}
use Rattle.stream_commands.specs.Respelled.{Respellable, read, range, claim}
use Rattle.stream_commands.specs.EntryReplies.{range_reply, claim_reply}
use Rattle.stream_commands.specs.ReadReply.{read_reply}
use Rattle.stream_commands.proofs.Respellings.{respelled_read_alike}
use Rattle.stream_commands.specs.Settings.{ReadSettings}
use Rattle.stream_commands.specs.Commands.{plain_command}
use Rattle.cluster_calls.specs.Links.Request.{Request, requests_to}
use Rattle.cluster_calls.specs.Links.Log.{Exchange, exchanges, left_after, left_after_all, reply_at, is_unanswered, last_of, has_lost}
use Rattle.cluster_calls.specs.Calls.Call.{Stream, Xadd, Xtrim, Xread, Xrange, Xclaim, Xautoclaim, Xpending, XinfoStream, XinfoGroups, XinfoConsumers, XdelEx, Call, Refresh, Query, Ordered, Pipeline, Each, FanOut, At, OnStreams, Transaction}
use Rattle.cluster_calls.specs.Calls.Task.{Task, slot_map_of, one_command, pipeline_of, positions_of, several_nodes, one_node, read_of, task_of, sentence, sentence_task, is_by_key, stream_keys, transaction_of}
use Rattle.cluster_calls.specs.Calls.Parts.{result_then, unless}
use Rattle.cluster_calls.specs.Calls.Plan.{Client, plan}
use Rattle.cluster_calls.specs.Calls.Legal.{IsLegalCall}
use Rattle.cluster_calls.specs.Links.Faults.{LinkFault, refusal_by_fault}
use Rattle.cluster_calls.specs.Calls.Replies.{outcome_by, outcomes, policy_in, reply_by_outcomes, in_pipeline_order, several_reply}
use Rattle.cluster_calls.specs.Calls.Refusals.{refusal_in, direct_refusal, pipeline_refusal, errors_from, sent_refusal}
use Rattle.cluster_calls.specs.Calls.Answer.{Answer, Read, Range, Claim, answer_in, task_answer, tree_in, answer_of, Told}
use Rattle.cluster_calls.specs.Calls.After.{map_after, links_after, client_after}
use Rattle.cluster_calls.specs.OneServer.Headline.{PlayedCall, with_replies_from, IsPlayedFrom}
use Rattle.cluster_calls.specs.OneServer.Respelling.{respelling, request_respellings, respellings, SayTheSame, stream_respelling}
use Rattle.cluster_calls.proofs.LogLaws.Alike.{AlikeReply, replied, AlikeExchange, any_alike, both_replied, legal_alike, part_refusal_alike, reply_alike, rows_alike, exchanges_equal}
use Rattle.cluster_calls.proofs.LinkLaws.Addresses.{same_refl}
use Rattle.cluster_calls.proofs.LogLaws.SameLogs.{replies_determine_logs}
use Rattle.cluster_calls.proofs.LogLaws.LostFaults.{AgreeWhereLost, commands_same, each_same}
use Rattle.cluster_calls.proofs.LogLaws.StreamTasks.{stream_tasks}

-- ---- these commands are not split

not_split : (word : List ℕ) (args : List (List ℕ)) → splitting_of word ≡ None → split_of (word ∷ args) ≡ None
not_split word args e = ap (option_and_then (λ (s : Splitting). with_tuples word s (shared_by s.pattern args) (cut s.pattern args))) e

read_word : (b : Bool) → splitting_of (cond b (codes "XREADGROUP") (codes "XREAD")) ≡ None
unfolding splitting_of rule_of table
read_word true = refl
read_word false = refl

range_word : splitting_of (codes "XRANGE") ≡ None
unfolding splitting_of rule_of table
range_word = refl

claim_word : splitting_of (codes "XCLAIM") ≡ None
unfolding splitting_of rule_of table
claim_word = refl

-- ---- where each request has its reply the links' faults do not matter

abbrev AreReplied : List Exchange → Type 0
AreReplied xs = AllByRecursion (λ x. is_unanswered x ≡ false) xs

all_replied : (how : Option Respellable) (xs ys : List Exchange) → Pairwise (AlikeExchange how) xs ys → AreReplied xs
all_replied how [] [] h = tt
all_replied how [] (y ∷ ys) h = absurd h
all_replied how (x ∷ xs) [] h = absurd h
all_replied how (x ∷ xs) (y ∷ ys) h = ((both_replied how x y h.0).0, all_replied how xs ys h.1)

agree_replied : (faults faults' : Address → LinkFault) (xs : List Exchange) → AreReplied xs → AgreeWhereLost faults faults' xs
agree_replied faults faults' [] h = tt
agree_replied faults faults' (x ∷ xs) h = (λ lost. absurd (false≢true (sym h.0 ∙ lost)), agree_replied faults faults' xs h.1)

outcome_same : (f g : LinkFault) (r : Option Tree) → is_none r ≡ false → outcome_by f r ≡ outcome_by g r
outcome_same f g None h = cc
outcome_same f g (Some tree) h = refl

outcomes_same : (faults faults' : Address → LinkFault) (xs : List Exchange) → AreReplied xs → outcomes faults xs ≡ outcomes faults' xs
outcomes_same faults faults' [] h = refl
outcomes_same faults faults' (x ∷ xs) h =
    ap (λ o. (x.request.node, o) ∷ outcomes faults xs) (outcome_same (faults x.request.node) (faults' x.request.node) x.reply h.0) ∙ ap (λ l. (x.request.node, outcome_by (faults' x.request.node) x.reply) ∷ l) (outcomes_same faults faults' xs h.1)

refresh_same : (faults faults' : Address → LinkFault) (xs : List Exchange) → AreReplied xs → option_and_then (λ (x : Exchange). direct_refusal (faults x.request.node) x.reply) (last_of xs) ≡ option_and_then (λ (x : Exchange). direct_refusal (faults' x.request.node) x.reply) (last_of xs)
refresh_same faults faults' [] h = refl
refresh_same faults faults' (x ∷ []) h = by x.reply h.0
  where
    by : (r : Option Tree) → is_none r ≡ false → direct_refusal (faults x.request.node) r ≡ direct_refusal (faults' x.request.node) r
    by None e = cc
    by (Some tree) e = refl
refresh_same faults faults' (x ∷ y ∷ xs) h = refresh_same faults faults' (y ∷ xs) h.1

pipeline_same : (faults faults' : Address → LinkFault) (xs : List Exchange) (errors : _) → AreReplied xs → pipeline_refusal faults xs errors ≡ pipeline_refusal faults' xs errors
pipeline_same faults faults' [] errors h = refl
pipeline_same faults faults' (x ∷ xs) errors h =
    ap (λ b. cond b (Some (refusal_by_fault (faults x.request.node))) (pipeline_refusal faults xs errors)) h.0 ∙ pipeline_same faults faults' xs errors h.1
    ∙ sym (ap (λ b. cond b (Some (refusal_by_fault (faults' x.request.node))) (pipeline_refusal faults' xs errors)) h.0)

several_same : (faults faults' : Address → LinkFault) (command : _) (xs : List Exchange) → AreReplied xs → several_reply faults command xs ≡ several_reply faults' command xs
several_same faults faults' command xs h = ap (reply_by_outcomes (policy_in (destination command.args []))) (outcomes_same faults faults' xs h)

-- the same refusal and the same reply are the same answer
by_both : (client : Client) (picks : List Address) (faults faults' : Address → LinkFault) (call : Call) (xs ys : List Exchange) → sent_refusal client faults (task_of call) xs ≡ sent_refusal client faults' (task_of call) ys
    → task_answer faults call (task_of call) xs ≡ task_answer faults' call (task_of call) ys → answer_of client picks faults call xs ≡ answer_of client picks faults' call ys
by_both client picks faults faults' call xs ys e f =
    ap (λ o. result_then (plan client picks call) (λ ds. unless o (or_bad_reply (task_answer faults call (task_of call) xs)))) e
    ∙ ap (λ a. result_then (plan client picks call) (λ ds. unless (sent_refusal client faults' (task_of call) ys) (or_bad_reply a))) f

exact_answers : (client : Client) (picks : List Address) (faults faults' : Address → LinkFault) (call : Call) (xs ys : List Exchange) → Pairwise (AlikeExchange None) xs ys → answer_of client picks faults call xs ≡ answer_of client picks faults' call ys
exact_answers client picks faults faults' call xs ys h =
    by_both client picks faults faults' call xs xs (refused (task_of call)) (told_same (task_of call)) ∙ ap (answer_of client picks faults' call) same
  where
    same : xs ≡ ys
    same = exchanges_equal xs ys h

    itself : Pairwise (AlikeExchange None) xs xs
    itself = subst (Pairwise (AlikeExchange None) xs) (sym same) h

    fine : AreReplied xs
    fine = all_replied None xs ys h

    refused : (task : Task) → sent_refusal client faults task xs ≡ sent_refusal client faults' task xs
    refused (slot_map_of node) = refresh_same faults faults' xs fine
    refused (one_command command number order) = part_refusal_alike None client faults faults' xs xs itself
    refused (pipeline_of entries) = pipeline_same faults faults' xs (errors_from 0 (in_pipeline_order entries xs)) fine
    refused (positions_of entries) = refl
    refused (several_nodes command) = ap refusal_in (several_same faults faults' command xs fine)
    refused (one_node node command) = refresh_same faults faults' xs fine
    refused (transaction_of commands) = ap refusal_in (commands_same faults faults' client commands xs (agree_replied faults faults' xs fine))
    refused (read_of options streams) = part_refusal_alike None client faults faults' xs xs itself

    told_same : (task : Task) → task_answer faults call task xs ≡ task_answer faults' call task xs
    told_same (slot_map_of node) = refl
    told_same (one_command command number order) = refl
    told_same (pipeline_of entries) = refl
    told_same (positions_of entries) = ap (λ os. Some (Told os)) (each_same faults faults' entries xs (agree_replied faults faults' xs fine))
    told_same (several_nodes command) = ap (λ r. option_and_then (answer_in call) (tree_in r)) (several_same faults faults' command xs fine)
    told_same (one_node node command) = refl
    told_same (transaction_of commands) = refl
    told_same (read_of options streams) = refl

-- ---- the calls whose replies may be respelled

-- a read in parts
read_answers_alike : (client : Client) (picks : List Address) (faults faults' : Address → LinkFault) (call : Call) (options : ReadSettings) (streams : List Stream) → task_of call ≡ read_of options streams
    → (xs ys : List Exchange) → Pairwise (AlikeExchange (Some read)) xs ys → answer_of client picks faults call xs ≡ answer_of client picks faults' call ys
read_answers_alike client picks faults faults' call options streams is_read xs ys h =
    by_both client picks faults faults' call xs ys
    (subst (λ t. sent_refusal client faults t xs ≡ sent_refusal client faults' t ys) (sym is_read) (part_refusal_alike (Some read) client faults faults' xs ys h))
    (subst (λ t. task_answer faults call t xs ≡ task_answer faults' call t ys) (sym is_read) (ap (option_map Read) (rows_alike (Some read) respelled_read_alike.0 options streams xs ys h)))

answers_alike : (client : Client) (picks : List Address) (faults faults' : Address → LinkFault) (call : Call) (xs ys : List Exchange) → Pairwise (AlikeExchange (respelling call)) xs ys → answer_of client picks faults call xs ≡ answer_of client picks faults' call ys
answers_alike client picks faults faults' (Refresh node) xs ys h = exact_answers client picks faults faults' (Refresh node) xs ys h
answers_alike client picks faults faults' (Query command number) xs ys h = exact_answers client picks faults faults' (Query command number) xs ys h
answers_alike client picks faults faults' (Ordered command order number) xs ys h = exact_answers client picks faults faults' (Ordered command order number) xs ys h
answers_alike client picks faults faults' (Pipeline entries) xs ys h = exact_answers client picks faults faults' (Pipeline entries) xs ys h
answers_alike client picks faults faults' (Each entries) xs ys h = exact_answers client picks faults faults' (Each entries) xs ys h
answers_alike client picks faults faults' (FanOut command) xs ys h = exact_answers client picks faults faults' (FanOut command) xs ys h
answers_alike client picks faults faults' (At node command) xs ys h = exact_answers client picks faults faults' (At node command) xs ys h
answers_alike client picks faults faults' (Transaction commands) xs ys h = exact_answers client picks faults faults' (Transaction commands) xs ys h
answers_alike client picks faults faults' (OnStreams (Xadd key options id fields)) xs ys h = exact_answers client picks faults faults' (OnStreams (Xadd key options id fields)) xs ys h
answers_alike client picks faults faults' (OnStreams (Xtrim key options)) xs ys h = exact_answers client picks faults faults' (OnStreams (Xtrim key options)) xs ys h
answers_alike client picks faults faults' (OnStreams (Xread streams options)) xs ys h = by (is_by_key options (stream_keys streams)) refl
  where
    by : (b : Bool) → is_by_key options (stream_keys streams) ≡ b → answer_of client picks faults (OnStreams (Xread streams options)) xs ≡ answer_of client picks faults' (OnStreams (Xread streams options)) ys
    by true k = read_answers_alike client picks faults faults' (OnStreams (Xread streams options)) options streams (ap (λ b. cond b (read_of options streams) (sentence_task (Xread streams options))) k) xs ys h
    by false k =
        let is_sentence : task_of (OnStreams (Xread streams options)) ≡ sentence_task (Xread streams options) = ap (λ b. cond b (read_of options streams) (sentence_task (Xread streams options))) k in
        by_both client picks faults faults' (OnStreams (Xread streams options)) xs ys
        (subst (λ t. sent_refusal client faults t xs ≡ sent_refusal client faults' t ys) (sym is_sentence) (part_refusal_alike (Some read) client faults faults' xs ys h))
        (subst (λ t. task_answer faults (OnStreams (Xread streams options)) t xs ≡ task_answer faults' (OnStreams (Xread streams options)) t ys) (sym is_sentence)
        (reply_alike (Some read) (λ tree. option_map Read (read_reply tree)) (λ t u s. ap (option_map Read) (respelled_read_alike.0 t u s)) (split_of (sent (plain_command (sentence (Xread streams options))))) (not_split _ (drop 1 (sent (plain_command (sentence (Xread streams options))))) (read_word (is_some options.group))) xs ys h))
answers_alike client picks faults faults' (OnStreams (Xrange key start end)) xs ys h =
    by_both client picks faults faults' (OnStreams (Xrange key start end)) xs ys (part_refusal_alike (Some range) client faults faults' xs ys h)
    (reply_alike (Some range) (λ tree. option_map Range (range_reply tree)) (λ t u s. ap (option_map Range) (respelled_read_alike.1 t u s)) (split_of (sent (plain_command (sentence (Xrange key start end))))) (not_split _ (drop 1 (sent (plain_command (sentence (Xrange key start end))))) range_word) xs ys h)
answers_alike client picks faults faults' (OnStreams (Xclaim claimant ids options)) xs ys h =
    by_both client picks faults faults' (OnStreams (Xclaim claimant ids options)) xs ys (part_refusal_alike (Some claim) client faults faults' xs ys h)
    (reply_alike (Some claim) (λ tree. option_map Claim (claim_reply tree)) (λ t u s. ap (option_map Claim) (respelled_read_alike.2 t u s)) (split_of (sent (plain_command (sentence (Xclaim claimant ids options))))) (not_split _ (drop 1 (sent (plain_command (sentence (Xclaim claimant ids options))))) claim_word) xs ys h)
answers_alike client picks faults faults' (OnStreams (Xautoclaim claimant start options)) xs ys h = exact_answers client picks faults faults' (OnStreams (Xautoclaim claimant start options)) xs ys h
answers_alike client picks faults faults' (OnStreams (Xpending key group)) xs ys h = exact_answers client picks faults faults' (OnStreams (Xpending key group)) xs ys h
answers_alike client picks faults faults' (OnStreams (XinfoStream key)) xs ys h = exact_answers client picks faults faults' (OnStreams (XinfoStream key)) xs ys h
answers_alike client picks faults faults' (OnStreams (XinfoGroups key)) xs ys h = exact_answers client picks faults faults' (OnStreams (XinfoGroups key)) xs ys h
answers_alike client picks faults faults' (OnStreams (XinfoConsumers key group)) xs ys h = exact_answers client picks faults faults' (OnStreams (XinfoConsumers key group)) xs ys h
answers_alike client picks faults faults' (OnStreams (XdelEx key ids policy)) xs ys h = exact_answers client picks faults faults' (OnStreams (XdelEx key ids policy)) xs ys h

-- ---- what a call leaves

lost_alike : (how : Option Respellable) (node : Address) (xs ys : List Exchange) → Pairwise (AlikeExchange how) xs ys → has_lost node xs ≡ has_lost node ys
lost_alike how node xs ys h =
    any_alike (AlikeExchange how) (λ (x : Exchange). same_address x.request.node node && is_unanswered x)
    (λ x y g. let r = both_replied how x y g in ap (λ (q : Request). same_address q.node node && is_unanswered x) g.request ∙ ap (λ b. same_address y.request.node node && b) (r.0 ∙ sym r.1)) xs ys h

-- where all are replied none is lost
pub none_lost_alike : (how : Option Respellable) (xs ys : List Exchange) → Pairwise (AlikeExchange how) xs ys → (a : Address) → (has_lost a xs ≡ false) × (has_lost a ys ≡ false)
none_lost_alike how xs ys h a =
    let none = none_lost xs (all_replied how xs ys h) in
    (none, sym (lost_alike how a xs ys h) ∙ none)
  where
    with_answer : (b u c : Bool) → u ≡ false → c ≡ false → ((b && u) || c) ≡ false
    with_answer true u c e f = ap (λ v. v || c) e ∙ f
    with_answer false u c e f = f

    none_lost : (zs : List Exchange) → AreReplied zs → has_lost a zs ≡ false
    none_lost [] r = refl
    none_lost (z ∷ zs) r = with_answer (same_address z.request.node a) (is_unanswered z) (has_lost a zs) r.0 (none_lost zs r.1)

links_alike : (how : Option Respellable) (links : List Address) (xs ys : List Exchange) → Pairwise (AlikeExchange how) xs ys → links_after links xs ≡ links_after links ys
links_alike how links xs ys h = λ i. filter (λ node. not (lost_alike how node xs ys h i)) links

map_alike : (entries : _) (call : Call) (xs ys : List Exchange) → Pairwise (AlikeExchange (respelling call)) xs ys → map_after entries call xs ≡ map_after entries call ys
map_alike entries (Refresh node) xs ys h = ap (map_after entries (Refresh node)) (exchanges_equal xs ys h)
map_alike entries (Query command number) xs ys h = refl
map_alike entries (Ordered command order number) xs ys h = refl
map_alike entries (Pipeline es) xs ys h = refl
map_alike entries (Each es) xs ys h = refl
map_alike entries (FanOut command) xs ys h = refl
map_alike entries (At node command) xs ys h = refl
map_alike entries (Transaction commands) xs ys h = refl
map_alike entries (OnStreams call) xs ys h = refl

client_alike : (client : Client) (call : Call) (xs ys : List Exchange) → Pairwise (AlikeExchange (respelling call)) xs ys → client_after client call xs ≡ client_after client call ys
client_alike client call xs ys h =
    ap (λ m. let c : Client = record { settings = client.settings; entries = m; links = links_after client.links xs } in c) (map_alike client.entries call xs ys h)
    ∙ ap (λ l. let c : Client = record { settings = client.settings; entries = map_after client.entries call ys; links = l } in c) (links_alike (respelling call) client.links xs ys h)

-- ---- the replies of a node, call by call

-- the replies to a request, and those behind them
front_said : (how : Option Respellable) (asking : Bool) (hows : List (Option Respellable)) (ts us : List Tree) → SayTheSame (cond asking (None ∷ how ∷ []) (how ∷ []) ++ hows) ts us
    → AlikeReply how (slice_get ts (cond asking 1 0)) (slice_get us (cond asking 1 0)) × SayTheSame hows (drop (cond asking 1 0 + 1) ts) (drop (cond asking 1 0 + 1) us)
front_said how true hows [] us h = absurd h
front_said how true hows (t ∷ ts) [] h = absurd h
front_said how true hows (t ∷ []) (u ∷ us) h = absurd h.1
front_said how true hows (t ∷ t' ∷ ts) (u ∷ []) h = absurd h.1
front_said how true hows (t ∷ t' ∷ ts) (u ∷ u' ∷ us) h = (replied h.1.0, h.1.1)
front_said how false hows [] us h = absurd h
front_said how false hows (t ∷ ts) [] h = absurd h
front_said how false hows (t ∷ ts) (u ∷ us) h = (replied h.0, h.1)

abbrev said : Option Respellable → Address → List Request → List (Option Respellable)
said how node log = flat_map (request_respellings how) (requests_to node log)

pub exchanged : (how : Option Respellable) (log : List Request) (later : Address → List (Option Respellable)) (queues queues' : Address → List Tree) (place : ℕ) → ((node : Address) → SayTheSame (said how node log ++ later node) (queues node) (queues' node))
    → Pairwise (AlikeExchange how) (exchanges queues place log) (exchanges queues' place log) × ((node : Address) → SayTheSame (later node) (left_after_all queues log node) (left_after_all queues' log node))
exchanged how [] later queues queues' place h = (tt, h)
exchanged how (q ∷ qs) later queues queues' place h =
    let r = exchanged how qs later (left_after queues q) (left_after queues' q) (suc place) (λ node. behind node (same_address q.node node) (h node)) in
    ((record { request = refl; place = refl; reply = here.0 }, r.0), r.1)
  where
    front : (node : Address) → SayTheSame (flat_map (request_respellings how) (q ∷ requests_to node qs) ++ later node) (queues node) (queues' node)
        → AlikeReply how (slice_get (queues node) (cond q.asking 1 0)) (slice_get (queues' node) (cond q.asking 1 0)) × SayTheSame (said how node qs ++ later node) (drop (cond q.asking 1 0 + 1) (queues node)) (drop (cond q.asking 1 0 + 1) (queues' node))
    front node g = front_said how q.asking (said how node qs ++ later node) (queues node) (queues' node) (subst (λ l. SayTheSame l (queues node) (queues' node)) (append_assoc (request_respellings how q) (said how node qs) (later node)) g)

    here : AlikeReply how (reply_at (queues q.node) q) (reply_at (queues' q.node) q) × SayTheSame (said how q.node qs ++ later q.node) (drop (cond q.asking 1 0 + 1) (queues q.node)) (drop (cond q.asking 1 0 + 1) (queues' q.node))
    here = front q.node (subst (λ b. SayTheSame (flat_map (request_respellings how) (cond b (q ∷ requests_to q.node qs) (requests_to q.node qs)) ++ later q.node) (queues q.node) (queues' q.node)) (same_refl q.node) (h q.node))

    behind : (node : Address) (b : Bool) → SayTheSame (flat_map (request_respellings how) (cond b (q ∷ requests_to node qs) (requests_to node qs)) ++ later node) (queues node) (queues' node)
        → SayTheSame (said how node qs ++ later node) (cond b (drop (cond q.asking 1 0 + 1) (queues node)) (queues node)) (cond b (drop (cond q.asking 1 0 + 1) (queues' node)) (queues' node))
    behind node true g = (front node g).1
    behind node false g = g

-- ---- runs

-- no reply to a transaction is respelled
exact_transactions : (call : Call) (commands : List Command) → task_of call ≡ transaction_of commands → respelling call ≡ None
exact_transactions (Refresh node) commands t = refl
exact_transactions (Query command number) commands t = refl
exact_transactions (Ordered command order number) commands t = refl
exact_transactions (Pipeline entries) commands t = refl
exact_transactions (Each entries) commands t = refl
exact_transactions (FanOut command) commands t = refl
exact_transactions (At node command) commands t = refl
exact_transactions (Transaction all) commands t = refl
exact_transactions (OnStreams call) commands t =
    stream_tasks (λ task. task ≡ transaction_of commands → stream_respelling call ≡ None) (λ command number order e. cc) (λ options streams e. cc) call t

abbrev calls_of : List PlayedCall → List Call
calls_of ts = map (λ (t : PlayedCall). t.call) ts

abbrev picks_of : List PlayedCall → List (List Address)
picks_of ts = map (λ (t : PlayedCall). t.picks) ts

abbrev logs_of : List PlayedCall → List (List Request)
logs_of ts = map (λ (t : PlayedCall). t.log) ts

abbrev answers_of : List PlayedCall → List (Result Answer Refusal)
answers_of ts = map (λ (t : PlayedCall). t.answer) ts

pub runs_alike : (strategy strategy' : Option Strategy) (client : Client) (faults faults' : Address → LinkFault) (queues queues' : Address → List Tree) (place : ℕ) (ts us : List PlayedCall) → calls_of ts ≡ calls_of us → picks_of ts ≡ picks_of us
    → IsPlayedFrom strategy client faults (with_replies_from queues place ts) → IsPlayedFrom strategy' client faults' (with_replies_from queues' place us)
    → ((node : Address) → SayTheSame (respellings node ts) (queues node) (queues' node)) → (logs_of ts ≡ logs_of us) × (answers_of ts ≡ answers_of us)
runs_alike strategy strategy' client faults faults' queues queues' place [] [] c p left right s = (refl, refl)
runs_alike strategy strategy' client faults faults' queues queues' place [] (u ∷ us) c p left right s = cc
runs_alike strategy strategy' client faults faults' queues queues' place (t ∷ ts) [] c p left right s = cc
runs_alike strategy strategy' client faults faults' queues queues' place (t ∷ ts) (u ∷ us) c p left right s =
    let call : t.call ≡ u.call = cc in
    let picks : t.picks ≡ u.picks = cc in
    let calls : calls_of ts ≡ calls_of us = cc in
    let others : picks_of ts ≡ picks_of us = cc in
    let r = exchanged (respelling t.call) t.log (λ node. respellings node ts) queues queues' place s in
    let legal = legal_alike (respelling t.call) client t.picks t.call (exact_transactions t.call) (exchanges queues place t.log) (exchanges queues' place t.log) r.0 left.1 in
    let legal' = subst (λ z. IsLegalCall client z t.call (exchanges queues' place u.log)) (sym picks) (subst (λ z. IsLegalCall client u.picks z (exchanges queues' place u.log)) (sym call) right.1) in
    let log : t.log ≡ u.log = replies_determine_logs client t.picks t.call queues' place t.log u.log legal legal' in
    let answered : answer_of client t.picks faults' t.call (exchanges queues' place t.log) ≡ answer_of client u.picks faults' u.call (exchanges queues' place u.log) =
    ap (λ z. answer_of client z faults' t.call (exchanges queues' place t.log)) picks ∙ ap (λ z. answer_of client u.picks faults' z (exchanges queues' place t.log)) call ∙ ap (λ z. answer_of client u.picks faults' u.call (exchanges queues' place z)) log in
    let answer : t.answer ≡ u.answer = left.2 ∙ answers_alike client t.picks faults faults' t.call (exchanges queues place t.log) (exchanges queues' place t.log) r.0 ∙ answered ∙ sym right.2 in
    let next : client_after client u.call (exchanges queues' place u.log) ≡ client_after client t.call (exchanges queues place t.log) =
    ap (λ z. client_after client z (exchanges queues' place u.log)) (sym call) ∙ ap (λ z. client_after client t.call (exchanges queues' place z)) (sym log) ∙ sym (client_alike client t.call (exchanges queues place t.log) (exchanges queues' place t.log) r.0) in
    let later = subst (λ z. IsPlayedFrom strategy' z faults' (with_replies_from (left_after_all queues' u.log) (place + length u.log) us)) next right.3 in
    let later' = subst (λ z. IsPlayedFrom strategy' (client_after client t.call (exchanges queues place t.log)) faults' (with_replies_from (left_after_all queues' z) (place + length z) us)) (sym log) later in
    let i = runs_alike strategy strategy' (client_after client t.call (exchanges queues place t.log)) faults faults' (left_after_all queues t.log) (left_after_all queues' t.log) (place + length t.log) ts us calls others left.3 later' r.1 in
    (ap (λ z. z ∷ logs_of ts) log ∙ ap (λ l. u.log ∷ l) i.0, ap (λ z. z ∷ answers_of ts) answer ∙ ap (λ l. u.answer ∷ l) i.1)
