-- A read of streams in parts: its plan, and what is made of the replies to its parts.
use Rattle.std.specs.Prelude.{bytes_eq, cond, is_none, ◌&&◌}
use Rattle.std.proofs.lemmas.Bool.{and_parts}
use Rattle.std.proofs.Common.{◌≡◌, ◌≢◌, ℕ, Bool, true, false, List, [], map, length, Option, Some, None, option_map, option_and_then, refl, sym, ap, ◌∙◌, Result, Ok, Err}
use Rattle.std.proofs.lemmas.List.{length-map}
use Rattle.std.proofs.lemmas.Simd.{map-map}
use Rattle.resp_core.specs.Trees.{Tree}
use Rattle.resp_core.specs.Errors.{Refusal, by_cause}
use Rattle.resp_core.specs.declared.errors.redis_error.Cause.TheVariants.{Memory}
use Rattle.resp_args.specs.Convert.{traverse}
use Rattle.cluster_routing.specs.Address.{Address}
use Rattle.cluster_routing.specs.Choice.{Strategy}
use Rattle.cluster_routing.specs.Lists.{is_distinct}
use Rattle.cluster_routing.specs.Policies.{or_bad_reply}
use Rattle.stream_commands.specs.Join.{all_rows, join}
use Rattle.stream_commands.specs.ReadReply.{Row, read_reply}
use Rattle.stream_commands.specs.Settings.{ReadSettings}
use Rattle.cluster_calls.specs.Calls.Answer.{Answer, Read}
use Rattle.cluster_calls.specs.Calls.Call.{Call, OnStreams, Stream, Xread}
use Rattle.cluster_calls.specs.Calls.Parts.{Part, read_parts, unless}
use Rattle.cluster_calls.specs.Calls.Picks.{ArePicks}
use Rattle.cluster_calls.specs.Calls.Plan.{Client, Dispatch, call_parts, in_order, order_of, plan}
use Rattle.cluster_calls.specs.Calls.Reads.{key_places, read_slot, stream_slots}
use Rattle.cluster_calls.specs.Calls.OneReply.{has_reply}
use Rattle.cluster_calls.specs.Calls.Task.{are_of_one_slot, is_by_key, read_of, read_refusal, sentence_task, stream_keys, task_of}
use Rattle.cluster_calls.specs.Links.Events.{exchanges_of}
use Rattle.cluster_calls.specs.Links.Happened.{client_of}
use Rattle.cluster_calls.specs.Links.PartRuns.{PartsMade}
use Rattle.cluster_calls.specs.Links.Run.{with_log}
use Rattle.cluster_calls.specs.Links.World.{World}
use Rattle.cluster_calls.specs.Calls.TaskParts.{task_parts}
use Rattle.cluster_calls.proofs.LinkLaws.ReadMade.{IsReadOfParts, happened, read_answered, read_room, rows_of_parts}
use Rattle.cluster_calls.proofs.ServerLaws.ReadParts.{plan_reads}
use Rattle.cluster_steps.specs.Dispatches.{AreDispatched, IsPlanned}
use Rattle.cluster_steps.specs.Reads.{read_places, rows_at}
use Rattle.cluster_steps.proofs.Dispatched.{picks_made, plan_made, plan_refused}
use Rattle.cluster_client.specs.Ended.{CommandEnded}

-- the keys of such a read differ
pub keys_differ : (options : ReadSettings) (keys : List (List ℕ)) → is_by_key options keys ≡ true → is_distinct bytes_eq keys ≡ true
keys_differ options keys h = (and_parts (is_none options.group && is_none options.block) (is_distinct bytes_eq keys) h).1

module _ (options : ReadSettings) (streams : List Stream) (by_key : is_by_key options (stream_keys streams) ≡ true) (met : read_refusal (stream_keys streams) options ≡ None) where
  abbrev call : Call
  call = OnStreams (Xread streams options)

  pub read_task : task_of call ≡ read_of options streams
  read_task = ap (λ b. cond b (read_of options streams) (sentence_task (Xread streams options))) by_key

  -- ---- its plan

  parts_read : (client : Client) → call_parts client call ≡ Ok (read_parts client.settings.read_only options streams)
  parts_read client =
      ap (λ why. unless why (task_parts client.settings.read_only client.entries (task_of call))) met
      ∙ ap (task_parts client.settings.read_only client.entries) read_task

  module _ (strategy : Option Strategy) (client : Client) (picks : List Address) (parts : List Part) (are : parts ≡ read_parts client.settings.read_only options streams) where
    parts_of_call : call_parts client call ≡ Ok parts
    parts_of_call = parts_read client ∙ ap (λ ps. Ok ps) (sym are)

    pub read_planned : (ds : List Dispatch) → AreDispatched strategy client parts picks (Ok ds) → IsPlanned strategy client call picks (Ok ds)
    read_planned ds d = record {
      planned = plan_made strategy client call picks parts ds parts_of_call d ∙ ap (λ task. Ok (in_order (order_of task) ds)) read_task;
      picked = picks_made strategy client call picks parts (Ok ds) parts_of_call d;
    }

    -- a part has no place
    pub read_unplaced : (refusal : Refusal) → AreDispatched strategy client parts picks (Err refusal) → IsPlanned strategy client call picks (Err refusal)
    read_unplaced refusal d = record {
      planned = plan_refused strategy client call picks parts refusal parts_of_call d;
      picked = picks_made strategy client call picks parts (Err refusal) parts_of_call d;
    }

  -- ---- the record

  module _ (client : Client) (picks : List Address) (ds : List Dispatch) (planned : plan client picks call ≡ Ok ds) where
    slots_sent : map (λ (d : Dispatch). read_slot options d.args) ds ≡ stream_slots streams
    slots_sent = plan_reads options streams client picks call ds read_task planned

    places_sent : map (λ (d : Dispatch). key_places (read_slot options d.args) streams) ds ≡ read_places streams
    places_sent = sym (map-map _ _ ds) ∙ ap (map (λ slot. key_places slot streams)) slots_sent

    -- as many parts as places
    count_sent : length ds ≡ length (read_places streams)
    count_sent = sym (length-map ds _) ∙ ap length slots_sent ∙ sym (length-map (stream_slots streams) _)

    rows_by : (b : Bool) (o : Option (List (List Row))) → option_and_then (λ records. cond b (Some (all_rows records)) (join (stream_keys streams) (read_places streams) records)) o
        ≡ cond b (option_map all_rows o) (option_and_then (join (stream_keys streams) (map (λ (d : Dispatch). key_places (read_slot options d.args) streams) ds)) o)
    rows_by true None = refl
    rows_by true (Some records) = refl
    rows_by false o = ap (λ places. option_and_then (join (stream_keys streams) places) o) (sym places_sent)

    pub rows_sent : (trees : List Tree) → rows_at (stream_keys streams) (read_places streams) trees ≡ rows_of_parts options streams ds trees
    rows_sent trees = rows_by (are_of_one_slot (stream_keys streams)) (traverse read_reply trees)

  pub count_planned : (strategy : Option Strategy) (client : Client) (picks : List Address) (ds : List Dispatch) → IsPlanned strategy client call picks (Ok ds) → length ds ≡ length (read_places streams)
  count_planned strategy client picks ds p = count_sent client picks ds p.planned

  -- ---- its parts were sent

  module _ (strategy : Option Strategy) (old new : World) (ds : List Dispatch) (picks : List Address) (result : Result (List Tree) Refusal) (answer : Result Answer Refusal)
      (planned : plan (client_of old) picks call ≡ Ok ds) (picked : ArePicks strategy (client_of old) call picks) (m : PartsMade (with_log old [] picks) new ds result) where
    read_ended_by : IsReadOfParts options streams ds result answer → CommandEnded strategy old new call answer
    read_ended_by made = record {
      happened = happened options streams strategy old new call read_task refl ds picks result answer planned picked m made;
      answered = read_answered options streams strategy old new call read_task refl ds picks result answer planned picked m made;
      room = read_room options streams strategy old new call read_task refl ds picks result answer planned picked m made;
      missing = λ lacks place. ap (λ task. has_reply task (exchanges_of place m.events)) read_task;
    }

  module _ (strategy : Option Strategy) (old new : World) (ds : List Dispatch) (picks : List Address) (planned : plan (client_of old) picks call ≡ Ok ds) (picked : ArePicks strategy (client_of old) call picks) where
    -- one of them was refused
    pub read_stopped : (refusal : Refusal) → PartsMade (with_log old [] picks) new ds (Err refusal) → CommandEnded strategy old new call (Err refusal)
    read_stopped refusal m = read_ended_by strategy old new ds picks (Err refusal) (Err refusal) planned picked m refl

    -- all were answered
    pub read_ended : (trees : List Tree) (answer : Result Answer Refusal) → PartsMade (with_log old [] picks) new ds (Ok trees)
        → (answer ≢ Err (by_cause Memory) → answer ≡ or_bad_reply (option_map Read (rows_at (stream_keys streams) (read_places streams) trees))) → CommandEnded strategy old new call answer
    read_ended trees answer m told =
        read_ended_by strategy old new ds picks (Ok trees) answer planned picked m
        (λ had. told had ∙ ap (λ o. or_bad_reply (option_map Read o)) (rows_sent (client_of old) picks ds planned trees))
