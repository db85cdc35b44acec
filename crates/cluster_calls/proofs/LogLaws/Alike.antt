-- Calls whose replies are respelled: they send the same and answer the same.
use Rattle.std.proofs.Common.{◌≡◌, ℕ, zero, suc, ◌-◌, ◌==◌, ◌||◌, Bool, true, false, cond, List, [], ◌∷◌, map, filter, length, take, drop, Option, Some, None, option_map, Result, Ok, Err, MatchResult, refl, sym, ap, ◌∙◌, subst}
use Rattle.std.specs.Prelude.{MatchBool, option_and_then, unwrap_or, is_none}
use Rattle.std.specs.List.{list_any}
use Rattle.resp_core.specs.Trees.{Tree, nil, server_error, ErrorText}
use Rattle.resp_core.specs.Parts.{first_error}
use Rattle.resp_core.specs.Errors.{Refusal, by_server, server_kind}
use Rattle.resp_args.specs.Command.{Command}
use Rattle.cluster_routing.specs.Address.{Address}
use Rattle.cluster_routing.specs.Combine.{PartReply}
use Rattle.cluster_routing.specs.Lists.{Pairwise}
use Rattle.cluster_routing.specs.Split.{Split}
use Rattle.stream_commands.specs.Respelled.{Respellable, Respelled}
use Rattle.stream_commands.specs.RecordLaws.{own_error}
use Rattle.stream_commands.proofs.RespelledErrors.{respelled_fail_alike}
use Rattle.stream_commands.specs.Join.{all_rows, join}
use Rattle.stream_commands.specs.ReadReply.{Row, read_reply}
use Rattle.stream_commands.specs.Settings.{ReadSettings}
use Rattle.cluster_calls.specs.Links.Request.{Request}
use Rattle.cluster_calls.specs.Links.Reply.{Sort, error_sort, inner_sort, sort_of}
use Rattle.cluster_calls.specs.Links.Log.{Exchange, requests, is_data, is_data_reply, is_answered, is_unanswered, last_of, behind_answers}
use Rattle.cluster_calls.specs.Calls.Call.{Call, Stream}
use Rattle.cluster_calls.specs.Calls.Task.{Task, slot_map_of, one_command, pipeline_of, positions_of, several_nodes, one_node, read_of, task_of, stream_keys, are_of_one_slot, transaction_of}
use Rattle.cluster_calls.specs.Calls.Plan.{Client, Dispatch, plan}
use Rattle.cluster_calls.specs.Calls.Redirects.{Hop, Next, Stays, Lost, Goes, next_of, sort_next, MatchNext, FollowsRedirects}
use Rattle.cluster_calls.specs.Calls.Legal.{first_hop, PartByPart, NodeByNode, node_groups, AreMade, IsLegalCall, AttemptAfterAttempt}
use Rattle.cluster_calls.specs.Links.Faults.{LinkFault}
use Rattle.cluster_calls.specs.Calls.Replies.{exchange_slot, reply_or_nil, part_replies, reply_by_split}
use Rattle.cluster_calls.specs.Calls.Reads.{key_places, read_slot, readings, read_rows}
use Rattle.cluster_calls.specs.Calls.Refusals.{stop_refusal, last_refusal, part_refusal}
use Rattle.cluster_calls.specs.OneServer.Respelling.{SaysTheSame}
use Rattle.cluster_calls.specs.Calls.OneSlot.{args_of}

-- ---- what a client sees of a reply are its errors

sort_by : Option ErrorText → Option ErrorText → Sort
sort_by (Some e) first = error_sort e (server_kind e.code)
sort_by None first = inner_sort first

sort_is : (t : Tree) → sort_of t ≡ sort_by (own_error t) (first_error t)
unfolding sort_by
sort_is (server_error err) = refl
sort_is t = refl

pub record SameErrors (t u : Tree) : Type 0 where
  pub sort : sort_of t ≡ sort_of u
  pub first : first_error t ≡ first_error u

respelled_errors : (how : Respellable) (t u : Tree) → Respelled how t u → SameErrors t u
respelled_errors how t u s =
    let e = respelled_fail_alike how t u s in
    record { sort = sort_is t ∙ ap (λ o. sort_by o (first_error t)) e.0 ∙ ap (sort_by (own_error u)) e.1 ∙ sym (sort_is u); first = e.1 }

pub errors_alike : (how : Option Respellable) (t u : Tree) → SaysTheSame how t u → SameErrors t u
errors_alike None t u s = record { sort = ap sort_of s; first = ap first_error s }
errors_alike (Some how) t u s = respelled_errors how t u s

-- both got a reply, and the replies say the same
pub data AlikeReply (how : Option Respellable) : Option Tree → Option Tree → Type 0 where
  replied : {t u : Tree} → SaysTheSame how t u → AlikeReply how (Some t) (Some u)

-- one request, and replies that say the same
pub record AlikeExchange (how : Option Respellable) (x y : Exchange) : Type 0 where
  pub request : x.request ≡ y.request
  pub place : x.place ≡ y.place
  pub reply : AlikeReply how x.reply y.reply

-- ---- where nothing is respelled

reply_equal : {r s : Option Tree} → AlikeReply None r s → r ≡ s
reply_equal (replied h) = ap Some h

abbrev made : Request → ℕ → Option Tree → Exchange
made q p r = record { request = q; place = p; reply = r }

exchange_equal : (x y : Exchange) → AlikeExchange None x y → x ≡ y
exchange_equal x y h = ap (λ q. made q x.place x.reply) h.request ∙ ap (λ p. made y.request p x.reply) h.place ∙ ap (made y.request y.place) (reply_equal h.reply)

pub exchanges_equal : (xs ys : List Exchange) → Pairwise (AlikeExchange None) xs ys → xs ≡ ys
exchanges_equal [] [] h = refl
exchanges_equal [] (y ∷ ys) h = absurd h
exchanges_equal (x ∷ xs) [] h = absurd h
exchanges_equal (x ∷ xs) (y ∷ ys) h = ap (λ z. z ∷ xs) (exchange_equal x y h.0) ∙ ap (λ zs. y ∷ zs) (exchanges_equal xs ys h.1)

-- ---- lists

nil_alike : {X : Type 0} (R : X → X → Type 0) (xs ys : List X) → Pairwise R xs ys → xs ≡ [] → ys ≡ []
nil_alike R [] [] h e = refl
nil_alike R [] (y ∷ ys) h e = absurd h
nil_alike R (x ∷ xs) ys h e = cc

long_alike : {X : Type 0} (R : X → X → Type 0) (xs ys : List X) → Pairwise R xs ys → length xs ≡ length ys
long_alike R [] [] h = refl
long_alike R [] (y ∷ ys) h = absurd h
long_alike R (x ∷ xs) [] h = absurd h
long_alike R (x ∷ xs) (y ∷ ys) h = ap suc (long_alike R xs ys h.1)

take_alike : {X : Type 0} (R : X → X → Type 0) (n : ℕ) (xs ys : List X) → Pairwise R xs ys → Pairwise R (take n xs) (take n ys)
take_alike R zero xs ys h = tt
take_alike R (suc n) [] [] h = tt
take_alike R (suc n) [] (y ∷ ys) h = absurd h
take_alike R (suc n) (x ∷ xs) [] h = absurd h
take_alike R (suc n) (x ∷ xs) (y ∷ ys) h = (h.0, take_alike R n xs ys h.1)

drop_alike : {X : Type 0} (R : X → X → Type 0) (n : ℕ) (xs ys : List X) → Pairwise R xs ys → Pairwise R (drop n xs) (drop n ys)
drop_alike R zero xs ys h = h
drop_alike R (suc n) [] [] h = tt
drop_alike R (suc n) [] (y ∷ ys) h = absurd h
drop_alike R (suc n) (x ∷ xs) [] h = absurd h
drop_alike R (suc n) (x ∷ xs) (y ∷ ys) h = drop_alike R n xs ys h.1

pub any_alike : {X : Type 0} (R : X → X → Type 0) (f : X → Bool) → ((x y : X) → R x y → f x ≡ f y) → (xs ys : List X) → Pairwise R xs ys → list_any f xs ≡ list_any f ys
any_alike R f s [] [] h = refl
any_alike R f s [] (y ∷ ys) h = absurd h
any_alike R f s (x ∷ xs) [] h = absurd h
any_alike R f s (x ∷ xs) (y ∷ ys) h = ap (λ b. b || list_any f xs) (s x y h.0) ∙ ap (λ b. f y || b) (any_alike R f s xs ys h.1)

filter_alike : {X : Type 0} (R : X → X → Type 0) (f : X → Bool) → ((x y : X) → R x y → f x ≡ f y) → (xs ys : List X) → Pairwise R xs ys → Pairwise R (filter f xs) (filter f ys)
filter_alike R f s [] [] h = tt
filter_alike R f s [] (y ∷ ys) h = absurd h
filter_alike R f s (x ∷ xs) [] h = absurd h
filter_alike R f s (x ∷ xs) (y ∷ ys) h = by (f x) (f y) (s x y h.0) (filter_alike R f s xs ys h.1)
  where
    by : (b c : Bool) → b ≡ c → Pairwise R (filter f xs) (filter f ys) → Pairwise R (cond b (x ∷ filter f xs) (filter f xs)) (cond c (y ∷ filter f ys) (filter f ys))
    by true true e g = (h.0, g)
    by false false e g = g
    by true false e g = cc
    by false true e g = cc

-- ---- one call

module _ (how : Option Respellable) where
  abbrev A : Exchange → Exchange → Type 0
  A = AlikeExchange how

  next_alike : (links : List Address) (budget : ℕ) {r s : Option Tree} → AlikeReply how r s → next_of links budget r ≡ next_of links budget s
  next_alike links budget (replied {t = t} {u = u} h) = ap (λ q. cond (budget == 0) Stays (sort_next links q)) (errors_alike how t u h).sort

  pub answered_alike : (x y : Exchange) → A x y → is_answered x ≡ is_answered y
  answered_alike x y h = by h.reply
    where
      by : {r s : Option Tree} → AlikeReply how r s → is_data_reply r ≡ is_data_reply s
      by (replied {t = t} {u = u} h) = ap is_data (errors_alike how t u h).sort

  pub both_replied : (x y : Exchange) → A x y → (is_unanswered x ≡ false) × (is_unanswered y ≡ false)
  both_replied x y h = by h.reply
    where
      by : {r s : Option Tree} → AlikeReply how r s → (is_none r ≡ false) × (is_none s ≡ false)
      by (replied h) = (refl, refl)

  unanswered_alike : (x y : Exchange) → A x y → is_unanswered x ≡ is_unanswered y
  unanswered_alike x y h = let r = both_replied x y h in r.0 ∙ sym r.1

  pub requests_alike : (xs ys : List Exchange) → Pairwise A xs ys → requests xs ≡ requests ys
  requests_alike [] [] h = refl
  requests_alike [] (y ∷ ys) h = absurd h
  requests_alike (x ∷ xs) [] h = absurd h
  requests_alike (x ∷ xs) (y ∷ ys) h = ap (λ q. q ∷ requests xs) h.0.request ∙ ap (λ l. y.request ∷ l) (requests_alike xs ys h.1)

  follows_alike : (links : List Address) (args : List (List ℕ)) (Behind : Exchange → List Exchange → Type 0)
      → ((x y : Exchange) (xs ys : List Exchange) → A x y → Pairwise A xs ys → Behind x xs → Behind y ys)
      → (budget : ℕ) (hop : Hop) (xs ys : List Exchange) → Pairwise A xs ys → FollowsRedirects links budget hop args Behind xs → FollowsRedirects links budget hop args Behind ys
  follows_alike links args Behind go budget hop [] ys h f = absurd f
  follows_alike links args Behind go budget hop (x ∷ xs) [] h f = absurd h
  follows_alike links args Behind go budget hop (x ∷ xs) (y ∷ ys) h f = (
    sym h.0.request ∙ f.0,
    subst (λ n. MatchNext n (Behind y ys) (λ next. FollowsRedirects links (budget - 1) next args Behind ys)) (next_alike links budget h.0.reply)
        (by (next_of links budget x.reply) f.1 (λ next g. follows_alike links args Behind go (budget - 1) next xs ys h.1 g)),
  )
    where
      by : (n : Next) → MatchNext n (Behind x xs) (λ next. FollowsRedirects links (budget - 1) next args Behind xs)
          → ((next : Hop) → FollowsRedirects links (budget - 1) next args Behind xs → FollowsRedirects links (budget - 1) next args Behind ys)
          → MatchNext n (Behind y ys) (λ next. FollowsRedirects links (budget - 1) next args Behind ys)
      by Stays g ih = go x y xs ys h.0 h.1 g
      by Lost g ih = go x y xs ys h.0 h.1 g
      by (Goes next) g ih = ih next g

  parts_alike : (client : Client) (ds : List Dispatch) (xs ys : List Exchange) → Pairwise A xs ys → PartByPart client ds xs → PartByPart client ds ys
  parts_alike client [] xs ys h p = nil_alike A xs ys h p
  parts_alike client (d ∷ ds) xs ys h p =
      follows_alike client.links d.args (λ x behind. MatchBool (is_answered x) (PartByPart client ds behind) (behind ≡ []))
      (λ x y xs ys a b g. subst (λ c. MatchBool c (PartByPart client ds ys) (ys ≡ [])) (answered_alike x y a) (by (is_answered x) xs ys b g (λ f. parts_alike client ds xs ys b f))) client.settings.budget (first_hop d) xs ys h p
    where
      by : (c : Bool) (xs ys : List Exchange) → Pairwise A xs ys → MatchBool c (PartByPart client ds xs) (xs ≡ []) → (PartByPart client ds xs → PartByPart client ds ys) → MatchBool c (PartByPart client ds ys) (ys ≡ [])
      by true xs ys h g ih = ih g
      by false xs ys h g ih = nil_alike A xs ys h g

  nodes_alike : (groups : List (List Dispatch)) (xs ys : List Exchange) → Pairwise A xs ys → NodeByNode groups xs → NodeByNode groups ys
  nodes_alike [] xs ys h n = nil_alike A xs ys h n
  nodes_alike (group ∷ groups) xs ys h n = (
    sym (requests_alike (take (length group) xs) (take (length group) ys) (take_alike A (length group) xs ys h)) ∙ n.0,
    subst (λ b. MatchBool b (drop (length group) ys ≡ []) (NodeByNode groups (drop (length group) ys)))
        (any_alike A is_unanswered unanswered_alike (take (length group) xs) (take (length group) ys) (take_alike A (length group) xs ys h))
        (by (list_any is_unanswered (take (length group) xs)) n.1 (λ g. nodes_alike groups (drop (length group) xs) (drop (length group) ys) (drop_alike A (length group) xs ys h) g)),
  )
    where
      by : (b : Bool) → MatchBool b (drop (length group) xs ≡ []) (NodeByNode groups (drop (length group) xs)) → (NodeByNode groups (drop (length group) xs) → NodeByNode groups (drop (length group) ys)) → MatchBool b (drop (length group) ys ≡ []) (NodeByNode groups (drop (length group) ys))
      by true g ih = nil_alike A (drop (length group) xs) (drop (length group) ys) (drop_alike A (length group) xs ys h) g
      by false g ih = ih g

  -- a transaction's replies are not respelled
  abbrev AreExact : Task → Type 0
  AreExact task = (commands : List Command) → task ≡ transaction_of commands → how ≡ None

  made_alike : (client : Client) (task : Task) → AreExact task → (ds : List Dispatch) (xs ys : List Exchange) → Pairwise A xs ys → AreMade client task ds xs → AreMade client task ds ys
  made_alike client (slot_map_of node) exact ds xs ys h m = sym (requests_alike xs ys h) ∙ m
  made_alike client (one_command command number order) exact ds xs ys h m = parts_alike client ds xs ys h m
  made_alike client (pipeline_of entries) exact ds xs ys h m = nodes_alike (node_groups ds) xs ys h m
  made_alike client (positions_of entries) exact ds xs ys h m = sym (requests_alike xs ys h) ∙ m
  made_alike client (several_nodes command) exact ds xs ys h m = sym (requests_alike xs ys h) ∙ m
  made_alike client (one_node node command) exact ds xs ys h m = sym (requests_alike xs ys h) ∙ m
  made_alike client (read_of options streams) exact ds xs ys h m = parts_alike client ds xs ys h m
  made_alike client (transaction_of commands) exact ds xs ys h m =
      subst (AttemptAfterAttempt client (args_of commands) ds) (exchanges_equal xs ys (subst (λ w. Pairwise (AlikeExchange w) xs ys) (exact commands refl) h)) m

  pub legal_alike : (client : Client) (picks : List Address) (call : Call) → AreExact (task_of call) → (xs ys : List Exchange) → Pairwise A xs ys → IsLegalCall client picks call xs → IsLegalCall client picks call ys
  legal_alike client picks call exact xs ys h l = by (plan client picks call) l
    where
      by : (o : Result (List Dispatch) Refusal) → MatchResult o (λ ds. AreMade client (task_of call) ds xs) (λ refusal. xs ≡ []) → MatchResult o (λ ds. AreMade client (task_of call) ds ys) (λ refusal. ys ≡ [])
      by (Ok ds) m = made_alike client (task_of call) exact ds xs ys h m
      by (Err refusal) e = nil_alike A xs ys h e

  -- ---- refusals of one command

  abbrev LastAlike : Option Exchange → Option Exchange → Type 0
  LastAlike None None = Unit {0}
  LastAlike (Some x) (Some y) = A x y
  LastAlike None (Some y) = ⊥
  LastAlike (Some x) None = ⊥

  last_alike : (xs ys : List Exchange) → Pairwise A xs ys → LastAlike (last_of xs) (last_of ys)
  last_alike [] [] h = tt
  last_alike [] (y ∷ ys) h = absurd h
  last_alike (x ∷ xs) [] h = absurd h
  last_alike (x ∷ []) (y ∷ []) h = h.0
  last_alike (x ∷ []) (y ∷ v ∷ ys) h = absurd h.1
  last_alike (x ∷ w ∷ xs) (y ∷ []) h = absurd h.1
  last_alike (x ∷ w ∷ xs) (y ∷ v ∷ ys) h = last_alike (w ∷ xs) (v ∷ ys) h.1

  behind_alike : (xs ys : List Exchange) → Pairwise A xs ys → Pairwise A (behind_answers xs) (behind_answers ys)
  behind_alike [] [] h = tt
  behind_alike [] (y ∷ ys) h = absurd h
  behind_alike (x ∷ xs) [] h = absurd h
  behind_alike (x ∷ xs) (y ∷ ys) h = subst (λ b. Pairwise A (behind_answers (x ∷ xs)) (cond b (behind_answers ys) (y ∷ ys))) (any_alike A is_answered answered_alike (x ∷ xs) (y ∷ ys) h) (by (list_any is_answered (x ∷ xs)) (behind_alike xs ys h.1))
    where
      by : (b : Bool) → Pairwise A (behind_answers xs) (behind_answers ys) → Pairwise A (cond b (behind_answers xs) (x ∷ xs)) (cond b (behind_answers ys) (y ∷ ys))
      by true g = g
      by false g = h

  stop_alike : (next : Next) (t u : Tree) → first_error t ≡ first_error u → stop_refusal next t ≡ stop_refusal next u
  stop_alike Stays t u e = ap (λ o. option_and_then (λ e. Some (by_server e)) o) e
  stop_alike Lost t u e = refl
  stop_alike (Goes hop) t u e = ap (λ o. option_and_then (λ e. Some (by_server e)) o) e

  refusal_alike : (client : Client) (n : ℕ) (fault fault' : LinkFault) {r s : Option Tree} → AlikeReply how r s → last_refusal client n fault r ≡ last_refusal client n fault' s
  refusal_alike client n fault fault' (replied {t = t} {u = u} h) =
      ap (λ next. stop_refusal next t) (next_alike client.links (suc client.settings.budget - n) (replied h)) ∙ stop_alike (next_of client.links (suc client.settings.budget - n) (Some u)) t u (errors_alike how t u h).first

  pub part_refusal_alike : (client : Client) (faults faults' : Address → LinkFault) (xs ys : List Exchange) → Pairwise A xs ys → part_refusal client faults (behind_answers xs) ≡ part_refusal client faults' (behind_answers ys)
  part_refusal_alike client faults faults' xs ys h = at (behind_answers xs) (behind_answers ys) (behind_alike xs ys h)
    where
      by : (n m : ℕ) → n ≡ m → (o p : Option Exchange) → LastAlike o p → option_and_then (λ (x : Exchange). last_refusal client n (faults x.request.node) x.reply) o ≡ option_and_then (λ (x : Exchange). last_refusal client m (faults' x.request.node) x.reply) p
      by n m e None None g = refl
      by n m e None (Some y) g = absurd g
      by n m e (Some x) None g = absurd g
      by n m e (Some x) (Some y) g = ap (λ k. last_refusal client k (faults x.request.node) x.reply) e ∙ refusal_alike client m (faults x.request.node) (faults' y.request.node) g.reply

      at : (cs es : List Exchange) → Pairwise A cs es → part_refusal client faults cs ≡ part_refusal client faults' es
      at cs es g = by (length cs) (length es) (long_alike A cs es g) (last_of cs) (last_of es) (last_alike cs es g)

  -- ---- the answer to one command that is not split

  module _ {M : Type 0} (reading : Tree → Option M) (alike : (t u : Tree) → SaysTheSame how t u → reading t ≡ reading u) where
    one_alike : (xs ys : List Exchange) → Pairwise A xs ys → option_and_then reading (reply_by_split None (map (λ (x : Exchange). (let r : PartReply = record { slot = exchange_slot x; tree = reply_or_nil x } in r)) xs))
        ≡ option_and_then reading (reply_by_split None (map (λ (x : Exchange). (let r : PartReply = record { slot = exchange_slot x; tree = reply_or_nil x } in r)) ys))
    one_alike [] [] h = refl
    one_alike [] (y ∷ ys) h = absurd h
    one_alike (x ∷ xs) [] h = absurd h
    one_alike (x ∷ []) (y ∷ []) h = by h.0.reply
      where
        by : {r s : Option Tree} → AlikeReply how r s → reading (unwrap_or r nil) ≡ reading (unwrap_or s nil)
        by (replied {t = t} {u = u} h) = alike t u h
    one_alike (x ∷ []) (y ∷ v ∷ ys) h = absurd h.1
    one_alike (x ∷ w ∷ xs) (y ∷ []) h = absurd h.1
    one_alike (x ∷ w ∷ xs) (y ∷ v ∷ ys) h = refl

    pub reply_alike : (o : Option Split) → o ≡ None → (xs ys : List Exchange) → Pairwise A xs ys → option_and_then reading (reply_by_split o (part_replies xs)) ≡ option_and_then reading (reply_by_split o (part_replies ys))
    reply_alike o e xs ys h = subst (λ z. option_and_then reading (reply_by_split z (part_replies xs)) ≡ option_and_then reading (reply_by_split z (part_replies ys))) (sym e)
        (one_alike (filter is_answered xs) (filter is_answered ys) (filter_alike A is_answered answered_alike xs ys h))

  -- ---- the record of a read in parts

  module _ (alike : (t u : Tree) → SaysTheSame how t u → read_reply t ≡ read_reply u) where
    readings_alike : (xs ys : List Exchange) → Pairwise A xs ys → readings xs ≡ readings ys
    readings_alike [] [] h = refl
    readings_alike [] (y ∷ ys) h = absurd h
    readings_alike (x ∷ xs) [] h = absurd h
    readings_alike (x ∷ xs) (y ∷ ys) h =
        ap (option_and_then (λ r. option_map (λ rs. r ∷ rs) (readings xs))) (by h.0.reply)
        ∙ ap (λ o. option_and_then (λ r. option_map (λ rs. r ∷ rs) o) (read_reply (reply_or_nil y))) (readings_alike xs ys h.1)
      where
        by : {r s : Option Tree} → AlikeReply how r s → read_reply (unwrap_or r nil) ≡ read_reply (unwrap_or s nil)
        by (replied {t = t} {u = u} h) = alike t u h

    places_alike : (options : ReadSettings) (streams : List Stream) (xs ys : List Exchange) → Pairwise A xs ys
        → map (λ (x : Exchange). key_places (read_slot options x.request.args) streams) xs ≡ map (λ (x : Exchange). key_places (read_slot options x.request.args) streams) ys
    places_alike options streams [] [] h = refl
    places_alike options streams [] (y ∷ ys) h = absurd h
    places_alike options streams (x ∷ xs) [] h = absurd h
    places_alike options streams (x ∷ xs) (y ∷ ys) h =
        ap (λ (q : Request). key_places (read_slot options q.args) streams ∷ map (λ (x : Exchange). key_places (read_slot options x.request.args) streams) xs) h.0.request
        ∙ ap (λ l. key_places (read_slot options y.request.args) streams ∷ l) (places_alike options streams xs ys h.1)

    pub rows_alike : (options : ReadSettings) (streams : List Stream) (xs ys : List Exchange) → Pairwise A xs ys → read_rows options streams (filter is_answered xs) ≡ read_rows options streams (filter is_answered ys)
    rows_alike options streams xs ys h =
        let g = filter_alike A is_answered answered_alike xs ys h in
        let a = readings_alike (filter is_answered xs) (filter is_answered ys) g in
        let p = places_alike options streams (filter is_answered xs) (filter is_answered ys) g in
        by (are_of_one_slot (stream_keys streams)) (ap (option_map all_rows) a) (ap (option_and_then (join (stream_keys streams) (map (λ (x : Exchange). key_places (read_slot options x.request.args) streams) (filter is_answered xs)))) a
        ∙ ap (λ ps. option_and_then (join (stream_keys streams) ps) (readings (filter is_answered ys))) p)
      where
        by : (b : Bool) {one one' several several' : Option (List Row)} → one ≡ one' → several ≡ several' → cond b one several ≡ cond b one' several'
        by true e f = e
        by false e f = f
