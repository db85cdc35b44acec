-- Behind a request that was not redirected none has its arguments again.
use Rattle.std.proofs.Common.{◌≡◌, ◌≢◌, ℕ, ◌-◌, Bool, true, false, ◌||◌, nat_eq, eq-eqb, List, [], ◌∷◌, ◌++◌, map, Option, Some, None, Result, Ok, Err, refl, sym, ap, ◌∙◌, subst, MatchResult}
use Rattle.std.specs.Prelude.{MatchBool, ⊤}
use Rattle.std.specs.List.{AllByRecursion}
use Rattle.std.proofs.lemmas.Bool.{false≢true}
use Rattle.resp_core.specs.Errors.{Refusal}
use Rattle.resp_args.specs.Packed.{sent}
use Rattle.cluster_routing.specs.Address.{Address}
use Rattle.cluster_routing.specs.HashSlot.{hash_slot}
use Rattle.cluster_routing.specs.Lists.{among, IsDistinct}
use Rattle.cluster_routing.specs.Split.{Split, split_of}
use Rattle.cluster_calls.specs.Links.Request.{Request}
use Rattle.cluster_calls.specs.Links.Log.{Exchange, is_answered}
use Rattle.cluster_calls.specs.Calls.Call.{Call, Stream}
use Rattle.cluster_calls.specs.Calls.Task.{Task, slot_map_of, one_command, pipeline_of, positions_of, several_nodes, one_node, read_of, task_of, transaction_of}
use Rattle.cluster_calls.specs.Calls.Plan.{Client, Dispatch, plan}
use Rattle.cluster_calls.specs.Calls.Redirects.{Hop, Next, Stays, Lost, Goes, next_of, MatchNext, FollowsRedirects}
use Rattle.cluster_calls.specs.Calls.Replies.{args_slot}
use Rattle.cluster_calls.specs.Calls.Legal.{first_hop, PartByPart, AreMade, IsLegalCall}
use Rattle.cluster_calls.specs.OneServer.Laws.{is_in_parts, is_redirected}
use Rattle.cluster_calls.specs.OneServer.Resending.{task_slot}
use Rattle.cluster_calls.proofs.LogLaws.Plans.{or_right}
use Rattle.cluster_calls.proofs.LogLaws.Repeats.{redirect_reply, made_in_parts}
use Rattle.cluster_calls.proofs.ServerLaws.Calls.{plan_sends}
use Rattle.cluster_calls.proofs.ServerLaws.Distinct.{firsts_distinct}
use Rattle.cluster_calls.proofs.ServerLaws.PartCall.{Sends}
use Rattle.cluster_calls.proofs.ServerLaws.ReadParts.{plan_reads}

-- ---- none again

abbrev IsOther : List (List ℕ) → Exchange → Type 0
IsOther args y = y.request.args ≢ args

-- behind each request that was not redirected all others have other arguments
abbrev AreSentNoMore : List Exchange → Type 0
AreSentNoMore [] = ⊤
AreSentNoMore (x ∷ xs) = (is_redirected x ≡ false → AllByRecursion (IsOther x.request.args) xs) × AreSentNoMore xs

follows_no_more : (links : List Address) (budget : ℕ) (hop : Hop) (args : List (List ℕ)) (Behind : Exchange → List Exchange → Type 0)
    → ((last : Exchange) (behind : List Exchange) → Behind last behind → AllByRecursion (IsOther args) behind × AreSentNoMore behind)
    → (xs : List Exchange) → FollowsRedirects links budget hop args Behind xs → AreSentNoMore xs
follows_no_more links budget hop args Behind then' [] h = absurd h
follows_no_more links budget hop args Behind then' (x ∷ xs) h = by (next_of links budget x.reply) refl h.1 (λ next g. follows_no_more links (budget - 1) next args Behind then' xs g)
  where
    ends : Behind x xs → AreSentNoMore (x ∷ xs)
    ends g =
        let r = then' x xs g in
        (λ stays. subst (λ (q : Request). AllByRecursion (IsOther q.args) xs) (sym h.0) r.0, r.1)

    by : (n : Next) → next_of links budget x.reply ≡ n → MatchNext n (Behind x xs) (λ next. FollowsRedirects links (budget - 1) next args Behind xs)
        → ((next : Hop) → FollowsRedirects links (budget - 1) next args Behind xs → AreSentNoMore xs) → AreSentNoMore (x ∷ xs)
    by Stays e g ih = ends g
    by Lost e g ih = ends g
    by (Goes next) e g ih = (λ stays. absurd (false≢true (sym stays ∙ redirect_reply links budget x.reply next e)), ih next g)

-- ---- each request has the slot of a part, as the arguments name it

module _ (named : List (List ℕ) → ℕ) where
  abbrev slots_of : List Dispatch → List ℕ
  slots_of ds = map (λ (d : Dispatch). named d.args) ds

  abbrev HasSlotIn : List ℕ → Exchange → Type 0
  HasSlotIn slots x = among nat_eq (named x.request.args) slots ≡ true

  follows_slots : (slots : List ℕ) (links : List Address) (budget : ℕ) (hop : Hop) (args : List (List ℕ)) (Behind : Exchange → List Exchange → Type 0) → among nat_eq (named args) slots ≡ true
      → ((last : Exchange) (behind : List Exchange) → Behind last behind → AllByRecursion (HasSlotIn slots) behind)
      → (xs : List Exchange) → FollowsRedirects links budget hop args Behind xs → AllByRecursion (HasSlotIn slots) xs
  follows_slots slots links budget hop args Behind there then' [] h = absurd h
  follows_slots slots links budget hop args Behind there then' (x ∷ xs) h = by (next_of links budget x.reply) h.1 (λ next g. follows_slots slots links (budget - 1) next args Behind there then' xs g)
    where
      here : HasSlotIn slots x
      here = ap (λ (q : Request). among nat_eq (named q.args) slots) h.0 ∙ there

      by : (n : Next) → MatchNext n (Behind x xs) (λ next. FollowsRedirects links (budget - 1) next args Behind xs)
          → ((next : Hop) → FollowsRedirects links (budget - 1) next args Behind xs → AllByRecursion (HasSlotIn slots) xs) → AllByRecursion (HasSlotIn slots) (x ∷ xs)
      by Stays g ih = (here, then' x xs g)
      by Lost g ih = (here, then' x xs g)
      by (Goes next) g ih = (here, ih next g)

  more_slots : (slot : ℕ) (slots : List ℕ) (xs : List Exchange) → AllByRecursion (HasSlotIn slots) xs → AllByRecursion (HasSlotIn (slot ∷ slots)) xs
  more_slots slot slots [] h = tt
  more_slots slot slots (x ∷ xs) h = (or_right (nat_eq (named x.request.args) slot) h.0, more_slots slot slots xs h.1)

  parts_slots : (client : Client) (ds : List Dispatch) (xs : List Exchange) → PartByPart client ds xs → AllByRecursion (HasSlotIn (slots_of ds)) xs
  parts_slots client [] xs h = subst (AllByRecursion (HasSlotIn [])) (sym h) tt
  parts_slots client (d ∷ ds) xs h =
      follows_slots (slots_of (d ∷ ds)) client.links client.settings.budget (first_hop d) d.args (λ x behind. MatchBool (is_answered x) (PartByPart client ds behind) (behind ≡ []))
      (ap (λ b. b || among nat_eq (named d.args) (slots_of ds)) (eq-eqb (named d.args) (named d.args) refl))
      (λ last behind g. by (is_answered last) behind g (λ p. parts_slots client ds behind p)) xs h
    where
      by : (b : Bool) (behind : List Exchange) → MatchBool b (PartByPart client ds behind) (behind ≡ []) → (PartByPart client ds behind → AllByRecursion (HasSlotIn (slots_of ds)) behind)
          → AllByRecursion (HasSlotIn (slots_of (d ∷ ds))) behind
      by true behind g ih = more_slots (named d.args) (slots_of ds) behind (ih g)
      by false behind g ih = subst (AllByRecursion (HasSlotIn (slots_of (d ∷ ds)))) (sym g) tt

  others : (args : List (List ℕ)) (slots : List ℕ) (xs : List Exchange) → among nat_eq (named args) slots ≡ false → AllByRecursion (HasSlotIn slots) xs → AllByRecursion (IsOther args) xs
  others args slots [] none h = tt
  others args slots (x ∷ xs) none h = (
    λ same. false≢true (sym none ∙ ap (λ a. among nat_eq (named a) slots) (sym same) ∙ h.0),
    others args slots xs none h.1,
  )

  no_more : (client : Client) (ds : List Dispatch) (xs : List Exchange) → IsDistinct nat_eq (slots_of ds) → PartByPart client ds xs → AreSentNoMore xs
  no_more client [] xs own h = subst AreSentNoMore (sym h) tt
  no_more client (d ∷ ds) xs own h =
      follows_no_more client.links client.settings.budget (first_hop d) d.args (λ x behind. MatchBool (is_answered x) (PartByPart client ds behind) (behind ≡ []))
      (λ last behind g. by (is_answered last) behind g (λ p. no_more client ds behind own.1 p)) xs h
    where
      by : (b : Bool) (behind : List Exchange) → MatchBool b (PartByPart client ds behind) (behind ≡ []) → (PartByPart client ds behind → AreSentNoMore behind) → AllByRecursion (IsOther d.args) behind × AreSentNoMore behind
      by true behind g ih = (others d.args (slots_of ds) behind own.0 (parts_slots client ds behind g), ih g)
      by false behind g ih = subst (λ q. AllByRecursion (IsOther d.args) q × AreSentNoMore q) (sym g) (tt, tt)

at_place : (before after : List Exchange) (x : Exchange) → AreSentNoMore (before ++ x ∷ after) → is_redirected x ≡ false → AllByRecursion (IsOther x.request.args) after
at_place [] after x h stays = h.0 stays
at_place (y ∷ before) after x h stays = at_place before after x h.1 stays

-- ---- the parts have slots of their own

own_slots : (args : List (List ℕ)) (ds : List Dispatch) (o : Option Split) → Sends args ds o → IsDistinct nat_eq (map (λ (d : Dispatch). args_slot d.args) ds)
own_slots args ds None s = subst (λ es. IsDistinct nat_eq (map (λ (d : Dispatch). args_slot d.args) es)) (sym s.1) (refl, tt)
own_slots args ds (Some split) s = s.distinct

pub parts_own_slots : (client : Client) (picks : List Address) (call : Call) (ds : List Dispatch)
    → is_in_parts (task_of call) ≡ true → plan client picks call ≡ Ok ds → IsDistinct nat_eq (map (λ (d : Dispatch). task_slot (task_of call) d.args) ds)
parts_own_slots client picks call ds p e = by (task_of call) refl p
  where
    by : (task : Task) → task_of call ≡ task → is_in_parts task ≡ true → IsDistinct nat_eq (map (λ (d : Dispatch). task_slot task d.args) ds)
    by (one_command command number order) t p = own_slots (sent command) ds (split_of (sent command)) (plan_sends client picks call command number order ds t e)
    by (read_of options streams) t p = subst (IsDistinct nat_eq) (sym (plan_reads options streams client picks call ds t e)) (firsts_distinct nat_eq (map (λ (s : Stream). hash_slot s.key) streams))
    by (slot_map_of node) t p = absurd (false≢true p)
    by (pipeline_of entries) t p = absurd (false≢true p)
    by (positions_of entries) t p = absurd (false≢true p)
    by (several_nodes command) t p = absurd (false≢true p)
    by (one_node node command) t p = absurd (false≢true p)
    by (transaction_of commands) t p = absurd (false≢true p)

pub none_again : (client : Client) (picks : List Address) (call : Call) (before after : List Exchange) (x : Exchange)
    → is_in_parts (task_of call) ≡ true → IsLegalCall client picks call (before ++ x ∷ after) → is_redirected x ≡ false → AllByRecursion (IsOther x.request.args) after
none_again client picks call before after x p legal stays = at_place before after x (by (plan client picks call) refl legal) stays
  where
    by : (o : Result (List Dispatch) Refusal) → plan client picks call ≡ o → MatchResult o (λ ds. AreMade client (task_of call) ds (before ++ x ∷ after)) (λ refusal. before ++ x ∷ after ≡ []) → AreSentNoMore (before ++ x ∷ after)
    by (Ok ds) e l = no_more (task_slot (task_of call)) client ds (before ++ x ∷ after) (parts_own_slots client picks call ds p e) (made_in_parts client (task_of call) ds (before ++ x ∷ after) p l)
    by (Err r) e l = subst AreSentNoMore (sym l) tt
