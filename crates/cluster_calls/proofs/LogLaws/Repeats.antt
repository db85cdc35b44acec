-- A request is sent again only where it was redirected.
use Rattle.std.proofs.Common.{◌≡◌, ℕ, ◌-◌, Bool, true, false, cond, ◌==◌, List, [], ◌∷◌, Option, Some, None, Result, Ok, Err, refl, sym, ap, ◌∙◌, subst, MatchResult}
use Rattle.std.specs.Prelude.{MatchBool, ⊤}
use Rattle.std.proofs.lemmas.Bool.{false≢true}
use Rattle.resp_core.specs.Trees.{Tree}
use Rattle.resp_core.specs.Errors.{Refusal}
use Rattle.cluster_routing.specs.Address.{Address}
use Rattle.cluster_calls.specs.Links.Request.{Request}
use Rattle.cluster_calls.specs.Links.Reply.{Sort, Moved, Ask, Failed, Data, sort_of}
use Rattle.cluster_calls.specs.Links.Log.{Exchange, is_answered, is_data, is_data_reply}
use Rattle.cluster_calls.specs.Calls.Call.{Call}
use Rattle.cluster_calls.specs.Calls.Task.{Task, slot_map_of, one_command, pipeline_of, positions_of, several_nodes, one_node, read_of, task_of, transaction_of}
use Rattle.cluster_calls.specs.Calls.Plan.{Client, Dispatch, plan}
use Rattle.cluster_calls.specs.Calls.Redirects.{Hop, Next, Stays, Lost, Goes, next_of, reply_next, sort_next, MatchNext, FollowsRedirects}
use Rattle.cluster_calls.specs.Calls.Legal.{first_hop, PartByPart, AreMade, IsLegalCall}
use Rattle.cluster_calls.specs.OneServer.Laws.{is_in_parts, is_redirect_sort, is_redirect_reply, is_redirected, AreRepeatsRedirected}

pub redirect_reply : (links : List Address) (budget : ℕ) (r : Option Tree) (hop : Hop) → next_of links budget r ≡ Goes hop → is_redirect_reply r ≡ true
redirect_reply links budget r hop e = by (budget == 0) e
  where
    sorted : (tree : Tree) (q : Sort) → sort_of tree ≡ q → sort_next links q ≡ Goes hop → is_redirect_sort (sort_of tree) ≡ true
    sorted tree (Moved err) f g = ap is_redirect_sort f
    sorted tree (Ask err) f g = ap is_redirect_sort f
    sorted tree (Failed err) f g = cc
    sorted tree Data f g = cc

    replied : (r : Option Tree) → reply_next links r ≡ Goes hop → is_redirect_reply r ≡ true
    replied None f = cc
    replied (Some tree) f = sorted tree (sort_of tree) refl f

    by : (b : Bool) → cond b Stays (reply_next links r) ≡ Goes hop → is_redirect_reply r ≡ true
    by true f = cc
    by false f = replied r f

-- such a reply is no data
pub redirect_sort : (s : Sort) → is_redirect_sort s ≡ true → is_data s ≡ false
redirect_sort (Moved e) h = refl
redirect_sort (Ask e) h = refl
redirect_sort (Failed e) h = refl
redirect_sort Data h = absurd (false≢true h)

pub redirect_no_data : (r : Option Tree) → is_redirect_reply r ≡ true → is_data_reply r ≡ false
redirect_no_data None h = refl
redirect_no_data (Some tree) h = redirect_sort (sort_of tree) h

unless_answered : {P : Type 0} (b : Bool) → P → MatchBool b ⊤ P
unless_answered true p = tt
unless_answered false p = p

follows_repeats : (links : List Address) (budget : ℕ) (hop : Hop) (args : List (List ℕ)) (Behind : Exchange → List Exchange → Type 0) → ((last : Exchange) (behind : List Exchange) → Behind last behind → AreRepeatsRedirected (last ∷ behind))
    → (xs : List Exchange) → FollowsRedirects links budget hop args Behind xs → AreRepeatsRedirected xs
follows_repeats links budget hop args Behind then' [] h = absurd h
follows_repeats links budget hop args Behind then' (x ∷ xs) h = by (next_of links budget x.reply) refl h.1 (λ next g. follows_repeats links (budget - 1) next args Behind then' xs g)
  where
    more : (next : Hop) (ys : List Exchange) → next_of links budget x.reply ≡ Goes next → FollowsRedirects links (budget - 1) next args Behind ys → AreRepeatsRedirected ys → AreRepeatsRedirected (x ∷ ys)
    more next [] e g i = absurd g
    more next (y ∷ ys) e g i = (
      unless_answered (is_answered x) (redirect_reply links budget x.reply next e, ap (λ (q : Request). q.args) g.0 ∙ sym (ap (λ (q : Request). q.args) h.0)),
      i,
    )

    by : (n : Next) → next_of links budget x.reply ≡ n → MatchNext n (Behind x xs) (λ next. FollowsRedirects links (budget - 1) next args Behind xs)
        → ((next : Hop) → FollowsRedirects links (budget - 1) next args Behind xs → AreRepeatsRedirected xs) → AreRepeatsRedirected (x ∷ xs)
    by Stays e g ih = then' x xs g
    by Lost e g ih = then' x xs g
    by (Goes next) e g ih = more next xs e g (ih next g)

parts_repeat : (client : Client) (ds : List Dispatch) (xs : List Exchange) → PartByPart client ds xs → AreRepeatsRedirected xs
parts_repeat client [] xs h = subst AreRepeatsRedirected (sym h) tt
parts_repeat client (d ∷ ds) xs h =
    follows_repeats client.links client.settings.budget (first_hop d) d.args (λ x behind. MatchBool (is_answered x) (PartByPart client ds behind) (behind ≡ []))
    (λ last behind g. by last behind (is_answered last) refl g (λ p. parts_repeat client ds behind p)) xs h
  where
    answered : (last : Exchange) (behind : List Exchange) → is_answered last ≡ true → AreRepeatsRedirected behind → AreRepeatsRedirected (last ∷ behind)
    answered last [] e i = tt
    answered last (y ∷ ys) e i = (subst (λ b. MatchBool b ⊤ ((is_redirected last ≡ true) × (y.request.args ≡ last.request.args))) (sym e) tt, i)

    by : (last : Exchange) (behind : List Exchange) (b : Bool) → is_answered last ≡ b → MatchBool b (PartByPart client ds behind) (behind ≡ []) → (PartByPart client ds behind → AreRepeatsRedirected behind) → AreRepeatsRedirected (last ∷ behind)
    by last behind true e g ih = answered last behind e (ih g)
    by last behind false e g ih = subst (λ q. AreRepeatsRedirected (last ∷ q)) (sym g) tt

pub made_in_parts : (client : Client) (task : Task) (ds : List Dispatch) (xs : List Exchange) → is_in_parts task ≡ true → AreMade client task ds xs → PartByPart client ds xs
made_in_parts client (one_command command number order) ds xs p m = m
made_in_parts client (read_of options streams) ds xs p m = m
made_in_parts client (slot_map_of node) ds xs p m = absurd (false≢true p)
made_in_parts client (pipeline_of entries) ds xs p m = absurd (false≢true p)
made_in_parts client (positions_of entries) ds xs p m = absurd (false≢true p)
made_in_parts client (several_nodes command) ds xs p m = absurd (false≢true p)
made_in_parts client (one_node node command) ds xs p m = absurd (false≢true p)
made_in_parts client (transaction_of commands) ds xs p m = absurd (false≢true p)

pub legal_repeats : (client : Client) (picks : List Address) (call : Call) (xs : List Exchange)
    → is_in_parts (task_of call) ≡ true → IsLegalCall client picks call xs → AreRepeatsRedirected xs
legal_repeats client picks call xs p legal = by (plan client picks call) legal
  where
    by : (o : Result (List Dispatch) Refusal) → MatchResult o (λ ds. AreMade client (task_of call) ds xs) (λ refusal. xs ≡ []) → AreRepeatsRedirected xs
    by (Ok ds) l = parts_repeat client ds xs (made_in_parts client (task_of call) ds xs p l)
    by (Err r) l = subst AreRepeatsRedirected (sym l) tt
