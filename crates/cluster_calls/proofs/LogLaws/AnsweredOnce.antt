-- Each part of an answered command has one request whose reply is no redirect.
use Rattle.std.proofs.Common.{◌≡◌, ℕ, ◌-◌, Bool, true, false, not, cond, List, [], ◌∷◌, map, filter, Option, Some, None, refl, sym, ap, ◌∙◌, subst}
use Rattle.std.specs.Prelude.{MatchBool}
use Rattle.std.specs.List.{AllByRecursion}
use Rattle.std.proofs.lemmas.Bool.{false≢true}
use Rattle.resp_core.specs.Trees.{Tree}
use Rattle.cluster_routing.specs.Address.{Address}
use Rattle.cluster_routing.specs.Lists.{Pairwise}
use Rattle.cluster_calls.specs.Links.Reply.{Sort, Moved, Ask, Failed, Data, sort_of}
use Rattle.cluster_calls.specs.Links.Log.{Exchange, is_answered, is_data, is_data_reply}
use Rattle.cluster_calls.specs.Calls.Plan.{Client, Dispatch}
use Rattle.cluster_calls.specs.Calls.Redirects.{Hop, Next, Stays, Lost, Goes, next_of, MatchNext, FollowsRedirects}
use Rattle.cluster_calls.specs.Calls.Legal.{first_hop, PartByPart}
use Rattle.cluster_calls.specs.Links.Faults.{LinkFault}
use Rattle.cluster_calls.specs.Links.Log.{behind_answers}
use Rattle.cluster_calls.specs.Calls.Refusals.{part_refusal, sent_refusal}
use Rattle.cluster_calls.specs.Calls.Task.{Task, slot_map_of, one_command, pipeline_of, positions_of, several_nodes, one_node, read_of, transaction_of}
use Rattle.cluster_calls.specs.OneServer.Laws.{is_in_parts, is_redirect_sort, is_redirect_reply, is_redirected}
use Rattle.cluster_calls.proofs.LogLaws.Repeats.{redirect_reply, redirect_no_data}
use Rattle.cluster_calls.proofs.ServerLaws.Counted.{parts_done}
use Rattle.cluster_calls.proofs.ServerLaws.Grouping.{filter-same}

data_sort : (s : Sort) → is_data s ≡ true → is_redirect_sort s ≡ false
data_sort (Moved e) h = absurd (false≢true h)
data_sort (Ask e) h = absurd (false≢true h)
data_sort (Failed e) h = refl
data_sort Data h = refl

data_no_redirect : (r : Option Tree) → is_data_reply r ≡ true → is_redirect_reply r ≡ false
data_no_redirect None h = absurd (false≢true h)
data_no_redirect (Some tree) h = data_sort (sort_of tree) h

-- the request is of the dispatch
abbrev IsFrom : Dispatch → Exchange → Type 0
IsFrom d x = x.request.args ≡ d.args

-- either answered or redirected
abbrev IsEither : Exchange → Type 0
IsEither x = not (is_redirected x) ≡ is_answered x

abbrev Answers : List Dispatch → List Exchange → Type 0
Answers ds xs = Pairwise IsFrom ds (filter is_answered xs)

follows_either : (links : List Address) (budget : ℕ) (hop : Hop) (args : List (List ℕ)) (Behind : Exchange → List Exchange → Type 0) (ds : List Dispatch)
    → ((last : Exchange) (behind : List Exchange) → Behind last behind → Answers ds (last ∷ behind) → AllByRecursion IsEither (last ∷ behind))
    → (xs : List Exchange) → FollowsRedirects links budget hop args Behind xs → Answers ds xs → AllByRecursion IsEither xs
follows_either links budget hop args Behind ds then' [] h p = absurd h
follows_either links budget hop args Behind ds then' (x ∷ xs) h p = by (next_of links budget x.reply) refl h.1 (λ next g. follows_either links (budget - 1) next args Behind ds then' xs g)
  where
    by : (n : Next) → next_of links budget x.reply ≡ n → MatchNext n (Behind x xs) (λ next. FollowsRedirects links (budget - 1) next args Behind xs)
        → ((next : Hop) → FollowsRedirects links (budget - 1) next args Behind xs → Answers ds xs → AllByRecursion IsEither xs) → AllByRecursion IsEither (x ∷ xs)
    by Stays e g ih = then' x xs g p
    by Lost e g ih = then' x xs g p
    by (Goes next) e g ih =
        let r = redirect_reply links budget x.reply next e in
        let n = redirect_no_data x.reply r in
        (ap not r ∙ sym n, ih next g (subst (λ b. Pairwise IsFrom ds (cond b (x ∷ filter is_answered xs) (filter is_answered xs))) n p))

parts_either : (client : Client) (ds : List Dispatch) (xs : List Exchange) → PartByPart client ds xs → Answers ds xs → AllByRecursion IsEither xs
parts_either client [] xs h p = subst (AllByRecursion IsEither) (sym h) tt
parts_either client (d ∷ ds) xs h p =
    follows_either client.links client.settings.budget (first_hop d) d.args (λ x behind. MatchBool (is_answered x) (PartByPart client ds behind) (behind ≡ [])) (d ∷ ds)
    (λ last behind g q. by last behind (is_answered last) refl g q (λ r. parts_either client ds behind r)) xs h p
  where
    by : (last : Exchange) (behind : List Exchange) (b : Bool) → is_answered last ≡ b → MatchBool b (PartByPart client ds behind) (behind ≡ []) → Pairwise IsFrom (d ∷ ds) (cond b (last ∷ filter is_answered behind) (filter is_answered behind))
        → (PartByPart client ds behind → Answers ds behind → AllByRecursion IsEither behind) → AllByRecursion IsEither (last ∷ behind)
    by last behind true e g q ih = (ap not (data_no_redirect last.reply e) ∙ sym e, ih g q.1)
    by last behind false e g q ih = absurd (subst (λ z. Pairwise IsFrom (d ∷ ds) (filter is_answered z)) g q)

args_from : (ds : List Dispatch) (xs : List Exchange) → Pairwise IsFrom ds xs → map (λ (x : Exchange). x.request.args) xs ≡ map (λ (d : Dispatch). d.args) ds
args_from [] [] h = refl
args_from [] (x ∷ xs) h = absurd h
args_from (d ∷ ds) [] h = absurd h
args_from (d ∷ ds) (x ∷ xs) h = ap (λ a. a ∷ map (λ (y : Exchange). y.request.args) xs) h.0 ∙ ap (λ l. d.args ∷ l) (args_from ds xs h.1)

-- why a task in parts is refused
pub refused_in_parts : (client : Client) (faults : Address → LinkFault) (task : Task) (xs : List Exchange) → is_in_parts task ≡ true → sent_refusal client faults task xs ≡ part_refusal client faults (behind_answers xs)
refused_in_parts client faults (one_command command number order) xs p = refl
refused_in_parts client faults (read_of options streams) xs p = refl
refused_in_parts client faults (slot_map_of node) xs p = absurd (false≢true p)
refused_in_parts client faults (pipeline_of entries) xs p = absurd (false≢true p)
refused_in_parts client faults (positions_of entries) xs p = absurd (false≢true p)
refused_in_parts client faults (several_nodes command) xs p = absurd (false≢true p)
refused_in_parts client faults (one_node node command) xs p = absurd (false≢true p)
refused_in_parts client faults (transaction_of commands) xs p = absurd (false≢true p)

pub answered_once : (client : Client) (faults : Address → LinkFault) (ds : List Dispatch) (xs : List Exchange) → PartByPart client ds xs → part_refusal client faults (behind_answers xs) ≡ None
    → map (λ (x : Exchange). x.request.args) (filter (λ x. not (is_redirected x)) xs) ≡ map (λ (d : Dispatch). d.args) ds
answered_once client faults ds xs h e =
    let done = parts_done client faults (λ n. false) ds xs h e in
    let answers : Answers ds xs = subst (Pairwise IsFrom ds) (sym done.answers) done.args in
    ap (map (λ (x : Exchange). x.request.args)) (filter-same (λ x. not (is_redirected x)) is_answered xs (parts_either client ds xs h answers)) ∙ args_from ds (filter is_answered xs) answers
