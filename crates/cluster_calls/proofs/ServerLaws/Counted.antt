-- Which requests of a legal log count.
use Rattle.std.proofs.Common.{◌≡◌, ℕ, suc, ◌-◌, Bool, true, false, cond, ◌||◌, ◌&&◌, List, [], ◌∷◌, ◌++◌, filter, Option, Some, None, is_none, refl, sym, ap, ◌∙◌, subst}
use Rattle.std.specs.Prelude.{MatchBool, option_and_then, length}
use Rattle.std.specs.List.{list_any, AllByRecursion}
use Rattle.std.proofs.lemmas.Bool.{false≢true}
use Rattle.resp_core.specs.Trees.{Tree, ErrorText, nil, int, bulk, array, simple, okay, map, attribute, set, double, boolean, verbatim, big_number, push, server_error}
use Rattle.resp_core.specs.Parts.{first_error}
use Rattle.resp_core.specs.Errors.{by_server}
use Rattle.cluster_routing.specs.Lists.{Pairwise}
use Rattle.cluster_routing.specs.Address.{Address}
use Rattle.cluster_calls.proofs.LogLaws.Repeats.{redirect_no_data, redirect_reply}
use Rattle.cluster_calls.specs.Links.Reply.{sort_of, inner_sort}
use Rattle.cluster_calls.specs.Links.Log.{Exchange, is_data, is_data_reply, is_answered, is_unanswered, last_of, behind_answers}
use Rattle.cluster_calls.specs.OneServer.Keyspace.{Step, on_slot}
use Rattle.cluster_calls.specs.OneServer.Meaning.{Meaning}
use Rattle.cluster_calls.specs.OneServer.Operations.{Operation}
use Rattle.cluster_calls.specs.OneServer.Honest.{is_counted, counts}
use Rattle.cluster_calls.specs.Calls.Plan.{Client, Dispatch}
use Rattle.cluster_calls.specs.Calls.Redirects.{Hop, Next, Stays, Lost, Goes, next_of, MatchNext, FollowsRedirects}
use Rattle.cluster_calls.specs.Calls.Legal.{PartByPart, first_hop}
use Rattle.cluster_calls.specs.Links.Faults.{LinkFault}
use Rattle.cluster_calls.specs.Calls.Refusals.{stop_refusal, last_refusal, part_refusal}
use Rattle.cluster_calls.proofs.ServerLaws.Pieces.{with_some, pieces, SamePieces, IsDoneAs, AccountsAs}
use Rattle.cluster_calls.specs.OneServer.Laws.{is_redirect_reply}

-- what accounts for a log accounts for its counted requests
abbrev pub counted_by : (ℕ → Bool) → (List (List ℕ) → Operation) → List Exchange → List Exchange
counted_by done operation xs = filter (λ (x : Exchange). counts done (operation x.request.args) x) xs

pub counted_steps : (meaning : Meaning) (done : ℕ → Bool) (operation : List (List ℕ) → Operation) (xs : List Exchange) (ss : List (List Step)) → Pairwise (AccountsAs meaning done operation) xs ss
    → (ts : List (List Step)) × Pairwise (IsDoneAs meaning operation) (counted_by done operation xs) ts × SamePieces ts ss
counted_steps meaning done operation [] [] h = ([], tt, λ slot. refl)
counted_steps meaning done operation [] (s ∷ ss) h = absurd h
counted_steps meaning done operation (x ∷ xs) [] h = absurd h
counted_steps meaning done operation (x ∷ xs) (s ∷ ss) h = by (counts done (operation x.request.args) x) h.0 (counted_steps meaning done operation xs ss h.1)
  where
    by : (b : Bool) → MatchBool b (IsDoneAs meaning operation x s) (s ≡ []) → (ts : List (List Step)) × Pairwise (IsDoneAs meaning operation) (counted_by done operation xs) ts × SamePieces ts ss
        → (ts : List (List Step)) × Pairwise (IsDoneAs meaning operation) (cond b (x ∷ counted_by done operation xs) (counted_by done operation xs)) ts × SamePieces ts (s ∷ ss)
    by true a r = (s ∷ r.0, (a, r.1), λ slot. ap (with_some (on_slot slot s)) (r.2 slot))
    by false a r = (r.0, r.1, λ slot. r.2 slot ∙ ap (λ q. with_some (on_slot slot q) (pieces slot ss)) (sym a))

-- ---- the exchanges of one part

-- neither answered nor without a reply
abbrev pub IsPassed : Exchange → Type 0
IsPassed x = (is_answered x ≡ false) × (is_unanswered x ≡ false)

passed_reply : (links : List Address) (budget : ℕ) (r : Option Tree) (hop : Hop) → next_of links budget r ≡ Goes hop → (is_data_reply r ≡ false) × (is_none r ≡ false)
passed_reply links budget r hop e = by r (redirect_reply links budget r hop e)
  where
    by : (r : Option Tree) → is_redirect_reply r ≡ true → (is_data_reply r ≡ false) × (is_none r ≡ false)
    by None f = absurd (false≢true f)
    by (Some tree) f = (redirect_no_data (Some tree) f, refl)

-- a part's exchanges: those that were redirected, the last one, and what is behind it
pub record OfChain (args : List (List ℕ)) (Behind : Exchange → List Exchange → Type 0) (xs : List Exchange) : Type 0 where
  pub before : List Exchange
  pub last : Exchange
  pub behind : List Exchange
  pub all : xs ≡ before ++ last ∷ behind
  pub passed : AllByRecursion IsPassed before
  pub args_are : last.request.args ≡ args
  pub rest : Behind last behind

pub of_chain : (links : List Address) (budget : ℕ) (hop : Hop) (args : List (List ℕ)) (Behind : Exchange → List Exchange → Type 0) (xs : List Exchange)
    → FollowsRedirects links budget hop args Behind xs → OfChain args Behind xs
of_chain links budget hop args Behind [] h = absurd h
of_chain links budget hop args Behind (x ∷ xs) h = by (next_of links budget x.reply) refl h.1 (λ next g. of_chain links (budget - 1) next args Behind xs g)
  where
    here : Behind x xs → OfChain args Behind (x ∷ xs)
    here g = record { before = []; last = x; behind = xs; all = refl; passed = tt; args_are = ap (λ q. q.args) h.0; rest = g }

    by : (n : Next) → next_of links budget x.reply ≡ n → MatchNext n (Behind x xs) (λ next. FollowsRedirects links (budget - 1) next args Behind xs)
        → ((next : Hop) → FollowsRedirects links (budget - 1) next args Behind xs → OfChain args Behind xs) → OfChain args Behind (x ∷ xs)
    by Stays e g ih = here g
    by Lost e g ih = here g
    by (Goes next) e g ih =
        let r = ih next g in
        record {
          before = x ∷ r.before;
          last = r.last;
          behind = r.behind;
          all = ap (λ q. x ∷ q) r.all;
          passed = (passed_reply links budget x.reply next e, r.passed);
          args_are = r.args_are;
          rest = r.rest;
        }

-- ---- counting

pub passed_uncounted : (done : ℕ → Bool) (x : Exchange) → IsPassed x → is_counted done x ≡ false
passed_uncounted done x h = ap (λ b. b || (is_unanswered x && done x.place)) h.0 ∙ ap (λ b. b && done x.place) h.1

pub counted_answer : (done : ℕ → Bool) (x : Exchange) → is_answered x ≡ true → is_counted done x ≡ true
counted_answer done x h = ap (λ b. b || (is_unanswered x && done x.place)) h

passed_over : (q : Exchange → Bool) → ((x : Exchange) → IsPassed x → q x ≡ false) → (before ys : List Exchange) → AllByRecursion IsPassed before → filter q (before ++ ys) ≡ filter q ys
passed_over q out [] ys h = refl
passed_over q out (x ∷ before) ys h = ap (λ b. cond b (x ∷ filter q (before ++ ys)) (filter q (before ++ ys))) (out x h.0) ∙ passed_over q out before ys h.1

-- the counted requests are those of the first parts, one each
pub record Begun (done : ℕ → Bool) (ds : List Dispatch) (xs : List Exchange) : Type 0 where
  pub begun : List Dispatch
  pub later : List Dispatch
  pub all : ds ≡ begun ++ later
  pub args : Pairwise (λ (d : Dispatch) (x : Exchange). x.request.args ≡ d.args) begun (filter (is_counted done) xs)

abbrev part_behind : Client → List Dispatch → Exchange → List Exchange → Type 0
part_behind client ds x behind = MatchBool (is_answered x) (PartByPart client ds behind) (behind ≡ [])

pub parts_begun : (client : Client) (done : ℕ → Bool) (ds : List Dispatch) (xs : List Exchange) → PartByPart client ds xs → Begun done ds xs
parts_begun client done [] xs h = record { begun = []; later = []; all = refl; args = subst (λ q. Pairwise (λ (d : Dispatch) (x : Exchange). x.request.args ≡ d.args) [] (filter (is_counted done) q)) (sym h) tt }
parts_begun client done (d ∷ ds) xs h =
    by (is_answered c.last) refl c.rest (is_counted done c.last) refl (λ g. parts_begun client done ds c.behind g)
  where
    c : OfChain d.args (part_behind client ds) xs
    c = of_chain client.links client.settings.budget (first_hop d) d.args (part_behind client ds) xs h

    counted : filter (is_counted done) xs ≡ filter (is_counted done) (c.last ∷ c.behind)
    counted = ap (filter (is_counted done)) c.all ∙ passed_over (is_counted done) (passed_uncounted done) c.before (c.last ∷ c.behind) c.passed

    with_last : is_counted done c.last ≡ true → filter (is_counted done) xs ≡ c.last ∷ filter (is_counted done) c.behind
    with_last e = counted ∙ ap (λ b. cond b (c.last ∷ filter (is_counted done) c.behind) (filter (is_counted done) c.behind)) e

    by : (a : Bool) → is_answered c.last ≡ a → MatchBool a (PartByPart client ds c.behind) (c.behind ≡ []) → (k : Bool) → is_counted done c.last ≡ k
        → (PartByPart client ds c.behind → Begun done ds c.behind) → Begun done (d ∷ ds) xs
    by true e p k f ih =
        let i = ih p in
        record {
          begun = d ∷ i.begun;
          later = i.later;
          all = ap (λ q. d ∷ q) i.all;
          args = subst (λ q. Pairwise (λ (d : Dispatch) (x : Exchange). x.request.args ≡ d.args) (d ∷ i.begun) q) (sym (with_last (counted_answer done c.last e))) (c.args_are, i.args);
        }
    by false e p true f ih = record {
      begun = d ∷ [];
      later = ds;
      all = refl;
      args = subst (λ q. Pairwise (λ (d : Dispatch) (x : Exchange). x.request.args ≡ d.args) (d ∷ []) q) (sym (with_last f ∙ ap (λ q. c.last ∷ filter (is_counted done) q) p)) (c.args_are, tt);
    }
    by false e p false f ih = record {
      begun = [];
      later = d ∷ ds;
      all = refl;
      args = subst (λ q. Pairwise (λ (d : Dispatch) (x : Exchange). x.request.args ≡ d.args) [] q)
          (sym (counted ∙ ap (λ b. cond b (c.last ∷ filter (is_counted done) c.behind) (filter (is_counted done) c.behind)) f ∙ ap (filter (is_counted done)) p)) tt;
    }

-- ---- a call that is not refused

pub tree_answered : (t : Tree) → first_error t ≡ None → is_data (sort_of t) ≡ true
unfolding first_error
tree_answered nil e = refl
tree_answered (int n) e = refl
tree_answered (bulk b) e = refl
tree_answered (array ts) e = ap (λ o. is_data (inner_sort o)) e
tree_answered (simple s) e = refl
tree_answered okay e = refl
tree_answered (map ps) e = ap (λ o. is_data (inner_sort o)) e
tree_answered (attribute t ps) e = ap (λ o. is_data (inner_sort o)) e
tree_answered (set ts) e = ap (λ o. is_data (inner_sort o)) e
tree_answered (double s) e = refl
tree_answered (boolean b) e = refl
tree_answered (verbatim f s) e = refl
tree_answered (big_number b) e = refl
tree_answered (push k ts) e = ap (λ o. is_data (inner_sort o)) e
tree_answered (server_error err) e = cc

no_server_error : (o : Option ErrorText) → option_and_then (λ (e : ErrorText). Some (by_server e)) o ≡ None → o ≡ None
no_server_error None e = refl
no_server_error (Some err) e = cc

stop_none : (next : Next) (tree : Tree) → stop_refusal next tree ≡ None → first_error tree ≡ None
stop_none Stays tree e = no_server_error (first_error tree) e
stop_none Lost tree e = cc
stop_none (Goes hop) tree e = no_server_error (first_error tree) e

pub reply_answered : (client : Client) (n : ℕ) (fault : LinkFault) (r : Option Tree) → last_refusal client n fault r ≡ None → is_data_reply r ≡ true
reply_answered client n fault None e = cc
reply_answered client n fault (Some tree) e = tree_answered tree (stop_none (next_of client.links (suc client.settings.budget - n) (Some tree)) tree e)

or_right : (b : Bool) {c : Bool} → c ≡ true → (b || c) ≡ true
or_right true e = refl
or_right false e = e

-- where some are not answered, the last of them refuses
last_answered : (client : Client) (n : ℕ) (faults : Address → LinkFault) (x : Exchange) (xs : List Exchange)
    → option_and_then (λ (y : Exchange). last_refusal client n (faults y.request.node) y.reply) (last_of (x ∷ xs)) ≡ None → list_any is_answered (x ∷ xs) ≡ true
last_answered client n faults x [] e = ap (λ b. b || false) (reply_answered client n (faults x.request.node) x.reply e)
last_answered client n faults x (y ∷ ys) e = or_right (is_answered x) (last_answered client n faults y ys e)

none_answered : (xs : List Exchange) (last : Exchange) → AllByRecursion IsPassed xs → is_answered last ≡ false → list_any is_answered (xs ++ last ∷ []) ≡ false
none_answered [] last h e = ap (λ b. b || false) e
none_answered (x ∷ xs) last h e = ap (λ b. b || list_any is_answered (xs ++ last ∷ [])) h.0.0 ∙ none_answered xs last h.1 e

behind_none : (xs : List Exchange) → list_any is_answered xs ≡ false → behind_answers xs ≡ xs
behind_none [] e = refl
behind_none (x ∷ xs) e = ap (λ b. cond b (behind_answers xs) (x ∷ xs)) e

some_answered : (xs : List Exchange) (last : Exchange) (behind : List Exchange) → is_answered last ≡ true → list_any is_answered (xs ++ last ∷ behind) ≡ true
some_answered [] last behind e = ap (λ b. b || list_any is_answered behind) e
some_answered (x ∷ xs) last behind e = or_right (is_answered x) (some_answered xs last behind e)

behind_answer : (xs : List Exchange) (last : Exchange) (behind : List Exchange) → is_answered last ≡ true → behind_answers (xs ++ last ∷ behind) ≡ behind_answers behind
behind_answer [] last behind e = ap (λ b. cond b (behind_answers behind) (last ∷ behind)) (some_answered [] last behind e)
behind_answer (x ∷ xs) last behind e =
    ap (λ b. cond b (behind_answers (xs ++ last ∷ behind)) (x ∷ (xs ++ last ∷ behind))) (or_right (is_answered x) (some_answered xs last behind e)) ∙ behind_answer xs last behind e

-- each part has one counted request, and it is the one answered
pub record AllDone (done : ℕ → Bool) (ds : List Dispatch) (xs : List Exchange) : Type 0 where
  pub args : Pairwise (λ (d : Dispatch) (x : Exchange). x.request.args ≡ d.args) ds (filter (is_counted done) xs)
  pub answers : filter is_answered xs ≡ filter (is_counted done) xs
  pub answered : AllByRecursion (λ x. is_answered x ≡ true) (filter (is_counted done) xs)

pub parts_done : (client : Client) (faults : Address → LinkFault) (done : ℕ → Bool) (ds : List Dispatch) (xs : List Exchange) → PartByPart client ds xs
    → part_refusal client faults (behind_answers xs) ≡ None → AllDone done ds xs
parts_done client faults done [] xs h e = subst (AllDone done []) (sym h) (record { args = tt; answers = refl; answered = tt })
parts_done client faults done (d ∷ ds) xs h e =
    by (is_answered c.last) refl c.rest (λ g f. parts_done client faults done ds c.behind g f)
  where
    c : OfChain d.args (part_behind client ds) xs
    c = of_chain client.links client.settings.budget (first_hop d) d.args (part_behind client ds) xs h

    -- a last one without an answer refuses
    refused : (ys : List Exchange) → (y : Exchange) × (zs : List Exchange) × (ys ≡ y ∷ zs) → list_any is_answered ys ≡ false → part_refusal client faults (behind_answers ys) ≡ None → ⊥
    refused ys w none f =
        let g : part_refusal client faults (w.0 ∷ w.1) ≡ None = subst (λ q. part_refusal client faults q ≡ None) (behind_none ys none ∙ w.2) f in
        false≢true (sym none ∙ ap (list_any is_answered) w.2 ∙ last_answered client (length (w.0 ∷ w.1)) faults w.0 w.1 g)

    some : (before : List Exchange) (last : Exchange) → (y : Exchange) × (zs : List Exchange) × (before ++ last ∷ [] ≡ y ∷ zs)
    some [] last = (last, [], refl)
    some (x ∷ before) last = (x, before ++ last ∷ [], refl)

    by : (a : Bool) → is_answered c.last ≡ a → MatchBool a (PartByPart client ds c.behind) (c.behind ≡ [])
        → (PartByPart client ds c.behind → part_refusal client faults (behind_answers c.behind) ≡ None → AllDone done ds c.behind) → AllDone done (d ∷ ds) xs
    by true f p ih =
        let i = ih p (ap (part_refusal client faults) (sym (ap behind_answers c.all ∙ behind_answer c.before c.last c.behind f)) ∙ e) in
        let counted : filter (is_counted done) xs ≡ c.last ∷ filter (is_counted done) c.behind =
        ap (filter (is_counted done)) c.all ∙ passed_over (is_counted done) (passed_uncounted done) c.before (c.last ∷ c.behind) c.passed
        ∙ ap (λ b. cond b (c.last ∷ filter (is_counted done) c.behind) (filter (is_counted done) c.behind)) (counted_answer done c.last f) in
        let answers : filter is_answered xs ≡ c.last ∷ filter is_answered c.behind =
        ap (filter is_answered) c.all ∙ passed_over is_answered (λ x k. k.0) c.before (c.last ∷ c.behind) c.passed
        ∙ ap (λ b. cond b (c.last ∷ filter is_answered c.behind) (filter is_answered c.behind)) f in
        record {
          args = subst (λ q. Pairwise (λ (d : Dispatch) (x : Exchange). x.request.args ≡ d.args) (d ∷ ds) q) (sym counted) (c.args_are, i.args);
          answers = answers ∙ ap (λ q. c.last ∷ q) i.answers ∙ sym counted;
          answered = subst (AllByRecursion (λ x. is_answered x ≡ true)) (sym counted) (f, i.answered);
        }
    by false f p ih =
        let whole : xs ≡ c.before ++ c.last ∷ [] = c.all ∙ ap (λ q. c.before ++ c.last ∷ q) p in
        absurd (refused (c.before ++ c.last ∷ []) (some c.before c.last) (none_answered c.before c.last c.passed f) (subst (λ q. part_refusal client faults (behind_answers q) ≡ None) whole e))
