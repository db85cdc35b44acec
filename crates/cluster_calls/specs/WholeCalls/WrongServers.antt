-- Runs over nodes gone wrong, and runs with wrong answers: no clause of the claim lets them pass. Beside each
-- stands the right one.
use Rattle.std.specs.Prelude.{◌≡◌, ◌==◌, ℕ, zero, suc, Bool, true, List, [], ◌∷◌, ◌++◌, Some, None, Ok, Err, Contains, MatchOption, codes, refl}
use Rattle.std.specs.List.{AllByRecursion}
use Rattle.std.proofs.Common.{ap, sym, ◌∙◌, subst, not-suc-le-zero, le_of_suc-le-suc}
use Rattle.std.proofs.lemmas.Bool.{false≢true}
use Rattle.resp_core.specs.Trees.{Tree, bulk, okay}
use Rattle.resp_core.specs.Errors.{by_cause}
use Rattle.resp_core.specs.Parts.{first_error}
use Rattle.resp_core.specs.declared.errors.redis_error.Cause.TheVariants.{Io}
use Rattle.cluster_routing.specs.Split.{split_of, splitting_of}
use Rattle.cluster_routing.specs.Table.{rule_of, table}
use Rattle.cluster_routing.specs.Lists.{concat, Pairwise}
use Rattle.cluster_routing.specs.Examples.{first_node as n1, second_node as n2}
use Rattle.cluster_calls.specs.Links.Log.{Exchange}
use Rattle.cluster_calls.specs.Calls.Answer.{Value}
use Rattle.cluster_calls.specs.Calls.Call.{Call}
use Rattle.cluster_calls.specs.OneServer.Operations.{RunCommand, Response, Reply}
use Rattle.cluster_calls.specs.OneServer.Keyspace.{Keyspace, Deed, Whole, Step, History}
use Rattle.cluster_calls.specs.OneServer.Meaning.{Meaning, DoOperation, DoesTuple, IsWholeStep, AreAllowed, DoAll, OneServer, tree_of_steps, step_trees}
use Rattle.cluster_calls.specs.OneServer.Honest.{HonestRun, AccountsFor}
use Rattle.cluster_calls.specs.OneServer.Commands.{IsAnswerBy}
use Rattle.cluster_calls.specs.OneServer.Headline.{RepliedCall, with_replies, command_logs, AsOneServer}
use Rattle.cluster_calls.specs.WholeCalls.Base.{taken, query, plain, text}
use Rattle.cluster_calls.specs.WholeCalls.Deeds.{was_done}
use Rattle.cluster_calls.specs.WholeCalls.KeyRuns.{set_a, get_a, get_b, slot_a, sets_a, meaning, none_done, only_b, a_and_b, played, answered, set_a_done, sets_a_allowed}

-- ---- what all of them go by

-- what holds of all elements holds of each
pub of_each : {X : Type 0} (P : X → Type 0) (xs : List X) (x : X) → AllByRecursion P xs → Contains xs x → P x
of_each P [] x a (k, small, e) = absurd (not-suc-le-zero small)
of_each P (y ∷ ys) x a (zero, small, e) = subst P e a.0
of_each P (y ∷ ys) x a (suc k, small, e) = of_each P ys x a.1 (k, le_of_suc-le-suc small, e)

-- the one step of a command that is not split
pub record StepOf (may : Meaning) (args : List (List ℕ)) (steps : List Step)
    (response : Response) : Type 0 where
  pub step : Step
  pub alone : steps ≡ step ∷ []
  pub allowed : Contains may step
  pub deed : step.deed ≡ Whole args
  pub same : step.response ≡ response

pub step_of : (may : Meaning) (args : List (List ℕ)) (steps : List Step) (response : Response)
    → split_of args ≡ None → DoOperation (RunCommand args) steps response → AreAllowed may steps
    → StepOf may args steps response
step_of may args steps response whole h allowed =
    let w = subst (λ o. MatchOption o ((x : Step) × (steps ≡ x ∷ []) × IsWholeStep args x h.0)
    (λ s. Pairwise (DoesTuple s.splitting.policy s.word s.shared) s.tuples steps
    × (h.0 ≡ tree_of_steps s.splitting.policy (step_trees steps)))) whole h.2 in
    let here = subst (AreAllowed may) w.1 allowed in
    record { step = w.0; alone = w.1; allowed = here.0; deed = w.2.deed; same = w.2.response ∙ sym h.1 }

-- a response that no step of the meaning has
pub cannot_respond : (may : Meaning) (args : List (List ℕ)) (steps : List Step) (response : Response)
    → split_of args ≡ None
    → AllByRecursion (λ (x : Step). x.deed ≡ Whole args → x.response ≡ response → ⊥) may
    → DoOperation (RunCommand args) steps response → AreAllowed may steps → ⊥
cannot_respond may args steps response whole none h allowed =
    let x = step_of may args steps response whole h allowed in
    of_each (λ (y : Step). y.deed ≡ Whole args → y.response ≡ response → ⊥) may x.step none x.allowed x.deed
    x.same

-- a keyspace to which no step of the meaning leads
pub cannot_lead : (may : Meaning) (args : List (List ℕ)) (keys keys' : Keyspace) (steps : List Step)
    (response : Response) → split_of args ≡ None
    → AllByRecursion (λ (x : Step). x.deed ≡ Whole args → History keys (x ∷ []) keys' → ⊥) may
    → DoOperation (RunCommand args) steps response → AreAllowed may steps → History keys (steps ++ []) keys'
    → ⊥
cannot_lead may args keys keys' steps response whole none h allowed leads =
    let x = step_of may args steps response whole h allowed in
    of_each (λ (y : Step). y.deed ≡ Whole args → History keys (y ∷ []) keys' → ⊥) may x.step none x.allowed
    x.deed (subst (λ q. History keys (q ++ []) keys') x.alone leads)

pub one_command_cannot_lead : (may : Meaning) (args : List (List ℕ)) (keys keys' : Keyspace)
    (responses : List Response) → split_of args ≡ None
    → AllByRecursion (λ (x : Step). x.deed ≡ Whole args → History keys (x ∷ []) keys' → ⊥) may
    → OneServer may keys (RunCommand args ∷ []) responses keys' → ⊥
one_command_cannot_lead may args keys keys' responses whole none h = by h.0 responses h.1 h.2
  where
    by : (ss : List (List Step)) (rs : List Response) → DoAll may (RunCommand args ∷ []) ss rs
        → History keys (concat ss) keys' → ⊥
    by [] rs a leads = absurd a
    by (s ∷ ss) [] a leads = absurd a
    by (s ∷ []) (r ∷ rs) a leads = cannot_lead may args keys keys' s r whole none a.0.0 a.0.1 leads
    by (s ∷ s2 ∷ ss) (r ∷ rs) a leads = absurd a.1

-- ---- an answer that is another call's

-- the first byte of a text, and of a command's first argument
abbrev pub reply_byte : Response → ℕ
reply_byte (Reply (bulk (b ∷ bs))) = b
reply_byte response = 0

abbrev pub deed_byte : Deed → ℕ
deed_byte (Whole (word ∷ (b ∷ bs) ∷ args)) = b
deed_byte deed = 0

-- GET a, GET b, each with the other one's answer
abbrev pub swapped : List RepliedCall
swapped = with_replies (taken (text (codes "2") ∷ []) (text (codes "1") ∷ []))
    (answered get_a (text (codes "2")) (plain n2 get_a ∷ [])
    ∷ answered get_b (text (codes "1")) (plain n1 get_b ∷ []) ∷ [])

pub response_of : (done : ℕ → Bool) (args : List (List ℕ)) (xs : List Exchange) (tree : Tree)
    (responses : List Response)
    → IsAnswerBy done (query args) xs (Ok (Value tree)) responses → responses ≡ Reply tree ∷ []
response_of done args xs tree responses h =
    let e : Some (Value h.0) ≡ Some (Value tree) = h.2 in
    let same : h.0 ≡ tree = cc in
    h.1 ∙ ap (λ t. Reply t ∷ []) same

pub get_a_is_whole : split_of get_a ≡ None
unfolding rule_of table splitting_of
get_a_is_whole = refl

pub swapped_answers_are_no_servers : (keys' : Keyspace) → AsOneServer meaning a_and_b none_done swapped keys'
    → ⊥
swapped_answers_are_no_servers keys' h = by h.responses h.answers h.served
  where
    none : AllByRecursion
        (λ (x : Step). x.deed ≡ Whole get_a → x.response ≡ Reply (text (codes "2")) → ⊥) meaning
    none = (
      λ d r. cc,
      (
        λ d r. false≢true (ap (λ q. reply_byte q == 50) r),
        (λ d r. false≢true (ap (λ q. deed_byte q == 97) d), tt),
      ),
    )

    at_first : (ss : List (List Step)) (rs : List Response)
        → DoAll meaning (RunCommand get_a ∷ RunCommand get_b ∷ []) ss (Reply (text (codes "2")) ∷ rs) → ⊥
    at_first [] rs a = absurd a
    at_first (s ∷ ss) rs a = cannot_respond meaning get_a s
        (Reply (text (codes "2"))) get_a_is_whole none a.0.0 a.0.1

    by : (rs : List (List Response))
        → Pairwise (λ (t : RepliedCall) here. IsAnswerBy none_done t.call t.log t.answer here) swapped rs
        → OneServer meaning a_and_b (RunCommand get_a ∷ RunCommand get_b ∷ []) (concat rs) keys' → ⊥
    by [] a s = absurd a
    by (r ∷ rs) a s = at_first s.0 (concat rs)
        (subst (λ q. DoAll meaning (RunCommand get_a ∷ RunCommand get_b ∷ []) s.0 (q ++ concat rs))
        (response_of none_done get_a [] (text (codes "2")) r a.0) s.1)

-- ---- a node that answered and did nothing

abbrev pub one_set : List RepliedCall
one_set = with_replies (taken [] (okay ∷ [])) (answered set_a okay (plain n2 set_a ∷ []) ∷ [])

pub set_a_is_whole : split_of set_a ≡ None
unfolding rule_of table splitting_of
set_a_is_whole = refl

pub a_set_that_is_done_is_honest : HonestRun meaning only_b none_done (command_logs one_set) a_and_b
unfolding first_error
a_set_that_is_done_is_honest = (
  (sets_a ∷ []) ∷ [],
  (was_done (Reply okay) refl set_a_done sets_a_allowed, tt),
  (refl, λ slot. refl),
)

pub no_set_does_nothing : AllByRecursion
    (λ (x : Step). x.deed ≡ Whole set_a → History only_b (x ∷ []) only_b → ⊥) meaning
no_set_does_nothing = (λ d leads. (let e = leads.1 slot_a in cc), (λ d leads. cc, (λ d leads. cc, tt)))

pub an_answer_without_doing_is_not_honest : HonestRun meaning only_b none_done (command_logs one_set) only_b
    → ⊥
unfolding first_error
an_answer_without_doing_is_not_honest h = by h.0 h.1 h.2
  where
    by : (ss : List (List Step)) → Pairwise (AccountsFor meaning none_done) (command_logs one_set) ss
        → History only_b (concat ss) only_b → ⊥
    by [] a leads = absurd a
    by (s ∷ []) a leads =
        cannot_lead meaning set_a only_b only_b s a.0.response set_a_is_whole no_set_does_nothing a.0.done
        a.0.allowed leads
    by (s ∷ s2 ∷ ss) a leads = absurd a.1

pub and_is_no_servers : AsOneServer meaning only_b none_done one_set only_b → ⊥
and_is_no_servers h = one_command_cannot_lead meaning set_a only_b only_b
    (concat h.responses) set_a_is_whole no_set_does_nothing h.served

-- ---- a request without a reply: it was done if `done` names it, and else it was not

abbrev pub lost_set : List RepliedCall
lost_set = with_replies (taken [] []) (played set_a (Err (by_cause Io)) (plain n2 set_a ∷ []) ∷ [])

pub a_lost_set_that_is_named_was_done : HonestRun meaning only_b (λ place. true)
    (command_logs lost_set) a_and_b
a_lost_set_that_is_named_was_done = (
  (sets_a ∷ []) ∷ [],
  (was_done (Reply okay) tt set_a_done sets_a_allowed, tt),
  (refl, λ slot. refl),
)

-- where the one request of a run has no steps, a is not set
pub one_without_steps : (may : Meaning) (done : ℕ → Bool) (x : Call × Exchange)
    → ((s : List Step) → AccountsFor may done x s → s ≡ []) → HonestRun may only_b done (x ∷ []) a_and_b → ⊥
one_without_steps may done x none h = by h.0 h.1 h.2
  where
    by : (ss : List (List Step)) → Pairwise (AccountsFor may done) (x ∷ []) ss
        → History only_b (concat ss) a_and_b → ⊥
    by [] a leads = absurd a
    by (s ∷ []) a leads = let e = subst (λ q. History only_b (q ++ []) a_and_b) (none s a.0) leads slot_a in cc
    by (s ∷ s2 ∷ ss) a leads = absurd a.1

pub another_was_not : HonestRun meaning only_b none_done (command_logs lost_set) a_and_b → ⊥
another_was_not = one_without_steps meaning none_done
    (query set_a, record { request = plain n2 set_a; place = 0; reply = None }) (λ s a. a)

-- ---- a reply that was still to come when the run began

-- GET a, while the reply to another client's SET was on its way over the same link
abbrev pub late : List RepliedCall
late = with_replies (taken [] (okay ∷ text (codes "1") ∷ [])) (answered get_a okay (plain n2 get_a ∷ []) ∷ [])

pub an_earlier_reply_is_not_honest : (keys keys' : Keyspace)
    → HonestRun meaning keys none_done (command_logs late) keys' → ⊥
unfolding first_error
an_earlier_reply_is_not_honest keys keys' h = by h.0 h.1
  where
    none : AllByRecursion (λ (x : Step). x.deed ≡ Whole get_a → x.response ≡ Reply okay → ⊥) meaning
    none = (λ d r. cc, (λ d r. cc, (λ d r. cc, tt)))

    by : (ss : List (List Step)) → Pairwise (AccountsFor meaning none_done) (command_logs late) ss → ⊥
    by [] a = absurd a
    by (s ∷ ss) a = cannot_respond meaning get_a s (Reply okay) get_a_is_whole none
        (subst (DoOperation (RunCommand get_a) s) (sym a.0.reply) a.0.done) a.0.allowed
