-- A list of calls that is made, one call more at a time.
use Rattle.std.proofs.Common.{◌≡◌, List, [], ◌∷◌, ◌++◌, map, refl, sym, ◌∙◌, ap, subst, append_assoc}
use Rattle.std.proofs.lemmas.List.{append-nil, map-append}
use Rattle.proxy_core.specs.Runs.{MakesOneBy, PlaysBy, RunsBy, Stepping}

module _ {Step State S Call Answer : Type 0} (makes : Stepping Step State S) (call_of : Step → Call) (answer_of : Step → Answer) where
  runs_more : (steps : List Step) (step : Step) (old : State) (s : S) (mid : State) (s1 : S) (new : State) (s' : S)
      → RunsBy makes steps old s mid s1 → makes step mid s1 new s' → RunsBy makes (steps ++ step ∷ []) old s new s'
  runs_more [] step old s mid s1 new s' r m =
      (new, s', subst (λ (st : State). makes step st s new s') r.0 (subst (λ (t : S). makes step mid t new s') r.1 m), (refl, refl))
  runs_more (first ∷ steps) step old s mid s1 new s' r m = (r.0, r.1, r.2, runs_more steps step r.0 r.1 mid s1 new s' r.3 m)

  pub plays_none : (calls : List Call) (before : List Answer) (old : State) (s : S) → PlaysBy makes call_of answer_of calls calls before before old s old s
  plays_none calls before old s = record { steps = []; runs = (refl, refl); first = refl; answers = sym (append-nil before) }

  pub plays_more : (calls left left' : List Call) (before after : List Answer) (old : State) (s : S) (mid : State) (s1 : S) (new : State) (s' : S) (call : Call) (answer : Answer)
      → PlaysBy makes call_of answer_of calls left before after old s mid s1 → left ≡ call ∷ left' → MakesOneBy makes call_of answer_of call answer mid s1 new s'
      → PlaysBy makes call_of answer_of calls left' before (after ++ answer ∷ []) old s new s'
  plays_more calls left left' before after old s mid s1 new s' call answer p l m =
      record {
        steps = p.steps ++ m.0 ∷ [];
        runs = runs_more p.steps m.0 old s mid s1 new s' p.runs m.3;
        first = p.first ∙ ap (λ xs. map call_of p.steps ++ xs) (l ∙ ap (λ x. x ∷ left') m.1)
            ∙ sym (append_assoc (map call_of p.steps) (call_of m.0 ∷ []) left')
            ∙ ap (λ xs. xs ++ left') (sym (map-append call_of p.steps (m.0 ∷ [])));
        answers = ap (λ xs. xs ++ answer ∷ []) p.answers ∙ append_assoc before (map answer_of p.steps) (answer ∷ [])
            ∙ ap (λ xs. before ++ xs) (ap (λ x. map answer_of p.steps ++ x ∷ []) m.2 ∙ sym (map-append answer_of p.steps (m.0 ∷ [])));
      }
