-- One server with a deterministic meaning has one outcome.
use Rattle.std.proofs.Common.{◌≡◌, ℕ, List, [], ◌∷◌, ◌++◌, map, Option, Some, None, MatchOption, Contains, refl, sym, ap, ◌∙◌, subst}
use Rattle.resp_core.specs.Trees.{Tree}
use Rattle.resp_args.specs.declared.cmd.Arg.TheVariants.{Simple}
use Rattle.cluster_routing.specs.Lists.{concat, Pairwise}
use Rattle.cluster_routing.specs.Parts.{Tuple}
use Rattle.cluster_routing.specs.Split.{Split, split_of}
use Rattle.cluster_routing.specs.Routing.{destination}
use Rattle.cluster_routing.specs.declared.policy.ResponsePolicy.{ResponsePolicy}
use Rattle.cluster_routing.specs.Combine.{array_of}
use Rattle.stream_commands.specs.Settings.{ReadSettings}
use Rattle.cluster_calls.specs.Calls.Call.{Stream}
use Rattle.cluster_calls.specs.OneServer.Keyspace.{Keyspace, Step, History, with_cell}
use Rattle.cluster_calls.specs.OneServer.Meaning.{Meaning, DoCommand, DoOperation, DoesRead, rows_of_steps, DoesTuple, IsWholeStep, AreAllowed, DoAll, tree_of_steps, step_trees, DoesWhole}
use Rattle.cluster_calls.specs.OneServer.Operations.{Operation, RunCommand, ReadKeys, Response, Reply, Rows, RunAsOne}
use Rattle.cluster_calls.specs.OneServer.Laws.{IsDeterministic}
use Rattle.cluster_calls.proofs.LogLaws.PipePlans.{leads_slot}
use Rattle.cluster_calls.proofs.ServerLaws.Histories.{history_split, history_from}

-- two steps of the meaning for one deed on one slot
record AreTwins (meaning : Meaning) (x y : Step) : Type 0 where
  deed : x.deed ≡ y.deed
  slot : x.slot ≡ y.slot
  left : Contains meaning x
  right : Contains meaning y

-- histories of twins from one keyspace are one history
twin_histories : (meaning : Meaning) → IsDeterministic meaning → (xs ys : List Step) (keys left right : Keyspace) → Pairwise (AreTwins meaning) xs ys → History keys xs left → History keys ys right → (xs ≡ ys) × ((slot : ℕ) → left slot ≡ right slot)
twin_histories meaning one [] [] keys left right t c d = (refl, λ s. sym (c s) ∙ d s)
twin_histories meaning one [] (y ∷ ys) keys left right t c d = absurd t
twin_histories meaning one (x ∷ xs) [] keys left right t c d = absurd t
twin_histories meaning one (x ∷ xs) (y ∷ ys) keys left right t c d =
    let same = one x y t.0.left t.0.right t.0.deed (sym c.0 ∙ ap keys t.0.slot ∙ d.0) in
    let r = twin_histories meaning one xs ys (with_cell keys x.slot x.after) left right t.1 c.1 (subst (λ (z : Step). History (with_cell keys z.slot z.after) ys right) (sym same) d.1) in
    (ap (λ z. z ∷ xs) same ∙ ap (λ zs. y ∷ zs) r.0, r.1)

twin_tuples : (meaning : Meaning) (policy : ResponsePolicy) (word : List ℕ) (shared : List (List ℕ)) (ts : List Tuple) (xs ys : List Step) → Pairwise (DoesTuple policy word shared) ts xs → Pairwise (DoesTuple policy word shared) ts ys → AreAllowed meaning xs → AreAllowed meaning ys → Pairwise (AreTwins meaning) xs ys
twin_tuples meaning policy word shared [] [] [] h k a b = tt
twin_tuples meaning policy word shared [] (x ∷ xs) ys h k a b = absurd h
twin_tuples meaning policy word shared [] [] (y ∷ ys) h k a b = absurd k
twin_tuples meaning policy word shared (t ∷ ts) [] ys h k a b = absurd h
twin_tuples meaning policy word shared (t ∷ ts) (x ∷ xs) [] h k a b = absurd k
twin_tuples meaning policy word shared (t ∷ ts) (x ∷ xs) (y ∷ ys) h k a b =
    (record { deed = h.0.deed ∙ sym k.0.deed; slot = h.0.slot ∙ sym k.0.slot; left = a.0; right = b.0 }, twin_tuples meaning policy word shared ts xs ys h.1 k.1 a.1 b.1)

-- what does one command has one deed after another, and the steps determine the tree
twin_steps : (meaning : Meaning) (args : List (List ℕ)) (xs ys : List Step) (t u : Tree) → DoCommand args xs t → DoCommand args ys u → AreAllowed meaning xs → AreAllowed meaning ys → Pairwise (AreTwins meaning) xs ys × (xs ≡ ys → t ≡ u)
twin_steps meaning args xs ys t u h k a b = by (split_of args) h k
  where
    first_response : List Step → Response
    first_response [] = Reply t
    first_response (x ∷ xs) = x.response

    same_tree : Reply t ≡ Reply u → t ≡ u
    same_tree e = cc

    by : (o : Option Split) → MatchOption o ((x : Step) × (xs ≡ x ∷ []) × IsWholeStep args x t) (λ sp. Pairwise (DoesTuple sp.splitting.policy sp.word sp.shared) sp.tuples xs × (t ≡ tree_of_steps (sp.splitting.policy) (step_trees xs)))
        → MatchOption o ((y : Step) × (ys ≡ y ∷ []) × IsWholeStep args y u) (λ sp. Pairwise (DoesTuple sp.splitting.policy sp.word sp.shared) sp.tuples ys × (u ≡ tree_of_steps (sp.splitting.policy) (step_trees ys)))
        → Pairwise (AreTwins meaning) xs ys × (xs ≡ ys → t ≡ u)
    by None h k =
        let ax = subst (AreAllowed meaning) h.1 a in
        let ay = subst (AreAllowed meaning) k.1 b in (
          subst (λ q. Pairwise (AreTwins meaning) q ys) (sym h.1) (subst (λ q. Pairwise (AreTwins meaning) (h.0 ∷ []) q) (sym k.1)
              (record { deed = h.2.deed ∙ sym k.2.deed; slot = sym (leads_slot h.0.slot (destination (map (λ bytes. Simple bytes) args) []) h.2.slot) ∙ leads_slot k.0.slot (destination (map (λ bytes. Simple bytes) args) []) k.2.slot; left = ax.0; right = ay.0 }, tt)),
          λ e. same_tree (sym h.2.response ∙ ap first_response (sym h.1 ∙ e ∙ k.1) ∙ k.2.response),
        )
    by (Some sp) h k =
        (twin_tuples meaning sp.splitting.policy sp.word sp.shared sp.tuples xs ys h.0 k.0 a b, λ e. h.1 ∙ ap (λ q. tree_of_steps (sp.splitting.policy) (step_trees q)) e ∙ sym k.1)

twin_reads : (meaning : Meaning) (options : ReadSettings) (streams : List Stream) (xs ys : List Step) → Pairwise (DoesRead options) streams xs → Pairwise (DoesRead options) streams ys → AreAllowed meaning xs → AreAllowed meaning ys → Pairwise (AreTwins meaning) xs ys
twin_reads meaning options [] [] [] h k a b = tt
twin_reads meaning options [] (x ∷ xs) ys h k a b = absurd h
twin_reads meaning options [] [] (y ∷ ys) h k a b = absurd k
twin_reads meaning options (s ∷ streams) [] ys h k a b = absurd h
twin_reads meaning options (s ∷ streams) (x ∷ xs) [] h k a b = absurd k
twin_reads meaning options (s ∷ streams) (x ∷ xs) (y ∷ ys) h k a b =
    (record { deed = h.0.deed ∙ sym k.0.deed; slot = h.0.slot ∙ sym k.0.slot; left = a.0; right = b.0 }, twin_reads meaning options streams xs ys h.1 k.1 a.1 b.1)

twin_whole : (meaning : Meaning) (commands : List (List (List ℕ))) (xs ys : List Step) → Pairwise DoesWhole commands xs → Pairwise DoesWhole commands ys → AreAllowed meaning xs → AreAllowed meaning ys → Pairwise (AreTwins meaning) xs ys
twin_whole meaning [] [] [] h k a b = tt
twin_whole meaning [] (x ∷ xs) ys h k a b = absurd h
twin_whole meaning [] [] (y ∷ ys) h k a b = absurd k
twin_whole meaning (c ∷ commands) [] ys h k a b = absurd h
twin_whole meaning (c ∷ commands) (x ∷ xs) [] h k a b = absurd k
twin_whole meaning (c ∷ commands) (x ∷ xs) (y ∷ ys) h k a b =
    (record { deed = h.0.deed ∙ sym k.0.deed; slot = h.0.slot ∙ sym k.0.slot; left = a.0; right = b.0 }, twin_whole meaning commands xs ys h.1 k.1 a.1 b.1)

twin_operations : (meaning : Meaning) (operation : Operation) (xs ys : List Step) (t u : Response) → DoOperation operation xs t → DoOperation operation ys u → AreAllowed meaning xs → AreAllowed meaning ys → Pairwise (AreTwins meaning) xs ys × (xs ≡ ys → t ≡ u)
twin_operations meaning (RunCommand args) xs ys t u h k a b =
    let w = twin_steps meaning args xs ys h.0 k.0 h.2 k.2 a b in
    (w.0, λ e. h.1 ∙ ap Reply (w.1 e) ∙ sym k.1)
twin_operations meaning (ReadKeys options streams) xs ys t u h k a b =
    (twin_reads meaning options streams xs ys h.0 k.0 a b, λ e. h.1 ∙ ap (λ q. Rows (rows_of_steps q)) e ∙ sym k.1)
twin_operations meaning (RunAsOne commands) xs ys t u h k a b =
    (twin_whole meaning commands xs ys h.0 k.0 a b, λ e. h.1 ∙ ap (λ q. Reply (array_of (step_trees q))) e ∙ sym k.1)

twins-append : (meaning : Meaning) (xs ys us vs : List Step) → Pairwise (AreTwins meaning) xs ys → Pairwise (AreTwins meaning) us vs → Pairwise (AreTwins meaning) (xs ++ us) (ys ++ vs)
twins-append meaning [] [] us vs h k = k
twins-append meaning [] (y ∷ ys) us vs h k = absurd h
twins-append meaning (x ∷ xs) [] us vs h k = absurd h
twins-append meaning (x ∷ xs) (y ∷ ys) us vs h k = (h.0, twins-append meaning xs ys us vs h.1 k)

pub determined : (meaning : Meaning) → IsDeterministic meaning → (cs : List Operation) (ss rs : List (List Step)) (ts us : List Response) (keys left right : Keyspace)
    → DoAll meaning cs ss ts → DoAll meaning cs rs us → History keys (concat ss) left → History keys (concat rs) right → (ts ≡ us) × ((slot : ℕ) → left slot ≡ right slot)
determined meaning one [] [] [] [] [] keys left right h k c d = (refl, λ s. sym (c s) ∙ d s)
determined meaning one [] [] [] [] (u ∷ us) keys left right h k c d = absurd k
determined meaning one [] [] (r ∷ rs) [] us keys left right h k c d = absurd k
determined meaning one [] [] rs (t ∷ ts) us keys left right h k c d = absurd h
determined meaning one [] (s ∷ ss) rs ts us keys left right h k c d = absurd h
determined meaning one (x ∷ cs) [] rs ts us keys left right h k c d = absurd h
determined meaning one (x ∷ cs) (s ∷ ss) rs [] us keys left right h k c d = absurd h
determined meaning one (x ∷ cs) (s ∷ ss) [] (t ∷ ts) us keys left right h k c d = absurd k
determined meaning one (x ∷ cs) (s ∷ ss) (r ∷ rs) (t ∷ ts) [] keys left right h k c d = absurd k
determined meaning one (x ∷ cs) (s ∷ ss) (r ∷ rs) (t ∷ ts) (u ∷ us) keys left right h k c d =
    let a = history_split s (concat ss) keys left c in
    let b = history_split r (concat rs) keys right d in
    let w = twin_operations meaning x s r t u h.0.0 k.0.0 h.0.1 k.0.1 in
    let e = twin_histories meaning one s r keys a.0 b.0 w.0 a.1.0 b.1.0 in
    let rest = determined meaning one cs ss rs ts us a.0 left right h.1 k.1 a.1.1 (history_from (concat rs) b.0 a.0 right (λ n. sym (e.1 n)) b.1.1) in
    (ap (λ q. q ∷ ts) (w.1 e.0) ∙ ap (λ q. u ∷ q) rest.0, rest.1)
