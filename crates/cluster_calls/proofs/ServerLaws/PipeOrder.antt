-- The exchanges of a pipeline whose nodes were all asked, in the order of its commands.
use Rattle.std.specs.Prelude.{◌==◌}
use Rattle.std.specs.List.{AllByRecursion}
use Rattle.std.proofs.Common.{◌≡◌, ℕ, Bool, true, false, cond, List, [], ◌∷◌, map, refl, sym, ap, ◌∙◌, subst, eqb-true}
use Rattle.std.proofs.lemmas.Bool.{false≢true}
use Rattle.resp_args.specs.Packed.{sent}
use Rattle.cluster_routing.specs.Address.{Address, same_address}
use Rattle.cluster_routing.specs.Lists.{concat, draw, Pairwise}
use Rattle.cluster_routing.proofs.Recut.{all-filter}
use Rattle.cluster_calls.specs.Links.Log.{Exchange, requests}
use Rattle.cluster_calls.specs.Links.Request.{Request}
use Rattle.cluster_calls.specs.Calls.Call.{Entry}
use Rattle.cluster_calls.specs.Calls.Each.{exchanges_with, nodes_of, position_exchanges}
use Rattle.cluster_calls.specs.Calls.Legal.{direct, node_groups, nodes_in_use}
use Rattle.cluster_calls.specs.Calls.Plan.{Client, Dispatch}
use Rattle.cluster_calls.specs.Calls.Replies.{args_slot, exchange_slot, in_pipeline_order, with_slot}
use Rattle.cluster_calls.specs.OneServer.Keyspace.{Step}
use Rattle.cluster_calls.specs.OneServer.Meaning.{Meaning}
use Rattle.cluster_calls.specs.OneServer.Operations.{RunCommand}
use Rattle.cluster_calls.proofs.LinkLaws.Addresses.{same_refl}
use Rattle.cluster_calls.proofs.Lists.{all-append, same_values}
use Rattle.cluster_calls.proofs.LogLaws.EachPosition.{IsItsOwn, concat_groups, dispatches_to, groups_to, positions_drawn}
use Rattle.cluster_calls.proofs.LogLaws.PipePlans.{primary_of}
use Rattle.cluster_calls.proofs.ServerLaws.Distinct.{firsts_distinct}
use Rattle.cluster_calls.proofs.ServerLaws.Draw.{draw_self}
use Rattle.cluster_calls.proofs.ServerLaws.Pieces.{HonestIn}
use Rattle.cluster_calls.proofs.ServerLaws.Pipes.{IsSent, IsPipeDispatch, IsEntryDispatch, sent_pairs, log_in_order, all_true}

-- each request is its dispatch's
sent_own : (xs : List Exchange) (ds : List Dispatch) (ws : List Exchange) → Pairwise (IsItsOwn xs) ds ws → Pairwise IsSent ds ws
sent_own xs [] [] h = tt
sent_own xs [] (w ∷ ws) h = absurd h
sent_own xs (d ∷ ds) [] h = absurd h
sent_own xs (d ∷ ds) (w ∷ ws) h = (h.0.0, sent_own xs ds ws h.1)

module _ (client : Client) where
  -- an exchange went to the primary of its slot
  abbrev IsToPrimary : Exchange → Type 0
  IsToPrimary x = x.request.node ≡ primary_of client (exchange_slot x)

  to_primaries : (ds : List Dispatch) (xs : List Exchange) → AllByRecursion (IsPipeDispatch client) ds → Pairwise IsSent ds xs → AllByRecursion IsToPrimary xs
  to_primaries [] [] f p = tt
  to_primaries [] (x ∷ xs) f p = absurd p
  to_primaries (d ∷ ds) [] f p = absurd p
  to_primaries (d ∷ ds) (x ∷ xs) f p = (
    ap (λ (q : Request). q.node) p.0 ∙ f.0.node ∙ ap (λ (q : Request). primary_of client (args_slot q.args)) (sym p.0),
    to_primaries ds xs f.1 p.1,
  )

  grouped_facts : (ds : List Dispatch) → AllByRecursion (IsPipeDispatch client) ds → (nodes : List Address) → AllByRecursion (IsPipeDispatch client) (concat (groups_to ds nodes))
  grouped_facts ds f [] = tt
  grouped_facts ds f (node ∷ nodes) = all-append (IsPipeDispatch client) (dispatches_to node ds) _ (all-filter (IsPipeDispatch client) (λ (d : Dispatch). same_address d.node node) ds f) (grouped_facts ds f nodes)

  -- those with a slot stand among those with its primary
  slot_within : (slot : ℕ) (xs : List Exchange) → AllByRecursion IsToPrimary xs → with_slot slot xs ≡ with_slot slot (exchanges_with xs (primary_of client slot))
  slot_within slot [] h = refl
  slot_within slot (x ∷ xs) h = by (slot == exchange_slot x) refl (same_address x.request.node (primary_of client slot)) refl (slot_within slot xs h.1)
    where
      node : Address
      node = primary_of client slot

      by : (b : Bool) → (slot == exchange_slot x) ≡ b → (s : Bool) → same_address x.request.node node ≡ s → with_slot slot xs ≡ with_slot slot (exchanges_with xs node)
          → cond b (x ∷ with_slot slot xs) (with_slot slot xs) ≡ with_slot slot (cond s (x ∷ exchanges_with xs node) (exchanges_with xs node))
      by true e true t ih = ap (λ ys. x ∷ ys) ih ∙ sym (ap (λ b. cond b (x ∷ with_slot slot (exchanges_with xs node)) (with_slot slot (exchanges_with xs node))) e)
      by false e true t ih = ih ∙ sym (ap (λ b. cond b (x ∷ with_slot slot (exchanges_with xs node)) (with_slot slot (exchanges_with xs node))) e)
      by false e false t ih = ih
      by true e false t ih =
          let is : x.request.node ≡ node = h.0 ∙ ap (primary_of client) (sym (eqb-true slot (exchange_slot x) e)) in
          absurd (false≢true (sym t ∙ subst (λ a. same_address a node ≡ true) (sym is) (same_refl node)))

  entry_slots : (entries : List Entry) (ds : List Dispatch) (ws : List Exchange) → Pairwise IsEntryDispatch entries ds → Pairwise IsSent ds ws → map (λ (e : Entry). args_slot (sent e.command)) entries ≡ map exchange_slot ws
  entry_slots = same_values IsEntryDispatch IsSent (λ (e : Entry). args_slot (sent e.command)) exchange_slot (λ e d w f p. sym f.slot ∙ ap (λ (q : Request). args_slot q.args) (sym p))

  pub order_is_theirs : (entries : List Entry) (ds : List Dispatch) (xs : List Exchange) → AllByRecursion (IsPipeDispatch client) ds × Pairwise IsEntryDispatch entries ds
      → requests xs ≡ map direct (concat (node_groups ds)) → in_pipeline_order entries xs ≡ position_exchanges ds xs
  order_is_theirs entries ds xs facts asked =
      let ws = position_exchanges ds xs in
      let drawn = positions_drawn ds xs asked in
      let own = sent_own xs ds ws drawn.0 in
      let in_xs = to_primaries (concat (node_groups ds)) xs (grouped_facts ds facts.0 (nodes_in_use ds)) (sent_pairs (concat (node_groups ds)) xs asked) in
      let in_ws = to_primaries ds ws facts.0 own in
      ap (λ ks. draw ks (λ slot. with_slot slot xs)) (entry_slots entries ds ws facts.1 own)
      ∙ draw_self exchange_slot ws (λ slot. with_slot slot xs) (λ s. slot_within s xs in_xs ∙ ap (with_slot s) (sym (drawn.1 (primary_of client s))) ∙ sym (slot_within s ws in_ws))

  -- each dispatch has its own there
  pub own_in_order : (entries : List Entry) (ds : List Dispatch) (xs : List Exchange) → AllByRecursion (IsPipeDispatch client) ds × Pairwise IsEntryDispatch entries ds
      → requests xs ≡ map direct (concat (node_groups ds)) → Pairwise (IsItsOwn xs) ds (in_pipeline_order entries xs)
  own_in_order entries ds xs facts asked = subst (Pairwise (IsItsOwn xs) ds) (sym (order_is_theirs entries ds xs facts asked)) (positions_drawn ds xs asked).0

  -- what accounts for the log accounts for it in this order
  pub all_sent_honest : (meaning : Meaning) (done : ℕ → Bool) (entries : List Entry) (ds : List Dispatch) (xs : List Exchange) → AllByRecursion (IsPipeDispatch client) ds × Pairwise IsEntryDispatch entries ds
      → requests xs ≡ map direct (concat (node_groups ds)) → (moves : List (List Step)) → HonestIn meaning done RunCommand xs moves → HonestIn meaning done RunCommand (in_pipeline_order entries xs) moves
  all_sent_honest meaning done entries ds xs facts asked moves honest =
      (log_in_order client meaning done (λ x. Unit {0}) entries ds facts.0 facts.1 (nodes_in_use ds) (firsts_distinct same_address (nodes_of ds)) xs
      (subst (λ q. Pairwise IsSent q xs) (concat_groups ds (nodes_in_use ds)) (sent_pairs (concat (node_groups ds)) xs asked)) (all_true xs) moves honest).honest
