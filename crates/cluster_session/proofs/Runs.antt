-- A run of a session's calls, from what was seen of it.
use Rattle.std.proofs.Common.{◌≡◌, ◌∙◌, ℕ, true, false, List, [], None, ap, map, subst}
use Rattle.cluster_calls.specs.Calls.Call.{Call}
use Rattle.cluster_calls.specs.Links.Play.{Plays, Shown}
use Rattle.cluster_calls.specs.Links.World.{World, Node, new_world, addresses_of, has_repeats}
use Rattle.cluster_session.specs.PrintedRun.{PrintsRun, run_text}
use Rattle.cluster_session.specs.Session.{Session, node_at_start, start}

pub run_of : (session : Session) (all : List Node) (budget levels : ℕ) (first after : World) (calls : List Call) (shown : List Shown) (output : List ℕ)
    → first ≡ new_world all (record { budget = budget; read_only = session.read_only }) → all ≡ map (node_at_start levels) session.nodes → has_repeats (addresses_of all) ≡ false
    → budget ≡ session.budget → levels ≡ session.levels → calls ≡ session.calls → Plays None first after calls [] shown true → output ≡ run_text shown after.nodes
    → PrintsRun session output
run_of session all budget levels first after calls shown output begins linked once limit deep same plays text = record {
  after = after;
  shown = shown;
  distinct = subst (λ ns. has_repeats (addresses_of ns) ≡ false) at_start once;
  plays = subst (λ cs. Plays None (start session) after cs [] shown true) same (subst (λ w. Plays None w after calls [] shown true) started plays);
  text = text;
}
  where
    at_start : all ≡ map (node_at_start session.levels) session.nodes
    at_start = linked ∙ ap (λ n. map (node_at_start n) session.nodes) deep

    started : first ≡ start session
    started = begins ∙ ap (λ n. new_world all (record { budget = n; read_only = session.read_only })) limit
        ∙ ap (λ ns. new_world ns (record { budget = session.budget; read_only = session.read_only })) at_start
