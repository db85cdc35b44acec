-- How the examples show that steps do a command, that a request was done, and that a call stays in its place.
use Rattle.std.specs.Prelude.{◌≡◌, ℕ, Bool, List, [], ◌∷◌, map, IfSome, MatchOption, Option, None, refl}
use Rattle.std.proofs.Common.{subst, sym}
use Rattle.resp_args.specs.declared.cmd.Arg.TheVariants.{Simple}
use Rattle.resp_core.specs.Trees.{Tree}
use Rattle.cluster_routing.specs.Lists.{Pairwise}
use Rattle.cluster_routing.specs.Parts.{Tuple, tuple_slot}
use Rattle.cluster_routing.specs.Routing.{destination}
use Rattle.cluster_routing.specs.Split.{Split, split_of}
use Rattle.cluster_routing.specs.declared.policy.ResponsePolicy.{ResponsePolicy}
use Rattle.cluster_calls.specs.Links.Log.{Exchange}
use Rattle.cluster_calls.specs.OneServer.AmongOthers.{CallTurns, IsServed}
use Rattle.cluster_calls.specs.OneServer.Commands.{IsAnswerBy, counting}
use Rattle.cluster_calls.specs.OneServer.Headline.{RepliedCall}
use Rattle.cluster_calls.specs.OneServer.Honest.{IsDoneBy}
use Rattle.cluster_calls.specs.OneServer.Keyspace.{Deed, PartOf, Step, Whole}
use Rattle.cluster_calls.specs.OneServer.Meaning.{AreAllowed, DoAll, DoOperation, DoesTuple, IsData, IsStepReply, IsWholeStep, LeadsToSlot, Meaning, step_trees, tree_of_steps}
use Rattle.cluster_calls.specs.OneServer.Operations.{IfReply, Operation, Reply, Response, RunCommand, response_by}

-- a step with a reply, and its slot's cell before and after
abbrev pub does : Deed → ℕ → Tree → List ℕ → List ℕ → Step
does deed slot tree before after = record
    { deed = deed; slot = slot; response = Reply tree; before = before; after = after }

-- ---- steps do a command

abbrev IsDone : List (List ℕ) → Step → Tree → Option Split → Type 0
IsDone args x tree o = MatchOption o ((y : Step) × (x ∷ [] ≡ y ∷ []) × IsWholeStep args y tree)
    (λ s. Pairwise (DoesTuple s.splitting.policy s.word s.shared) s.tuples (x ∷ [])
    × (tree ≡ tree_of_steps s.splitting.policy (step_trees (x ∷ []))))

-- one step does a command that is not split
pub whole_done : (args : List (List ℕ)) (slot : ℕ) (tree : Tree) (before after : List ℕ)
    → split_of args ≡ None → LeadsToSlot slot (destination (map (λ bytes. Simple bytes) args) [])
    → IsData tree
    → DoOperation (RunCommand args) (does (Whole args) slot tree before after ∷ []) (Reply tree)
whole_done args slot tree before after whole leads data' = (
  tree,
  refl,
  subst (IsDone args (does (Whole args) slot tree before after) tree) (sym whole) (
    does (Whole args) slot tree before after,
    refl,
    record { deed = refl; slot = leads; response = refl; no_error = data' },
  ),
)

-- a step does one tuple of a command that is split
pub tuple_done : {policy : ResponsePolicy} {word : List ℕ} {shared : List (List ℕ)} {tuple : Tuple} {x : Step}
    → x.deed ≡ PartOf word tuple shared → x.slot ≡ tuple_slot tuple → IfReply (IsStepReply policy) x.response
    → DoesTuple policy word shared tuple x
tuple_done deed slot response = record { deed = deed; slot = slot; response = response }

-- ---- a request was done: its steps do what it asks for, and its reply, if it got one, is what came of that

pub was_done : {meaning : Meaning} {operation : Operation} {x : Exchange} {steps : List Step}
    (response : Response) → IfSome x.reply (λ tree. response_by operation tree ≡ response)
    → DoOperation operation steps response → AreAllowed meaning steps → IsDoneBy meaning operation x steps
was_done response reply done allowed = record
    { response = response; reply = reply; done = done; allowed = allowed }

-- ---- a call is served in its place: one server does just what the nodes did

pub in_its_place : {meaning : Meaning} {done : ℕ → Bool} {t : RepliedCall} {c : CallTurns}
    {responses : List Response} → DoAll meaning (counting done t.call t.answer t.log) c.own responses
    → IsAnswerBy done t.call t.log t.answer responses
    → IsServed meaning done t (record { was = c; now = c; responses = responses })
in_its_place operations answer = record {
  operations = operations;
  answer = answer;
  before = refl;
  same = λ slot. refl;
  in_place = λ e. refl;
}
