-- What operations mean on a single server, and what it is to serve them one after another.
use Rattle.std.specs.Prelude.{◌≡◌, ◌⊎◌, ℕ, pos, ⊤, List, [], ◌∷◌, ◌++◌, map, sum_by, Contains, Option, Some, None, MatchOption}
use Rattle.std.specs.List.{AllByRecursion}
use Rattle.resp_core.specs.Trees.{Tree, int, okay}
use Rattle.resp_core.specs.Parts.{first_error}
use Rattle.resp_args.specs.declared.cmd.Arg.TheVariants.{Simple}
use Rattle.cluster_routing.specs.Parts.{Tuple, tuple_slot}
use Rattle.cluster_routing.specs.Routing.{Destination, to_route, destination}
use Rattle.cluster_routing.specs.declared.policy.ResponsePolicy.{ResponsePolicy}
use Rattle.cluster_routing.specs.declared.policy.ResponsePolicy.TheVariants.{AllSucceeded, Aggregate, CombineArrays}
use Rattle.cluster_routing.specs.declared.policy.AggregateOp.TheVariants.{Sum}
use Rattle.cluster_routing.specs.Lists.{concat, Pairwise}
use Rattle.cluster_routing.specs.Split.{split_of}
use Rattle.cluster_routing.specs.Combine.{array_of}
use Rattle.cluster_routing.specs.HashSlot.{hash_slot}
use Rattle.stream_commands.specs.ReadReply.{Row}
use Rattle.stream_commands.specs.Settings.{ReadSettings}
use Rattle.cluster_calls.specs.Calls.Call.{Stream}
use Rattle.cluster_calls.specs.Calls.Replies.{args_slot}
use Rattle.cluster_calls.specs.OneServer.Keyspace.{Keyspace, Step, Whole, PartOf, ReadOf, History}
use Rattle.cluster_calls.specs.OneServer.Operations.{Operation, RunCommand, ReadKeys, RunAsOne, Response, Reply, Rows, reply_tree, IfReply}

-- a meaning: the steps that a server may make
abbrev pub Meaning : Type 0
Meaning = List Step

-- a tree without an error in it
abbrev pub IsData : Tree → Type 0
IsData tree = first_error tree ≡ None

-- what a step of a split command may reply
abbrev pub IsStepReply : ResponsePolicy → Tree → Type 0
IsStepReply CombineArrays tree = IsData tree
IsStepReply (Aggregate Sum) tree = (tree ≡ int (pos 0)) ⊎ (tree ≡ int (pos 1))
IsStepReply AllSucceeded tree = tree ≡ okay
IsStepReply _ tree = ⊥

abbrev pub number_in : Tree → ℕ
number_in (int (pos n)) = n
number_in _ = 0

-- the reply to a split command, from those of its steps
abbrev pub tree_of_steps : ResponsePolicy → List Tree → Tree
tree_of_steps CombineArrays trees = array_of trees
tree_of_steps (Aggregate Sum) trees = int (pos (sum_by number_in trees))
tree_of_steps _ trees = okay

-- the step does one tuple of a split command, on the slot of its key
pub record DoesTuple (policy : ResponsePolicy) (word : List ℕ) (shared : List (List ℕ)) (tuple : Tuple)
    (x : Step) : Type 0 where
  pub deed : x.deed ≡ PartOf word tuple shared
  pub slot : x.slot ≡ tuple_slot tuple
  pub response : IfReply (IsStepReply policy) x.response

-- the command's key has this slot
abbrev pub LeadsToSlot : ℕ → Option Destination → Type 0
LeadsToSlot slot (Some (to_route route)) = route.slot ≡ slot
LeadsToSlot slot _ = ⊥

-- the step is the whole of a keyed command, on the slot of its key, and this is the reply
pub record IsWholeStep (args : List (List ℕ)) (x : Step) (tree : Tree) : Type 0 where
  pub deed : x.deed ≡ Whole args
  pub slot : LeadsToSlot x.slot (destination (map (λ bytes. Simple bytes) args) [])
  pub response : x.response ≡ Reply tree
  pub no_error : IsData tree

-- each step is one that the meaning has
abbrev pub AreAllowed : Meaning → List Step → Type 0
AreAllowed meaning steps = AllByRecursion (Contains meaning) steps

-- the reply of each step
abbrev pub step_trees : List Step → List Tree
step_trees steps = map (λ (x : Step). reply_tree x.response) steps

-- the steps do the command and this is the reply: one step, or for a split command one for each tuple
abbrev pub DoCommand : List (List ℕ) → List Step → Tree → Type 0
DoCommand args steps tree = MatchOption (split_of args)
    ((x : Step) × (steps ≡ x ∷ []) × IsWholeStep args x tree)
    (λ s. Pairwise (DoesTuple s.splitting.policy s.word s.shared) s.tuples steps
    × (tree ≡ tree_of_steps s.splitting.policy (step_trees steps)))

-- ---- reads of streams, each by itself

-- of one stream a row that names its key, no row, or a reply of another shape
abbrev pub IsRowOf : List ℕ → Response → Type 0
IsRowOf key (Rows None) = ⊤
IsRowOf key (Rows (Some [])) = ⊤
IsRowOf key (Rows (Some (r ∷ []))) = r.key ≡ key
IsRowOf key _ = ⊥

-- the step reads one stream, on the slot of its key
pub record DoesRead (options : ReadSettings) (stream : Stream) (x : Step) : Type 0 where
  pub deed : x.deed ≡ ReadOf options stream.key stream.id
  pub slot : x.slot ≡ hash_slot stream.key
  pub response : IsRowOf stream.key x.response

abbrev pub rows_told : Response → Option (List Row)
rows_told (Rows rows) = rows
rows_told (Reply tree) = None

-- rows and further rows; none where either are none
abbrev pub more_rows : Option (List Row) → Option (List Row) → Option (List Row)
more_rows (Some rows) (Some further) = Some (rows ++ further)
more_rows _ _ = None

-- the rows of the steps, in their order
abbrev pub rows_of_steps : List Step → Option (List Row)
rows_of_steps [] = Some []
rows_of_steps (x ∷ xs) = more_rows (rows_told x.response) (rows_of_steps xs)

-- ---- commands that are done as one

-- the step is the whole of a command, also of one that is split elsewhere, on the slot of its key; it may be
-- answered by an error
pub record DoesWhole (args : List (List ℕ)) (x : Step) : Type 0 where
  pub deed : x.deed ≡ Whole args
  pub slot : x.slot ≡ args_slot args
  pub response : IfReply (λ tree. ⊤) x.response

-- ---- operations

-- the steps do the operation, and this is the response
abbrev pub DoOperation : Operation → List Step → Response → Type 0
DoOperation (RunCommand args) steps response = (tree : Tree) × (response ≡ Reply tree)
    × DoCommand args steps tree
DoOperation (ReadKeys options streams) steps response = Pairwise (DoesRead options) streams steps
    × (response ≡ Rows (rows_of_steps steps))
DoOperation (RunAsOne commands) steps response = Pairwise DoesWhole commands steps
    × (response ≡ Reply (array_of (step_trees steps)))

-- each operation in turn with its steps and its response
abbrev pub DoAll : Meaning → List Operation → List (List Step) → List Response → Type 0
DoAll meaning [] [] [] = ⊤
DoAll meaning (o ∷ os) (s ∷ ss) (r ∷ rs) = (DoOperation o s r × AreAllowed meaning s) × DoAll meaning os ss rs
DoAll meaning _ _ _ = ⊥

-- one server that is given the operations one after another may respond so and go from one keyspace to the
-- other
abbrev pub OneServer : Meaning → Keyspace → List Operation → List Response → Keyspace → Type 0
OneServer meaning keys operations responses keys' =
    (steps : List (List Step)) × DoAll meaning operations steps responses × History keys (concat steps) keys'
