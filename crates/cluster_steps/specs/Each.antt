-- What each position of a pipeline is told, by what came from the node of its number.
use Rattle.std.specs.Prelude.{ℕ, ◌==◌, if◌then◌else◌, List, [], ◌∷◌, map, slice_get, unwrap_or, Result, Ok, Err, Vec}
use Rattle.std.specs.declared.alloc.Global.{Global}
use Rattle.resp_core.specs.Trees.{Tree}
use Rattle.resp_core.specs.View.{view}
use Rattle.resp_core.specs.declared.value.Value.{Value}
use Rattle.resp_core.specs.Errors.{Refusal, by_cause}
use Rattle.resp_core.specs.declared.errors.redis_error.Cause.{Cause}
use Rattle.resp_core.specs.declared.errors.redis_error.Cause.TheVariants.{Io}
use Rattle.cluster_routing.specs.Lists.{rest}
use Rattle.cluster_calls.specs.Calls.Each.{reply_outcome}

-- the replies that came from a node, or why none are told
abbrev pub replies_or_cause : Result (Vec Value Global) Cause → Result (List Tree) Cause
replies_or_cause (Ok replies) = Ok (map view replies.items)
replies_or_cause (Err cause) = Err cause

-- the replies of a node that were not told yet, or why none are told
abbrev pub left_or_cause : {Q : Type 0} → (Q → List Value) → Result Q Cause → Result (List Tree) Cause
left_or_cause items (Ok replies) = Ok (map view (items replies))
left_or_cause items (Err cause) = Err cause

-- what came from the node of each number
abbrev pub came_from : List (Result (List Tree) Cause) → ℕ → Result (List Tree) Cause
came_from came k = unwrap_or (slice_get came k) (Ok [])

-- the next reply of a node, or why there is none
abbrev pub next_outcome : Result (List Tree) Cause → Result Tree Refusal
next_outcome (Ok []) = Err (by_cause Io)
next_outcome (Ok (tree ∷ trees)) = reply_outcome tree
next_outcome (Err cause) = Err (by_cause cause)

abbrev pub without_next : Result (List Tree) Cause → Result (List Tree) Cause
without_next (Ok trees) = Ok (rest trees)
without_next (Err cause) = Err cause

abbrev pub without_next_from : ℕ → (ℕ → Result (List Tree) Cause) → ℕ → Result (List Tree) Cause
without_next_from k came n = if n == k then without_next (came n) else came n

-- what is told of one number after another, and what is left
abbrev pub told_each : List ℕ → (ℕ → Result (List Tree) Cause) → List (Result Tree Refusal)
told_each [] came = []
told_each (k ∷ ks) came = next_outcome (came k) ∷ told_each ks (without_next_from k came)
