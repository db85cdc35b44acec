-- The one reply to a pipeline, from the replies to its commands in order.
use Rattle.std.specs.Prelude.{ℕ, suc, List, [], ◌∷◌, Result, Ok}
use Rattle.resp_core.specs.Trees.{Tree, ErrorText}
use Rattle.resp_core.specs.Errors.{Refusal}
use Rattle.resp_core.specs.Parts.{first_error}
use Rattle.cluster_routing.specs.Combine.{array_of}
use Rattle.cluster_calls.specs.Calls.Call.{Entry}
use Rattle.cluster_calls.specs.Calls.Refusals.{with_error, errors_refusal}
use Rattle.cluster_calls.specs.Calls.Replies.{not_ignored}
use Rattle.cluster_calls.specs.Calls.Parts.{unless}

-- the first error of each reply that holds one, with its position
abbrev pub errors_in : ℕ → List Tree → List (ℕ × ErrorText)
errors_in position [] = []
errors_in position (tree ∷ trees) = with_error position (first_error tree) (errors_in (suc position) trees)

-- refused by all errors, or the array of the replies that are not ignored
abbrev pub pipeline_result : List Entry → List Tree → Result Tree Refusal
pipeline_result entries trees = unless (errors_refusal (errors_in 0 trees))
    (Ok (array_of (not_ignored entries trees)))
