-- A read of streams before its first byte, as the code has it.
use Rattle.std.specs.Prelude.{List, map, Result, Ok, Err}
use Rattle.resp_core.specs.Errors.{Refusal}
use Rattle.cluster_calls.specs.Calls.Plan.{Dispatch}
use Rattle.cluster_steps.specs.Dispatches.{dispatch_of}
use Rattle.cluster_client.specs.declared.client.reading.PreparedRead.{PreparedRead}

-- where its parts go first
abbrev pub dispatches_in : Result PreparedRead Refusal → Result (List Dispatch) Refusal
dispatches_in (Ok p) = Ok (map dispatch_of p.dispatches.items)
dispatches_in (Err refusal) = Err refusal
