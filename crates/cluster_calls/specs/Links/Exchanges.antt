-- An exchange: requests are written to the log, and a link call sends them and takes their replies.
use Rattle.std.specs.Prelude.{◌≡◌, ℕ, List, ◌++◌, Result, Err}
use Rattle.resp_core.specs.Trees.{Tree}
use Rattle.resp_core.specs.Errors.{Refusal, by_cause}
use Rattle.resp_core.specs.declared.errors.redis_error.Cause.TheVariants.{Memory}
use Rattle.cluster_calls.specs.Links.Request.{Request, bytes_of}
use Rattle.cluster_calls.specs.Links.World.{Node, Called, CallsLink}

-- Requests were written to the log, and then the link at a place was called for them; or memory was refused
-- before, and nothing was done.
pub data Exchanges (old new : List Node) (index : ℕ) (before after : List Request) (requests : List Request)
    (offset size : ℕ) (result : Result (List Tree) Refusal) : Type 0 where
  -- memory was refused before the log was written, and nothing was done
  not_begun : new ≡ old → after ≡ before → result ≡ Err (by_cause Memory)
      → Exchanges old new index before after requests offset size result
  -- the log has the requests, and the link at this place did as its contract says, also where memory was
  -- refused in it
  made : after ≡ before ++ requests
      → CallsLink old new index (λ link link'. Called link link' (bytes_of requests) offset size result)
      → Exchanges old new index before after requests offset size result
