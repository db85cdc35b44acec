-- A connection as plain data.
use Rattle.std.specs.Prelude.{ℕ, Bool, Option}
use Rattle.resp_requests.specs.declared.reader.RequestReader.{RequestReader}
use Rattle.proxy_connection.specs.declared.pending.Pending.{Pending}

-- The guest's number, the reader of its requests, and how its words are understood by now; what was read of it and is
-- not in its queue yet, and whether its bytes were refused; the reply that is going out, and how many bytes of that
-- were written.
pub record State (T C V : Type 0) : Type 0 where
  pub guest : ℕ
  pub requests : RequestReader
  pub translator : T
  pub pending : Pending C V
  pub is_refused : Bool
  pub reply : Option V
  pub count : ℕ
