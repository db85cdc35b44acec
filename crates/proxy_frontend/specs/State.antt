-- A frontend as plain data.
use Rattle.std.specs.Prelude.{ℕ, List, Option, None, slice_index_or as get_or}
use Rattle.resp_requests.specs.declared.limits.Limits.{Limits}
use Rattle.proxy_core.specs.State as proxies
use Rattle.proxy_connection.specs.declared.connection.Connection.{Connection}

-- the connections by their guests' numbers, the proxy, and what a guest may send
pub record State (T C V : Type 0) : Type 0 where
  pub connections : List (Option (Connection T C V))
  pub proxy : proxies.State C V
  pub limits : Limits

-- the frontend of these
abbrev pub state_of : {T C V : Type 0} → List (Option (Connection T C V)) → proxies.State C V → Limits → State T C V
state_of connections proxy limits = record { connections = connections; proxy = proxy; limits = limits }

-- the connection of guest g: none where there is no such guest
abbrev pub connection_at : {T C V : Type 0} → List (Option (Connection T C V)) → ℕ → Option (Connection T C V)
connection_at connections g = get_or connections g None
