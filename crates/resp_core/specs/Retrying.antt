-- How a refused call may be tried again. Sources: the Redis Cluster specification (MOVED, ASK, TRYAGAIN,
-- CLUSTERDOWN), the Redis documentation of LOADING and MASTERDOWN, and the documentation of the crate
-- `redis`, `RedisError::retry_method`.
use Rattle.resp_core.specs.declared.errors.redis_error.ErrorKind.{ErrorKind}
use Rattle.resp_core.specs.declared.errors.redis_error.ErrorKind.TheVariants as kinds
use Rattle.resp_core.specs.declared.errors.server_error.ServerErrorKind.{ServerErrorKind}
use Rattle.resp_core.specs.declared.errors.server_error.ServerErrorKind.TheVariants as servers
use Rattle.resp_core.specs.declared.errors.retry_method.RetryMethod.{RetryMethod}
use Rattle.resp_core.specs.declared.errors.retry_method.RetryMethod.TheVariants as methods

-- behind a server's error that has a name
abbrev pub retry_by_server : ServerErrorKind → RetryMethod
retry_by_server servers.Moved = methods.MovedRedirect
retry_by_server servers.Ask = methods.AskRedirect
retry_by_server servers.TryAgain = methods.WaitAndRetry
retry_by_server servers.BusyLoading = methods.WaitAndRetry
retry_by_server servers.ClusterDown = methods.WaitAndRetry
retry_by_server servers.MasterDown = methods.WaitAndRetry
retry_by_server _ = methods.NoRetry

-- how a refused call may be tried again, by its kind
abbrev pub retry_by_kind : ErrorKind → RetryMethod
retry_by_kind (kinds.Server kind) = retry_by_server kind
retry_by_kind kinds.ClusterConnectionNotFound = methods.ReconnectFromInitialConnections
retry_by_kind kinds.Io = methods.Reconnect
retry_by_kind kinds.Parse = methods.Reconnect
retry_by_kind _ = methods.NoRetry
