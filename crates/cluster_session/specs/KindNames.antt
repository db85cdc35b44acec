-- The names of the kinds of refusals, as a session prints them; a server's error with a name is `Server(..)`.
-- Source: the names are those of the crate `redis`.
use Rattle.std.specs.Prelude.{ℕ, List, ◌++◌, codes}
use Rattle.resp_core.specs.declared.errors.server_error.ServerErrorKind.{ServerErrorKind}
use Rattle.resp_core.specs.declared.errors.server_error.ServerErrorKind.TheVariants as servers
use Rattle.resp_core.specs.declared.errors.redis_error.ErrorKind.{ErrorKind}
use Rattle.resp_core.specs.declared.errors.redis_error.ErrorKind.TheVariants as kinds

unfoldable pub server_name : ServerErrorKind → List ℕ
server_name servers.ResponseError = codes "ResponseError"
server_name servers.ExecAbort = codes "ExecAbort"
server_name servers.BusyLoading = codes "BusyLoading"
server_name servers.NoScript = codes "NoScript"
server_name servers.Moved = codes "Moved"
server_name servers.Ask = codes "Ask"
server_name servers.TryAgain = codes "TryAgain"
server_name servers.ClusterDown = codes "ClusterDown"
server_name servers.CrossSlot = codes "CrossSlot"
server_name servers.MasterDown = codes "MasterDown"
server_name servers.ReadOnly = codes "ReadOnly"
server_name servers.NotBusy = codes "NotBusy"
server_name servers.NoSub = codes "NoSub"
server_name servers.NoPerm = codes "NoPerm"

unfoldable pub kind_name : ErrorKind → List ℕ
kind_name kinds.Parse = codes "Parse"
kind_name kinds.AuthenticationFailed = codes "AuthenticationFailed"
kind_name kinds.UnexpectedReturnType = codes "UnexpectedReturnType"
kind_name kinds.InvalidClientConfig = codes "InvalidClientConfig"
kind_name kinds.Io = codes "Io"
kind_name kinds.Client = codes "Client"
kind_name kinds.Extension = codes "Extension"
kind_name kinds.MasterNameNotFoundBySentinel = codes "MasterNameNotFoundBySentinel"
kind_name kinds.NoValidReplicasFoundBySentinel = codes "NoValidReplicasFoundBySentinel"
kind_name kinds.EmptySentinelList = codes "EmptySentinelList"
kind_name kinds.ClusterConnectionNotFound = codes "ClusterConnectionNotFound"
kind_name (kinds.Server server) = codes "Server(" ++ (server_name server ++ codes ")")
kind_name kinds.Serialize = codes "Serialize"
kind_name kinds.RESP3NotSupported = codes "RESP3NotSupported"
kind_name kinds.Memory = codes "Memory"
