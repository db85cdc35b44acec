-- What a guest reads of its command: the reply as its protocol writes it, the error that a server answered, or
-- a line of the proxy's own. Sources: the Redis serialization protocol specification, "Simple errors"; the
-- Redis Cluster specification for CLUSTERDOWN and TRYAGAIN.
use Rattle.std.specs.Prelude.{◌≡◌, ℕ, false, List, [], ◌∷◌, Option, Some, None, Result, Ok, Err, codes, vec_len, ⊤}
use Rattle.resp_core.specs.Trees.{ErrorText, Tree, server_error}
use Rattle.resp_core.specs.Errors.{Refusal, cause_of, server_errors}
use Rattle.resp_core.specs.Written.{written, fits}
use Rattle.resp_core.specs.declared.errors.redis_error.Cause.{Cause}
use Rattle.resp_core.specs.declared.errors.redis_error.Cause.TheVariants as causes
use Rattle.resp_core.specs.declared.value.write.Protocol.{Protocol}
use Rattle.resp_core.specs.declared.value.write.WriteError.TheVariants.{TooLarge, Memory}
use Rattle.cluster_servers.specs.declared.reply.Reply.{Reply}
use Rattle.cluster_servers.specs.declared.reply.Reply.TheVariants.{Written, Unwritten}

-- what a reply takes of a guest's share
abbrev pub reply_bytes : Reply → ℕ
reply_bytes (Written bytes) = vec_len bytes
reply_bytes (Unwritten why) = 0

-- the bytes that a guest reads: those of the reply, or a line that says that it can not be written
abbrev pub guest_bytes : Reply → List ℕ
guest_bytes (Written bytes) = bytes.items
guest_bytes (Unwritten why) = codes "-ERR proxy: the reply can not be written\r\n"

-- the tree as the protocol writes it, unless memory was refused or it nests too deep to be written
abbrev pub IsWritten : Protocol → Tree → Reply → Type 0
IsWritten protocol tree (Written bytes) = bytes.items ≡ written protocol tree
IsWritten protocol tree (Unwritten TooLarge) = fits protocol 512 tree ≡ false
IsWritten protocol tree (Unwritten Memory) = ⊤

-- this line, unless memory was refused
abbrev pub IsLine : List ℕ → Reply → Type 0
IsLine line (Written bytes) = bytes.items ≡ line
IsLine line (Unwritten TooLarge) = ⊥
IsLine line (Unwritten Memory) = ⊤

-- why there is no reply
abbrev pub line_by : Cause → List ℕ
line_by causes.NoNode = codes "-CLUSTERDOWN no node serves the slot\r\n"
line_by causes.NoLink = codes "-CLUSTERDOWN no link leads to the node\r\n"
line_by causes.NotAsked = codes "-TRYAGAIN not sent, since the link of another node failed\r\n"
line_by causes.Io = codes "-ERR the link to the node failed, and the command may have been done\r\n"
line_by causes.Parse = codes "-ERR the link to the node failed, and the command may have been done\r\n"
line_by causes.Memory = codes "-ERR memory was refused, and the command may have been done\r\n"
line_by causes.UnexpectedReturnType =
    codes "-ERR the parts of the command were answered differently, and it may be done in part\r\n"
line_by _ = codes "-ERR the command can not be sent to one node, nor in parts\r\n"

-- the first error of servers
abbrev pub IsErrorIn : Protocol → List (ℕ × ErrorText) → Reply → Type 0
IsErrorIn protocol [] reply = IsLine (line_by causes.NoRoute) reply
IsErrorIn protocol (first ∷ more) reply = IsWritten protocol (server_error first.1) reply

abbrev pub IsRefusedBy : Protocol → Option Cause → List (ℕ × ErrorText) → Reply → Type 0
IsRefusedBy protocol (Some cause) errors reply = IsLine (line_by cause) reply
IsRefusedBy protocol None errors reply = IsErrorIn protocol errors reply

-- What a guest reads of a command of which this was told: the reply in its protocol, a server's error, or a
-- line of the proxy's own; memory aside.
abbrev pub IsReplyTo : Protocol → Result Tree Refusal → Reply → Type 0
IsReplyTo protocol (Ok tree) reply = IsWritten protocol tree reply
IsReplyTo protocol (Err refusal) reply =
    IsRefusedBy protocol (cause_of refusal) (server_errors refusal) reply
