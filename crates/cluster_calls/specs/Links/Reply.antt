-- What a reply is to a cluster client: data, an error, or a redirect to another node.
-- Source: the Redis Cluster specification, "MOVED redirection" and "ASK redirection".
use Rattle.std.specs.Prelude.{ℕ, List, Option, Some, None, option_and_then}
use Rattle.resp_core.specs.Trees.{Tree, server_error, ErrorText}
use Rattle.resp_core.specs.Parts.{first_error}
use Rattle.resp_core.specs.Errors.{server_kind}
use Rattle.resp_core.specs.Redirect.{RedirectWords, redirect_words}
use Rattle.resp_core.specs.declared.errors.server_error.ServerErrorKind.{ServerErrorKind}
use Rattle.resp_core.specs.declared.errors.server_error.ServerErrorKind.TheVariants as kinds
use Rattle.cluster_routing.specs.Address.{Address, address_read}

-- itself MOVED or ASK; itself another error, or holding an error; data without an error
pub data Sort : Type 0 where
  Moved : ErrorText → Sort
  Ask : ErrorText → Sort
  Failed : ErrorText → Sort
  Data : Sort

abbrev pub error_sort : ErrorText → Option ServerErrorKind → Sort
error_sort e (Some kinds.Moved) = Moved e
error_sort e (Some kinds.Ask) = Ask e
error_sort e _ = Failed e

abbrev pub inner_sort : Option ErrorText → Sort
inner_sort None = Data
inner_sort (Some e) = Failed e

-- what a reply is
abbrev pub sort_of : Tree → Sort
sort_of (server_error e) = error_sort e (server_kind e.code)
sort_of tree = inner_sort (first_error tree)

-- the node that a redirect names
abbrev pub named_node : List ℕ → Option Address
named_node detail = option_and_then (λ (words : RedirectWords). address_read words.address)
    (redirect_words detail)

abbrev pub redirect_target : ErrorText → Option Address
redirect_target e = option_and_then named_node e.detail
