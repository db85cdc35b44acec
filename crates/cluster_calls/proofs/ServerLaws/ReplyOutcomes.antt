-- What an outcome that is a reply tells, and its fate.
use Rattle.std.proofs.Common.{◌≡◌, false, cond, Option, Some, None, Ok, refl, sym, ap, ◌∙◌}
use Rattle.resp_core.specs.Trees.{Tree, nil, int, bulk, array, simple, okay, attribute, set, double, boolean, verbatim, big_number, push, server_error, ErrorText}
use Rattle.resp_core.specs.Trees as trees
use Rattle.resp_core.specs.Parts.{first_error}
use Rattle.resp_core.specs.Errors.{Refusal, server_kind}
use Rattle.resp_core.specs.declared.errors.server_error.ServerErrorKind.{ServerErrorKind}
use Rattle.resp_core.specs.declared.errors.server_error.ServerErrorKind.TheVariants as kinds
use Rattle.cluster_calls.specs.Links.Log.{is_data}
use Rattle.cluster_calls.specs.Links.Reply.{Sort, Moved, Ask, Failed, Data, error_sort, inner_sort, sort_of}
use Rattle.cluster_calls.specs.Calls.Each.{answered, redirected, fate_by_kind, fate_of, refusal_where, link_refusal, reply_in, reply_outcome}
use Rattle.cluster_calls.specs.OneServer.Laws.{is_redirect_sort}

-- ---- what it tells

kind_refuses : (k : Option ServerErrorKind) (refusal : Refusal) → refusal_where (fate_by_kind k) refusal ≡ None
kind_refuses None refusal = refl
kind_refuses (Some kinds.ResponseError) refusal = refl
kind_refuses (Some kinds.ExecAbort) refusal = refl
kind_refuses (Some kinds.BusyLoading) refusal = refl
kind_refuses (Some kinds.NoScript) refusal = refl
kind_refuses (Some kinds.Moved) refusal = refl
kind_refuses (Some kinds.Ask) refusal = refl
kind_refuses (Some kinds.TryAgain) refusal = refl
kind_refuses (Some kinds.ClusterDown) refusal = refl
kind_refuses (Some kinds.CrossSlot) refusal = refl
kind_refuses (Some kinds.MasterDown) refusal = refl
kind_refuses (Some kinds.ReadOnly) refusal = refl
kind_refuses (Some kinds.NotBusy) refusal = refl
kind_refuses (Some kinds.NoSub) refusal = refl
kind_refuses (Some kinds.NoPerm) refusal = refl

-- refuses no link call, and tells the reply
pub reply_tells : (t : Tree) → (link_refusal (reply_outcome t) ≡ None) × (reply_in (reply_outcome t) ≡ t)
reply_tells (server_error e) = (kind_refuses (server_kind e.code) _, refl)
reply_tells nil = (refl, refl)
reply_tells (int n) = (refl, refl)
reply_tells (bulk v) = (refl, refl)
reply_tells (array ts) = (refl, refl)
reply_tells (simple s) = (refl, refl)
reply_tells okay = (refl, refl)
reply_tells (trees.map ps) = (refl, refl)
reply_tells (attribute t ps) = (refl, refl)
reply_tells (set ts) = (refl, refl)
reply_tells (double s) = (refl, refl)
reply_tells (boolean b) = (refl, refl)
reply_tells (verbatim f s) = (refl, refl)
reply_tells (big_number s) = (refl, refl)
reply_tells (push k ts) = (refl, refl)

-- ---- the fate of a reply

kind_fate : (e : ErrorText) (k : Option ServerErrorKind) → fate_by_kind k ≡ cond (is_redirect_sort (error_sort e k)) redirected answered
kind_fate e None = refl
kind_fate e (Some kinds.ResponseError) = refl
kind_fate e (Some kinds.ExecAbort) = refl
kind_fate e (Some kinds.BusyLoading) = refl
kind_fate e (Some kinds.NoScript) = refl
kind_fate e (Some kinds.Moved) = refl
kind_fate e (Some kinds.Ask) = refl
kind_fate e (Some kinds.TryAgain) = refl
kind_fate e (Some kinds.ClusterDown) = refl
kind_fate e (Some kinds.CrossSlot) = refl
kind_fate e (Some kinds.MasterDown) = refl
kind_fate e (Some kinds.ReadOnly) = refl
kind_fate e (Some kinds.NotBusy) = refl
kind_fate e (Some kinds.NoSub) = refl
kind_fate e (Some kinds.NoPerm) = refl

inner_fate : (o : Option ErrorText) → answered ≡ cond (is_redirect_sort (inner_sort o)) redirected answered
inner_fate None = refl
inner_fate (Some e) = refl

-- the fate of a reply says whether it sent its request on
pub reply_fate : (t : Tree) → fate_of (reply_outcome t) ≡ cond (is_redirect_sort (sort_of t)) redirected answered
unfolding first_error
reply_fate (server_error e) = kind_fate e (server_kind e.code)
reply_fate nil = refl
reply_fate (int n) = refl
reply_fate (bulk v) = refl
reply_fate (array ts) = inner_fate (first_error (array ts))
reply_fate (simple s) = refl
reply_fate okay = refl
reply_fate (trees.map ps) = inner_fate (first_error (trees.map ps))
reply_fate (attribute t ps) = inner_fate (first_error (attribute t ps))
reply_fate (set ts) = inner_fate (first_error (set ts))
reply_fate (double s) = refl
reply_fate (boolean b) = refl
reply_fate (verbatim f s) = refl
reply_fate (big_number s) = refl
reply_fate (push k ts) = inner_fate (first_error (push k ts))

-- a reply that sent its request on is no data
pub sent_on_no_data : (t : Tree) → fate_of (reply_outcome t) ≡ redirected → is_data (sort_of t) ≡ false
sent_on_no_data t e = by (sort_of t) (sym (reply_fate t) ∙ e)
  where
    by : (s : Sort) → cond (is_redirect_sort s) redirected answered ≡ redirected → is_data s ≡ false
    by (Moved e) f = refl
    by (Ask e) f = refl
    by (Failed e) f = refl
    by Data f = cc

-- a value is its reply
pub value_reply : (t value : Tree) → reply_outcome t ≡ Ok value → t ≡ value
value_reply t value e = sym (reply_tells t).1 ∙ ap reply_in e
