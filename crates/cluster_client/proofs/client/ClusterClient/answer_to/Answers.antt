use Rattle.std.proofs.lemmas.Result.{err_from_is_err_and}
use Rattle.cluster_client.proofs.client.ClusterClient.answer_to.Goals as goal

pub returns-in-Query : goal.returns-in-Query
returns-in-Query g c = rw c.in-Query.is c.answer_to_query.ensures

pub returns-in_err-reply_to-in-Ordered : goal.returns-in_err-reply_to-in-Ordered
returns-in_err-reply_to-in-Ordered g c =
    let p = err_from_is_err_and c.from_residual.result c.from_residual.ensures.1 in
    rw (c.in-Ordered.is, p.1, p.2) ((rw c.deref.ensures.value at c.in_err-reply_to-in-Ordered.ensures).made)

pub returns-in_ok-reply_to-in-Ordered : goal.returns-in_ok-reply_to-in-Ordered
returns-in_ok-reply_to-in-Ordered g c = rw c.in-Ordered.is ((rw c.deref.ensures.value at c.in_ok-reply_to-in-Ordered.ensures).made)

pub returns-in_err-xadd-in-Xadd : goal.returns-in_err-xadd-in-Xadd
returns-in_err-xadd-in-Xadd g c =
    let p = err_from_is_err_and c.from_residual-in_err-xadd-in-Xadd.result c.from_residual-in_err-xadd-in-Xadd.ensures.1 in
    rw (c.in-Xadd.is, p.1, p.2) ((rw c.deref-in-Xadd.ensures.value at c.in_err-xadd-in-Xadd.ensures).made)

pub returns-in_ok-xadd-in-Xadd : goal.returns-in_ok-xadd-in-Xadd
returns-in_ok-xadd-in-Xadd g c = rw c.in-Xadd.is ((rw c.deref-in-Xadd.ensures.value at c.in_ok-xadd-in-Xadd.ensures).made)

pub returns-in_err-xtrim-in-Xtrim : goal.returns-in_err-xtrim-in-Xtrim
returns-in_err-xtrim-in-Xtrim g c =
    let p = err_from_is_err_and c.from_residual-in_err-xtrim-in-Xtrim.result c.from_residual-in_err-xtrim-in-Xtrim.ensures.1 in
    rw (c.in-Xtrim.is, p.1, p.2) c.in_err-xtrim-in-Xtrim.ensures.made

pub returns-in_ok-xtrim-in-Xtrim : goal.returns-in_ok-xtrim-in-Xtrim
returns-in_ok-xtrim-in-Xtrim g c = rw c.in-Xtrim.is c.in_ok-xtrim-in-Xtrim.ensures.made

pub returns-in_err-xread-in-Xread : goal.returns-in_err-xread-in-Xread
returns-in_err-xread-in-Xread g c =
    let p = err_from_is_err_and c.from_residual-in_err-xread-in-Xread.result c.from_residual-in_err-xread-in-Xread.ensures.1 in
    rw (c.in-Xread.is, p.1, p.2) ((rw c.deref-in-Xread.ensures.value at c.in_err-xread-in-Xread.ensures).made)

pub returns-in_ok-xread-in-Xread : goal.returns-in_ok-xread-in-Xread
returns-in_ok-xread-in-Xread g c = rw c.in-Xread.is ((rw c.deref-in-Xread.ensures.value at c.in_ok-xread-in-Xread.ensures).made)

pub returns-in_err-xrange-in-Xrange : goal.returns-in_err-xrange-in-Xrange
returns-in_err-xrange-in-Xrange g c =
    let p = err_from_is_err_and c.from_residual-in_err-xrange-in-Xrange.result c.from_residual-in_err-xrange-in-Xrange.ensures.1 in
    rw (c.in-Xrange.is, p.1, p.2) c.in_err-xrange-in-Xrange.ensures.made

pub returns-in_ok-xrange-in-Xrange : goal.returns-in_ok-xrange-in-Xrange
returns-in_ok-xrange-in-Xrange g c = rw c.in-Xrange.is c.in_ok-xrange-in-Xrange.ensures.made

pub returns-in_err-xclaim-in-Xclaim : goal.returns-in_err-xclaim-in-Xclaim
returns-in_err-xclaim-in-Xclaim g c =
    let p = err_from_is_err_and c.from_residual-in_err-xclaim-in-Xclaim.result c.from_residual-in_err-xclaim-in-Xclaim.ensures.1 in
    rw (c.in-Xclaim.is, p.1, p.2) ((rw c.deref-in-Xclaim.ensures.value at c.in_err-xclaim-in-Xclaim.ensures).made)

pub returns-in_ok-xclaim-in-Xclaim : goal.returns-in_ok-xclaim-in-Xclaim
returns-in_ok-xclaim-in-Xclaim g c = rw c.in-Xclaim.is ((rw c.deref-in-Xclaim.ensures.value at c.in_ok-xclaim-in-Xclaim.ensures).made)

pub returns-in_err-xautoclaim-in-Xautoclaim : goal.returns-in_err-xautoclaim-in-Xautoclaim
returns-in_err-xautoclaim-in-Xautoclaim g c =
    let p = err_from_is_err_and c.from_residual-in_err-xautoclaim-in-Xautoclaim.result c.from_residual-in_err-xautoclaim-in-Xautoclaim.ensures.1 in
    rw (c.in-Xautoclaim.is, p.1, p.2) c.in_err-xautoclaim-in-Xautoclaim.ensures.made

pub returns-in_ok-xautoclaim-in-Xautoclaim : goal.returns-in_ok-xautoclaim-in-Xautoclaim
returns-in_ok-xautoclaim-in-Xautoclaim g c = rw c.in-Xautoclaim.is c.in_ok-xautoclaim-in-Xautoclaim.ensures.made

pub returns-in_err-xpending-in-Xpending : goal.returns-in_err-xpending-in-Xpending
returns-in_err-xpending-in-Xpending g c =
    let p = err_from_is_err_and c.from_residual-in_err-xpending-in-Xpending.result c.from_residual-in_err-xpending-in-Xpending.ensures.1 in
    rw (c.in-Xpending.is, p.1, p.2) c.in_err-xpending-in-Xpending.ensures.made

pub returns-in_ok-xpending-in-Xpending : goal.returns-in_ok-xpending-in-Xpending
returns-in_ok-xpending-in-Xpending g c = rw c.in-Xpending.is c.in_ok-xpending-in-Xpending.ensures.made

pub returns-in_err-xinfo_stream-in-XinfoStream : goal.returns-in_err-xinfo_stream-in-XinfoStream
returns-in_err-xinfo_stream-in-XinfoStream g c =
    let p = err_from_is_err_and c.from_residual-in_err-xinfo_stream-in-XinfoStream.result c.from_residual-in_err-xinfo_stream-in-XinfoStream.ensures.1 in
    rw (c.in-XinfoStream.is, p.1, p.2) c.in_err-xinfo_stream-in-XinfoStream.ensures.made

pub returns-in_ok-xinfo_stream-in-XinfoStream : goal.returns-in_ok-xinfo_stream-in-XinfoStream
returns-in_ok-xinfo_stream-in-XinfoStream g c = rw c.in-XinfoStream.is c.in_ok-xinfo_stream-in-XinfoStream.ensures.made

pub returns-in_err-xinfo_groups-in-XinfoGroups : goal.returns-in_err-xinfo_groups-in-XinfoGroups
returns-in_err-xinfo_groups-in-XinfoGroups g c =
    let p = err_from_is_err_and c.from_residual-in_err-xinfo_groups-in-XinfoGroups.result c.from_residual-in_err-xinfo_groups-in-XinfoGroups.ensures.1 in
    rw (c.in-XinfoGroups.is, p.1, p.2) c.in_err-xinfo_groups-in-XinfoGroups.ensures.made

pub returns-in_ok-xinfo_groups-in-XinfoGroups : goal.returns-in_ok-xinfo_groups-in-XinfoGroups
returns-in_ok-xinfo_groups-in-XinfoGroups g c = rw c.in-XinfoGroups.is c.in_ok-xinfo_groups-in-XinfoGroups.ensures.made

pub returns-in_err-xinfo_consumers-in-XinfoConsumers : goal.returns-in_err-xinfo_consumers-in-XinfoConsumers
returns-in_err-xinfo_consumers-in-XinfoConsumers g c =
    let p = err_from_is_err_and c.from_residual-in_err-xinfo_consumers-in-XinfoConsumers.result c.from_residual-in_err-xinfo_consumers-in-XinfoConsumers.ensures.1 in
    rw (c.in-XinfoConsumers.is, p.1, p.2) c.in_err-xinfo_consumers-in-XinfoConsumers.ensures.made

pub returns-in_ok-xinfo_consumers-in-XinfoConsumers : goal.returns-in_ok-xinfo_consumers-in-XinfoConsumers
returns-in_ok-xinfo_consumers-in-XinfoConsumers g c = rw c.in-XinfoConsumers.is c.in_ok-xinfo_consumers-in-XinfoConsumers.ensures.made

pub returns-in_err-xdel_ex-in-XdelEx : goal.returns-in_err-xdel_ex-in-XdelEx
returns-in_err-xdel_ex-in-XdelEx g c =
    let p = err_from_is_err_and c.from_residual-in_err-xdel_ex-in-XdelEx.result c.from_residual-in_err-xdel_ex-in-XdelEx.ensures.1 in
    rw (c.in-XdelEx.is, p.1, p.2) ((rw (c.deref-in-XdelEx.ensures.value, c.same.ensures) at c.in_err-xdel_ex-in-XdelEx.ensures).made)

pub returns-in_ok-xdel_ex-in-XdelEx : goal.returns-in_ok-xdel_ex-in-XdelEx
returns-in_ok-xdel_ex-in-XdelEx g c = rw c.in-XdelEx.is ((rw (c.deref-in-XdelEx.ensures.value, c.same.ensures) at c.in_ok-xdel_ex-in-XdelEx.ensures).made)
