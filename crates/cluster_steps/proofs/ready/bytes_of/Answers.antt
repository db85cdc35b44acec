use Rattle.std.proofs.Common.{◌≡◌, ◌+◌, ◌∙◌, ◌∷◌, ◌++◌, [], append-nil, sym, take, ap}
use Rattle.std.proofs.lemmas.Grind.{flat_map-append}
use Rattle.std.proofs.lemmas.List.{take_more}
use Rattle.cluster_routing.specs.Info.{texts}
use Rattle.cluster_calls.specs.Links.Request.{bytes_of, outgoing, outgoing_for}
use Rattle.cluster_steps.proofs.ready.bytes_of.Goals as goal

pub loop-request-preserved : goal.loop-request-preserved
loop-request-preserved c =
    let all = c.args.requests.now in
    let i = c.loop-request.request-index in
    let one = c.request-item.result in
    let bytes : outgoing_for c.request.inside.asking (texts c.deref.result.now) ≡ outgoing one = ap (λ args. outgoing_for c.request.inside.asking (texts args)) c.deref.ensures.value ∙ ap outgoing c.request.view_is in
    let more : bytes_of (take (i + 1) all) ≡ bytes_of (take i all) ++ outgoing one = ap bytes_of (take_more all i one c.loop-request-test.true ∙ ap (λ q. take i all ++ q ∷ []) (sym c.request-item.is))
    ∙ flat_map-append outgoing (take i all) (one ∷ []) ∙ ap (λ bs. bytes_of (take i all) ++ bs) (append-nil (outgoing one)) in
    c.in_ok-append_outgoing.ensures ∙ ap (λ bs. c.loop-request.bytes.items ++ bs) bytes ∙ ap (λ bs. bs ++ outgoing one) c.loop-request.invariant ∙ sym more
