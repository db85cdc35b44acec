use Rattle.std.proofs.Common.{◌≡◌, ◌<◌, ◌-◌, ◌∙◌, suc, length, List, refl, sym, ap, arith, Some}
use Rattle.std.proofs.lemmas.Option.{slice_get_read}
use Rattle.cluster_calls.specs.Calls.Call.{Entry}
use Rattle.cluster_calls.proofs.LinkLaws.LastCommand.{last_ignored}
use Rattle.cluster_client.proofs.pipeline.ClusterPipeline.ignore.Goals as goal

pub returns-then-len-gt0 : goal.returns-then-len-gt0
returns-then-len-gt0 c =
    let xs : List Entry = c.self.inside.commands.items in
    let old : Entry = record { command = c.behind-self.inside.command; ignored = c.behind-self.inside.ignored } in
    let len : c.len-len.result ≡ length c.self.inside.commands.items = c.len-len.ensures ∙ c.self.inside.commands.ok.0 in
    let some : 0 < c.len-len.result = c.if-len-gt0.true in
    let last : suc (c.len-len.result - 1) ≡ length c.self.inside.commands.items = omega (arith, len, some) in
    let within : c.len-len.result - 1 < length c.self.inside.commands.items = omega (arith, last) in
    last_ignored xs c.args.self.now (c.len-len.result - 1) old c.self.view_is last
    (slice_get_read xs (length xs) (c.len-len.result - 1) c.index_mut.result.now refl within c.index_mut.ensures.value ∙ ap (λ e. Some e) (sym c.behind-self.view_is))
