use Rattle.std.proofs.Common.{◌≡◌, ◌≢◌, ◌<◌, ◌-◌, ◌∙◌, [], suc, is_ok, length, map, List, refl, sym, ap, arith, Some}
use Rattle.std.proofs.lemmas.Option.{slice_get_read}
use Rattle.resp_args.specs.declared.cmd.Arg.TheVariants.{Simple}
use Rattle.cluster_calls.specs.Calls.Call.{Entry}
use Rattle.cluster_calls.proofs.LinkLaws.LastCommand.{args_behind, index_last}
use Rattle.cluster_client.proofs.pipeline.ClusterPipeline.arg.Goals as goal

pub returns : goal.returns
returns g c =
    let xs : List Entry = c.self.inside.commands.items in
    let old : Entry = record { command = c.behind-self.inside.command; ignored = c.behind-self.inside.ignored } in
    let len : c.len-last.result ≡ length c.self.inside.commands.items = c.len-last.ensures ∙ c.self.inside.commands.ok.0 in
    let some : c.self.inside.commands.items ≢ [] = λ e. c.requires (sym c.self.view_is ∙ e) in
    let last : suc (c.len-last.result - 1) ≡ length c.self.inside.commands.items = index_last c.self.inside.commands.items c.len-last.result some len in
    let within : c.len-last.result - 1 < length c.self.inside.commands.items = omega (arith, last) in
    args_behind xs c.args.self.now (c.len-last.result - 1) old c.arg.new.self (is_ok c.arg.result) (map (λ x. Simple x) (g.T.ToRedisArgs.args c.args.arg)) c.self.view_is last
    (slice_get_read xs (length xs) (c.len-last.result - 1) c.index_mut.result.now refl within c.index_mut.ensures.value ∙ ap (λ e. Some e) (sym c.behind-self.view_is)) c.arg.ensures
