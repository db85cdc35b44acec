use Rattle.std.proofs.Common.{length, sym, ◌∙◌, ap, ◌≡◌, rules}
use Rattle.resp_args.proofs.Tables.{length-args_from}
use Rattle.resp_args.proofs.arguments.Arguments.len.Goals as goal

pub returns : goal.returns
returns c =
    let len : c.len.result ≡ length c.self.inside.ends.items = search rules in
    len ∙ sym (length-args_from c.self.inside.buffer.items 0 c.self.inside.ends.items) ∙ ap length c.self.view_is
