use Rattle.std.proofs.lemmas.Str.Pattern.{split_parts}
use Rattle.cluster_session.proofs.Pieces.{cut_pieces, cut_shorter}
use Rattle.cluster_session.proofs.session.lines.cut.Goals as goal

pub returns-clause-pieces : goal.returns-clause-pieces
returns-clause-pieces c =
    let parts = split_parts c.args.separator c.args.text.now c.split_once.result c.split_once.ensures.cases c.requires in
    cut_pieces c.args.separator c.args.text.now c.split_once.result parts

pub returns-clause-shorter : goal.returns-clause-shorter
returns-clause-shorter c =
    let parts = split_parts c.args.separator c.args.text.now c.split_once.result c.split_once.ensures.cases c.requires in
    cut_shorter c.args.separator c.args.text.now c.split_once.result parts
