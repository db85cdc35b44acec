use Rattle.std.proofs.Common.{◌+◌, sym}
use Rattle.std.proofs.lemmas.List.{take_rest}
use Rattle.cluster_session.proofs.Pieces.{piece_up_to}
use Rattle.cluster_session.proofs.session.script.cut_line.Goals as goal

pub returns-in-Some-clause-pieces : goal.returns-in-Some-clause-pieces
returns-in-Some-clause-pieces c =
    rw (take_rest c.args.text.now (c.in-Some.end + 1)) (piece_up_to 10 c.args.text.now c.in-Some.end (sym c.in-Some.ensures.end))
