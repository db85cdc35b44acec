use Rattle.std.proofs.Common.{rules}
use Rattle.cluster_session.specs.ScriptRead.{session_in}
use Rattle.cluster_session.proofs.Runs.{run_of}
use Rattle.cluster_session.proofs.session.play.play_script.Goals as goal

pub returns-clause-output : goal.returns-clause-output
returns-clause-output c =
    run_of (session_in c.args.script) _ _ _ _ _ _ _ _ c.in_ok-client.ensures.made c.in_ok-links.ensures.links c.in_ok-links.ensures.distinct (search rules) (search rules) (search rules) c.in_ok-play_all.ensures (search rules)
