use Rattle.std.proofs.Common.{◌∙◌, ap}
use Rattle.resp_core.specs.View.{view}
use Rattle.cluster_calls.specs.Links.World.{tree_result}
use Rattle.cluster_client.specs.Whole.{whole}
use Rattle.cluster_servers.specs.Fates.{fate_alone}
use Rattle.cluster_servers.proofs.Asking.{made_alone}
use Rattle.cluster_servers.proofs.alone.ask_alone.Goals as goal

pub returns : goal.returns
returns g c =
    let seen = g.L.ConnectionLike.seen in
    record {
      result = tree_result view c.query_directed-told.result;
      happened = rw c.directed.ensures.command at c.query_directed-told.ensures.happened;
      made = made_alone (whole seen c.args.client.now) (whole seen c.query_directed-told.new.self) c.args.command.now.command c.query_directed-told.result (rw c.directed.ensures.command at c.query_directed-told.ensures.answered);
      fate = c.fate_alone-fate.ensures ∙ ap (λ log. fate_alone c.args.patient log (tree_result view c.query_directed-told.result)) c.asked.ensures;
      reply = c.new.ensures;
    }
