use Rattle.std.proofs.Common.{rules}
use Rattle.cluster_session.proofs.session.run_session.Goals as goal

-- The text that was read, and all that was printed of it.
pub returns-clause-writes : goal.returns-clause-writes
returns-clause-writes g c =
    record {
      text = _;
      reads = c.in_ok-text.ensures.all;
      output = _;
      writes = c.in_ok-send_all.ensures.sent.written;
      goes = search rules;
    }
