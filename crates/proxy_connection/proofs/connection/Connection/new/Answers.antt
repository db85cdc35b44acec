use Rattle.std.proofs.Common.{[], refl}
use Rattle.proxy_connection.proofs.connection.Connection.new.Goals as goal

pub returns-clause-begins : goal.returns-clause-begins
returns-clause-begins g c = record {
  commands = [];
  entries = [];
  replies = [];
  limits = c.with_limits.ensures.limits;
  reads = c.with_limits.ensures.empty;
  understands = refl;
  in_time = tt;
  comes = refl;
  sees = refl;
  writes = refl;
}
