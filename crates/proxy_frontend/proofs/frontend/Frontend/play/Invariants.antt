use Rattle.std.proofs.Common.{◌≡◌, ◌+◌, length}
use Rattle.proxy_connection.specs.Ways.{ways}
use Rattle.proxy_frontend.specs.Steps.{Plays}
use Rattle.proxy_frontend.proofs.frontend.Frontend.play.Given as goal

abbrev pub invariant-calls : goal.invariant-calls
invariant-calls g l = record {
  left : l._i + length l.calls.items ≡ length l.fn.calls.items;
  plays : Plays (ways g.C.Command.overlaps g.V.Written.written g.T.Translator) g.C.Bytes.bytes g.V.Bytes.bytes g.S.Servers.asks
      l.fn.calls.items l.calls.items l.fn.answers.items l.answers.items
      l.fn.self l.fn.servers l.self l.servers;
}
