use Rattle.std.proofs.Common.{rules, ◌≡◌, Err, ap}
use Rattle.proxy_connection.specs.declared.pending.Pending.TheVariants.{Nothing}
use Rattle.proxy_connection.proofs.Served.{heard_fault}
use Rattle.proxy_connection.proofs.connection.Connection.hear.Goals.{in-Nothing, in_default, in-Ok-Some, in-Err-Protocol}
use Rattle.proxy_connection.proofs.connection.Connection.hear.Goals as goal

pub returns-clause-stays : goal.returns-clause-stays
returns-clause-stays g c = rw (← c.self.view_is) (λ q h s.
    let nothing : c.self.inside.pending ≡ Nothing = elim c.match-matches.branch [
      | in-Nothing w ↦ w.in-Nothing.is
      | in_default w ↦ absurd (let other = w.matches-is in let no = c.if-not-matches.false in let none : ⊥ = cc in none)
    ] in
    elim c.match-take_command.branch [
      | in-Ok-Some w ↦ rw w.heard-is (search rules)
      | in-Err-Protocol w ↦
          let told = ap Err w.in-Err-Protocol.field-0-is in
          let fault = w.in-Err-Protocol.fault in
          rw w.heard-is (heard_fault _ _ q h c.take_command.new.self fault nothing c.if-self.false
          ((w.in-Err-Protocol.ensures.told fault).0 told)
          w.in-Err-Protocol.ensures.limits
          (λ commands r. (w.in-Err-Protocol.ensures.fault fault told commands h.fed r).1) s)
    ])
