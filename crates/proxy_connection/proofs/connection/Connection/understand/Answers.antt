use Rattle.std.proofs.Common.{subst}
use Rattle.resp_requests.specs.Given.{texts}
use Rattle.proxy_connection.proofs.Served.{understood_words, refused_fault}
use Rattle.proxy_connection.proofs.connection.Connection.understand.Goals as goal
use Rattle.proxy_connection.proofs.connection.Connection.understand.Goals.{in-Words+in_ok-entry-in-Words, in-Fault+in_ok-reply-in-Fault}

pub returns-clause-stays : goal.returns-clause-stays
returns-clause-stays g c = rw (← c.self.view_is) (λ q h s. elim c.match-self.branch [
  | in-Words+in_ok-entry-in-Words w ↦
      let meant = subst (λ xs. g.T.Translator.translates c.self.inside.translator (texts xs) w.in_ok-entry-in-Words.entry w.translate.new.self) w.deref.ensures.value w.in_ok-entry-in-Words.ensures.ok in
      rw (w.self-inside-is, w.entry-is) (understood_words _ _ q h w.in-Words.words w.in_ok-entry-in-Words.entry w.translate.new.self w.in-Words.is meant s)
  | in-Fault+in_ok-reply-in-Fault w ↦
      rw (w.self-inside-is, w.entry-is) (refused_fault _ _ q h w.in-Fault.fault w.in_ok-reply-in-Fault.reply w.in-Fault.is w.in_ok-reply-in-Fault.ensures s)
])
