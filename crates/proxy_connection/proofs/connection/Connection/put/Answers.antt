use Rattle.std.proofs.Common.{◌≡◌, ◌++◌, ◌∷◌, [], refl, sym, ◌∙◌, ap}
use Rattle.std.proofs.lemmas.List.{get_or-set_same}
use Rattle.proxy_core.specs.Guests.{Queues, queue_at}
use Rattle.proxy_connection.specs.declared.pending.Pending.TheVariants.{Entry}
use Rattle.proxy_connection.proofs.Served.{entry_put, pending_kept}
use Rattle.proxy_connection.proofs.connection.Connection.put.Goals as goal
use Rattle.proxy_connection.proofs.connection.Connection.put.Goals.{in-NoGuest, in-Full, in-NoMemory}

pub returns-in-Ok-clause-ok : goal.returns-in-Ok-clause-ok
returns-in-Ok-clause-ok g c =
    let e = c.in-Entry.entry in
    let n = c.self.inside.guest in
    let qs = c.args.proxy.now.queues in
    let put = c.in-Ok.ensures.ok in
    let pending : c.self.inside.pending ≡ Entry e = sym c.replace.ensures.value ∙ c.in-Entry.is in
    let queue : queue_at c.put.new.self.queues n ≡ queue_at qs n ++ e ∷ [] =
    ap (λ (xs : Queues g.row.C.Denot g.row.V.Denot). queue_at xs n) put.1 ∙ get_or-set_same qs n (queue_at qs n ++ e ∷ []) [] put.0 in
    rw (← c.self.view_is) (e, put, λ h s. entry_put _ _ _ _ h e c.replace.new.dest pending c.replace.ensures.after queue s)

pub returns-after-refused-clause-ok : goal.returns-after-refused-clause-ok
returns-after-refused-clause-ok g c =
    let e = c.in-Err.refused.value in
    let err = c.in-Err.ensures in
    let pending : c.self.inside.pending ≡ Entry e = sym c.replace.ensures.value ∙ c.in-Entry.is ∙ ap Entry (sym err.entry) in
    elim c.match-refused.branch [
      | in-NoGuest w ↦ rw (w.result-is, ← c.self.view_is) ((err.err, λ h s. pending_kept _ _ _ h (Entry e) pending s), rw w.in-NoGuest.is at err.why)
      | in-Full w ↦
          rw (w.result-is, ← c.self.view_is)
          ((err.err, λ h s. pending_kept _ _ _ h (Entry e) pending s), e, refl, rw err.entry (rw w.in-Full.is at err.why))
      | in-NoMemory w ↦ rw w.result-is tt
    ]
