-- Runs of calls: one call more at a time, and what was seen behind them.
use Rattle.std.proofs.Common.{◌≡◌, ℕ, Bool, true, List, [], ◌∷◌, Option, Some, None, Vec, refl, sym, ◌∙◌, subst}
use Rattle.std.specs.Global.{Global}
use Rattle.resp_requests.specs.declared.limits.Limits.{Limits}
use Rattle.proxy_core.specs.declared.queue.Entry.{Entry}
use Rattle.proxy_core.specs.Batch.{Asks}
use Rattle.proxy_core.specs.Guests.{queue_at, is_open_at}
use Rattle.proxy_core.specs.Runs.{PlaysBy}
use Rattle.proxy_connection.specs.declared.connection.Connection.{Connection}
use Rattle.proxy_connection.specs.declared.progress.Progress.{Progress}
use Rattle.proxy_connection.specs.declared.progress.Progress.TheVariants.{Taken, Short, Full, Ended, NoGuest}
use Rattle.proxy_connection.specs.History.{History}
use Rattle.proxy_connection.specs.Serving.{Serves}
use Rattle.proxy_connection.specs.Ways.{Ways}
use Rattle.proxy_frontend.specs.declared.play.Answer.{Answer}
use Rattle.proxy_frontend.specs.declared.play.Answer.TheVariants as answers
use Rattle.proxy_frontend.specs.declared.play.Call.{Call}
use Rattle.proxy_frontend.specs.declared.play.Call.TheVariants as calls
use Rattle.proxy_frontend.specs.Histories.{Histories, wrote}
use Rattle.proxy_frontend.specs.Laws.{own_seen, ReadsItsOwn, EachReadsItsOwn}
use Rattle.proxy_frontend.specs.Moves.{Advances, HasNext, Writes}
use Rattle.proxy_frontend.specs.Serving.{AllGo, AreServed, IsServed, IsServedAt}
use Rattle.proxy_frontend.specs.State.{State, connection_at}
use Rattle.proxy_frontend.specs.Steps.{Step, Joined, NotJoined, Heard, NotHeard, Entered, Rested, NotAdvanced, Wrote, WroteNothing, NotWritten, Left, Turned, NotTurned, SameLimits, Makes, MakesOne, Runs, Plays, call_of, answer_of, seen, all_seen}

module _ {T C V S : Type 0} (w : Ways T C V) (command : C → ℕ) (reply : V → ℕ) (asks : Asks S C V) where
  -- ---- one call

  pub advanced : (g : ℕ) (progress : Progress) (old new : State T C V) (s s' : S) → s' ≡ s → SameLimits old new → Advances w command reply old new g progress
      → MakesOne w command reply asks (calls.Advance g) (answers.Advanced progress) old s new s'
  advanced g Taken old new s s' e l m = (Entered g m.0, refl, refl, (m.2, l, (m.1, e)))
  advanced g Short old new s s' e l m = (Rested g Short, refl, refl, (m.0, l, (m.1, e)))
  advanced g Full old new s s' e l m = (Rested g Full, refl, refl, (m.0, l, (m.1, e)))
  advanced g Ended old new s s' e l m = (Rested g Ended, refl, refl, (m.0, l, (m.1, e)))
  advanced g NoGuest old new s s' e l m = (Rested g NoGuest, refl, refl, (m.0, l, (m.1, e)))

  pub written : (g : ℕ) (bytes : Vec ℕ Global) (old new : State T C V) (s s' : S) → s' ≡ s → SameLimits old new → Writes w old new g [] bytes.items true
      → MakesOne w command reply asks (calls.Write g) (answers.Wrote bytes) old s new s'
  written g bytes old new s s' e l m =
      (Wrote g bytes, refl, refl, (subst (λ (xs : List ℕ). AllGo w old new (wrote g xs)) (sym m.1) m.2, l, (subst (λ (xs : List ℕ). HasNext w old g (λ next. next ≡ Some xs)) (sym m.1) m.3, e)))

  pub of_call : {call call' : Call T} {answer : Answer} {old new : State T C V} {s s' : S} → call ≡ call' → MakesOne w command reply asks call' answer old s new s' → MakesOne w command reply asks call answer old s new s'
  of_call e m = (m.0, e ∙ m.1, m.2, m.3)

  -- ---- one call after another

  runs_serve : (steps : List (Step T C V)) (old : State T C V) (s : S) (new : State T C V) (s' : S)
      → Runs w command reply asks steps old s new s' → AllGo w old new (all_seen old.limits steps)
  runs_serve [] old s new s' r histories served = subst (λ (st : State T C V). AreServed w st histories) (sym r.0) served
  runs_serve (step ∷ steps) old s new s' r histories served =
      subst (λ (l : Limits). AreServed w new (all_seen l steps (seen old.limits step histories))) r.2.1.0
      (runs_serve steps r.0 r.1 new s' r.3 (seen old.limits step histories) (r.2.0 histories served))

  pub played : (calls left : List (Call T)) (before after : List Answer) (old : State T C V) (s : S) (new : State T C V) (s' : S)
      → PlaysBy (Makes w command reply asks) call_of answer_of calls left before after old s new s' → Plays w command reply asks calls left before after old s new s'
  played calls left before after old s new s' p = record { plays = p; serves = runs_serve p.steps old s new s' p.runs }

  -- ---- what is each guest's own

  own_all : (limits : Limits) (g : ℕ) (steps : List (Step T C V)) (histories : Histories T C V) → all_seen limits steps histories g ≡ own_seen limits g steps (histories g)
  own_all limits g [] histories = refl
  own_all limits g (Joined n t ∷ steps) histories = own_all limits g steps (seen limits (Joined n t) histories)
  own_all limits g (NotJoined t why ∷ steps) histories = own_all limits g steps histories
  own_all limits g (Heard n bytes ∷ steps) histories = own_all limits g steps (seen limits (Heard n bytes) histories)
  own_all limits g (NotHeard n bytes ∷ steps) histories = own_all limits g steps histories
  own_all limits g (Entered n e ∷ steps) histories = own_all limits g steps (seen limits (Entered n e) histories)
  own_all limits g (Rested n why ∷ steps) histories = own_all limits g steps histories
  own_all limits g (NotAdvanced n ∷ steps) histories = own_all limits g steps histories
  own_all limits g (Wrote n bytes ∷ steps) histories = own_all limits g steps (seen limits (Wrote n bytes) histories)
  own_all limits g (WroteNothing n ∷ steps) histories = own_all limits g steps histories
  own_all limits g (NotWritten n ∷ steps) histories = own_all limits g steps histories
  own_all limits g (Left n ∷ steps) histories = own_all limits g steps (seen limits (Left n) histories)
  own_all limits g (Turned batch outcomes ∷ steps) histories = own_all limits g steps (seen limits (Turned batch outcomes) histories)
  own_all limits g (NotTurned ∷ steps) histories = own_all limits g steps histories

  reads : (g : ℕ) (o : Option (Connection T C V)) (b : Bool) (q : List (Entry C V)) (h : History T C V) → IsServed w g o b q (Some h)
      → (c : Connection T C V) × (o ≡ Some c) × (c.guest ≡ g) × Serves w c q h × ReadsItsOwn w c q h
  reads g (Some c) b q h s = (c, refl, s.1, s.2, record { replies = s.2.replies; sees = s.2.sees; writes = s.2.writes })
  reads g None b q h s = absurd s

  pub each_reads_its_own : EachReadsItsOwn w command reply asks
  each_reads_its_own steps old s new s' r histories served g h e =
      let own = own_all old.limits g steps histories ∙ e in
      reads g (connection_at new.connections g) (is_open_at new.proxy.openings g) (queue_at new.proxy.queues g) h
      (subst (λ (x : Option (History T C V)). IsServedAt w new g x) own (runs_serve steps old s new s' r histories served g))
