-- Each call of a run is refused as its kind says, from what it promises.
use Rattle.std.proofs.Common.{◌≡◌, List, [], ◌∷◌, Option, Result, sym, ap, ◌∙◌}
use Rattle.resp_core.specs.Errors.{Refusal}
use Rattle.cluster_routing.specs.Choice.{Strategy}
use Rattle.cluster_calls.specs.Links.Events.{Event, taken_of, exchanges_of, faults_of}
use Rattle.cluster_calls.specs.Links.Happened.{client_of, CallMade, log_with_replies}
use Rattle.cluster_calls.specs.Links.Log.{exchanges, replies}
use Rattle.cluster_calls.specs.Links.Run.{with_log, CallsMade}
use Rattle.cluster_calls.specs.Links.World.{World}
use Rattle.cluster_calls.specs.Calls.Answer.{Answer, answer_of}
use Rattle.cluster_calls.specs.Calls.Call.{Call}
use Rattle.cluster_calls.specs.Calls.Refusals.{refusal_in}
use Rattle.cluster_calls.specs.OneServer.Headline.{PlayedCall}
use Rattle.cluster_calls.specs.OneServer.RefusedPlays.{IsRefusedByKind, AreRefusedByKind}
use Rattle.cluster_calls.proofs.LinkLaws.FaultsAgree.{agrees}
use Rattle.cluster_calls.proofs.LinkLaws.LinkRuns.{pairing}
use Rattle.cluster_calls.proofs.LinkLaws.PlainAnswers.{refused_is}
use Rattle.cluster_calls.proofs.ServerLaws.Runs.{kind_is}

pub call_refused : (strategy : Option Strategy) (old new : World) (call : Call) (answer : Result Answer Refusal) (made : CallMade strategy old new call answer)
    → IsRefusedByKind (client_of old) made.happened.events (record { call = call; picks = new.picked; answer = answer; log = new.log })
call_refused strategy old new call answer made = λ had.
    let a = made.answered had in
    let es = made.happened.events in
    let same : exchanges_of 0 es ≡ log_with_replies (taken_of es) new.log =
    sym (ap (λ qs. exchanges (replies (taken_of es)) 0 qs) a.logged ∙ pairing old.nodes new.nodes es 0 made.happened.runs) in
    refused_is (client_of old) new.picked (faults_of es) call (exchanges_of 0 es) answer (a.answered (faults_of es) (agrees old.nodes new.nodes es made.happened.runs) 0)
    ∙ ap (λ xs. refusal_in (answer_of (client_of old) new.picked (faults_of es) call xs)) same
    ∙ kind_is (client_of old) new.picked (faults_of es) call (log_with_replies (taken_of es) new.log)

pub calls_refused : (strategy : Option Strategy) (old new : World) (ts : List PlayedCall) (events : List Event) (made : CallsMade strategy old new ts events) → AreRefusedByKind strategy old new ts events made
calls_refused strategy old new [] events made = tt
calls_refused strategy old new (t ∷ ts) events made = (call_refused strategy old (with_log made.0 t.log t.picks) t.call t.answer made.2, calls_refused strategy made.0 new ts made.1 made.4)
