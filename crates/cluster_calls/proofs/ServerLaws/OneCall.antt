-- One call is as good as its command on one server: among others, and from that alone.
use Rattle.std.proofs.Common.{ℕ, Bool, List, [], ◌∷◌}
use Rattle.cluster_calls.specs.Links.Events.{taken_of}
use Rattle.cluster_calls.specs.Links.Happened.{client_of}
use Rattle.cluster_calls.specs.Links.Log.{exchanges, replies}
use Rattle.cluster_calls.specs.OneServer.AmongOthers.{CallTurns, HonestAmongOthers, AsOneServerAmongOthers}
use Rattle.cluster_calls.specs.OneServer.Headline.{RepliedCall, with_replies}
use Rattle.cluster_calls.specs.OneServer.Keyspace.{Keyspace}
use Rattle.cluster_calls.specs.OneServer.Meaning.{Meaning}
use Rattle.cluster_calls.specs.OneServer.OneCall.{run_of_one, OneCallAmongOthers, OneCallAsOnOneServer}
use Rattle.cluster_calls.proofs.LogLaws.Gaps.{every_gap_names_no_key}
use Rattle.cluster_calls.proofs.ServerLaws.Alone.{from_among_others}
use Rattle.cluster_calls.proofs.ServerLaws.AmongOthers.{served_among_others}

pub one_call_among : OneCallAmongOthers
one_call_among = λ strategy old new call answer made had on meaning keys keys' done turns last honest.
    let p = made.played had in
    let a = made.answered had.0 in
    let run = with_replies (taken_of made.happened.events) (run_of_one new call answer) in
    served_among_others strategy p.faults meaning done run (client_of old) keys keys' every_gap_names_no_key (on, tt) (a.picks, p.legal, p.answered, tt)
    (turns ∷ []) last honest

-- the turns of one call are one
of_one : (meaning : Meaning) (done : ℕ → Bool) (t : RepliedCall) (keys keys' : Keyspace)
    → ((turns : CallTurns) → HonestAmongOthers meaning keys done (t ∷ []) (turns ∷ []) [] keys'
    → AsOneServerAmongOthers meaning keys done (t ∷ []) (turns ∷ []) [] keys')
    → (calls : List CallTurns) → HonestAmongOthers meaning keys done (t ∷ []) calls [] keys' → AsOneServerAmongOthers meaning keys done (t ∷ []) calls [] keys'
of_one meaning done t keys keys' one [] h = absurd h.requests
of_one meaning done t keys keys' one (c ∷ []) h = one c h
of_one meaning done t keys keys' one (c ∷ d ∷ cs) h = absurd h.requests.1

-- with no step of others this is the claim of one call alone
pub one_call_alone : OneCallAmongOthers → OneCallAsOnOneServer
one_call_alone among = λ strategy old new call answer made had on meaning keys keys' done.
    let t : RepliedCall = record { call = call; picks = new.picked; answer = answer; log = exchanges (replies (taken_of made.happened.events)) 0 new.log } in
    from_among_others meaning done (t ∷ []) keys keys'
    (of_one meaning done t keys keys' (λ turns. among strategy old new call answer made had on meaning keys keys' done turns []))
