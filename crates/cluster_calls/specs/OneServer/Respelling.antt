-- Two runs whose replies to reads of streams are spelled in other shapes: they send the same and answer the
-- same.
use Rattle.std.specs.Prelude.{◌≡◌, if◌then◌else◌, List, [], ◌∷◌, map, flat_map, Option, Some, None, ⊤}
use Rattle.resp_core.specs.Trees.{Tree}
use Rattle.cluster_routing.specs.Address.{Address}
use Rattle.cluster_routing.specs.Choice.{Strategy}
use Rattle.stream_commands.specs.Respelled.{Respellable, read, range, claim, Respelled}
use Rattle.cluster_calls.specs.Links.Request.{Request, requests_to}
use Rattle.cluster_calls.specs.Links.Log.{replies}
use Rattle.cluster_calls.specs.Calls.Call.{StreamCall, Xread, Xrange, Xclaim, Call, OnStreams}
use Rattle.cluster_calls.specs.Calls.Plan.{Client}
use Rattle.cluster_calls.specs.Links.Faults.{LinkFault}
use Rattle.cluster_calls.specs.OneServer.Headline.{PlayedCall, with_replies, IsPlayedFrom}

-- whether the reply to a call may be respelled, and how
abbrev pub stream_respelling : StreamCall → Option Respellable
stream_respelling (Xread streams options) = Some read
stream_respelling (Xrange key start end) = Some range
stream_respelling (Xclaim claimant ids options) = Some claim
stream_respelling _ = None

abbrev pub respelling : Call → Option Respellable
respelling (OnStreams call) = stream_respelling call
respelling _ = None

-- for each reply to a request how it may be respelled; that to ASKING in no way
abbrev pub request_respellings : Option Respellable → Request → List (Option Respellable)
request_respellings how q = if q.asking then None ∷ how ∷ [] else how ∷ []

-- for each reply of a node to a run
abbrev pub call_respellings : Address → PlayedCall → List (Option Respellable)
call_respellings node t = flat_map (request_respellings (respelling t.call)) (requests_to node t.log)

abbrev pub respellings : Address → List PlayedCall → List (Option Respellable)
respellings node ts = flat_map (call_respellings node) ts

abbrev pub SaysTheSame : Option Respellable → Tree → Tree → Type 0
SaysTheSame None t u = t ≡ u
SaysTheSame (Some how) t u = Respelled how t u

-- reply by reply the same, or respelled as it may be
abbrev pub SayTheSame : List (Option Respellable) → List Tree → List Tree → Type 0
SayTheSame [] [] [] = ⊤
SayTheSame (how ∷ hows) (t ∷ ts) (u ∷ us) = SaysTheSame how t u × SayTheSame hows ts us
SayTheSame _ _ _ = ⊥

-- Runs of equal calls and picks on equal clients, each request with its reply, and node by node the replies
-- say the same: they send the same and answer the same.
abbrev pub RespelledRuns : Type 0
RespelledRuns = (strategy strategy' : Option Strategy) (client : Client)
    (faults faults' : Address → LinkFault) (taken taken' : Address → List Tree) (ts us : List PlayedCall)
    → map (λ (t : PlayedCall). t.call) ts ≡ map (λ (t : PlayedCall). t.call) us
    → map (λ (t : PlayedCall). t.picks) ts ≡ map (λ (t : PlayedCall). t.picks) us
    → IsPlayedFrom strategy client faults (with_replies taken ts)
    → IsPlayedFrom strategy' client faults' (with_replies taken' us)
    → ((node : Address) → SayTheSame (respellings node ts) (replies taken node) (replies taken' node))
    → (map (λ (t : PlayedCall). t.log) ts ≡ map (λ (t : PlayedCall). t.log) us)
    × (map (λ (t : PlayedCall). t.answer) ts ≡ map (λ (t : PlayedCall). t.answer) us)
