-- The claim: what `play` promises makes its calls as good as their commands on one server.
use Rattle.std.proofs.Common.{◌≡◌, true, subst}
use Rattle.std.specs.List.{AllByRecursion}
use Rattle.cluster_calls.specs.Links.Events.{taken_of}
use Rattle.cluster_calls.specs.Links.Happened.{client_of}
use Rattle.cluster_calls.specs.Links.Log.{replies}
use Rattle.cluster_calls.specs.OneServer.Commands.{is_on_slots}
use Rattle.cluster_calls.specs.OneServer.Played.{PlayedAsOnOneServer}
use Rattle.cluster_calls.specs.OneServer.Headline.{with_replies}
use Rattle.cluster_calls.proofs.LinkLaws.FirstCalls.{first_on_slots}
use Rattle.cluster_calls.proofs.LogLaws.Gaps.{every_gap_names_no_key}
use Rattle.cluster_calls.proofs.ServerLaws.Alone.{run_served}

pub played_as_on_one_server : PlayedAsOnOneServer
played_as_on_one_server = λ strategy old new calls before after all p meaning keys keys' done supposed.
    let r = p.is_run.played supposed.had_memory in
    let slots = first_on_slots p.run p.left (subst (λ cs. AllByRecursion (λ call. is_on_slots call ≡ true) cs) p.first supposed.on_slots) (replies (taken_of p.is_run.events)) 0 in
    run_served strategy r.faults meaning done (with_replies (taken_of p.is_run.events) p.run) (client_of old) keys keys' every_gap_names_no_key slots r.played supposed.honest
