-- A refresh, from its one link call.
use Rattle.std.specs.Prelude.{◌||◌}
use Rattle.std.proofs.Common.{◌≡◌, ◌≢◌, ℕ, true, false, List, [], ◌∷◌, ◌++◌, inl, inr, Option, Some, None, refl, sym, ap, ◌∙◌, subst, Result, Ok, Err}
use Rattle.std.proofs.lemmas.Bool.{false≢true}
use Rattle.resp_core.specs.Trees.{Tree, nil, int, bulk, array, simple, okay, set, attribute, double, boolean, verbatim, big_number, push, server_error, ErrorText}
use Rattle.resp_core.specs.Trees as trees
use Rattle.resp_core.specs.Parts.{first_error}
use Rattle.resp_core.specs.Errors.{Refusal, by_cause, by_server, server_kind}
use Rattle.resp_core.specs.declared.errors.server_error.ServerErrorKind.{ServerErrorKind}
use Rattle.resp_core.specs.declared.errors.server_error.ServerErrorKind.TheVariants as kinds
use Rattle.resp_core.specs.declared.errors.redis_error.Cause.TheVariants.{Memory, NoLink}
use Rattle.cluster_routing.specs.Address.{Address}
use Rattle.cluster_routing.specs.SlotMap.{put_all}
use Rattle.cluster_routing.specs.SlotsReply.{ranges}
use Rattle.cluster_calls.specs.Links.Request.{Request, slots_command, skipped}
use Rattle.cluster_calls.specs.Links.Log.{is_data}
use Rattle.cluster_calls.specs.Links.Reply.{sort_of, error_sort}
use Rattle.cluster_calls.specs.Links.World.{World, Node, open_links, is_linked, one_reply}
use Rattle.cluster_calls.specs.Links.Events.{lack_memory}
use Rattle.cluster_calls.specs.Links.Places.{IsOpenAt}
use Rattle.cluster_calls.specs.Links.Exchanges.{Exchanges}
use Rattle.cluster_calls.specs.Links.Happened.{Happened, CallMade}
use Rattle.cluster_calls.specs.Calls.Call.{Refresh}
use Rattle.cluster_calls.specs.Calls.Task.{slot_map_of}
use Rattle.cluster_calls.specs.Calls.Answer.{Refreshed}
use Rattle.cluster_calls.proofs.LinkLaws.LinkCalls.{link_calls_made}
use Rattle.cluster_calls.proofs.LinkLaws.OneCommand.{Untouched, nothing_happened, not_begun, refused_by}
use Rattle.cluster_calls.proofs.LinkLaws.OneRequest.{exchanged_one, single, OneMade, one_reply_is, one_had_memory, one_fault}
use Rattle.cluster_calls.proofs.LinkLaws.Played.{call_made}
use Rattle.cluster_calls.proofs.ServerLaws.Counted.{tree_answered}

kind_no_data : (e : ErrorText) (kind : Option ServerErrorKind) → is_data (error_sort e kind) ≡ false
kind_no_data e (Some kinds.Moved) = refl
kind_no_data e (Some kinds.Ask) = refl
kind_no_data e (Some kinds.ResponseError) = refl
kind_no_data e (Some kinds.ExecAbort) = refl
kind_no_data e (Some kinds.BusyLoading) = refl
kind_no_data e (Some kinds.NoScript) = refl
kind_no_data e (Some kinds.TryAgain) = refl
kind_no_data e (Some kinds.ClusterDown) = refl
kind_no_data e (Some kinds.CrossSlot) = refl
kind_no_data e (Some kinds.MasterDown) = refl
kind_no_data e (Some kinds.ReadOnly) = refl
kind_no_data e (Some kinds.NotBusy) = refl
kind_no_data e (Some kinds.NoSub) = refl
kind_no_data e (Some kinds.NoPerm) = refl
kind_no_data e None = refl

pub error_sort_no_data : (t : Tree) (e : ErrorText) → first_error t ≡ Some e → is_data (sort_of t) ≡ false
unfolding first_error
error_sort_no_data nil e n = cc
error_sort_no_data (int k) e n = cc
error_sort_no_data (bulk b) e n = cc
error_sort_no_data (array ts) e n = rw n refl
error_sort_no_data (simple b) e n = cc
error_sort_no_data okay e n = cc
error_sort_no_data (trees.map ps) e n = rw n refl
error_sort_no_data (attribute t ps) e n = rw n refl
error_sort_no_data (set ts) e n = rw n refl
error_sort_no_data (double b) e n = cc
error_sort_no_data (boolean b) e n = cc
error_sort_no_data (verbatim f b) e n = cc
error_sort_no_data (big_number b) e n = cc
error_sort_no_data (push k ts) e n = rw n refl
error_sort_no_data (server_error x) e n = kind_no_data x (server_kind x.code)

-- ---- a refresh whose node has no open link

pub not_linked : (old new : World) (node : Address) → is_linked (open_links old.nodes) node ≡ false → Untouched old new → new.picked ≡ [] → CallMade None old new (Refresh node) (Err (by_cause NoLink))
not_linked old new node shut u picks =
    let h : Happened None old new (Refresh node) = nothing_happened None old new (Refresh node) u in
    call_made None old new (Refresh node) (Err (by_cause NoLink)) h
    (λ m. record {
      memory = λ k. refl;
      logged = u.log;
      picks = picks;
      legal = λ place. rw shut refl;
      answered = λ faults agrees place. rw shut refl;
      entries = λ place. u.entries;
      flag = λ place. u.flag;
    })
    (λ e r. record { entries = u.entries; flag = u.flag })
    (λ e l. picks)
    (λ e some. absurd (some u.log))

-- ---- one link call

abbrev pub slots_to : Address → Request
slots_to node = record { node = node; args = slots_command; asking = false }

abbrev pub failed_by : Refusal → Result Tree Refusal
failed_by e = Err e

module _ (old new : World) (node : Address) (linked : is_linked (open_links old.nodes) node ≡ true) (logged : new.log ≡ slots_to node ∷ []) (settings : new.settings ≡ old.settings) (picks : new.picked ≡ []) where
  module _ (result : Result Tree Refusal) (o : OneMade old.nodes new.nodes (slots_to node) result) where
    abbrev happened : Happened None old new (Refresh node)
    happened = record {
      events = single (slots_to node) o.taken result ∷ [];
      runs = (new.nodes, o.called, refl);
      stops = λ e. (λ lacks. refl, tt);
      logged = logged;
      calls = λ a. link_calls_made old.nodes new.nodes (single (slots_to node) o.taken result ∷ []) (slot_map_of node) (new.nodes, o.called, refl) ((slots_to node, refl), tt) a;
      picks = λ some. picks;
      begins = λ some place. record { later = []; legal = rw linked refl };
      settings = settings;
      map_stays = λ n. absurd (false≢true (sym n));
      flag = λ n. absurd (false≢true (sym n));
    }

    had : result ≢ Err (by_cause Memory) → lack_memory (single (slots_to node) o.taken result ∷ []) ≡ false
    had m = ap (λ b. b || false) (one_had_memory old.nodes new.nodes (slots_to node) result m o)

  -- the reply was accepted
  pub refresh_ok : (tree : Tree) → OneMade old.nodes new.nodes (slots_to node) (Ok tree) → first_error tree ≡ None → new.entries ≡ put_all [] (ranges tree node.host) → new.needs_refresh ≡ false
      → CallMade None old new (Refresh node) (Ok Refreshed)
  refresh_ok tree o n r f =
      let d = tree_answered tree n in
      let got = one_reply_is old.nodes new.nodes (slots_to node) (Ok tree) o in
      call_made None old new (Refresh node) (Ok Refreshed) (happened (Ok tree) o)
      (λ m. record {
        memory = λ k. had (Ok tree) o (λ e. cc e);
        logged = logged;
        picks = picks;
        legal = λ place. rw linked refl;
        answered = λ faults agrees place. rw (linked, got, n) refl;
        entries = λ place. rw (got, d) r;
        flag = λ place. rw (got, d) f;
      })
      (λ e k. cc e)
      (λ e l. picks)
      (λ e some. inr (inr (λ place. rw linked refl)))

  -- the reply is or holds an error, or memory was refused behind it
  pub refresh_refused : (tree : Tree) (e : Refusal) → OneMade old.nodes new.nodes (slots_to node) (Ok tree) → (refused_by e ≢ Err (by_cause Memory) → (error : ErrorText) × (first_error tree ≡ Some error) × (e ≡ by_server error))
      → new.entries ≡ old.entries → new.needs_refresh ≡ old.needs_refresh → CallMade None old new (Refresh node) (Err e)
  refresh_refused tree e o why r f =
      call_made None old new (Refresh node) (Err e) (happened (Ok tree) o)
      (λ m.
      let told = why m in
      let d = error_sort_no_data tree told.0 told.1 in
      let got = one_reply_is old.nodes new.nodes (slots_to node) (Ok tree) o in
      record {
        memory = λ j. had (Ok tree) o (λ k. cc k);
        logged = logged;
        picks = picks;
        legal = λ place. rw linked refl;
        answered = λ faults agrees place. rw (linked, got, told.1) (ap refused_by told.2);
        entries = λ place. rw (got, d) r;
        flag = λ place. rw (got, d) f;
      })
      (λ k j. record { entries = r; flag = f })
      (λ k l. picks)
      (λ k some. inr (inr (λ place. rw linked refl)))

  -- the link failed, or memory was refused in its call
  pub refresh_failed : (e : Refusal) → OneMade old.nodes new.nodes (slots_to node) (Err e) → new.entries ≡ old.entries → new.needs_refresh ≡ old.needs_refresh → CallMade None old new (Refresh node) (Err e)
  refresh_failed e o r f =
      call_made None old new (Refresh node) (Err e) (happened (Err e) o)
      (λ m.
      let some : e ≢ by_cause Memory = λ k. m (ap refused_by k) in
      let had' : failed_by e ≢ failed_by (by_cause Memory) = λ k. some (cc k) in
      let got = one_reply_is old.nodes new.nodes (slots_to node) (Err e) o in
      record {
        memory = λ k. had (Err e) o had';
        logged = logged;
        picks = picks;
        legal = λ place. rw linked refl;
        answered = λ faults agrees place. rw (linked, got) (ap refused_by (one_fault old.nodes new.nodes (slots_to node) e faults o agrees.0));
        entries = λ place. rw got r;
        flag = λ place. rw got f;
      })
      (λ k j. record { entries = r; flag = f })
      (λ k l. picks)
      (λ k some. inr (inr (λ place. rw linked refl)))

-- ---- the same from what the code says of its exchange

module _ (old new : World) (node : Address) (link : ℕ) (at : IsOpenAt old.nodes node link) (before : List Request) (none : before ≡ []) (q : Request) (is : q ≡ slots_to node)
    (settings : new.settings ≡ old.settings) (picks : new.picked ≡ []) where
  abbrev pub Exchanged : Result Tree Refusal → Type 0
  Exchanged result = Exchanges old.nodes new.nodes link before new.log (q ∷ []) (skipped q.asking) 1 (one_reply result)

  asked : (result : Result Tree Refusal) → Exchanged result → Exchanges old.nodes new.nodes link before new.log (slots_to node ∷ []) 0 1 (one_reply result)
  asked result x = subst (λ p. Exchanges old.nodes new.nodes link before new.log (p ∷ []) (skipped p.asking) 1 (one_reply result)) is x

  logged_one : new.log ≡ before ++ slots_to node ∷ [] → new.log ≡ slots_to node ∷ []
  logged_one log = log ∙ ap (λ qs. qs ++ slots_to node ∷ []) none

  pub exchange_err : (e : Refusal) → Exchanged (Err e) → new.entries ≡ old.entries → new.needs_refresh ≡ old.needs_refresh → CallMade None old new (Refresh node) (Err e)
  exchange_err e x r f = elim (exchanged_one old.nodes new.nodes link before new.log (slots_to node) (Err e) at (asked (Err e) x)) as (λ _. CallMade None old new (Refresh node) (Err e)) [
    | inl same ↦ let memory : by_cause Memory ≡ e = cc (same.2) in
        subst (λ k. CallMade None old new (Refresh node) (Err k)) memory (not_begun None old new (Refresh node) (record { nodes = same.0; log = same.1 ∙ none; entries = r; settings = settings; flag = f }) picks)
    | inr made ↦ refresh_failed old new node at.linked (logged_one made.0) settings picks e made.1 r f
  ]

-- an answered exchange
pub exchange_ok : (old new : List Node) (node : Address) (link : ℕ) → IsOpenAt old node link → (before log : List Request) → before ≡ [] → (q : Request) → q ≡ slots_to node → (tree : Tree)
    → Exchanges old new link before log (q ∷ []) (skipped q.asking) 1 (one_reply (Ok tree)) → (log ≡ slots_to node ∷ []) × OneMade old new (slots_to node) (Ok tree)
exchange_ok old new node link at before log none q is tree x =
    let asked = subst (λ p. Exchanges old new link before log (p ∷ []) (skipped p.asking) 1 (one_reply (Ok tree))) is x in
    elim (exchanged_one old new link before log (slots_to node) (Ok tree) at asked) as (λ _. (log ≡ slots_to node ∷ []) × OneMade old new (slots_to node) (Ok tree)) [
      | inl same ↦ cc (same.2)
      | inr made ↦ (made.0 ∙ ap (λ qs. qs ++ slots_to node ∷ []) none, made.1)
    ]
