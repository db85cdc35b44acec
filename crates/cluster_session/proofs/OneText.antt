-- The one text of a session without a `fault` line.
use Rattle.std.specs.Prelude.{◌||◌, is_some, unwrap_or}
use Rattle.std.specs.List.{AllByRecursion, flat_map, list_any}
use Rattle.std.proofs.Common.{◌≡◌, ℕ, Bool, true, false, cond, List, [], ◌∷◌, ◌++◌, map, Option, Some, None, refl, sym, ap, ◌∙◌, subst}
use Rattle.std.proofs.lemmas.Bool.{false≢true}
use Rattle.resp_core.specs.Promise.{refuses_at}
use Rattle.resp_link.specs.Call.{Seen}
use Rattle.cluster_routing.specs.Address.{Address, same_address}
use Rattle.cluster_calls.specs.Links.World.{Node, link_at, place_at, addresses_of, has_repeats}
use Rattle.cluster_calls.specs.OneServer.PromisedPlays.{IsPromised, ArePromised, SentSame}
use Rattle.cluster_calls.proofs.LinkLaws.Addresses.{same_true, same_refl}
use Rattle.cluster_calls.proofs.LinkLaws.LinkPlaces.{nowhere, placed}
use Rattle.cluster_calls.proofs.LinkLaws.LinkRuns.{or_parts}
use Rattle.cluster_calls.proofs.LogLaws.PromisedPlays.{promised_plays}
use Rattle.cluster_session.specs.OneText.{IsFaultless, OneText}
use Rattle.cluster_session.specs.PrintedLines.{sent_line}
use Rattle.cluster_session.specs.PrintedRun.{call_lines, node_line, run_text}
use Rattle.cluster_session.specs.Session.{Session, Setup, link_at_start, node_at_start, start}

-- ---- the links at the start

link_promised : (levels : ℕ) (setup : Setup) → IsFaultless setup → IsPromised (link_at_start levels setup)
link_promised levels setup h = record {
  reads = ap refuses_at h.reads;
  writes = ap refuses_at h.writes;
  bytes = setup.bytes;
  known = refl;
  few = h.few;
  sent = [];
  told = refl;
}

promised : (levels : ℕ) (nodes : List (Address × Setup)) → AllByRecursion (λ (node : Address × Setup). IsFaultless node.1) nodes → ArePromised (map (node_at_start levels) nodes)
promised levels [] h a link e = cc
promised levels (n ∷ nodes) h a link e = by (same_address n.0 a) (promised levels nodes h.1 a link) e
  where
    by : (b : Bool) → (link_at (map (node_at_start levels) nodes) a ≡ Some link → IsPromised link)
        → cond b (Some (link_at_start levels n.1)) (link_at (map (node_at_start levels) nodes) a) ≡ Some link → IsPromised link
    by true later e = let same : link_at_start levels n.1 ≡ link = cc in subst IsPromised same (link_promised levels n.1 h.0)
    by false later e = later e

-- ---- the lines of the nodes

unplaced : (o : Option ℕ) → is_some o ≡ false → o ≡ None
unplaced None e = refl
unplaced (Some i) e = cc

-- behind a node none has its address
not_behind : (n : Node) (ns : List Node) → has_repeats (addresses_of (n ∷ ns)) ≡ false → link_at ns n.address ≡ None
not_behind n ns d = nowhere ns n.address (unplaced (place_at ns n.address) (sym (placed ns n.address) ∙ (or_parts (list_any (λ b. same_address b n.address) (addresses_of ns)) (has_repeats (addresses_of ns)) d).0))

link_here : (n : Node) (ns : List Node) → link_at (n ∷ ns) n.address ≡ Some n.link
link_here n ns = ap (λ b. cond b (Some n.link) (link_at ns n.address)) (same_refl n.address)

link_there : (n : Node) (ns : List Node) (a : Address) (l : Seen) → link_at ns n.address ≡ None → link_at ns a ≡ Some l → link_at (n ∷ ns) a ≡ Some l
link_there n ns a l none is = by (same_address n.address a) refl
  where
    by : (b : Bool) → same_address n.address a ≡ b → cond b (Some n.link) (link_at ns a) ≡ Some l
    by true e = let there : link_at ns a ≡ None = subst (λ k. link_at ns k ≡ None) (same_true n.address a e) none in cc
    by false e = is

same_lines : (ns ms : List Node) → addresses_of ns ≡ addresses_of ms → has_repeats (addresses_of ns) ≡ false → SentSame ns ms → flat_map node_line ns ≡ flat_map node_line ms
same_lines [] [] e d s = refl
same_lines [] (m ∷ ms) e d s = cc
same_lines (n ∷ ns) [] e d s = cc
same_lines (n ∷ ns) (m ∷ ms) e d s =
    let first : n.address ≡ m.address = cc in
    let others : addresses_of ns ≡ addresses_of ms = cc in
    let d' : has_repeats (addresses_of (m ∷ ms)) ≡ false = subst (λ as'. has_repeats as' ≡ false) e d in
    let here : n.link.sent ≡ m.link.sent = s n.address n.link m.link (link_here n ns) (subst (λ a. link_at (m ∷ ms) a ≡ Some m.link) (sym first) (link_here m ms)) in
    let line : node_line n ≡ node_line m = ap (λ a. sent_line a (unwrap_or n.link.sent [])) first ∙ ap (λ o. sent_line m.address (unwrap_or o [])) here in
    let later : SentSame ns ms = λ a l k is is'. s a l k (link_there n ns a l (not_behind n ns d) is) (link_there m ms a k (not_behind m ms d') is') in
    let distinct = (or_parts (list_any (λ b. same_address b n.address) (addresses_of ns)) (has_repeats (addresses_of ns)) d).1 in
    ap (λ xs. xs ++ flat_map node_line ns) line ∙ ap (λ xs. node_line m ++ xs) (same_lines ns ms others distinct later)

-- ---- the text

pub one_text : OneText
one_text session output output' p q faultless there there' =
    let same = promised_plays (start session) p.after q.after session.calls [] p.shown q.shown p.plays q.plays (promised session.levels session.nodes faultless) there.0 there'.0 there.1 there'.1 there.2 there'.2 in
    let left = (p.plays.is_run.played there.0).made.addresses in
    let right = (q.plays.is_run.played there'.0).made.addresses in
    let distinct : has_repeats (addresses_of p.after.nodes) ≡ false = subst (λ as'. has_repeats as' ≡ false) (sym left) p.distinct in
    let lines : flat_map node_line p.after.nodes ≡ flat_map node_line q.after.nodes = same_lines p.after.nodes q.after.nodes (left ∙ sym right) distinct same.1 in
    p.text ∙ ap (λ ts. run_text ts p.after.nodes) same.0 ∙ ap (λ xs. flat_map call_lines q.shown ++ xs) lines ∙ sym q.text
