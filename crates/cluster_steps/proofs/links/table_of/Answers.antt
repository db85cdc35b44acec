use Rattle.std.proofs.Common.{◌≡◌, ◌∙◌, true, false, not, [], List, map, sym, ap, arith}
use Rattle.std.proofs.Math.Bool.{not-not}
use Rattle.std.proofs.lemmas.List.{drop_all, nil_from_length, take_all}
use Rattle.resp_link.specs.Call.{Seen}
use Rattle.cluster_routing.specs.Address.{Address, same_address}
use Rattle.cluster_routing.specs.Lists.{is_distinct}
use Rattle.cluster_routing.specs.Seen.{address, addresses}
use Rattle.cluster_routing.specs.declared.address.NodeAddress.{NodeAddress}
use Rattle.cluster_calls.specs.Links.World.{addresses_of, has_repeats, nodes}
use Rattle.cluster_calls.proofs.LinkLaws.OpenLinks.{swapped}
use Rattle.cluster_steps.proofs.DistinctKeys.{are_new, key_seen, key_unseen, none_seen, repeats_are}
use Rattle.cluster_steps.proofs.DistinctLinks.{as_seen}
use Rattle.cluster_steps.proofs.KnownLinks.{next_key, of_links, of_nodes}
use Rattle.cluster_steps.proofs.links.table_of.Goals as goal

abbrev node : {L : Type 0} → NodeAddress × L → Address
node link = address link.0

differ_are : {L : Type 0} (seen : L → Seen) (links : List (NodeAddress × L)) → is_distinct same_address (map node links) ≡ not (has_repeats (addresses_of (nodes seen links)))
differ_are seen links = sym (ap not (as_seen seen links ∙ repeats_are (map node links)) ∙ not-not (is_distinct same_address (map node links)))

pub links-init : goal.links-init
links-init g c =
    let none : c.in_ok-seen.seen.keys ≡ [] = nil_from_length c.in_ok-seen.seen.keys c.in_ok-seen.ensures.len in
    record {
      differ = none_seen same_address swapped (map node c.args.links.now) ∙ ap (λ ks. are_new same_address (map address ks) (map node c.args.links.now)) (sym none);
      keys = ap addresses none;
    }

pub returns-then-not-branch-clause-repeated : goal.returns-then-not-branch-clause-repeated
returns-then-not-branch-clause-repeated g c =
    let old : c.in_ok-insert.field-0 ≡ false = cc in
    let links = c.args.links.now in
    key_seen same_address address node c.links.seen.keys _ c.in_ok-insert.field-0 c.in_ok-insert.ensures.added old links c.links.link-index _ c.links-test.true (c.in_ok-clone.ensures ∙ ap node c.link-item.is) c.links.invariant.differ
    ∙ differ_are g.L.ConnectionLike.seen links

pub links-preserved : goal.links-preserved
links-preserved g c =
    let new : c.in_ok-insert.field-0 ≡ true = cc in
    let its : address c.in_ok-clone.field-0 ≡ _ = c.in_ok-clone.ensures ∙ ap node c.link-item.is in
    record {
      differ = key_unseen same_address address node c.links.seen.keys _ c.in_ok-insert.field-0 c.insert.new.self.keys c.in_ok-insert.ensures.added new c.in_ok-insert.ensures.keys c.args.links.now c.links.link-index _ c.links-test.true its c.links.invariant.differ;
      keys = next_key c.links.seen.keys _ c.in_ok-insert.field-0 c.insert.new.self.keys c.in_ok-insert.ensures.added new c.in_ok-insert.ensures.keys c.args.links.now c.links.link-index _ c.links-test.true its c.links.invariant.keys;
    }

pub returns-clause-repeated : goal.returns-clause-repeated
returns-clause-repeated g c =
    let links = c.args.links.now in
    let all : is_distinct same_address (map node links) ≡ true = c.links.invariant.differ ∙ ap (λ xs. are_new same_address (map address c.links.seen.keys) (map node xs)) (drop_all c.links.link-index links (omega (arith, c.links-test.false))) in
    sym all ∙ differ_are g.L.ConnectionLike.seen links

pub returns-clause-keys : goal.returns-clause-keys
returns-clause-keys g c =
    let links = c.args.links.now in
    c.links.invariant.keys ∙ ap of_links (take_all c.links.link-index links (omega (arith, c.links-test.false))) ∙ sym (of_nodes g.L.ConnectionLike.seen links)
