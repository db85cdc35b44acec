-- The nodes of a script ascend, so no two have one address.
use Rattle.std.proofs.Common.{◌≡◌, ℕ, Bool, true, false, List, [], ◌∷◌, map, refl, ap, sym, ◌∙◌}
use Rattle.std.specs.List.{list_any, AllByRecursion}
use Rattle.std.specs.List.Sorted.{IsStrictlySortedBy}
use Rattle.std.specs.Map.{keys_of}
use Rattle.std.specs.declared.cmp.Ordering.{Ordering}
use Rattle.std.specs.declared.cmp.Ordering.TheVariants.{Less}
use Rattle.cluster_routing.specs.Address.{Address, address_cmp, same_address}
use Rattle.cluster_routing.specs.Seen.{address}
use Rattle.cluster_routing.specs.declared.address.NodeAddress.{NodeAddress}
use Rattle.cluster_routing.proofs.DistinctNodes.{address_same}
use Rattle.cluster_routing.proofs.OnceAscending.{order_agrees}
use Rattle.cluster_calls.specs.Links.World.{addresses_of, has_repeats}
use Rattle.cluster_calls.specs.Links.World as world
use Rattle.cluster_session.specs.ScriptRead.{node_in}
use Rattle.cluster_session.specs.Session.{node_at_start}
use Rattle.cluster_session.specs.declared.session.script.Node.{Node}
use Rattle.cluster_session.proofs.Setups.{IsTheirOrder}

abbrev addresses_at_start : ℕ → List (NodeAddress × Node) → List Address
addresses_at_start levels es = addresses_of (map (node_at_start levels) (map node_in es))

module _ (cmp : NodeAddress → NodeAddress → Ordering) (same : IsTheirOrder cmp) where
  other : (a b : NodeAddress) → cmp a b ≡ Less → same_address (address b) (address a) ≡ false
  other a b less = by (same_address (address b) (address a)) refl
    where
      below : address b ≡ address a → address_cmp (address b) (address a) ≡ Less
      below is = ap (λ x. address_cmp x (address a)) is ∙ ap (λ x. address_cmp (address a) x) (sym is) ∙ sym (same a b) ∙ less

      by : (v : Bool) → same_address (address b) (address a) ≡ v → v ≡ false
      by false is = refl
      by true is = let equal = (order_agrees (address b) (address a)).1 is in let less = below (address_same (address b) (address a) is) in cc

  none_behind : (levels : ℕ) (a : NodeAddress) (es : List (NodeAddress × Node)) → AllByRecursion (λ b. cmp a b ≡ Less) (keys_of es)
      → list_any (λ b. same_address b (address a)) (addresses_at_start levels es) ≡ false
  none_behind levels a [] h = refl
  none_behind levels a (e ∷ es) h = rw (other a e.0 h.0) (none_behind levels a es h.1)

  all_once : (levels : ℕ) (es : List (NodeAddress × Node)) → IsStrictlySortedBy cmp (keys_of es) → has_repeats (addresses_at_start levels es) ≡ false
  unfolding IsStrictlySortedBy
  all_once levels [] h = refl
  all_once levels (e ∷ es) h = rw (none_behind levels e.0 es h.0) (all_once levels es h.1)

  pub no_repeats : (levels : ℕ) (ns : List world.Node) (es : List (NodeAddress × Node)) → ns ≡ map (node_at_start levels) (map node_in es) → IsStrictlySortedBy cmp (keys_of es)
      → has_repeats (addresses_of ns) ≡ false
  no_repeats levels ns es at_start ascends = ap (λ l. has_repeats (addresses_of l)) at_start ∙ all_once levels es ascends
