-- Routings and splits are equal where they are shown alike.
use Rattle.std.specs.Cmp.{first_so, second_so}
use Rattle.std.specs.Option.{option_eq}
use Rattle.std.specs.Cmp.Lexicographic.{pointwise, bytes_decides}
use Rattle.std.proofs.Common.{◌≡◌, ℕ, Bool, true, ◌&&◌, nat_eq, List, [], ◌∷◌, map, Vec, Global, Option, Some, None, refl, sym, ap, ◌∙◌, rules}
use Rattle.cluster_routing.specs.contracts.route.RoutePartialEq.TheImpl as route_eq
use Rattle.cluster_routing.specs.contracts.split.SplitPartsPartialEq.TheImpl as split_eq
use Rattle.cluster_routing.specs.contracts.policy.MultiSlotArgPatternPartialEq.TheImpl as pattern_eq
use Rattle.cluster_routing.specs.contracts.policy.ResponsePolicyPartialEq.TheImpl as policy_eq
use Rattle.cluster_routing.specs.contracts.routing.MultipleNodeRoutingInfoPartialEq.TheImpl as several_eq
use Rattle.cluster_routing.specs.contracts.routing.RoutingInfoPartialEq.TheImpl as routing_eq
use Rattle.cluster_routing.specs.contracts.routing.SingleNodeRoutingInfoPartialEq.TheImpl as single_eq
use Rattle.cluster_routing.specs.declared.route.Route.{Route}
use Rattle.cluster_routing.specs.declared.split.SplitParts.{SplitParts}
use Rattle.cluster_routing.specs.declared.policy.MultiSlotArgPattern.{MultiSlotArgPattern}
use Rattle.cluster_routing.specs.declared.policy.ResponsePolicy.{ResponsePolicy}
use Rattle.cluster_routing.specs.declared.routing.MultipleNodeRoutingInfo.{MultipleNodeRoutingInfo}
use Rattle.cluster_routing.specs.declared.routing.MultipleNodeRoutingInfo.TheVariants.{AllNodes, AllMasters, MultiSlot}
use Rattle.cluster_routing.specs.declared.routing.RoutingInfo.{RoutingInfo}
use Rattle.cluster_routing.specs.declared.routing.RoutingInfo.TheVariants.{SingleNode, MultiNode}
use Rattle.cluster_routing.specs.declared.routing.SingleNodeRoutingInfo.{SingleNodeRoutingInfo}
use Rattle.cluster_routing.specs.declared.routing.SingleNodeRoutingInfo.TheVariants.{Random, RandomPrimary, SpecificNode, ByAddress}
use Rattle.cluster_routing.specs.Info.{shown_info, shown_multiple, shown_part, shown_single, shown_split}
use Rattle.cluster_routing.specs.Routing.{Destination, to_all_nodes, to_all_primaries, to_parts}

abbrev Part : Type 0
Part = Route × Vec ℕ Global

abbrev pub same_part : Part → Part → Bool
same_part p q = (route_eq.ghosts).eq p.0 q.0 && pointwise nat_eq p.1.items q.1.items

-- a test tells whether a fact holds
abbrev pub Tells : Bool → Type 0 → Type 0
Tells b P = (b ≡ true → P) × (P → b ≡ true)

both_true : (b c : Bool) → b ≡ true → c ≡ true → (b && c) ≡ true
both_true b c h k = λ i. h i && k i

same_route : (r q : Route) → Tells ((route_eq.ghosts).eq r q) (r ≡ q)
same_route r q = search rules

part_tells : (p q : Part) → Tells (same_part p q) (shown_part p ≡ shown_part q)
part_tells p q = (
  λ h.
      let route : p.0 ≡ q.0 = (same_route p.0 q.0).0 (first_so _ _ h) in
      let places : p.1.items ≡ q.1.items = (bytes_decides p.1.items q.1.items).0 (second_so _ _ h) in
      λ i. (route i, places i),
  λ e. both_true _ _ ((same_route p.0 q.0).1 (ap (λ x. x.0) e)) ((bytes_decides p.1.items q.1.items).1 (ap (λ x. x.1) e)),
)

pub parts_tell : (xs ys : List Part) → Tells (pointwise same_part xs ys) (map shown_part xs ≡ map shown_part ys)
parts_tell [] [] = (λ h. refl, λ h. refl)
parts_tell [] (y ∷ ys) = (λ h. cc, λ h. cc)
parts_tell (x ∷ xs) [] = (λ h. cc, λ h. cc)
parts_tell (x ∷ xs) (y ∷ ys) = (
  λ h.
      let first : shown_part x ≡ shown_part y = (part_tells x y).0 (first_so _ _ h) in
      let later : map shown_part xs ≡ map shown_part ys = (parts_tell xs ys).0 (second_so _ _ h) in
      λ i. first i ∷ later i,
  λ e.
      let first : shown_part x ≡ shown_part y = cc in
      let later : map shown_part xs ≡ map shown_part ys = cc in
      both_true _ _ ((part_tells x y).1 first) ((parts_tell xs ys).1 later),
)

same_pattern : (p q : MultiSlotArgPattern) → Tells ((pattern_eq.ghosts).eq p q) (p ≡ q)
same_pattern p q = search rules

same_policy : (p q : ResponsePolicy) → Tells ((policy_eq.ghosts).eq p q) (p ≡ q)
same_policy p q = search rules

pub splits_tell : (a b : SplitParts) → Tells ((split_eq.ghosts).eq a b) (shown_split a ≡ shown_split b)
splits_tell a b = (
  λ h.
      let routes : map shown_part a.routes.items ≡ map shown_part b.routes.items = (parts_tell a.routes.items b.routes.items).0 (first_so _ _ h) in
      let pattern : a.pattern ≡ b.pattern = (same_pattern a.pattern b.pattern).0 (first_so _ _ (second_so _ _ h)) in
      let policy : a.policy ≡ b.policy = (same_policy a.policy b.policy).0 (second_so _ _ (second_so _ _ h)) in
      λ i. record { routes = routes i; splitting = record { pattern = pattern i; policy = policy i } },
  λ e.
      both_true _ _ ((parts_tell a.routes.items b.routes.items).1 (ap (λ s. s.routes) e))
      (both_true _ _ ((same_pattern a.pattern b.pattern).1 (ap (λ s. s.splitting.pattern) e)) ((same_policy a.policy b.policy).1 (ap (λ s. s.splitting.policy) e))),
)

-- ---- routings

pub several_tell : (policy : Option ResponsePolicy) (a b : MultipleNodeRoutingInfo) → Tells ((several_eq.ghosts).eq a b) (shown_multiple policy a ≡ shown_multiple policy b)
several_tell policy AllNodes AllNodes = (λ h. refl, λ e. refl)
several_tell policy AllMasters AllMasters = (λ h. refl, λ e. refl)
several_tell policy (MultiSlot p) (MultiSlot q) = (
  λ h.
      let parts : map shown_part p.0.items ≡ map shown_part q.0.items = (parts_tell p.0.items q.0.items).0 (first_so _ _ h) in
      let pattern : p.1 ≡ q.1 = (same_pattern p.1 q.1).0 (second_so _ _ h) in
      λ i. to_parts (parts i) (pattern i) policy,
  λ e.
      let parts : map shown_part p.0.items ≡ map shown_part q.0.items = cc in
      let pattern : p.1 ≡ q.1 = cc in
      both_true _ _ ((parts_tell p.0.items q.0.items).1 parts) ((same_pattern p.1 q.1).1 pattern),
)
several_tell policy AllNodes AllMasters = (λ h. cc, λ e. cc)
several_tell policy AllNodes (MultiSlot q) = (λ h. cc, λ e. cc)
several_tell policy AllMasters AllNodes = (λ h. cc, λ e. cc)
several_tell policy AllMasters (MultiSlot q) = (λ h. cc, λ e. cc)
several_tell policy (MultiSlot p) AllNodes = (λ h. cc, λ e. cc)
several_tell policy (MultiSlot p) AllMasters = (λ h. cc, λ e. cc)

same_single : (a b : SingleNodeRoutingInfo) → Tells ((single_eq.ghosts).eq a b) (shown_single a ≡ shown_single b)
same_single a b = search rules

some_policies : (p q : Option ResponsePolicy) → Tells (option_eq (policy_eq.ghosts).eq p q) (p ≡ q)
some_policies None None = (λ h. refl, λ e. refl)
some_policies None (Some q) = (λ h. cc, λ e. cc)
some_policies (Some p) None = (λ h. cc, λ e. cc)
some_policies (Some p) (Some q) = (λ h. ap Some ((same_policy p q).0 h), λ e. let same : p ≡ q = cc in (same_policy p q).1 same)

-- the policy of several nodes, as a list, and none of a single one
abbrev policy_in : Destination → List (Option ResponsePolicy)
policy_in (to_all_nodes policy) = policy ∷ []
policy_in (to_all_primaries policy) = policy ∷ []
policy_in (to_parts parts pattern policy) = policy ∷ []
policy_in _ = []

policy_of_several : (policy : Option ResponsePolicy) (info : MultipleNodeRoutingInfo) → policy_in (shown_multiple policy info) ≡ policy ∷ []
policy_of_several policy AllNodes = refl
policy_of_several policy AllMasters = refl
policy_of_several policy (MultiSlot p) = refl

policy_of_one : (info : SingleNodeRoutingInfo) → policy_in (shown_single info) ≡ []
policy_of_one Random = refl
policy_of_one RandomPrimary = refl
policy_of_one (SpecificNode route) = refl
policy_of_one (ByAddress a) = refl

pub routings_tell : (a b : RoutingInfo) → Tells ((routing_eq.ghosts).eq a b) (shown_info a ≡ shown_info b)
routings_tell (SingleNode a) (SingleNode b) = same_single a b
routings_tell (MultiNode a) (MultiNode b) = (
  λ h.
      let policy : a.1 ≡ b.1 = (some_policies a.1 b.1).0 (second_so _ _ h) in
      (several_tell a.1 a.0 b.0).0 (first_so _ _ h) ∙ ap (λ p. shown_multiple p b.0) policy,
  λ e.
      let lists : a.1 ∷ [] ≡ b.1 ∷ [] = sym (policy_of_several a.1 a.0) ∙ ap policy_in e ∙ policy_of_several b.1 b.0 in
      let policy : a.1 ≡ b.1 = cc in
      both_true _ _ ((several_tell a.1 a.0 b.0).1 (e ∙ ap (λ p. shown_multiple p b.0) (sym policy))) ((some_policies a.1 b.1).1 policy),
)
routings_tell (SingleNode a) (MultiNode b) = (λ h. cc, λ e. let lists : [] ≡ b.1 ∷ [] = sym (policy_of_one a) ∙ ap policy_in e ∙ policy_of_several b.1 b.0 in cc)
routings_tell (MultiNode a) (SingleNode b) = (λ h. cc, λ e. let lists : [] ≡ a.1 ∷ [] = sym (policy_of_one b) ∙ ap policy_in (sym e) ∙ policy_of_several a.1 a.0 in cc)
