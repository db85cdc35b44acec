-- What is set up for the nodes of a script, as plain data: looked up, put in its place, and changed.
use Rattle.std.proofs.Common.{◌≡◌, Bool, true, false, List, [], ◌∷◌, map, Option, None, Some, option_map, is_some, Result, Ok, Err, ℕ, cond, refl, ap, sym, ◌∙◌}
use Rattle.std.specs.Ordering.{match_ordering, is_eq}
use Rattle.std.specs.declared.cmp.Ordering.{Ordering}
use Rattle.std.specs.declared.cmp.Ordering.TheVariants.{Less, Equal, Greater}
use Rattle.std.specs.BTreeMap.{insert_entry, is_at}
use Rattle.std.specs.Map.{lookup, set_value}
use Rattle.cluster_routing.specs.Address.{address_cmp}
use Rattle.cluster_routing.specs.Seen.{address}
use Rattle.cluster_routing.specs.declared.address.NodeAddress.{NodeAddress}
use Rattle.cluster_session.specs.Lines.{Access}
use Rattle.cluster_session.specs.Script.{put_fault, put_node, set_fault, setup_at}
use Rattle.cluster_session.specs.ScriptRead.{Makes, node_in, setup_in}
use Rattle.cluster_session.specs.declared.session.lines.LineError.{LineError}
use Rattle.cluster_session.specs.declared.session.lines.LineError.TheVariants.{Bad, Memory}
use Rattle.cluster_session.specs.declared.session.script.Node.{Node}

-- the code's order of addresses
abbrev pub IsTheirOrder : (NodeAddress → NodeAddress → Ordering) → Type 0
IsTheirOrder cmp = (a b : NodeAddress) → cmp a b ≡ address_cmp (address a) (address b)

module _ (cmp : NodeAddress → NodeAddress → Ordering) (same : IsTheirOrder cmp) (at : NodeAddress) where
  pub same_setup : (es : List (NodeAddress × Node)) → setup_at (address at) (map node_in es) ≡ option_map setup_in (lookup (is_at (cmp at)) es)
  same_setup [] = refl
  same_setup (e ∷ es) =
      ap (λ o. cond (is_eq o) (Some (setup_in e.1)) (setup_at (address at) (map node_in es))) (sym (same at e.0)) ∙ by (is_eq (cmp at e.0)) (same_setup es)
    where
      by : (b : Bool) → setup_at (address at) (map node_in es) ≡ option_map setup_in (lookup (is_at (cmp at)) es)
          → cond b (Some (setup_in e.1)) (setup_at (address at) (map node_in es)) ≡ option_map setup_in (cond b (Some e.1) (lookup (is_at (cmp at)) es))
      by true later = refl
      by false later = later

  pub same_put : (node : Node) (es : List (NodeAddress × Node)) → map node_in (insert_entry cmp es at node) ≡ insert_entry address_cmp (map node_in es) (address at) (setup_in node)
  same_put node [] = refl
  same_put node (e ∷ es) =
      by (cmp at e.0) (same_put node es)
      ∙ ap (λ o. match_ordering o ((address at, setup_in node) ∷ node_in e ∷ map node_in es) ((address e.0, setup_in node) ∷ map node_in es) (node_in e ∷ insert_entry address_cmp (map node_in es) (address at) (setup_in node))) (same at e.0)
    where
      by : (o : Ordering) → map node_in (insert_entry cmp es at node) ≡ insert_entry address_cmp (map node_in es) (address at) (setup_in node)
          → map node_in (match_ordering o ((at, node) ∷ e ∷ es) ((e.0, node) ∷ es) (e ∷ insert_entry cmp es at node))
          ≡ match_ordering o ((address at, setup_in node) ∷ node_in e ∷ map node_in es) ((address e.0, setup_in node) ∷ map node_in es) (node_in e ∷ insert_entry address_cmp (map node_in es) (address at) (setup_in node))
      by Less later = refl
      by Equal later = refl
      by Greater later = ap (λ l. node_in e ∷ l) later

  pub same_change : (node : Node) (es : List (NodeAddress × Node)) → map node_in (set_value (is_at (cmp at)) es node) ≡ set_value (is_at (address_cmp (address at))) (map node_in es) (setup_in node)
  same_change node [] = refl
  same_change node (e ∷ es) =
      by (is_eq (cmp at e.0)) (same_change node es)
      ∙ ap (λ o. cond (is_eq o) ((address e.0, setup_in node) ∷ map node_in es) (node_in e ∷ set_value (is_at (address_cmp (address at))) (map node_in es) (setup_in node))) (same at e.0)
    where
      by : (b : Bool) → map node_in (set_value (is_at (cmp at)) es node) ≡ set_value (is_at (address_cmp (address at))) (map node_in es) (setup_in node)
          → map node_in (cond b ((e.0, node) ∷ es) (e ∷ set_value (is_at (cmp at)) es node))
          ≡ cond b ((address e.0, setup_in node) ∷ map node_in es) (node_in e ∷ set_value (is_at (address_cmp (address at))) (map node_in es) (setup_in node))
      by true later = refl
      by false later = ap (λ l. node_in e ∷ l) later

  -- a node is put, or its address has one already
  pub has_node : (node : Node) (es : List (NodeAddress × Node)) → is_some (lookup (is_at (cmp at)) es) ≡ true → put_node (address at) (setup_in node) (map node_in es) ≡ None
  has_node node es is = rw (same_setup es) (by (lookup (is_at (cmp at)) es) is)
    where
      by : (o : Option Node) → is_some o ≡ true → cond (is_some (option_map setup_in o)) None (Some (insert_entry address_cmp (map node_in es) (address at) (setup_in node))) ≡ None
      by None e = cc
      by (Some old) e = refl

  pub node_put : (node : Node) (es after : List (NodeAddress × Node)) → is_some (lookup (is_at (cmp at)) es) ≡ false → after ≡ insert_entry cmp es at node
      → put_node (address at) (setup_in node) (map node_in es) ≡ Some (map node_in after)
  node_put node es after is_not is = rw (is, same_put node es, same_setup es) (by (lookup (is_at (cmp at)) es) is_not)
    where
      by : (o : Option Node) → is_some o ≡ false → cond (is_some (option_map setup_in o)) None (Some (insert_entry address_cmp (map node_in es) (address at) (setup_in node))) ≡ Some (insert_entry address_cmp (map node_in es) (address at) (setup_in node))
      by None e = refl
      by (Some old) e = cc

  -- a fault of a node that is there
  pub no_node : (access : Access) (number : ℕ) (es : List (NodeAddress × Node)) → lookup (is_at (cmp at)) es ≡ None → put_fault (address at) access number (map node_in es) ≡ None
  no_node access number es none = rw (same_setup es, none) refl

  pub fault_put : {T : Type 0} (access : Access) (number : ℕ) (es after : List (NodeAddress × Node)) (old new : Node) (r : Result T LineError)
      → lookup (is_at (cmp at)) es ≡ Some old → after ≡ set_value (is_at (cmp at)) es new
      → Makes (set_fault access number (setup_in old)) (setup_in new) r → Makes (put_fault (address at) access number (map node_in es)) (map node_in after) r
  fault_put access number es after old new r some is made = rw (is, same_change new es, same_setup es, some) (by r made)
    where
      by : {T : Type 0} (r : Result T LineError) → Makes (set_fault access number (setup_in old)) (setup_in new) r
          → Makes (option_map (set_value (is_at (address_cmp (address at))) (map node_in es)) (set_fault access number (setup_in old))) (set_value (is_at (address_cmp (address at))) (map node_in es) (setup_in new)) r
      by (Ok t) made = rw made refl
      by (Err Bad) made = rw made refl
      by (Err Memory) made = tt
