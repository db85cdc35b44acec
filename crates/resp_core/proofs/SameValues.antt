-- Values are equal where they are one tree.
use Rattle.std.proofs.Common.{◌≡◌, ◌≢◌, ℕ, Bool, true, false, ◌&&◌, ◌==◌, nat_eq, ℤ, List, [], ◌∷◌, Vec, Box, Global, String, map, refl, sym, ap, ap₂, subst, ◌∙◌, rules, string_bytes}
use Rattle.std.proofs.Math.Bool.{beq}
use Rattle.std.specs.Bool.{Decides}
use Rattle.std.specs.Cmp.{first_so, second_so, booleans_Decides, signed_Decides, unsigned_Decides}
use Rattle.std.specs.List.{AllByRecursion}
use Rattle.std.specs.Ordering.{int_eq}
use Rattle.std.specs.Cmp.Lexicographic.{pointwise, bytes_decides}
use denote.Enum.Declared.{declared, tag_of}
use borrow.Enum.Compared.{by_apart}
use borrow.Enum.Known.{ValuesAt, at, lives_at}
use Rattle.resp_core.specs.contracts.errors.server_error.ServerErrorPartialEq.TheImpl as error_eq
use Rattle.resp_core.specs.contracts.value.PushKindPartialEq.TheImpl as kind_eq
use Rattle.resp_core.specs.contracts.value.VerbatimFormatPartialEq.TheImpl as format_eq
use Rattle.resp_core.specs.contracts.value.PushInfoPartialEq.TheImpl as push_eq
use Rattle.resp_core.specs.contracts.value.Value.{enum}
use Rattle.resp_core.specs.contracts.value.ValuePartialEq.TheImpl as value_eq
use Rattle.resp_core.specs.contracts.value.ValuePartialEq.TheImpl.Laws as laws
use Rattle.resp_core.specs.declared.errors.server_error.ServerError.{ServerError}
use Rattle.resp_core.specs.declared.value.PushInfo.{PushInfo}
use Rattle.resp_core.specs.declared.value.PushKind.{PushKind}
use Rattle.resp_core.specs.declared.value.VerbatimFormat.{VerbatimFormat}
use Rattle.resp_core.specs.declared.value.Value.{Value, Value-F, ind-Value, map-Value, roll-Value, out-Value, roll-out-Value, the_lemmas}
use Rattle.resp_core.specs.declared.value.Value as values
use Rattle.resp_core.specs.declared.value.Value.TheVariants as variants
use Rattle.resp_core.specs.Trees.{Tree, nil, int, bulk, array, simple, okay, set, attribute, double, boolean, verbatim, big_number, push, server_error, tree, pair}
use Rattle.resp_core.specs.Trees as trees
use Rattle.resp_core.specs.View.{view, trees_view, pairs_view, push_view, kind_view, format_view, error_text}
use Rattle.resp_core.proofs.Views.{view-Array, view-Attribute, view-BulkString, view-Map, view-Push, view-Set}
use Rattle.resp_core.proofs.SameTexts.{both_true, errors_tell, formats_tell, kinds_tell}

abbrev same : Value → Value → Bool
same = (value_eq.ghosts).eq

abbrev Told : Value → Type 0
Told a = (b : Value) → Decides (same a b) (view a ≡ view b)

-- ---- values of two forms

-- the place of a tree's form among the forms
abbrev form : Tree → ℕ
form nil = 0
form (int n) = 1
form (bulk bytes) = 2
form (array ts) = 3
form (simple text) = 4
form okay = 5
form (trees.map ps) = 6
form (attribute t ps) = 7
form (set ts) = 8
form (double text) = 9
form (boolean b) = 10
form (verbatim f text) = 11
form (big_number bytes) = 12
form (push k ts) = 13
form (server_error e) = 14

forms : (w : Value-F Value) → tag_of (declared enum) (roll-Value w) ≡ form (view (roll-Value w))
forms Value-F.Nil = search (rules, the_lemmas)
forms (Value-F.Int n) = search (rules, the_lemmas)
forms (Value-F.BulkString v) = search (rules, the_lemmas)
forms (Value-F.Array v) = search (rules, the_lemmas)
forms (Value-F.SimpleString s) = search (rules, the_lemmas)
forms Value-F.Okay = search (rules, the_lemmas)
forms (Value-F.Map v) = search (rules, the_lemmas)
forms (Value-F.Attribute b v) = search (rules, the_lemmas)
forms (Value-F.Set v) = search (rules, the_lemmas)
forms (Value-F.Double s) = search (rules, the_lemmas)
forms (Value-F.Boolean b) = search (rules, the_lemmas)
forms (Value-F.VerbatimString f s) = search (rules, the_lemmas)
forms (Value-F.BigNumber v) = search (rules, the_lemmas)
forms (Value-F.Push k v) = search (rules, the_lemmas)
forms (Value-F.ServerError e) = search (rules, the_lemmas)

form_is : (a : Value) → tag_of (declared enum) a ≡ form (view a)
form_is a = subst (λ v. tag_of (declared enum) v ≡ form (view v)) (roll-out-Value a) (forms (out-Value a))

apart : (a b : Value) → form (view a) ≢ form (view b) → same a b ≡ false
apart a b ne = laws.is a b ∙ sym (by_apart false false enum _ a b refl (λ e. ne (sym (form_is a) ∙ e ∙ form_is b)))

others : (a b : Value) → form (view a) ≢ form (view b) → Decides (same a b) (view a ≡ view b)
others a b ne = (λ h. absurd (let gone : false ≡ true = sym (apart a b ne) ∙ h in cc), λ e. absurd (ne (ap form e)))

-- values of two forms are not equal, so that those of one form are left
by_form : (a b : Value) (k : ℕ) → form (view a) ≡ k → ((x : ValuesAt enum.parts k) → Decides (same a (at enum k x)) (view a ≡ view (at enum k x))) → Decides (same a b) (view a ≡ view b)
by_form a b k e alike = go (k == form (view b)) (unsigned_Decides k (form (view b)))
  where
    go : (r : Bool) → Decides r (k ≡ form (view b)) → Decides (same a b) (view a ≡ view b)
    go true t = let l = lives_at enum b k (form_is b ∙ sym (t.0 refl)) in subst (λ u. Decides (same a u) (view a ≡ view u)) (sym l.1) (alike l.0)
    go false t = others a b (λ h. let gone : false ≡ true = t.1 (sym e ∙ h) in absurd cc)

-- ---- values of one form

-- a test on two values' trees, by that on what the trees are made of
as_trees : (a b : Value) {r : Bool} {s t : Tree} → same a b ≡ r → view a ≡ s → view b ≡ t → Decides r (s ≡ t) → Decides (same a b) (view a ≡ view b)
as_trees a b e f g tells = (λ h. f ∙ tells.0 (sym e ∙ h) ∙ sym g, λ k. e ∙ tells.1 (sym f ∙ k ∙ g))

through : {A : Type 0} {r : Bool} {x y : A} (made : A → Tree) → (made x ≡ made y → x ≡ y) → Decides r (x ≡ y) → Decides r (made x ≡ made y)
through made one tells = (λ h. ap made (tells.0 h), λ e. tells.1 (one e))

pub of_both : {r s : Bool} {P Q : Type 0} → Decides r P → Decides s Q → Decides (r && s) (P × Q)
of_both {r} {s} d e = (λ h. (d.0 (first_so _ _ h), e.0 (second_so _ _ h)), λ p. both_true r s (d.1 p.0) (e.1 p.1))

told_nil : Told values.Nil
told_nil b = by_form values.Nil b 0 (search (rules, the_lemmas)) (λ x. (λ h. refl, λ e. laws.is values.Nil values.Nil ∙ search (rules, the_lemmas)))

told_okay : Told values.Okay
told_okay b = by_form values.Okay b 5 (search (rules, the_lemmas)) (λ x. (λ h. refl, λ e. laws.is values.Okay values.Okay ∙ search (rules, the_lemmas)))

view-Int : (n : ℤ) → view (values.Int n) ≡ int n
view-Int n = search (rules, the_lemmas)

same_int : (n m : ℤ) → same (values.Int n) (values.Int m) ≡ int_eq n m
same_int n m = laws.is (values.Int n) (values.Int m) ∙ search (rules, the_lemmas)

told_int : (n : ℤ) → Told (values.Int n)
told_int n b = by_form (values.Int n) b 1 (ap form (view-Int n)) (λ x. as_trees _ _ (same_int n x.0) (view-Int n) (view-Int x.0) (through int (λ e. cc) (signed_Decides n x.0)))

view-Boolean : (t : Bool) → view (values.Boolean t) ≡ boolean t
view-Boolean t = search (rules, the_lemmas)

same_boolean : (t u : Bool) → same (values.Boolean t) (values.Boolean u) ≡ beq t u
same_boolean t u = laws.is (values.Boolean t) (values.Boolean u) ∙ search (rules, the_lemmas)

told_boolean : (t : Bool) → Told (values.Boolean t)
told_boolean t b = by_form (values.Boolean t) b 10 (ap form (view-Boolean t)) (λ x. as_trees _ _ (same_boolean t x.0) (view-Boolean t) (view-Boolean x.0) (through boolean (λ e. cc) (booleans_Decides t x.0)))

abbrev Bytes : Type 0
Bytes = Vec ℕ Global

same_bulk : (v w : Bytes) → same (values.BulkString v) (values.BulkString w) ≡ pointwise nat_eq v.items w.items
same_bulk v w = laws.is (values.BulkString v) (values.BulkString w) ∙ search (rules, the_lemmas)

told_bulk : (v : Bytes) → Told (values.BulkString v)
told_bulk v b = by_form (values.BulkString v) b 2 (ap form (view-BulkString v)) (λ x.
    as_trees _ _ (same_bulk v x.0) (view-BulkString v) (view-BulkString x.0) (through bulk (λ e. cc) (bytes_decides v.items x.0.items)))

view-BigNumber : (v : Bytes) → view (values.BigNumber v) ≡ big_number v.items
view-BigNumber v = search (rules, the_lemmas)

same_number : (v w : Bytes) → same (values.BigNumber v) (values.BigNumber w) ≡ pointwise nat_eq v.items w.items
same_number v w = laws.is (values.BigNumber v) (values.BigNumber w) ∙ search (rules, the_lemmas)

told_number : (v : Bytes) → Told (values.BigNumber v)
told_number v b = by_form (values.BigNumber v) b 12 (ap form (view-BigNumber v)) (λ x.
    as_trees _ _ (same_number v x.0) (view-BigNumber v) (view-BigNumber x.0) (through big_number (λ e. cc) (bytes_decides v.items x.0.items)))

abbrev Text : Type 0
Text = String Global

abbrev same_text : Text → Text → Bool
same_text s t = pointwise nat_eq (string_bytes s) (string_bytes t)

texts_tell : (s t : Text) → Decides (same_text s t) (string_bytes s ≡ string_bytes t)
texts_tell s t = bytes_decides (string_bytes s) (string_bytes t)

view-SimpleString : (s : Text) → view (values.SimpleString s) ≡ simple (string_bytes s)
view-SimpleString s = search (rules, the_lemmas)

same_simple : (s t : Text) → same (values.SimpleString s) (values.SimpleString t) ≡ same_text s t
same_simple s t = laws.is (values.SimpleString s) (values.SimpleString t) ∙ search (rules, the_lemmas)

told_simple : (s : Text) → Told (values.SimpleString s)
told_simple s b = by_form (values.SimpleString s) b 4 (ap form (view-SimpleString s)) (λ x.
    as_trees _ _ (same_simple s x.0) (view-SimpleString s) (view-SimpleString x.0) (through simple (λ e. cc) (texts_tell s x.0)))

view-Double : (s : Text) → view (values.Double s) ≡ double (string_bytes s)
view-Double s = search (rules, the_lemmas)

same_double : (s t : Text) → same (values.Double s) (values.Double t) ≡ same_text s t
same_double s t = laws.is (values.Double s) (values.Double t) ∙ search (rules, the_lemmas)

told_double : (s : Text) → Told (values.Double s)
told_double s b = by_form (values.Double s) b 9 (ap form (view-Double s)) (λ x.
    as_trees _ _ (same_double s x.0) (view-Double s) (view-Double x.0) (through double (λ e. cc) (texts_tell s x.0)))

view-VerbatimString : (f : VerbatimFormat) (s : Text) → view (values.VerbatimString f s) ≡ verbatim (format_view f) (string_bytes s)
view-VerbatimString f s = search (rules, the_lemmas)

same_verbatim : (f g : VerbatimFormat) (s t : Text) → same (values.VerbatimString f s) (values.VerbatimString g t) ≡ ((format_eq.ghosts).eq f g && same_text s t)
same_verbatim f g s t = laws.is (values.VerbatimString f s) (values.VerbatimString g t) ∙ search (rules, the_lemmas)

told_verbatim : (f : VerbatimFormat) (s : Text) → Told (values.VerbatimString f s)
told_verbatim f s b = by_form (values.VerbatimString f s) b 11 (ap form (view-VerbatimString f s)) (λ x.
    let tells = of_both (formats_tell f x.0) (texts_tell s x.1.0) in
    as_trees _ _ (same_verbatim f x.0 s x.1.0) (view-VerbatimString f s) (view-VerbatimString x.0 x.1.0) (
      λ h. ap₂ verbatim (tells.0 h).0 (tells.0 h).1,
      λ e. let format : format_view f ≡ format_view x.0 = cc in let text : string_bytes s ≡ string_bytes x.1.0 = cc in tells.1 (format, text),
    ))

view-ServerError : (d : ServerError) → view (values.ServerError d) ≡ server_error (error_text d)
view-ServerError d = search (rules, the_lemmas)

same_error : (d e : ServerError) → same (values.ServerError d) (values.ServerError e) ≡ (error_eq.ghosts).eq d e
same_error d e = laws.is (values.ServerError d) (values.ServerError e) ∙ search (rules, the_lemmas)

told_error : (d : ServerError) → Told (values.ServerError d)
told_error d b = by_form (values.ServerError d) b 14 (ap form (view-ServerError d)) (λ x.
    as_trees _ _ (same_error d x.0) (view-ServerError d) (view-ServerError x.0) (through server_error (λ e. cc) (errors_tell d x.0)))

-- ---- values that hold values

abbrev Items : Type 0
Items = Vec Value Global

items_tell : (xs ys : List Value) → AllByRecursion Told xs → Decides (pointwise same xs ys) (trees_view xs ≡ trees_view ys)
items_tell [] [] all = (λ h. refl, λ e. refl)
items_tell [] (y ∷ ys) all = (λ h. cc, λ e. cc)
items_tell (x ∷ xs) [] all = (λ h. cc, λ e. cc)
items_tell (x ∷ xs) (y ∷ ys) all =
    let tells = of_both (all.0 y) (items_tell xs ys all.1) in (
      λ h. ap₂ tree (tells.0 h).0 (tells.0 h).1,
      λ e. let first : view x ≡ view y = cc in let later : trees_view xs ≡ trees_view ys = cc in tells.1 (first, later),
    )

same_array : (v w : Items) → same (values.Array v) (values.Array w) ≡ pointwise same v.items w.items
same_array v w = laws.is (values.Array v) (values.Array w) ∙ search (rules, the_lemmas)

told_array : (v : Items) → AllByRecursion Told v.items → Told (values.Array v)
told_array v all b = by_form (values.Array v) b 3 (ap form (view-Array v)) (λ x.
    as_trees _ _ (same_array v x.0) (view-Array v) (view-Array x.0) (through array (λ e. cc) (items_tell v.items x.0.items all)))

same_set : (v w : Items) → same (values.Set v) (values.Set w) ≡ pointwise same v.items w.items
same_set v w = laws.is (values.Set v) (values.Set w) ∙ search (rules, the_lemmas)

told_set : (v : Items) → AllByRecursion Told v.items → Told (values.Set v)
told_set v all b = by_form (values.Set v) b 8 (ap form (view-Set v)) (λ x.
    as_trees _ _ (same_set v x.0) (view-Set v) (view-Set x.0) (through set (λ e. cc) (items_tell v.items x.0.items all)))

same_push : (k l : PushKind) (v w : Items) → same (values.Push k v) (values.Push l w) ≡ ((kind_eq.ghosts).eq k l && pointwise same v.items w.items)
same_push k l v w = laws.is (values.Push k v) (values.Push l w) ∙ search (rules, the_lemmas)

told_push : (k : PushKind) (v : Items) → AllByRecursion Told v.items → Told (values.Push k v)
told_push k v all b = by_form (values.Push k v) b 13 (ap form (view-Push k v)) (λ x.
    let w = x.1.0 in
    let tells = of_both (kinds_tell k x.0) (items_tell v.items w.items all) in
    as_trees _ _ (same_push k x.0 v w) (view-Push k v) (view-Push x.0 w) (
      λ h. ap₂ push (tells.0 h).0 (tells.0 h).1,
      λ e. let kind : kind_view k ≡ kind_view x.0 = cc in let items : trees_view v.items ≡ trees_view w.items = cc in tells.1 (kind, items),
    ))

abbrev Fields : Type 0
Fields = Vec (Value × Value) Global

abbrev same_pair : Value × Value → Value × Value → Bool
same_pair p q = same p.0 q.0 && same p.1 q.1

abbrev ToldPair : Value × Value → Type 0
ToldPair p = Told p.0 × Told p.1

pairs_tell : (ps qs : List (Value × Value)) → AllByRecursion ToldPair ps → Decides (pointwise same_pair ps qs) (pairs_view ps ≡ pairs_view qs)
pairs_tell [] [] all = (λ h. refl, λ e. refl)
pairs_tell [] (q ∷ qs) all = (λ h. cc, λ e. cc)
pairs_tell (p ∷ ps) [] all = (λ h. cc, λ e. cc)
pairs_tell (p ∷ ps) (q ∷ qs) all =
    let tells = of_both (of_both (all.0.0 q.0) (all.0.1 q.1)) (pairs_tell ps qs all.1) in (
      λ h. let t = tells.0 h in λ i. pair (t.0.0 i) (t.0.1 i) (t.1 i),
      λ e.
          let key : view p.0 ≡ view q.0 = cc in
          let value : view p.1 ≡ view q.1 = cc in
          let later : pairs_view ps ≡ pairs_view qs = cc in
          tells.1 ((key, value), later),
    )

same_map : (v w : Fields) → same (values.Map v) (values.Map w) ≡ pointwise same_pair v.items w.items
same_map v w = laws.is (values.Map v) (values.Map w) ∙ search (rules, the_lemmas)

told_map : (v : Fields) → AllByRecursion ToldPair v.items → Told (values.Map v)
told_map v all b = by_form (values.Map v) b 6 (ap form (view-Map v)) (λ x.
    as_trees _ _ (same_map v x.0) (view-Map v) (view-Map x.0) (through trees.map (λ e. cc) (pairs_tell v.items x.0.items all)))

same_attribute : (c d : Box Value Global) (v w : Fields) → same (values.Attribute c v) (values.Attribute d w) ≡ (same c.value d.value && pointwise same_pair v.items w.items)
same_attribute c d v w = laws.is (values.Attribute c v) (values.Attribute d w) ∙ search (rules, the_lemmas)

told_attribute : (c : Box Value Global) (v : Fields) → Told c.value → AllByRecursion ToldPair v.items → Told (values.Attribute c v)
told_attribute c v told all b = by_form (values.Attribute c v) b 7 (ap form (view-Attribute c v)) (λ x.
    let d = x.0 in
    let w = x.1.0 in
    let tells = of_both (told d.value) (pairs_tell v.items w.items all) in
    as_trees _ _ (same_attribute c d v w) (view-Attribute c v) (view-Attribute d w) (
      λ h. ap₂ attribute (tells.0 h).0 (tells.0 h).1,
      λ e. let inner : view c.value ≡ view d.value = cc in let pairs : pairs_view v.items ≡ pairs_view w.items = cc in tells.1 (inner, pairs),
    ))

-- ---- level by level

abbrev Known : Type 0
Known = (v : Value) × Told v

all_told : (vs : List Known) → AllByRecursion Told (map (λ v. v.0) vs)
all_told [] = tt
all_told (v ∷ vs) = (v.1, all_told vs)

all_pairs : (ps : List (Known × Known)) → AllByRecursion ToldPair (map (λ p. (p.0.0, p.1.0)) ps)
all_pairs [] = tt
all_pairs (p ∷ ps) = ((p.0.1, p.1.1), all_pairs ps)

level : (y : Value-F Known) → Told (roll-Value (map-Value Known Value (λ v. v.0) y))
level Value-F.Nil = subst Told (sym variants.rolls-Nil) told_nil
level (Value-F.Int n) = subst Told (sym (variants.rolls-Int n)) (told_int n)
level (Value-F.BulkString v) = subst Told (sym (variants.rolls-BulkString v)) (told_bulk v)
level (Value-F.Array v) = subst Told (sym (variants.rolls-Array _)) (told_array _ (all_told v.items))
level (Value-F.SimpleString s) = subst Told (sym (variants.rolls-SimpleString s)) (told_simple s)
level Value-F.Okay = subst Told (sym variants.rolls-Okay) told_okay
level (Value-F.Map v) = subst Told (sym (variants.rolls-Map _)) (told_map _ (all_pairs v.items))
level (Value-F.Attribute c v) = subst Told (sym (variants.rolls-Attribute _ _)) (told_attribute _ _ c.value.1 (all_pairs v.items))
level (Value-F.Set v) = subst Told (sym (variants.rolls-Set _)) (told_set _ (all_told v.items))
level (Value-F.Double s) = subst Told (sym (variants.rolls-Double s)) (told_double s)
level (Value-F.Boolean t) = subst Told (sym (variants.rolls-Boolean t)) (told_boolean t)
level (Value-F.VerbatimString f s) = subst Told (sym (variants.rolls-VerbatimString f s)) (told_verbatim f s)
level (Value-F.BigNumber v) = subst Told (sym (variants.rolls-BigNumber v)) (told_number v)
level (Value-F.Push k v) = subst Told (sym (variants.rolls-Push k _)) (told_push k _ (all_told v.items))
level (Value-F.ServerError d) = subst Told (sym (variants.rolls-ServerError d)) (told_error d)

pub values_tell : (a b : Value) → Decides (same a b) (view a ≡ view b)
values_tell = ind-Value Told (λ x y is. subst (λ z. Told (roll-Value z)) is (level y))

pub pushes_tell : (a b : PushInfo) → Decides ((push_eq.ghosts).eq a b) (push_view a ≡ push_view b)
pushes_tell a b =
    let tells = of_both (kinds_tell a.kind b.kind) (items_tell a.items.items b.items.items (told_of a.items.items)) in (
      λ h. ap₂ push (tells.0 h).0 (tells.0 h).1,
      λ e.
          let kind : kind_view a.kind ≡ kind_view b.kind = cc in
          let items : trees_view a.items.items ≡ trees_view b.items.items = cc in
          tells.1 (kind, items),
    )
  where
    told_of : (vs : List Value) → AllByRecursion Told vs
    told_of [] = tt
    told_of (v ∷ vs) = (values_tell v, told_of vs)
