-- Lists of steps slot by slot, each list's steps together: what a request does on one slot stays unparted.
use Rattle.std.proofs.Common.{◌≡◌, ℕ, Bool, true, false, cond, ◌||◌, ◌==◌, nat_eq, List, [], ◌∷◌, ◌++◌, map, filter, length, suc, refl, sym, ap, ◌∙◌, append-nil, eqb-true}
use Rattle.std.specs.Prelude.{MatchBool}
use Rattle.std.specs.List.{AllByRecursion}
use Rattle.std.proofs.lemmas.Bool.{false≢true}
use Rattle.std.proofs.lemmas.List.Elements.{filter-append}
use Rattle.cluster_routing.specs.Lists.{concat, among, IsDistinct, Pairwise}
use Rattle.cluster_calls.specs.Links.Log.{Exchange}
use Rattle.cluster_calls.specs.OneServer.Honest.{counts, IsDoneBy}
use Rattle.cluster_calls.specs.OneServer.Keyspace.{Step, on_slot}
use Rattle.cluster_calls.specs.OneServer.Meaning.{Meaning, DoAll}
use Rattle.cluster_calls.specs.OneServer.Operations.{Operation, Response}
use Rattle.cluster_calls.proofs.ServerLaws.Splits.{on_one_slot}

-- a list in front, unless it is empty
abbrev pub with_some : {X : Type 0} → List X → List (List X) → List (List X)
with_some [] xss = xss
with_some (x ∷ xs) xss = (x ∷ xs) ∷ xss

-- of each list its steps on the slot, where it has any
abbrev pub pieces : ℕ → List (List Step) → List (List Step)
pieces slot [] = []
pieces slot (xs ∷ xss) = with_some (on_slot slot xs) (pieces slot xss)

abbrev pub SamePieces : List (List Step) → List (List Step) → Type 0
SamePieces xss yss = (slot : ℕ) → pieces slot xss ≡ pieces slot yss

-- the steps do what a request with these arguments asks for
abbrev pub IsDoneAs : Meaning → (List (List ℕ) → Operation) → Exchange → List Step → Type 0
IsDoneAs meaning operation x steps = IsDoneBy meaning (operation x.request.args) x steps

-- `Accounts`, by what the arguments ask for
abbrev pub AccountsAs : Meaning → (ℕ → Bool) → (List (List ℕ) → Operation) → Exchange → List Step → Type 0
AccountsAs meaning done operation x steps = MatchBool (counts done (operation x.request.args) x) (IsDoneAs meaning operation x steps) (steps ≡ [])

-- steps that account for a log, with these pieces
abbrev pub HonestIn : Meaning → (ℕ → Bool) → (List (List ℕ) → Operation) → List Exchange → List (List Step) → Type 0
HonestIn meaning done operation xs moves =
    (steps : List (List Step)) × Pairwise (AccountsAs meaning done operation) xs steps × SamePieces steps moves

-- one server that is given the operations may respond so, by steps with these pieces
abbrev pub ServedIn : Meaning → List Operation → List Response → List (List Step) → Type 0
ServedIn meaning operations responses moves = (steps : List (List Step)) × DoAll meaning operations steps responses × SamePieces steps moves

-- ---- served one after another

pub do_all-append : (meaning : Meaning) (cs ds : List Operation) (ss rs : List (List Step)) (ts us : List Response) → DoAll meaning cs ss ts → DoAll meaning ds rs us → DoAll meaning (cs ++ ds) (ss ++ rs) (ts ++ us)
do_all-append meaning [] ds [] rs [] us h k = k
do_all-append meaning (c ∷ cs) ds (s ∷ ss) rs (t ∷ ts) us h k = (h.0, do_all-append meaning cs ds ss rs ts us h.1 k)
do_all-append meaning [] ds [] rs (t ∷ ts) us h k = absurd h
do_all-append meaning [] ds (s ∷ ss) rs ts us h k = absurd h
do_all-append meaning (c ∷ cs) ds [] rs ts us h k = absurd h
do_all-append meaning (c ∷ cs) ds (s ∷ ss) rs [] us h k = absurd h

pub do_all_length : (meaning : Meaning) (cs : List Operation) (ss : List (List Step)) (ts : List Response) → DoAll meaning cs ss ts → length ts ≡ length cs
do_all_length meaning [] [] [] h = refl
do_all_length meaning (c ∷ cs) (s ∷ ss) (t ∷ ts) h = ap suc (do_all_length meaning cs ss ts h.1)
do_all_length meaning [] [] (t ∷ ts) h = absurd h
do_all_length meaning [] (s ∷ ss) ts h = absurd h
do_all_length meaning (c ∷ cs) [] ts h = absurd h
do_all_length meaning (c ∷ cs) (s ∷ ss) [] h = absurd h

append_some : {X : Type 0} (xs : List X) (yss zss : List (List X)) → with_some xs yss ++ zss ≡ with_some xs (yss ++ zss)
append_some [] yss zss = refl
append_some (x ∷ xs) yss zss = refl

pub pieces-append : (slot : ℕ) (xss yss : List (List Step)) → pieces slot (xss ++ yss) ≡ pieces slot xss ++ pieces slot yss
pieces-append slot [] yss = refl
pieces-append slot (xs ∷ xss) yss = ap (with_some (on_slot slot xs)) (pieces-append slot xss yss) ∙ sym (append_some (on_slot slot xs) (pieces slot xss) (pieces slot yss))

-- what is served is served one after another too
pub served-append : (meaning : Meaning) (cs ds : List Operation) (ts us : List Response) (moves later : List (List Step)) → ServedIn meaning cs ts moves → ServedIn meaning ds us later → ServedIn meaning (cs ++ ds) (ts ++ us) (moves ++ later)
served-append meaning cs ds ts us moves later h k = (
  h.0 ++ k.0,
  do_all-append meaning cs ds h.0 k.0 ts us h.1 k.1,
  λ slot. pieces-append slot h.0 k.0 ∙ ap (λ q. q ++ pieces slot k.0) (h.2 slot) ∙ ap (λ q. pieces slot moves ++ q) (k.2 slot) ∙ sym (pieces-append slot moves later),
)

-- ---- steps of a slot

concat_some : {X : Type 0} (xs : List X) (xss : List (List X)) → concat (with_some xs xss) ≡ xs ++ concat xss
concat_some [] xss = refl
concat_some (x ∷ xs) xss = refl

pub concat_pieces : (slot : ℕ) (xss : List (List Step)) → concat (pieces slot xss) ≡ on_slot slot (concat xss)
concat_pieces slot [] = refl
concat_pieces slot (xs ∷ xss) =
    concat_some (on_slot slot xs) (pieces slot xss) ∙ ap (λ q. on_slot slot xs ++ q) (concat_pieces slot xss) ∙ sym (filter-append (λ (x : Step). slot == x.slot) xs (concat xss))

-- lists with the same pieces have the same steps on each slot
pub same_on_slot : (xss yss : List (List Step)) → SamePieces xss yss → (slot : ℕ) → on_slot slot (concat xss) ≡ on_slot slot (concat yss)
same_on_slot xss yss same slot = sym (concat_pieces slot xss) ∙ ap concat (same slot) ∙ concat_pieces slot yss

-- lists that are each on a slot of their own have one piece at each
pub one_piece : (slots : List ℕ) (sts : List (List Step)) → IsDistinct nat_eq slots → Pairwise (λ k st. AllByRecursion (λ (x : Step). x.slot ≡ k) st) slots sts
    → (s : ℕ) → pieces s sts ≡ with_some (on_slot s (concat sts)) []
one_piece [] [] d h s = refl
one_piece [] (st ∷ sts) d h s = absurd h
one_piece (k ∷ ks) [] d h s = absurd h
one_piece (k ∷ ks) (st ∷ sts) d h s =
    ap (λ q. with_some q (pieces s sts)) own
    ∙ by (nat_eq s k) refl (none ks sts d.1 h.1) (one_piece ks sts d.1 h.1 s)
    ∙ sym (ap (λ q. with_some q []) (filter-append (λ (x : Step). s == x.slot) st (concat sts) ∙ ap (λ q. q ++ on_slot s (concat sts)) own))
  where
    own : on_slot s st ≡ cond (s == k) st []
    own = on_one_slot s k st h.0

    none : (js : List ℕ) (qs : List (List Step)) → IsDistinct nat_eq js → Pairwise (λ j st. AllByRecursion (λ (x : Step). x.slot ≡ j) st) js qs → among nat_eq s js ≡ false → on_slot s (concat qs) ≡ []
    none [] [] d h n = refl
    none [] (q ∷ qs) d h n = absurd h
    none (j ∷ js) [] d h n = absurd h
    none (j ∷ js) (q ∷ qs) d h n =
        filter-append (λ (x : Step). s == x.slot) q (concat qs) ∙ ap (λ r. r ++ on_slot s (concat qs)) (on_one_slot s j q h.0) ∙ at (nat_eq s j) n (λ m. none js qs d.1 h.1 m)
      where
        at : (b : Bool) → (b || among nat_eq s js) ≡ false → (among nat_eq s js ≡ false → on_slot s (concat qs) ≡ []) → cond b q [] ++ on_slot s (concat qs) ≡ []
        at true m ih = absurd (false≢true (sym m))
        at false m ih = ih m

    by : (b : Bool) → nat_eq s k ≡ b → (among nat_eq s ks ≡ false → on_slot s (concat sts) ≡ []) → pieces s sts ≡ with_some (on_slot s (concat sts)) []
        → with_some (cond b st []) (pieces s sts) ≡ with_some (cond b st [] ++ on_slot s (concat sts)) []
    by true e n ih = let z = n (alone e) in ap (λ q. with_some st q) (ih ∙ ap (λ q. with_some q []) z) ∙ ap (λ q. with_some q []) (sym (append-nil st) ∙ ap (λ q. st ++ q) (sym z))
      where
        alone : nat_eq s k ≡ true → among nat_eq s ks ≡ false
        alone f = ap (λ n. among nat_eq n ks) (eqb-true s k f) ∙ d.0
    by false e n ih = ih

-- where each element's steps are on its slot, the pieces of a slot are those of its elements
pub pieces_at : {Z : Type 0} (slot : Z → ℕ) (steps : Z → List Step) (s : ℕ) (zs : List Z) → AllByRecursion (λ z. AllByRecursion (λ (x : Step). x.slot ≡ slot z) (steps z)) zs
    → pieces s (map steps zs) ≡ pieces s (map steps (filter (λ z. s == slot z) zs))
pieces_at slot steps s [] h = refl
pieces_at slot steps s (z ∷ zs) h = by (s == slot z) (on_one_slot s (slot z) (steps z) h.0) (pieces_at slot steps s zs h.1)
  where
    by : (b : Bool) → on_slot s (steps z) ≡ cond b (steps z) [] → pieces s (map steps zs) ≡ pieces s (map steps (filter (λ z. s == slot z) zs))
        → with_some (on_slot s (steps z)) (pieces s (map steps zs)) ≡ pieces s (map steps (cond b (z ∷ filter (λ z. s == slot z) zs) (filter (λ z. s == slot z) zs)))
    by true e ih = ap (λ q. with_some (on_slot s (steps z)) q) ih
    by false e ih = ap (λ q. with_some q (pieces s (map steps zs))) e ∙ ih
