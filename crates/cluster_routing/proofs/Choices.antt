-- What several routes lead to.
use Rattle.std.proofs.Common.{◌≡◌, ℕ, suc, ◌+◌, ◌<◌, ◌≤◌, List, [], ◌∷◌, ◌++◌, length, map, drop, get_or, sym, ap, ◌∙◌, subst, add-one, drop-cons, append_assoc, append-nil, Option, Vec, Global}
use Rattle.std.proofs.lemmas.List.{drop_all, map-append}
use Rattle.cluster_routing.specs.Address.{Address}
use Rattle.cluster_routing.specs.SlotMap.{SlotEntries}
use Rattle.cluster_routing.specs.Choice.{EachLeadsTo, LeadsTo, Strategy}
use Rattle.cluster_routing.specs.declared.route.Route.{Route}

-- so many of the routes are answered
pub record Answered (strategy : Option Strategy) (pick : ℕ) (entries : SlotEntries) (routes : List (Route × Vec ℕ Global)) (i : ℕ) (answers : List (Option Address)) : Type 0 where
  pub completed : (more : List (Option Address)) → EachLeadsTo strategy pick entries (map (λ r. r.0) (drop i routes)) more → EachLeadsTo strategy pick entries (map (λ r. r.0) routes) (answers ++ more)

pub answered_none : (strategy : Option Strategy) (pick : ℕ) (entries : SlotEntries) (routes : List (Route × Vec ℕ Global)) → Answered strategy pick entries routes 0 []
answered_none strategy pick entries routes = record { completed = λ more h. h }

pub answered_more : {strategy : Option Strategy} {pick : ℕ} {entries : SlotEntries} {routes : List (Route × Vec ℕ Global)} {i : ℕ} {X : Type 0} (f : X → Option Address) (items : List X) {more : List X} (x : X) (route : Route × Vec ℕ Global)
    → Answered strategy pick entries routes i (map f items) → i < length routes → more ≡ items ++ x ∷ [] → route ≡ get_or routes i route → LeadsTo strategy pick entries route.0 (f x) → Answered strategy pick entries routes (i + 1) (map f more)
answered_more {strategy} {pick} {entries} {routes} {i} f items {more} x route a lt m at leads = record {
  completed = λ rest h.
      let e : drop i routes ≡ route ∷ drop (i + 1) routes = rw add-one (drop-cons routes i route lt ∙ ap (λ r. r ∷ drop (suc i) routes) (sym at)) in
      let P : List (Route × Vec ℕ Global) → Type 0 = λ rs. EachLeadsTo strategy pick entries (map (λ r. r.0) rs) (f x ∷ rest) in
      let Q : List (Option Address) → Type 0 = λ as'. EachLeadsTo strategy pick entries (map (λ r. r.0) routes) as' in
      let pushed : map f items ++ f x ∷ rest ≡ map f more ++ rest = sym (append_assoc (map f items) (f x ∷ []) rest) ∙ ap (λ l. l ++ rest) (sym (map-append f items (x ∷ [])) ∙ ap (map f) (sym m)) in
      subst Q pushed (a.completed (f x ∷ rest) (subst P (sym e) (leads, h)));
}

pub answered_all : {strategy : Option Strategy} {pick : ℕ} {entries : SlotEntries} {routes : List (Route × Vec ℕ Global)} {i : ℕ} {answers : List (Option Address)}
    → Answered strategy pick entries routes i answers → length routes ≤ i → EachLeadsTo strategy pick entries (map (λ r. r.0) routes) answers
answered_all {strategy} {pick} {entries} {routes} {i} {answers} a e =
    let P : List (Route × Vec ℕ Global) → Type 0 = λ rs. EachLeadsTo strategy pick entries (map (λ r. r.0) rs) [] in
    let Q : List (Option Address) → Type 0 = λ as'. EachLeadsTo strategy pick entries (map (λ r. r.0) routes) as' in
    subst Q (append-nil answers) (a.completed [] (subst P (sym (drop_all i routes e)) tt))
