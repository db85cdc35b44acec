-- A history is its slots' histories.
use Rattle.std.proofs.Common.{◌≡◌, ℕ, Bool, true, false, cond, ◌==◌, List, [], ◌∷◌, ◌++◌, refl, ap, ◌∙◌, subst, eqb-true, eq-eqb}
use Rattle.std.proofs.lemmas.Bool.{false≢true}
use Rattle.cluster_calls.specs.OneServer.Keyspace.{Keyspace, Step, History, Leads, on_slot, with_cell}

-- one step more or none, by whether it is on the slot
leads_more : (x : Step) (xs : List Step) (b : Bool) (cell cell' : List ℕ) → (b ≡ true → cell ≡ x.before) → Leads (cond b x.after cell) xs cell' → Leads cell (cond b (x ∷ xs) xs) cell'
leads_more x xs true cell cell' first then = (first refl, then)
leads_more x xs false cell cell' first then = then

leads_less : (x : Step) (xs : List Step) (b : Bool) (cell cell' : List ℕ) → Leads cell (cond b (x ∷ xs) xs) cell' → Leads (cond b x.after cell) xs cell'
leads_less x xs true cell cell' h = h.1
leads_less x xs false cell cell' h = h

leads_first : (x : Step) (xs : List Step) (b : Bool) (cell cell' : List ℕ) → b ≡ true → Leads cell (cond b (x ∷ xs) xs) cell' → cell ≡ x.before
leads_first x xs true cell cell' e h = h.0
leads_first x xs false cell cell' e h = absurd (false≢true e)

pub history_leads : (xs : List Step) (keys keys' : Keyspace) → History keys xs keys' → (slot : ℕ) → Leads (keys slot) (on_slot slot xs) (keys' slot)
history_leads [] keys keys' c slot = c slot
history_leads (x ∷ xs) keys keys' c slot =
    leads_more x (on_slot slot xs) (slot == x.slot) (keys slot) (keys' slot)
    (λ e. ap keys (eqb-true slot x.slot e) ∙ c.0)
    (history_leads xs (with_cell keys x.slot x.after) keys' c.1 slot)

pub leads_history : (xs : List Step) (keys keys' : Keyspace) → ((slot : ℕ) → Leads (keys slot) (on_slot slot xs) (keys' slot)) → History keys xs keys'
leads_history [] keys keys' h = h
leads_history (x ∷ xs) keys keys' h = (
  leads_first x (on_slot x.slot xs) (x.slot == x.slot) (keys x.slot) (keys' x.slot) (eq-eqb x.slot x.slot refl) (h x.slot),
  leads_history xs (with_cell keys x.slot x.after) keys' (λ slot. leads_less x (on_slot slot xs) (slot == x.slot) (keys slot) (keys' slot) (h slot)),
)

-- lists of steps that agree on each slot are histories from and to the same keyspaces
pub history_same_slots : (xs ys : List Step) (keys keys' : Keyspace) → ((slot : ℕ) → on_slot slot xs ≡ on_slot slot ys) → History keys xs keys' → History keys ys keys'
history_same_slots xs ys keys keys' same c =
    leads_history ys keys keys' (λ slot. subst (λ zs. Leads (keys slot) zs (keys' slot)) (same slot) (history_leads xs keys keys' c slot))

-- a history looks at its keyspace slot by slot
pub history_from : (xs : List Step) (keys other keys' : Keyspace) → ((slot : ℕ) → keys slot ≡ other slot) → History keys xs keys' → History other xs keys'
history_from xs keys other keys' same c =
    leads_history xs other keys' (λ slot. subst (λ cell. Leads cell (on_slot slot xs) (keys' slot)) (same slot) (history_leads xs keys keys' c slot))

-- histories come apart
pub history_split : (xs ys : List Step) (keys keys' : Keyspace) → History keys (xs ++ ys) keys' → (mid : Keyspace) × (History keys xs mid × History mid ys keys')
history_split [] ys keys keys' c = (keys, (λ s. refl, c))
history_split (x ∷ xs) ys keys keys' c =
    let r = history_split xs ys (with_cell keys x.slot x.after) keys' c.1 in
    (r.0, ((c.0, r.1.0), r.1.1))
