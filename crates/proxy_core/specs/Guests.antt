-- The guests of a proxy. A guest is known by its number alone.
use Rattle.std.specs.Prelude.{◌≡◌, ℕ, suc, ◌+◌, Bool, true, false, List, [], ◌∷◌, map, slice_index_or as get_or}
use Rattle.proxy_core.specs.declared.queue.Entry.{Entry}
use Rattle.proxy_core.specs.declared.queue.Entry.TheVariants.{Waits, Reads}
use Rattle.proxy_core.specs.declared.guest_queue.GuestQueue.{GuestQueue}

-- the queue of each guest, by its number
abbrev pub Queues : Type 0 → Type 0 → Type 0
Queues C V = List (List (Entry C V))

-- the queues of guests
abbrev pub queues : {C V : Type 0} → List (GuestQueue C V) → Queues C V
queues {C} {V} guests = map (λ (g : GuestQueue C V). g.entries.items) guests

-- which of them are open
abbrev pub openings : {C V : Type 0} → List (GuestQueue C V) → List Bool
openings {C} {V} guests = map (λ (g : GuestQueue C V). g.open) guests

-- the queue of guest g: none where there is no such guest
abbrev pub queue_at : {C V : Type 0} → Queues C V → ℕ → List (Entry C V)
queue_at qs g = get_or qs g []

-- whether guest g is there
abbrev pub is_open_at : List Bool → ℕ → Bool
is_open_at bs g = get_or bs g false

-- the first number from n on that no guest has, of those of which the list tells
abbrev pub free_from : ℕ → List Bool → ℕ
free_from n [] = n
free_from n (false ∷ bs) = n
free_from n (true ∷ bs) = free_from (suc n) bs

-- how many bytes an entry takes, by those of commands and of replies
abbrev pub entry_bytes : {C V : Type 0} → (C → ℕ) → (V → ℕ) → Entry C V → ℕ
entry_bytes command reply (Waits c) = command c
entry_bytes command reply (Reads v) = reply v

-- how many bytes a queue takes
abbrev pub queue_bytes : {C V : Type 0} → (C → ℕ) → (V → ℕ) → List (Entry C V) → ℕ
queue_bytes command reply [] = 0
queue_bytes command reply (e ∷ es) = entry_bytes command reply e + queue_bytes command reply es

-- the bytes of a guest's queue are counted
abbrev pub IsCounted : {C V : Type 0} → (C → ℕ) → (V → ℕ) → GuestQueue C V → Type 0
IsCounted command reply g = g.bytes ≡ queue_bytes command reply g.entries.items
