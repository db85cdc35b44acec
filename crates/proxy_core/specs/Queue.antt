-- What becomes of the commands of one guest, as they stand in its queue, by the outcomes of a turn: the
-- first outcome is that of the first command that waits, and so on. Source: the Redis documentation of
-- pipelining, by which replies come in the order of the commands, and of the cluster, where a command may
-- be redirected.
use Rattle.std.specs.Prelude.{◌≡◌, Bool, false, ◌&&◌, ◌||◌, cond, List, [], ◌∷◌, Option, Some, None}
use Rattle.proxy_core.specs.declared.outcome.Outcome.{Outcome}
use Rattle.proxy_core.specs.declared.queue.Entry.{Entry}
use Rattle.proxy_core.specs.declared.queue.Entry.TheVariants.{Waits, Reads}
use Rattle.proxy_core.specs.Fates.{may_be_done}

-- the commands that wait, in order
abbrev pub waiting : {C V : Type 0} → List (Entry C V) → List C
waiting [] = []
waiting (Waits c ∷ es) = c ∷ waiting es
waiting (Reads v ∷ es) = waiting es

-- whether a command of the queue behind c, whose order to c can be seen, may have been done in this turn
abbrev pub overtaken : {C V : Type 0} → (C → C → Bool) → C → List (Entry C V) → List (Outcome V) → Bool
overtaken overlaps c [] os = false
overtaken overlaps c (Reads v ∷ es) os = overtaken overlaps c es os
overtaken overlaps c (Waits d ∷ es) [] = false
overtaken overlaps c (Waits d ∷ es) (o ∷ os) =
    (may_be_done o.fate && overlaps c d) || overtaken overlaps c es os

-- c, in front of the queue es, whose outcome is o, as the turn leaves it: it waits on where nothing of it
-- was done and nothing overtook it
abbrev pub settled_one : {C V : Type 0} → (C → C → Bool) → C → Outcome V → List (Entry C V)
    → List (Outcome V) → Entry C V
settled_one overlaps c o es os =
    cond (may_be_done o.fate || overtaken overlaps c es os) (Reads o.reply) (Waits c)

-- the queue as the turn leaves it
abbrev pub settled : {C V : Type 0} → (C → C → Bool) → List (Entry C V) → List (Outcome V)
    → List (Entry C V)
settled overlaps [] os = []
settled overlaps (Reads v ∷ es) os = Reads v ∷ settled overlaps es os
settled overlaps (Waits c ∷ es) [] = Waits c ∷ settled overlaps es []
settled overlaps (Waits c ∷ es) (o ∷ os) = settled_one overlaps c o es os ∷ settled overlaps es os

-- e is what the turn makes of c in front of the queue es, and left are the outcomes for es
abbrev pub LeavesFirst : {C V : Type 0} → (C → C → Bool) → C → List (Entry C V) → List (Outcome V)
    → List (Outcome V) → Entry C V → Type 0
LeavesFirst overlaps c es os left e = e ∷ settled overlaps es left ≡ settled overlaps (Waits c ∷ es) os

-- the reply that a guest takes next: none where its first command waits
abbrev pub first_reply : {C V : Type 0} → List (Entry C V) → Option V
first_reply [] = None
first_reply (Waits c ∷ es) = None
first_reply (Reads v ∷ es) = Some v
