-- What was seen of a guest, step by step.
use Rattle.std.proofs.Common.{◌≡◌, ℕ, ◌+◌, ◌≤◌, ◌==◌, min, Bool, true, false, List, [], ◌∷◌, ◌++◌, length, Option, Some, None, map, take, drop, Vec, refl, sym, ◌∙◌, ap, subst, append_assoc, append-nil, arith, eqb-true}
use Rattle.std.specs.Global.{Global}
use Rattle.std.proofs.lemmas.List.{drop-drop, drop_min, take-append-drop}
use Rattle.resp_requests.specs.declared.fault.Fault.{Fault}
use Rattle.resp_requests.specs.declared.reader.RequestReader.{RequestReader}
use Rattle.resp_requests.specs.Given.{texts}
use Rattle.resp_requests.specs.Laws.{joined}
use Rattle.resp_requests.specs.Requests.{Command, Requests, requests}
use Rattle.resp_requests.specs.Standing.{Stands, StandsIn, limits_of, told}
use Rattle.proxy_core.specs.declared.outcome.Outcome.{Outcome}
use Rattle.proxy_core.specs.declared.queue.Entry.{Entry}
use Rattle.proxy_core.specs.declared.queue.Entry.TheVariants.{Reads}
use Rattle.proxy_core.specs.declared.limits.Room.{Room}
use Rattle.proxy_core.specs.Guests.{Queues, queue_at}
use Rattle.proxy_core.specs.Queue.{settled}
use Rattle.proxy_core.specs.Sees.{Event, Came, Told, Renewed, sees, shown}
use Rattle.proxy_core.proofs.RunLemmas.{settled_shown, shown_more, shown_taken}
use Rattle.proxy_connection.specs.declared.connection.Connection.{Connection}
use Rattle.proxy_connection.specs.declared.pending.Pending.{Pending}
use Rattle.proxy_connection.specs.declared.pending.Pending.TheVariants as pendings
use Rattle.proxy_connection.specs.declared.progress.Progress.{Progress}
use Rattle.proxy_connection.specs.declared.progress.Progress.TheVariants.{Taken, Short, Full, Ended, NoGuest}
use Rattle.proxy_connection.specs.History.{History, came, then, written_more}
use Rattle.proxy_connection.specs.Moves.{Advances, Rests}
use Rattle.proxy_connection.specs.Serving.{AlwaysStays, Serves, Goes, AreAnswered, IsInTime, and_heard, and_unput, rest_of}
use Rattle.proxy_connection.specs.Ways.{Ways, Understands}

-- ---- words

module _ {T C V : Type 0} (w : Ways T C V) where
  pub understands_more : (t : T) (cs : List Command) (es : List (Entry C V)) (t1 t2 : T) (c : Command) (e : Entry C V) → Understands w t cs es t1
      → w.has_ended t1 ≡ false → w.translates t1 c e t2 → Understands w t (cs ++ c ∷ []) (es ++ e ∷ []) t2
  understands_more t [] [] t1 t2 c e u n s =
      (subst (λ (x : T). w.has_ended x ≡ false) u n, t2, subst (λ (x : T). w.translates x c e t2) u s, refl)
  understands_more t [] (f ∷ es) t1 t2 c e u n s = absurd u
  understands_more t (d ∷ cs) [] t1 t2 c e u n s = absurd u
  understands_more t (d ∷ cs) (f ∷ es) t1 t2 c e u n s = (u.0, u.1, u.2, understands_more u.1 cs es t1 t2 c e u.3 n s)

-- ---- events

module _ {C V : Type 0} where
  pub came_more : (events : List (Event C V)) (e : Entry C V) → came (events ++ Came e ∷ []) ≡ came events ++ e ∷ []
  came_more [] e = refl
  came_more (Came d ∷ events) e = ap (λ es. d ∷ es) (came_more events e)
  came_more (Told os ∷ events) e = came_more events e
  came_more (Renewed ∷ events) e = came_more events e

  pub came_told : (events : List (Event C V)) (os : List (Outcome V)) → came (events ++ Told os ∷ []) ≡ came events
  came_told [] os = refl
  came_told (Came d ∷ events) os = ap (λ es. d ∷ es) (came_told events os)
  came_told (Told others ∷ events) os = came_told events os
  came_told (Renewed ∷ events) os = came_told events os

  module _ (overlaps : C → C → Bool) where
    pub sees_more : (q : List (Entry C V)) (events : List (Event C V)) (e : Entry C V) → sees overlaps q (events ++ Came e ∷ []) ≡ sees overlaps q events ++ e ∷ []
    sees_more q [] e = refl
    sees_more q (Came d ∷ events) e = sees_more (q ++ d ∷ []) events e
    sees_more q (Told os ∷ events) e = sees_more (settled overlaps q os) events e
    sees_more q (Renewed ∷ events) e = sees_more [] events e

    pub sees_told : (q : List (Entry C V)) (events : List (Event C V)) (os : List (Outcome V)) → sees overlaps q (events ++ Told os ∷ []) ≡ settled overlaps (sees overlaps q events) os
    sees_told q [] os = refl
    sees_told q (Came d ∷ events) os = sees_told (q ++ d ∷ []) events os
    sees_told q (Told others ∷ events) os = sees_told (settled overlaps q others) events os
    sees_told q (Renewed ∷ events) os = sees_told [] events os

-- ---- replies

pub joined_more : {V : Type 0} (written : V → List ℕ) (vs : List V) (v : V) → joined (map written (vs ++ v ∷ [])) ≡ joined (map written vs) ++ written v
joined_more written [] v = append-nil (written v)
joined_more written (u ∷ vs) v = ap (λ (xs : List ℕ). written u ++ xs) (joined_more written vs v) ∙ sym (append_assoc (written u) (joined (map written vs)) (written v))

pub empty_is : (xs : List ℕ) → (length xs == 0) ≡ true → xs ≡ []
empty_is [] e = refl
empty_is (x ∷ xs) e = let none = eqb-true (length (x ∷ xs)) 0 e in absurd (omega arith)

-- n bytes more are written
pub rest_behind : (bytes : List ℕ) (c n k m most : ℕ) → k ≡ min (c + n) most → m ≡ min k (length bytes) → length bytes ≤ most → drop m bytes ≡ drop n (drop c bytes)
rest_behind bytes c n k m most e f l =
    let same : min k (length bytes) ≡ min (c + n) (length bytes) = omega arith in
    ap (λ (i : ℕ). drop i bytes) (f ∙ same) ∙ drop_min (c + n) bytes ∙ sym (drop-drop n c bytes)

-- ---- what was read

standing_first : (o : Option Fault) (r : RequestReader) (commands : List Command) (bytes : List ℕ) → StandsIn o r commands bytes
    → (others : List Command) × ((requests (limits_of r) bytes).commands ≡ commands ++ others)
standing_first None r commands bytes s =
    let whole = s.behind [] in
    ((requests (limits_of r) (s.rest ++ [])).commands, ap (λ (xs : List ℕ). (requests (limits_of r) xs).commands) (sym (append-nil bytes)) ∙ ap (λ (rs : Requests). rs.commands) whole)
standing_first (Some f) r commands bytes s = ([], ap (λ (rs : Requests). rs.commands) s ∙ sym (append-nil commands))

heard_first : {C V : Type 0} (commands : List Command) (p : Pending C V) → (others : List Command) × (and_heard commands p ≡ commands ++ others)
heard_first commands pendings.Nothing = ([], sym (append-nil commands))
heard_first commands (pendings.Words words) = (texts words.items ∷ [], refl)
heard_first commands (pendings.Fault f) = ([], sym (append-nil commands))
heard_first commands (pendings.Entry e) = ([], sym (append-nil commands))

pub read_first : {C V : Type 0} (r : RequestReader) (commands : List Command) (p : Pending C V) (bytes : List ℕ) → Stands r (and_heard commands p) bytes
    → (others : List Command) × ((requests (limits_of r) bytes).commands ≡ commands ++ others)
read_first r commands p bytes s =
    let first = standing_first r.fault r (and_heard commands p) bytes s in
    let heard = heard_first commands p in
    (heard.0 ++ first.0, first.1 ∙ ap (λ (cs : List Command). cs ++ first.0) heard.1 ∙ append_assoc commands heard.0 first.0)

-- ---- what is pending

module _ {T C V : Type 0} (w : Ways T C V) where
  -- where nothing was refused, the fault does not count
  unrefused_from : (t : T) (b : Bool) (fault : Option Fault) (es all : List (Entry C V)) → b ≡ false → all ≡ es
      → AreAnswered w t b fault es all
  unrefused_from t false fault es all n a = a
  unrefused_from t true fault es all n a = absurd (let no : ⊥ = cc in no)

  unrefused_all : (t : T) (b : Bool) (fault : Option Fault) (es all : List (Entry C V)) → b ≡ false
      → AreAnswered w t b fault es all → all ≡ es
  unrefused_all t false fault es all n a = a
  unrefused_all t true fault es all n a = absurd (let no : ⊥ = cc in no)

  refused : (t : T) (fault : Option Fault) (f : Fault) (v : V) (es all : List (Entry C V)) → fault ≡ Some f → w.refuses t f v
      → all ≡ es → AreAnswered w t true fault es (all ++ Reads v ∷ [])
  refused t None f v es all e r a = absurd (let no : ⊥ = cc in no)
  refused t (Some f') f v es all e r a = (v, subst (λ (x : Fault). w.refuses t x v) (let same : f ≡ f' = cc in same) r, ap (λ xs. xs ++ Reads v ∷ []) a)

  pub understood_words : (c : Connection T C V) (q : List (Entry C V)) (h : History T C V) (words : Vec (Vec ℕ Global) Global) (e : Entry C V) (t : T) → c.pending ≡ pendings.Words words
      → w.translates c.translator (texts words.items) e t → Serves w c q h → Serves w (record c { translator = t; pending = pendings.Entry e }) q h
  understood_words c q h words e t p m s =
      let in_time = subst (IsInTime w c.translator c.is_refused (told c.requests)) p s.in_time in
      let all = unrefused_all c.translator c.is_refused (told c.requests) s.entries (and_unput (came h.events) c.pending) in_time.1 s.comes in
      record {
        commands = s.commands ++ texts words.items ∷ [];
        entries = s.entries ++ e ∷ [];
        replies = s.replies;
        limits = s.limits;
        reads = subst (λ x. Stands c.requests (and_heard s.commands x) h.fed) p s.reads;
        understands = understands_more w h.translator s.commands s.entries c.translator t (texts words.items) e s.understands in_time.0 m;
        in_time = tt;
        comes = unrefused_from t c.is_refused (told c.requests) (s.entries ++ e ∷ []) (came h.events ++ e ∷ []) in_time.1 (ap (λ xs. xs ++ e ∷ []) (sym (ap (and_unput (came h.events)) p) ∙ all));
        sees = s.sees;
        writes = s.writes;
      }

  pub refused_fault : (c : Connection T C V) (q : List (Entry C V)) (h : History T C V) (f : Fault) (v : V) → c.pending ≡ pendings.Fault f
      → w.refuses c.translator f v → Serves w c q h → Serves w (record c { is_refused = true; pending = pendings.Entry (Reads v) }) q h
  refused_fault c q h f v p r s =
      let in_time = subst (IsInTime w c.translator c.is_refused (told c.requests)) p s.in_time in
      let all = unrefused_all c.translator c.is_refused (told c.requests) s.entries (and_unput (came h.events) c.pending) in_time.1 s.comes in
      record {
        commands = s.commands;
        entries = s.entries;
        replies = s.replies;
        limits = s.limits;
        reads = subst (λ x. Stands c.requests (and_heard s.commands x) h.fed) p s.reads;
        understands = s.understands;
        in_time = tt;
        comes = refused c.translator (told c.requests) f v s.entries (came h.events) in_time.0 r (sym (ap (and_unput (came h.events)) p) ∙ all);
        sees = s.sees;
        writes = s.writes;
      }

  pub heard_fault : (c : Connection T C V) (q : List (Entry C V)) (h : History T C V) (r : RequestReader) (f : Fault) → c.pending ≡ pendings.Nothing → c.is_refused ≡ false
      → told r ≡ Some f → limits_of r ≡ limits_of c.requests → ((commands : List Command) → Stands c.requests commands h.fed → Stands r commands h.fed) → Serves w c q h → Serves w (record c { requests = r; pending = pendings.Fault f }) q h
  heard_fault c q h r f p n t l k s =
      let all = unrefused_all c.translator c.is_refused (told c.requests) s.entries (and_unput (came h.events) c.pending) n s.comes in
      record {
        commands = s.commands;
        entries = s.entries;
        replies = s.replies;
        limits = l ∙ s.limits;
        reads = k s.commands (subst (λ x. Stands c.requests (and_heard s.commands x) h.fed) p s.reads);
        understands = s.understands;
        in_time = (t, n);
        comes = unrefused_from c.translator c.is_refused (told r) s.entries (came h.events) n (sym (ap (and_unput (came h.events)) p) ∙ all);
        sees = s.sees;
        writes = s.writes;
      }

  pub pending_kept : (c : Connection T C V) (q : List (Entry C V)) (h : History T C V) (p : Pending C V) → c.pending ≡ p
      → Serves w c q h → Serves w (record c { pending = p }) q h
  pending_kept c q h p e s = subst (λ (x : Pending C V). Serves w (record c { pending = x }) q h) e s

  pub entry_put : (c : Connection T C V) (q q' : List (Entry C V)) (h : History T C V) (e : Entry C V) (p' : Pending C V) → c.pending ≡ pendings.Entry e → p' ≡ pendings.Nothing
      → q' ≡ q ++ e ∷ [] → Serves w c q h → Serves w (record c { pending = p' }) q' (then h (Came e))
  entry_put c q q' h e p' p n k s = record {
    commands = s.commands;
    entries = s.entries;
    replies = s.replies;
    limits = s.limits;
    reads = subst (λ x. Stands c.requests (and_heard s.commands x) h.fed) (sym n) (subst (λ x. Stands c.requests (and_heard s.commands x) h.fed) p s.reads);
    understands = s.understands;
    in_time = subst (IsInTime w c.translator c.is_refused (told c.requests)) (sym n) tt;
    comes = subst (AreAnswered w c.translator c.is_refused (told c.requests) s.entries)
        (ap (and_unput (came h.events)) p ∙ sym (came_more h.events e) ∙ sym (ap (and_unput (came (h.events ++ Came e ∷ []))) n)) s.comes;
    sees = sees_more w.overlaps [] h.events e ∙ ap (λ xs. xs ++ e ∷ []) s.sees ∙ sym (shown_more w.overlaps s.replies q e) ∙ ap (shown s.replies) (sym k);
    writes = s.writes;
  }

  -- another reply goes out, or more of its bytes were written
  writes_on : (c : Connection T C V) (q q' : List (Entry C V)) (h : History T C V) (reply : Option V) (n : ℕ) (bytes : List ℕ) (replies : List V)
      → sees w.overlaps [] h.events ≡ shown replies q' → bytes ++ rest_of w.written reply n ≡ joined (map w.written replies)
      → Serves w c q h → Serves w (record c { reply = reply; count = n }) q' (record h { written = bytes })
  writes_on c q q' h reply n bytes replies e k s = record {
    commands = s.commands;
    entries = s.entries;
    replies = replies;
    limits = s.limits;
    reads = s.reads;
    understands = s.understands;
    in_time = s.in_time;
    comes = s.comes;
    sees = e;
    writes = k;
  }

  pub reply_taken : (c : Connection T C V) (q q' : List (Entry C V)) (h : History T C V) (v : V) → rest_of w.written c.reply c.count ≡ []
      → q ≡ Reads v ∷ q' → Serves w c q h → Serves w (record c { reply = Some v; count = 0 }) q' h
  reply_taken c q q' h v e k s =
      writes_on c q q' h (Some v) 0 h.written (s.replies ++ v ∷ [])
      (s.sees ∙ ap (shown s.replies) k ∙ sym (shown_taken w.overlaps s.replies v q'))
      (ap (λ (xs : List ℕ). xs ++ w.written v) (sym (append-nil h.written) ∙ ap (λ (xs : List ℕ). h.written ++ xs) (sym e) ∙ s.writes) ∙ sym (joined_more w.written s.replies v)) s

  pub bytes_written : (c : Connection T C V) (q : List (Entry C V)) (h : History T C V) (n m : ℕ) → rest_of w.written c.reply m ≡ drop n (rest_of w.written c.reply c.count)
      → Serves w c q h → Serves w (record c { count = m }) q (written_more h (take n (rest_of w.written c.reply c.count)))
  bytes_written c q h n m e s =
      let rest = rest_of w.written c.reply c.count in
      writes_on c q q h c.reply m (h.written ++ take n rest) s.replies s.sees
      (append_assoc h.written (take n rest) (rest_of w.written c.reply m) ∙ ap (λ (xs : List ℕ). h.written ++ xs) (ap (λ (xs : List ℕ). take n rest ++ xs) e ∙ take-append-drop n rest) ∙ s.writes) s

  pub turn_told : (c : Connection T C V) (q : List (Entry C V)) (outcomes : List (Outcome V)) → Goes w c q c (settled w.overlaps q outcomes) (λ h. then h (Told outcomes))
  turn_told c q outcomes h s = record {
    commands = s.commands;
    entries = s.entries;
    replies = s.replies;
    limits = s.limits;
    reads = s.reads;
    understands = s.understands;
    in_time = s.in_time;
    comes = subst (λ (es : List (Entry C V)). AreAnswered w c.translator c.is_refused (told c.requests) s.entries (and_unput es c.pending)) (sym (came_told h.events outcomes)) s.comes;
    sees = sees_told w.overlaps [] h.events outcomes ∙ ap (λ xs. settled w.overlaps xs outcomes) s.sees ∙ settled_shown w.overlaps s.replies q outcomes;
    writes = s.writes;
  }

  -- ---- calls

  module _ (command : C → ℕ) (reply : V → ℕ) (share : Room) (is_there : Bool) (g : ℕ) (old new : Connection T C V) (qs qs' : Queues C V) where
    pub rests_advances : (p : Progress) → Rests w old new p → AlwaysStays w old new → qs' ≡ qs → Advances w command reply share is_there g old new qs qs' p
    rests_advances Short r k e = ((e, k (queue_at qs g)), λ h s. r (queue_at qs g) h s)
    rests_advances Ended r k e = ((e, k (queue_at qs g)), r.0, r.1)
    rests_advances Taken r k e = absurd r
    rests_advances Full r k e = absurd r
    rests_advances NoGuest r k e = absurd r

    -- a step before by which nothing was seen
    pub advances_behind : (first : Connection T C V) (p : Progress) → AlwaysStays w first old
        → Advances w command reply share is_there g old new qs qs' p → Advances w command reply share is_there g first new qs qs' p
    advances_behind first Taken k a = (a.0, a.1, λ h s. a.2 h (k (queue_at qs g) h s))
    advances_behind first Short k a = ((a.0.0, λ h s. a.0.1 h (k (queue_at qs g) h s)), λ h s. a.1 h (k (queue_at qs g) h s))
    advances_behind first Full k a = ((a.0.0, λ h s. a.0.1 h (k (queue_at qs g) h s)), a.1, a.2, a.3)
    advances_behind first Ended k a = ((a.0.0, λ h s. a.0.1 h (k (queue_at qs g) h s)), a.1, a.2)
    advances_behind first NoGuest k a = ((a.0.0, λ h s. a.0.1 h (k (queue_at qs g) h s)), a.1)
