-- Readings one after another are one reading: laws of the words in Incoming.antt, for every crate that reads.
use Rattle.std.specs.Prelude.{ℕ, ◌+◌, ◌*◌, ◌^◌, ◌-◌, ◌<◌, ◌≤◌, List, [], ◌∷◌, ◌++◌, length, Option, Some, None}
use Rattle.std.proofs.Common.{refl, sym, ap, ◌∙◌, subst, inl, inr, ◌≡◌, ◌⊎◌, append_assoc, append-nil, length-append}
use Rattle.std.proofs.lemmas.List.{append_cancel_left}
use Rattle.std.proofs.Math.Nat.{le_trans, le_refl, add_assoc, add_comm, add-zero, add-le-add}
use Rattle.std.specs.Io.KnownBytes.{Consumes}
use Rattle.resp_core.specs.Trees.{Tree}
use Rattle.resp_core.specs.Promise.{MayRefuse}
use Rattle.resp_core.specs.Counts.{Counts, counted}
use Rattle.resp_core.specs.Incoming.{Reading, SpelledInOrder, Takes, IsSound, ReadsWhile, BeginsInOrder, Lacks, Awaits, Reads, Seeks, Stops, Meets}
use Rattle.resp_core.proofs.Promises.{RefusesNone-none, RefusesNone-append}
use Rattle.resp_core.proofs.LawProofs.{one_value}
use Rattle.resp_core.proofs.GivenReads.{given_in, given_both, allowed_both}

pub Consumes-append : (a b c : Option (List ℕ)) (xs ys : List ℕ) → Consumes a b xs → Consumes b c ys → Consumes a c (xs ++ ys)
Consumes-append None b c xs ys p q = tt
Consumes-append (Some a) None c xs ys p q = absurd p
Consumes-append (Some a) (Some b) None xs ys p q = absurd q
Consumes-append (Some a) (Some b) (Some c) xs ys p q = p ∙ ap (λ s. xs ++ s) q ∙ sym (append_assoc xs ys c)

pub Consumes-none : (a : Option (List ℕ)) → Consumes a a []
Consumes-none None = tt
Consumes-none (Some a) = refl

pub SpelledInOrder-append : (limit : ℕ) (xs ys : List ℕ) (ss ts : List Tree) → SpelledInOrder limit xs ss → SpelledInOrder limit ys ts
    → SpelledInOrder limit (xs ++ ys) (ss ++ ts)
SpelledInOrder-append limit xs ys [] ts p q = subst (λ k. SpelledInOrder limit (k ++ ys) ts) (sym p) q
SpelledInOrder-append limit xs ys (s ∷ ss) ts p q =
    (p.0, p.1 ++ ys, ap (λ s. s ++ ys) p.2 ∙ append_assoc p.0 p.1 ys, p.3, SpelledInOrder-append limit p.1 ys ss ts p.4 q)

-- room for both
pub both_fit : (xs ys : List ℕ) (a b c : ℕ) → length xs + 4096 * b ≤ 4096 * a → length ys + 4096 * c ≤ 4096 * b → length (xs ++ ys) + 4096 * c ≤ 4096 * a
both_fit xs ys a b c p q =
    let apart : length xs + (length ys + 4096 * c) ≤ 4096 * a = le_trans (add-le-add (le_refl (length xs)) q) p in
    let together : length xs + length ys + 4096 * c ≤ 4096 * a = subst (λ k. k ≤ 4096 * a) (sym (add_assoc (length xs) (length ys) (4096 * c))) apart in
    subst (λ k. k + 4096 * c ≤ 4096 * a) (sym (length-append xs ys)) together

abbrev pub Takes-append : {a b c : Reading} {ss ts : List Tree} → Takes a b ss → Takes b c ts → Takes a c (ss ++ ts)
Takes-append {a} {b} {c} {ss} {ts} p q = record {
  got = p.got ++ q.got;
  bytes = p.bytes ++ q.bytes;
  consumed = Consumes-append a.unread b.unread c.unread p.got q.got p.consumed q.consumed;
  spells = SpelledInOrder-append a.limit p.bytes q.bytes ss ts p.spells (subst (λ k. SpelledInOrder k q.bytes ts) p.same_limit q.spells);
  joins = sym (append_assoc a.held p.got q.got) ∙ ap (λ s. s ++ q.got) p.joins ∙ append_assoc p.bytes b.held q.got
      ∙ ap (λ s. p.bytes ++ s) q.joins ∙ sym (append_assoc p.bytes q.bytes c.held);
  room = both_fit p.got q.got a.allowed b.allowed c.allowed p.room q.room;
  reads = λ h. q.reads (subst (λ k. k < 2 ^ 64 - 1) (sym (p.reads h)) h) ∙ p.reads h;
  promise = q.promise ∙ p.promise;
  same_limit = q.same_limit ∙ p.same_limit;
}

-- what was so before the last read of the one or of the other
pub ReadsWhile-append : (P Q Such : List ℕ → Type 0) (a b c : Reading) {ss : List Tree} (p : Takes a b ss) (got : List ℕ)
    → ((bytes : List ℕ) → P bytes → Such bytes) → ((more : List ℕ) → Q (b.held ++ more) → Such (p.bytes ++ (b.held ++ more)))
    → ReadsWhile P a b p.got → ReadsWhile Q b c got → ReadsWhile Such a c (p.got ++ got)
ReadsWhile-append P Q Such a b c p got first second (inl n) (inl m) =
    inl (m.0 ∙ n.0, m.1 ∙ n.1, ap (λ s. s ++ got) n.2 ∙ m.2)
ReadsWhile-append P Q Such a b c p got first second (inr l) (inl m) =
    inr (l.0, l.1, l.2, ap (λ s. p.got ++ s) m.2 ∙ append-nil p.got ∙ l.3, l.4, l.5, l.6 ∙ ap (λ n. n + 1 + l.2) (sym m.0), first (a.held ++ l.0) l.7)
ReadsWhile-append P Q Such a b c p got first second before (inr l) =
    let n = given_in P a b p.got before in
    let joined : a.held ++ (p.got ++ l.0) ≡ p.bytes ++ (b.held ++ l.0) = sym (append_assoc a.held p.got l.0) ∙ ap (λ s. s ++ l.0) p.joins ∙ append_assoc p.bytes b.held l.0 in
    inr (
      p.got ++ l.0,
      l.1,
      n.0 + l.2,
      ap (λ s. p.got ++ s) l.3 ∙ sym (append_assoc p.got l.0 l.1),
      given_both n.0 l.2 p.got l.0 n.2 l.4,
      l.5,
      allowed_both n.0 l.2 a.allowed b.allowed c.allowed n.1 l.6,
      subst Such (sym joined) (second l.0 l.7),
    )

-- the first trees are there
pub BeginsInOrder-first : (limit : ℕ) (ss ts : List Tree) (bytes rest : List ℕ) → BeginsInOrder limit (ss ++ ts) bytes rest → (behind : List ℕ) × BeginsInOrder limit ss bytes behind × BeginsInOrder limit ts behind rest
BeginsInOrder-first limit [] ts bytes rest h = (bytes, ([], refl, refl), h)
BeginsInOrder-first limit (s ∷ ss) ts bytes rest h =
    let value = h.1 in
    let more = BeginsInOrder-first limit ss ts (value.1 ++ rest) rest (value.1, value.4, refl) in
    let parts : value.1 ++ rest ≡ more.1.0 ++ more.0 = more.1.2 in
    let all : bytes ≡ (value.0 ++ more.1.0) ++ more.0 = h.2 ∙ ap (λ x. x ++ rest) value.2 ∙ append_assoc value.0 value.1 rest ∙ ap (λ x. value.0 ++ x) parts ∙ sym (append_assoc value.0 more.1.0 more.0) in
    (more.0, (value.0 ++ more.1.0, (value.0, more.1.0, refl, value.3, more.1.1), all), more.2)

-- behind trees that are there, in one way
pub BeginsInOrder-behind : (limit : ℕ) (ss ts : List Tree) (bytes more rest : List ℕ) → SpelledInOrder limit bytes ss → BeginsInOrder limit (ss ++ ts) (bytes ++ more) rest → BeginsInOrder limit ts more rest
BeginsInOrder-behind limit [] ts bytes more rest p h = subst (λ x. BeginsInOrder limit ts (x ++ more) rest) p h
BeginsInOrder-behind limit (s ∷ ss) ts bytes more rest p h =
    let value = h.1 in
    let here : bytes ++ more ≡ p.0 ++ (p.1 ++ more) = ap (λ x. x ++ more) p.2 ∙ append_assoc p.0 p.1 more in
    let there : bytes ++ more ≡ value.0 ++ (value.1 ++ rest) = h.2 ∙ ap (λ x. x ++ rest) value.2 ∙ append_assoc value.0 value.1 rest in
    let one = one_value limit 1 p.0 value.0 (p.1 ++ more) (value.1 ++ rest) s s p.3 value.3 (sym here ∙ there) in
    let behind : p.1 ++ more ≡ value.1 ++ rest = append_cancel_left p.0 (p.1 ++ more) (value.1 ++ rest) (sym here ∙ there ∙ ap (λ x. x ++ (value.1 ++ rest)) (sym one.0)) in
    BeginsInOrder-behind limit ss ts p.1 more rest p.4 (value.1, value.4, behind)

pub Lacks-first : (limit : ℕ) (ss ts : List Tree) (bytes : List ℕ) → Lacks limit ss bytes → Lacks limit (ss ++ ts) bytes
Lacks-first limit ss ts bytes lacks rest h = let first = BeginsInOrder-first limit ss ts bytes rest h in lacks first.0 first.1

pub Lacks-behind : (limit : ℕ) (ss ts : List Tree) (bytes more : List ℕ) → SpelledInOrder limit bytes ss → Lacks limit ts more → Lacks limit (ss ++ ts) (bytes ++ more)
Lacks-behind limit ss ts bytes more p lacks rest h = lacks rest (BeginsInOrder-behind limit ss ts bytes more rest p h)

pub Awaits-behind : (limit : ℕ) (ss ts : List Tree) (bytes more : List ℕ) → SpelledInOrder limit bytes ss → Awaits limit ts more → Awaits limit (ss ++ ts) (bytes ++ more)
Awaits-behind limit ss ts bytes more p awaits rest h = awaits rest (BeginsInOrder-behind limit ss ts bytes more rest p h)

pub IsSound-none : (a : Counts) → IsSound a a
IsSound-none a = record { refused = refl; empty = refl; kept = RefusesNone-none a.promise a.reads }

pub IsSound-append : {a b c : Counts} → b.promise ≡ a.promise → IsSound a b → IsSound b c → IsSound a c
IsSound-append {a} {b} {c} e p q = record {
  refused = q.refused ∙ p.refused;
  empty = q.empty ∙ p.empty;
  kept = RefusesNone-append a.promise b.promise a.reads b.reads c.reads e p.kept q.kept;
}

pub Reads-append : {a b c : Reading} {ss ts : List Tree} → Reads a b ss → Reads b c ts → Reads a c (ss ++ ts)
Reads-append {a} {b} {c} {ss} {ts} p q = record {
  takes = Takes-append p.takes q.takes;
  sound = IsSound-append p.takes.promise p.sound q.sound;
  needed = ReadsWhile-append (Lacks a.limit ss) (Lacks b.limit ts) (Lacks a.limit (ss ++ ts)) a b c p.takes q.takes.got (Lacks-first a.limit ss ts)
      (λ more lacks. Lacks-behind a.limit ss ts p.takes.bytes (b.held ++ more) p.takes.spells (subst (λ k. Lacks k ts (b.held ++ more)) p.takes.same_limit lacks)) p.needed q.needed;
}

abbrev pub Takes-none : (a : Reading) → Takes a a []
Takes-none a = record {
  got = [];
  bytes = [];
  consumed = Consumes-none a.unread;
  spells = refl;
  joins = append-nil a.held;
  room = subst (λ k. k ≤ 4096 * a.allowed) (sym (add_comm 0 (4096 * a.allowed) ∙ add-zero (4096 * a.allowed))) (le_refl (4096 * a.allowed));
  reads = λ _. refl;
  promise = refl;
  same_limit = refl;
}

pub Reads-none : (a : Reading) → Reads a a []
Reads-none a = record { takes = Takes-none a; sound = IsSound-none a.counts; needed = inl (refl, refl, refl) }

pub Seeks-none : (a : Reading) → Seeks a a []
Seeks-none a = record { takes = Takes-none a; sound = IsSound-none a.counts; needed = inl (refl, refl, refl) }

-- what was read for the trees alone
pub Reads-seek : {a b : Reading} {ts : List Tree} → Reads a b ts → Seeks a b ts
Reads-seek p = record {
  takes = p.takes;
  sound = p.sound;
  needed = elim p.needed [ inl none ↦ inl none | inr l ↦ inr (l.0, l.1, l.2, l.3, l.4, l.5, l.6, λ rest h. absurd (l.7 rest h)) ];
}

pub Seeks-after : {a b c : Reading} {ss ts : List Tree} → Reads a b ss → Seeks b c ts → Seeks a c (ss ++ ts)
Seeks-after {a} {b} {c} {ss} {ts} p q = record {
  takes = Takes-append p.takes q.takes;
  sound = IsSound-append p.takes.promise p.sound q.sound;
  needed = ReadsWhile-append (Lacks a.limit ss) (Awaits b.limit ts) (Awaits a.limit (ss ++ ts)) a b c p.takes q.takes.got (λ bytes lacks rest h. absurd (Lacks-first a.limit ss ts bytes lacks rest h))
      (λ more awaits. Awaits-behind a.limit ss ts p.takes.bytes (b.held ++ more) p.takes.spells (subst (λ k. Awaits k ts (b.held ++ more)) p.takes.same_limit awaits)) p.needed q.needed;
}

-- behind what was read before, whichever way further values are sought behind it
pub Stops-behind : {a b c : Reading} {ss ts : List Tree} → Takes a b ss → IsSound a.counts b.counts → (Seeks b c ts → Seeks a c (ss ++ ts)) → Stops b c ts → Stops a c (ss ++ ts)
Stops-behind {a} {b} {c} p sound seek q = record {
  takes = Takes-append p q.takes;
  unfinished = q.unfinished;
  cause = elim q.cause [
    | inl e ↦ inl (e.0 ∙ ap counted sound.refused, subst (λ k. MayRefuse k c.counts.reads) p.promise e.1)
    | inr (inl e) ↦ inr (inl (
      e.0 ∙ ap counted sound.empty,
      e.1,
      RefusesNone-append a.counts.promise b.counts.promise a.counts.reads b.counts.reads c.counts.reads p.promise sound.kept e.2,
    ))
    | inr (inr e) ↦ inr (inr (seek e.0, e.1))
  ];
}

pub Stops-after : {a b c : Reading} {ss ts : List Tree} → Reads a b ss → Stops b c ts → Stops a c (ss ++ ts)
Stops-after p q = Stops-behind p.takes p.sound (Seeks-after p) q

pub Meets-after : {a b c : Reading} {ss ts : List Tree} → Reads a b ss → Meets b c ts → Meets a c (ss ++ ts)
Meets-after p q = record { seeks = Seeks-after p q.seeks; faulty = q.faulty }
