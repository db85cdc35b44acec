-- the last value that was taken, put back
use Rattle.std.proofs.Common.{◌≡◌, ℕ, List, [], ◌∷◌, ◌++◌, sym, ap, ◌∙◌, subst, refl, append_assoc, append-nil, inl, inr}
use Rattle.resp_core.specs.Trees.{Tree}
use Rattle.resp_core.specs.Grammar.{Spells}
use Rattle.resp_core.specs.Standing.{BeginsFaulty, BeginsUnfinished, BeginsWith}
use Rattle.resp_core.specs.Incoming.{Reading, SpelledInOrder, BeginsInOrder, Lacks, Awaits, Reads, Seeks}
use Rattle.resp_core.proofs.LawProofs.{one_value, no_value_and_fault}
use Rattle.resp_core.proofs.Readings.{SpelledInOrder-append, BeginsInOrder-behind}

-- the bytes of the last value apart
spelled_apart : (limit : ℕ) (ss : List Tree) (t : Tree) (bytes : List ℕ) → SpelledInOrder limit bytes (ss ++ t ∷ [])
    → (front : List ℕ) × (value : List ℕ) × (bytes ≡ front ++ value) × SpelledInOrder limit front ss × Spells limit 1 value t
spelled_apart limit [] t bytes p = ([], p.0, p.2 ∙ ap (λ x. p.0 ++ x) p.4 ∙ append-nil p.0, refl, p.3)
spelled_apart limit (s ∷ ss) t bytes p =
    let more = spelled_apart limit ss t p.1 p.4 in
    (p.0 ++ more.0, more.1, p.2 ∙ ap (λ x. p.0 ++ x) more.2 ∙ sym (append_assoc p.0 more.0 more.1), (p.0, more.0, refl, p.3, more.3), more.4)

-- so far the bytes that turn out as these trees and one more held no other value
no_other : (limit : ℕ) (ss : List Tree) (t : Tree) (bytes last front rest behind : List ℕ) → Lacks limit (ss ++ t ∷ []) bytes → SpelledInOrder limit front ss → bytes ≡ front ++ rest
    → BeginsInOrder limit (t ∷ []) (rest ++ last) behind → (u : Tree) (rest' : List ℕ) → ¬ (BeginsWith limit u rest rest')
no_other limit ss t bytes last front rest behind lacks spelled parts value u rest' w =
    let here : rest ++ last ≡ w.0 ++ (rest' ++ last) = ap (λ x. x ++ last) w.2 ∙ append_assoc w.0 rest' last in
    let there : rest ++ last ≡ value.1.0 ++ (value.1.1 ++ behind) = value.2 ∙ ap (λ x. x ++ behind) value.1.2 ∙ append_assoc value.1.0 value.1.1 behind in
    let one = one_value limit 1 w.0 value.1.0 (rest' ++ last) (value.1.1 ++ behind) u t w.1 value.1.3 (sym here ∙ there) in
    let same : Spells limit 1 w.0 t = subst (λ (k : Tree). Spells limit 1 w.0 k) one.1 w.1 in
    lacks rest' (
      front ++ w.0,
      SpelledInOrder-append limit front w.0 ss (t ∷ []) spelled (w.0, [], sym (append-nil w.0), same, refl),
      parts ∙ ap (λ x. front ++ x) w.2 ∙ sym (append_assoc front w.0 rest'),
    )

no_fault : (limit : ℕ) (t : Tree) (last rest behind : List ℕ) → BeginsInOrder limit (t ∷ []) (rest ++ last) behind → ¬ (BeginsFaulty limit rest)
no_fault limit t last rest behind value f =
    let here : rest ++ last ≡ f.0 ++ (f.1 ++ last) = ap (λ x. x ++ last) f.3 ∙ append_assoc f.0 f.1 last in
    let there : rest ++ last ≡ value.1.0 ++ (value.1.1 ++ behind) = value.2 ∙ ap (λ x. x ++ behind) value.1.2 ∙ append_assoc value.1.0 value.1.1 behind in
    no_value_and_fault limit 1 value.1.0 f.0 (value.1.1 ++ behind) (f.1 ++ last) t value.1.3 f.2 (sym there ∙ here)

awaited : (limit : ℕ) (ss : List Tree) (t : Tree) (bytes last behind : List ℕ) → BeginsInOrder limit (ss ++ t ∷ []) (bytes ++ last) behind → Lacks limit (ss ++ t ∷ []) bytes → Awaits limit ss bytes
awaited limit ss t bytes last behind all lacks rest h =
    let joined : bytes ++ last ≡ h.0 ++ (rest ++ last) = ap (λ x. x ++ last) h.2 ∙ append_assoc h.0 rest last in
    let value = BeginsInOrder-behind limit ss (t ∷ []) h.0 (rest ++ last) behind h.1 (subst (λ (x : List ℕ). BeginsInOrder limit (ss ++ t ∷ []) x behind) joined all) in
    (no_other limit ss t bytes last h.0 rest behind lacks h.1 h.2 value, no_fault limit t last rest behind value)

-- Its bytes are held, and so it was only sought.
pub Reads-put_back : {a b : Reading} (ss : List Tree) (t : Tree) → Reads a b (ss ++ t ∷ []) → (held : List ℕ) × Seeks a (record b { held = held }) ss
Reads-put_back {a} {b} ss t r =
    let apart = spelled_apart a.limit ss t r.takes.bytes r.takes.spells in (
      apart.1 ++ b.held,
      record {
        takes = record {
          got = r.takes.got;
          bytes = apart.0;
          consumed = r.takes.consumed;
          spells = apart.3;
          joins = r.takes.joins ∙ ap (λ x. x ++ b.held) apart.2 ∙ append_assoc apart.0 apart.1 b.held;
          room = r.takes.room;
          reads = r.takes.reads;
          promise = r.takes.promise;
          same_limit = r.takes.same_limit;
        };
        sound = r.sound;
        needed = elim r.needed [
          | inl none ↦ inl none
          | inr l ↦ inr (
            l.0,
            l.1,
            l.2,
            l.3,
            l.4,
            l.5,
            l.6,
            awaited a.limit ss t (a.held ++ l.0) l.1 b.held
                (r.takes.bytes, r.takes.spells, append_assoc a.held l.0 l.1 ∙ ap (λ x. a.held ++ x) (sym l.3) ∙ r.takes.joins)
                l.7,
          )
        ];
      },
    )
