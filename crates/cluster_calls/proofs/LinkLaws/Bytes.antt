-- Bytes sent and bytes taken, one link call after another.
use Rattle.std.specs.Prelude.{filter}
use Rattle.std.specs.Io.KnownBytes.{Appends, Consumes, prepend_known}
use Rattle.std.proofs.Common.{◌≡◌, ℕ, List, [], ◌∷◌, ◌++◌, true, false, Bool, Option, Some, None, refl, sym, ap, ◌∙◌, subst, append_assoc, append-nil}
use Rattle.std.proofs.lemmas.List.Elements.{filter-append}
use Rattle.resp_core.specs.Trees.{Tree}
use Rattle.resp_core.specs.Incoming.{Reading, Takes, SpelledInOrder}
use Rattle.resp_link.specs.Replies.{is_push}
use Rattle.resp_link.specs.Call.{Seen, SamePromises}
use Rattle.cluster_calls.specs.Links.Request.{Request, outgoing, bytes_of}
use Rattle.cluster_routing.specs.Lists.{concat}
use Rattle.cluster_calls.specs.Links.Nodes.{Came, coming, IsSentFor}

pub Appends-none : (a : Option (List ℕ)) → Appends a a []
Appends-none None = tt
Appends-none (Some a) = sym (append-nil a)

pub Appends-append : (a b c : Option (List ℕ)) (xs ys : List ℕ) → Appends a b xs → Appends b c ys → Appends a c (xs ++ ys)
Appends-append None b c xs ys p q = tt
Appends-append (Some a) None c xs ys p q = absurd p
Appends-append (Some a) (Some b) None xs ys p q = absurd q
Appends-append (Some a) (Some b) (Some c) xs ys p q = q ∙ ap (λ s. s ++ ys) p ∙ append_assoc a xs ys

Consumes-held : (unread unread' : Option (List ℕ)) (held held' got bytes : List ℕ) → Consumes unread unread' got → held ++ got ≡ bytes ++ held'
    → Consumes (prepend_known held unread) (prepend_known held' unread') bytes
Consumes-held None unread' held held' got bytes c j = tt
Consumes-held (Some xs) None held held' got bytes c j = absurd c
Consumes-held (Some xs) (Some ys) held held' got bytes c j =
    ap (λ s. held ++ s) c ∙ sym (append_assoc held got ys) ∙ ap (λ s. s ++ ys) j ∙ append_assoc bytes held' ys

Consumes-same : (a : Option (List ℕ)) → Consumes a a []
Consumes-same None = tt
Consumes-same (Some a) = refl

Consumes-append : (a b c : Option (List ℕ)) (xs ys : List ℕ) → Consumes a b xs → Consumes b c ys → Consumes a c (xs ++ ys)
Consumes-append None b c xs ys p q = tt
Consumes-append (Some a) None c xs ys p q = absurd p
Consumes-append (Some a) (Some b) None xs ys p q = absurd q
Consumes-append (Some a) (Some b) (Some c) xs ys p q = p ∙ ap (λ s. xs ++ s) q ∙ sym (append_assoc xs ys c)

SpelledInOrder-append : (limit : ℕ) (xs ys : List ℕ) (vs ws : List Tree) → SpelledInOrder limit xs vs → SpelledInOrder limit ys ws → SpelledInOrder limit (xs ++ ys) (vs ++ ws)
SpelledInOrder-append limit xs ys [] ws p q = rw p q
SpelledInOrder-append limit xs ys (v ∷ vs) ws p q =
    (p.0, p.1 ++ ys, ap (λ s. s ++ ys) p.2 ∙ append_assoc p.0 p.1 ys, p.3, SpelledInOrder-append limit p.1 ys vs ws p.4 q)

-- nothing was taken, and what was held is unread
pub Came-none : (a b : Seen) → b.unread ≡ a.unread → b.pushes ≡ a.pushes → b.limit ≡ a.limit → (b.usable ≡ true → a.held ≡ b.held) → SamePromises a b → Came a b []
Came-none a b l p m k same = record {
  bytes = [];
  unread = a.held;
  spells = refl;
  consumed = subst (λ left. Consumes (coming a) (prepend_known a.held left) []) (sym l) (Consumes-same (coming a));
  kept = k;
  set_aside = p ∙ sym (append-nil a.pushes);
  promises = same;
  same_limit = m;
}

-- a reading of a link, whatever is unread behind it
pub came : (a b : Seen) (r r' : Reading) (values : List Tree) → Takes r r' values → r.unread ≡ a.unread → r.held ≡ a.held → r.limit ≡ a.limit → b.limit ≡ a.limit → r'.unread ≡ b.unread
    → (b.usable ≡ true → r'.held ≡ b.held) → b.pushes ≡ a.pushes ++ filter is_push values → SamePromises a b → Came a b values
came a b r r' values t l h m m' l' k p same = record {
  bytes = t.bytes;
  unread = r'.held;
  spells = subst (λ n. SpelledInOrder n t.bytes values) m t.spells;
  consumed =
      let c = Consumes-held r.unread r'.unread r.held r'.held t.got t.bytes t.consumed t.joins in
      let e1 : prepend_known r.held r.unread ≡ coming a = cc in
      subst (λ left. Consumes (coming a) (prepend_known r'.held left) t.bytes) l' (subst (λ k. Consumes k (prepend_known r'.held r'.unread) t.bytes) e1 c);
  kept = k;
  set_aside = p;
  promises = same;
  same_limit = m';
}

pub Came-append : (a b c : Seen) (vs ws : List Tree) → b.usable ≡ true → Came a b vs → Came b c ws → Came a c (vs ++ ws)
Came-append a b c vs ws u p q = record {
  bytes = p.bytes ++ q.bytes;
  unread = q.unread;
  spells = SpelledInOrder-append a.limit p.bytes q.bytes vs ws p.spells (subst (λ n. SpelledInOrder n q.bytes ws) p.same_limit q.spells);
  consumed =
      let first : Consumes (coming a) (coming b) p.bytes = subst (λ held. Consumes (coming a) (prepend_known held b.unread) p.bytes) (p.kept u) p.consumed in
      Consumes-append (coming a) (coming b) (prepend_known q.unread c.unread) p.bytes q.bytes first q.consumed;
  kept = q.kept;
  set_aside = rw filter-append (q.set_aside ∙ ap (λ x. x ++ filter is_push ws) p.set_aside ∙ append_assoc a.pushes (filter is_push vs) (filter is_push ws));
  promises = (q.promises.0 ∙ p.promises.0, q.promises.1 ∙ p.promises.1);
  same_limit = q.same_limit ∙ p.same_limit;
}

-- ---- what was sent

pub bytes_of-append : (qs rs : List Request) → bytes_of (qs ++ rs) ≡ bytes_of qs ++ bytes_of rs
bytes_of-append [] rs = refl
bytes_of-append (q ∷ qs) rs = ap (λ s. outgoing q ++ s) (bytes_of-append qs rs) ∙ sym (append_assoc (outgoing q) (bytes_of qs) (bytes_of rs))

-- one more link call before them
pub IsSentFor-cons : (failed : Bool) (qs : List Request) (calls : List (List Request)) (sent : List ℕ) → IsSentFor failed calls sent → IsSentFor failed (qs ∷ calls) (bytes_of qs ++ sent)
IsSentFor-cons false qs calls sent h = ap (λ s. bytes_of qs ++ s) h ∙ sym (bytes_of-append qs (concat calls))
IsSentFor-cons true qs calls sent h = (
  qs ∷ h.0,
  h.1,
  h.2,
  h.3,
  ap (λ r. qs ∷ r) h.4,
  h.5,
  ap (λ s. bytes_of qs ++ s) h.6 ∙ sym (append_assoc (bytes_of qs) (bytes_of (concat h.0)) h.2) ∙ ap (λ s. s ++ h.2) (sym (bytes_of-append qs (concat h.0))),
)
