-- What became of one node, link call by link call.
use Rattle.std.specs.Prelude.{◌||◌}
use Rattle.std.proofs.Common.{◌≡◌, ◌≢◌, ℕ, Bool, true, false, List, [], ◌∷◌, ◌++◌, refl, sym, ap, ◌∙◌, subst, append-nil, append_assoc, arith}
use Rattle.std.proofs.lemmas.Bool.{false≢true}
use Rattle.resp_core.specs.Trees.{Tree}
use Rattle.resp_link.specs.Replies.{replies_of}
use Rattle.resp_link.specs.Call.{Seen}
use Rattle.cluster_routing.specs.Address.{Address}
use Rattle.cluster_routing.specs.Lists.{concat}
use Rattle.cluster_calls.specs.Links.Request.{Request, bytes_of}
use Rattle.cluster_calls.specs.Links.Log.{has_lost}
use Rattle.cluster_calls.specs.Links.Faults.{LinkFault, refusal_by_fault}
use Rattle.cluster_calls.specs.Links.Events.{Ending, answers, fails, FailsFrom, in_sending, in_receiving, EndsBy, AllTo, reply_count, pair_up, fault_by}
use Rattle.cluster_calls.specs.Links.Nodes.{LostBy, NodeMade, is_in_sending}
use Rattle.cluster_calls.proofs.LinkLaws.Bytes.{Appends-none, Appends-append, Came-none, Came-append, bytes_of-append, IsSentFor-cons}
use Rattle.cluster_calls.proofs.LinkLaws.EndLaws.{failed_came, answered_came, Pairs, ends_pairs, ends_usable}
use Rattle.cluster_calls.proofs.LinkLaws.Pairing.{none_lost, some_lost}

pub NodeMade-none : (s : Seen) (fault : LinkFault) → NodeMade s s [] [] false fault
NodeMade-none s fault = record {
  write_failed = false;
  bytes = [];
  sent = Appends-none s.sent;
  are = refl;
  came = Came-none s s refl refl refl (λ o. refl) (refl, refl);
  kept = λ e. (refl, refl);
  failed = λ e. absurd (false≢true e);
  was_open = λ some. absurd (some refl);
  untouched = λ e. refl;
}

no_calls : (calls : List (List Request)) → (calls ≢ [] → ⊥) → calls ≡ []
no_calls [] h = refl
no_calls (c ∷ calls) h = absurd (h (λ e. cc e))

-- ---- an answered link call, and then others

LostBy-cons : (a b c : Seen) (qs : List Request) (calls : List (List Request)) (t ts replies : List Tree) (f : LinkFault) (w : Bool) → EndsBy a b qs t (answers replies) → LostBy b c calls ts f w → LostBy a c (qs ∷ calls) (t ++ ts) f w
LostBy-cons a b c qs calls t ts replies f w d l = record {
  mid = l.mid;
  before = qs ∷ l.before;
  last = l.last;
  earlier = t ++ l.earlier;
  later = l.later;
  in_order = ap (λ r. qs ∷ r) l.in_order;
  values = ap (λ r. t ++ r) l.values ∙ sym (append_assoc t l.earlier l.later);
  sent = rw (bytes_of-append qs (concat l.before)) (Appends-append a.sent b.sent l.mid.sent (bytes_of qs) (bytes_of (concat l.before)) d.contract.sent.written l.sent);
  came = Came-append a b l.mid t l.earlier d.contract.usable (answered_came a b (bytes_of qs) (reply_count qs) t replies d) l.came;
  fails = l.fails;
  by_write = l.by_write;
}

NodeMade-ok : (a b c : Seen) (qs : List Request) (calls : List (List Request)) (t ts replies : List Tree) (l : Bool) (f : LinkFault) → EndsBy a b qs t (answers replies) → NodeMade b c calls ts l f → NodeMade a c (qs ∷ calls) (t ++ ts) l f
NodeMade-ok a b c qs calls t ts replies l f d n = record {
  write_failed = n.write_failed;
  bytes = bytes_of qs ++ n.bytes;
  sent = Appends-append a.sent b.sent c.sent (bytes_of qs) n.bytes d.contract.sent.written n.sent;
  are = IsSentFor-cons n.write_failed qs calls n.bytes n.are;
  came = Came-append a b c t ts d.contract.usable (answered_came a b (bytes_of qs) (reply_count qs) t replies d) n.came;
  kept = λ e. ((n.kept e).0, (n.kept e).1 ∙ d.contract.usable ∙ sym d.contract.was_open);
  failed = λ k. ((n.failed k).0, LostBy-cons a b c qs calls t ts replies f n.write_failed d (n.failed k).1);
  was_open = λ some. d.contract.was_open;
  untouched = λ e. cc e;
}

-- ---- a failed link call, the last one to its node

lost_alone : (a b : Seen) (qs : List Request) (t : List Tree) (f : LinkFault) (d : FailsFrom a b (bytes_of qs) (reply_count qs) t (refusal_by_fault f)) → LostBy a b (qs ∷ []) t f (is_in_sending d)
lost_alone a b qs t f d = record {
  mid = a;
  before = [];
  last = qs;
  earlier = [];
  later = t;
  in_order = refl;
  values = refl;
  sent = Appends-none a.sent;
  came = Came-none a a refl refl refl (λ o. refl) (refl, refl);
  fails = d;
  by_write = refl;
}

NodeMade-last : (a b : Seen) (qs : List Request) (t : List Tree) (f : LinkFault) → FailsFrom a b (bytes_of qs) (reply_count qs) t (refusal_by_fault f) → NodeMade a b (qs ∷ []) t true f
NodeMade-last a b qs t f (in_sending s is nothing) = record {
  write_failed = true;
  bytes = s.sent.front;
  sent = s.sent.written;
  are = ([], qs, s.sent.front, s.sent.rest, refl, sym s.sent.joins, refl);
  came = failed_came a b (bytes_of qs) (reply_count qs) t (refusal_by_fault f) (in_sending s is nothing);
  kept = λ e. absurd (false≢true (sym e));
  failed = λ e. (s.closed, lost_alone a b qs t f (in_sending s is nothing));
  was_open = λ some. s.was_open;
  untouched = λ e. cc e;
}
NodeMade-last a b qs t f (in_receiving r values) = record {
  write_failed = false;
  bytes = bytes_of qs;
  sent = r.sent.written;
  are = ap bytes_of (sym (append-nil qs));
  came = failed_came a b (bytes_of qs) (reply_count qs) t (refusal_by_fault f) (in_receiving r values);
  kept = λ e. absurd (false≢true (sym e));
  failed = λ e. (r.closed, lost_alone a b qs t f (in_receiving r values));
  was_open = λ some. r.was_open;
  untouched = λ e. cc e;
}

NodeMade-err : (a b c : Seen) (qs : List Request) (calls : List (List Request)) (t ts : List Tree) (e : LinkFault) (l : Bool) (f : LinkFault) → ts ≡ [] → EndsBy a b qs t (fails e) → NodeMade b c calls ts l f → NodeMade a c (qs ∷ calls) (t ++ ts) true e
NodeMade-err a b c qs calls t ts e l f quiet d n =
    let shut : b.usable ≡ false = ends_usable a b qs t (fails e) d in
    let none : calls ≡ [] = no_calls calls (λ some. false≢true (sym shut ∙ n.was_open some)) in
    let same : c ≡ b = n.untouched none in
    let last : NodeMade a b (qs ∷ []) t true e = NodeMade-last a b qs t e d in
    let values : t ≡ t ++ ts = sym (append-nil t) ∙ ap (λ s. t ++ s) (sym quiet) in
    subst (λ s. NodeMade a s (qs ∷ calls) (t ++ ts) true e) (sym same)
    (subst (λ k. NodeMade a b (qs ∷ k) (t ++ ts) true e) (sym none) (subst (λ v. NodeMade a b (qs ∷ []) v true e) values last))

-- ---- one more link call before others

pub lost_here : (a : Address) (qs : List Request) (rs replies : List Tree) (place : ℕ) → Pairs rs qs (answers replies) → has_lost a (pair_up rs place qs) ≡ false
lost_here a qs rs replies place p = none_lost a qs rs place (let e = p.0 in omega arith)

pub NodeMade-append : (a b c : Seen) (node : Address) (qs : List Request) (calls : List (List Request)) (t ts : List Tree) (e : Ending) (place : ℕ) (l : Bool) (f : LinkFault) → qs ≢ [] → AllTo node qs
    → (b.usable ≡ false → ts ≡ []) → EndsBy a b qs t e → NodeMade b c calls ts l f → NodeMade a c (qs ∷ calls) (t ++ ts) (has_lost node (pair_up (replies_of t) place qs) || l) (fault_by e f)
NodeMade-append a b c node qs calls t ts (answers replies) place l f some all quiet d n =
    rw (lost_here node qs (replies_of t) replies place (ends_pairs a b qs t (answers replies) some d)) (NodeMade-ok a b c qs calls t ts replies l f d n)
NodeMade-append a b c node qs calls t ts (fails fault) place l f some all quiet d n =
    rw (some_lost node qs (replies_of t) place all (ends_pairs a b qs t (fails fault) some d)) (NodeMade-err a b c qs calls t ts fault l f (quiet (ends_usable a b qs t (fails fault) d)) d n)
