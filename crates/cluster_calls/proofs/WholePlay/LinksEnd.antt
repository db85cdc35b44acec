-- The link calls of the whole runs, each as its link's contract says.
use Rattle.std.proofs.Common.{◌≡◌, ℕ, ◌+◌, ◌≤◌, IsTrue, List, [], ◌∷◌, ◌++◌, filter, length, inl, inr, refl, sym, ap, ◌∙◌, append_assoc, append-nil, arith}
use Rattle.resp_core.specs.Errors.{by_cause}
use Rattle.resp_core.specs.declared.errors.redis_error.Cause.TheVariants.{Io}
use Rattle.resp_core.specs.Incoming.{SpelledInOrder, Lacks}
use Rattle.resp_core.specs.Standing.{BeginsUnfinished}
use Rattle.resp_core.specs.Trees.{Tree}
use Rattle.resp_core.proofs.Computing.{reading}
use Rattle.resp_core.proofs.Fronts.{begins_unfinished}
use Rattle.resp_link.specs.Replies.{is_push, replies_of, ends_in_reply}
use Rattle.cluster_calls.specs.Links.Events.{AnswersFrom, FailsFrom, in_receiving}
use Rattle.cluster_calls.specs.WholeCalls.MixedPlay.{link, ended_link}

-- no bytes are no value and no fault
no_bytes : BeginsUnfinished 100 []
unfolding reading
no_bytes = begins_unfinished 100 [] refl

-- nor some values
no_values : (t : Tree) (ts : List Tree) → Lacks 100 (t ∷ ts) []
no_values t ts rest h = no_bytes.0 t (h.1.1 ++ rest) (h.1.0, h.1.3, h.2 ∙ ap (λ bs. bs ++ rest) h.1.2 ∙ append_assoc h.1.0 h.1.1 rest)

-- a text that one read gives whole: it spells these values, of which none is a push
pub record IsOneRead (got : List ℕ) (trees : List Tree) : Type 0 where
  pub spells : SpelledInOrder 100 got trees
  pub some : 1 ≤ length got
  pub few : length got ≤ 4096
  pub none : filter is_push trees ≡ []
  pub all : replies_of trees ≡ trees
  pub settled : IsTrue (ends_in_reply trees)

-- one read gives them all
pub answers_by_one_read : (sent out unread got : List ℕ) (reads count : ℕ) (t : Tree) (ts : List Tree) → count ≡ length (t ∷ ts) → IsOneRead got (t ∷ ts)
    → AnswersFrom (link sent (got ++ unread) reads) (link (sent ++ out) unread (reads + 1)) out count (t ∷ ts) (t ∷ ts)
answers_by_one_read sent out unread got reads count t ts counted read = record {
  offset = 0;
  size = length (t ∷ ts);
  whole = omega (arith, counted);
  contract = record {
    was_open = refl;
    usable = refl;
    owes = refl;
    flushed = refl;
    sent = record { written = refl; sound = record { promise = refl; refused = refl; no_room = refl; kept = tt } };
    allowed = 4294967295;
    takes = record {
      dropped = [];
      reads = record {
        trees = t ∷ ts;
        reads = record {
          takes = record {
            got = got;
            bytes = got;
            consumed = refl;
            spells = read.spells;
            joins = sym (append-nil got);
            room = omega (arith, read.few);
            reads = λ below. omega arith;
            promise = refl;
            same_limit = refl;
          };
          sound = record { refused = refl; empty = refl; kept = tt };
          needed = inr ([], got, 0, refl, (omega arith, omega arith), (read.some, omega (arith, read.few)), refl, no_values t ts);
        };
        set_aside = sym read.none;
        rest = read.all;
        settled = read.settled;
      };
      dropped_count = refl;
      taken_count = refl;
    };
  };
  values = refl;
}

-- one read gives nothing
pub fails_by_no_bytes : (sent out : List ℕ) (reads count : ℕ) → 1 ≤ count → FailsFrom (link sent [] reads) (ended_link (sent ++ out) (reads + 1)) out count [] (by_cause Io)
fails_by_no_bytes sent out reads count some = in_receiving
    (record {
      was_open = refl;
      closed = refl;
      owes = refl;
      flushed = refl;
      sent = record { written = refl; sound = record { promise = refl; refused = refl; no_room = refl; kept = tt } };
      limit = refl;
      lacks = record {
        allowed = 4294967295;
        held = [];
        replies = [];
        ends = record {
          trees = [];
          ends = inl (
            record {
              takes = record { got = []; bytes = []; consumed = refl; spells = refl; joins = refl; room = omega arith; reads = λ below. omega arith; promise = refl; same_limit = refl };
              unfinished = no_bytes;
              cause = inr (inl (refl, refl, tt));
            },
            refl,
          );
          set_aside = refl;
          rest = refl;
        };
        fewer = omega (arith, some);
      };
    })
    refl
