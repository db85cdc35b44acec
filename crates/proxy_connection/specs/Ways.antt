-- How the words of guests are understood, and how replies are written.
use Rattle.std.specs.Prelude.{◌≡◌, ℕ, Bool, false, List, [], ◌∷◌}
use Rattle.resp_requests.specs.declared.fault.Fault.{Fault}
use Rattle.resp_requests.specs.Requests.{Command}
use Rattle.proxy_core.specs.declared.queue.Entry.{Entry}
use Rattle.proxy_connection.specs.declared.translator.Translator.{Ghosts}

-- `overlaps`: whether the order of two commands can be seen. `written`: the bytes of a reply. `translates t words
-- entry t'`: understood by t, the words put this entry into their guest's queue, and t' understands those behind.
-- `refuses t fault reply`: what is answered to bytes that are no request. `has_ended t`: nothing more is read.
pub record Ways (T C V : Type 0) : Type 1 where
  pub overlaps : C → C → Bool
  pub written : V → List ℕ
  pub translates : T → Command → Entry C V → T → Type 0
  pub refuses : T → Fault → V → Type 0
  pub has_ended : T → Bool

-- how words are understood and replies written, in one: the order of commands can be seen so, replies have these bytes,
-- and a translator understands words so
abbrev pub ways : {T C V : Type 0} → (C → C → Bool) → (V → List ℕ) → Ghosts T C V → Ways T C V
ways overlaps written words = record {
  overlaps = overlaps;
  written = written;
  translates = words.translates;
  refuses = words.refuses;
  has_ended = words.has_ended;
}

-- Command after command, each by what was said before it, and none behind the last one of a guest that ended.
abbrev pub Understands : {T C V : Type 0} → Ways T C V → T → List Command → List (Entry C V) → T → Type 0
Understands w t [] [] t' = t' ≡ t
Understands {T} w t (c ∷ cs) (e ∷ es) t' =
    (w.has_ended t ≡ false) × (t1 : T) × w.translates t c e t1 × Understands w t1 cs es t'
Understands w t _ _ t' = ⊥
