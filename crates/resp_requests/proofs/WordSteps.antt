-- Words, byte by byte.
use Rattle.std.proofs.Common.{◌≡◌, ℕ, zero, ◌<◌, ◌≤◌, ◌==◌, true, false, List, [], ◌∷◌, ◌++◌, Option, Some, None, refl, sym, ap, ◌∙◌, append_assoc, append-nil, arith, ◌-◌, length, get_or, take, drop, length-drop}
use Rattle.std.proofs.lemmas.List.{take_rest}
use Rattle.std.proofs.lemmas.Bool.Decides.{nat_tests}
use Rattle.resp_requests.specs.Words.{is_space, ends_word, Place, between, plain, double, single, Effect, nothing, more, ended, Step, on, in_word, is_escaped_quote, step, does, split}
use Rattle.resp_requests.specs.declared.stop.Stop.{Stop}
use Rattle.resp_requests.specs.declared.stop.Stop.TheVariants as stops
use Rattle.resp_requests.specs.Given.{Leaves}
use Rattle.resp_requests.specs.WordParts.{ends_at}
use Rattle.resp_requests.specs.WordRuns.{put_before, worded, after_words}

-- a byte more of the word
pub put_more : (w : List ℕ) (b : ℕ) (r : Option (List (List ℕ))) → put_before w (does (more b) r) ≡ put_before (w ++ b ∷ []) r
put_more [] b None = refl
put_more [] b (Some []) = refl
put_more [] b (Some (v ∷ vs)) = refl
put_more (c ∷ w) b None = refl
put_more (c ∷ w) b (Some []) = refl
put_more (c ∷ w) b (Some (v ∷ vs)) = ap (λ (x : List ℕ). Some ((c ∷ x) ∷ vs)) (sym (append_assoc w (b ∷ []) v))

pub put_none : (w : List ℕ) → put_before w None ≡ None
put_none [] = refl
put_none (c ∷ w) = refl

-- the word ends
pub put_worded : (w : List ℕ) (r : Option (List (List ℕ))) → put_before w (worded [] r) ≡ worded w r
put_worded [] None = refl
put_worded [] (Some ws) = refl
put_worded (c ∷ w) None = refl
put_worded (c ∷ w) (Some ws) = ap (λ (x : List ℕ). Some ((c ∷ x) ∷ ws)) (append-nil w)

pub after_word : (front : List (List ℕ)) (w : List ℕ) (r : Option (List (List ℕ))) → after_words front (worded w r) ≡ after_words (front ++ w ∷ []) r
after_word front w None = refl
after_word front w (Some ws) = ap (λ (x : List (List ℕ)). Some x) (sym (append_assoc front (w ∷ []) ws))

pub after_none : (front : List (List ℕ)) → after_words front None ≡ None
after_none front = refl

pub after_all : (front : List (List ℕ)) → after_words front (Some []) ≡ Some front
after_all front = ap (λ (x : List (List ℕ)). Some x) (append-nil front)

pub before_all : (r : Option (List (List ℕ))) → r ≡ after_words [] r
before_all None = refl
before_all (Some ws) = refl

does_nothing : (r : Option (List (List ℕ))) → does nothing r ≡ r
does_nothing None = refl
does_nothing (Some ws) = refl

does_ended : (r : Option (List (List ℕ))) → does ended r ≡ worded [] r
does_ended None = refl
does_ended (Some ws) = refl

done : Step → List ℕ → Option (List (List ℕ))
done s bs = does s.effect (split s.place s.taken bs)

by_step : (p : Place) (b : ℕ) (bs : List ℕ) (s : Step) → step p b bs ≡ s → split p zero (b ∷ bs) ≡ done s bs
unfolding split done
by_step between b bs s e = ap (λ (t : Step). done t bs) e
by_step plain b bs s e = ap (λ (t : Step). done t bs) e
by_step double b bs s e = ap (λ (t : Step). done t bs) e
by_step single b bs s e = ap (λ (t : Step). done t bs) e

is_done : (effect : Effect) (p : Place) (bs : List ℕ) → done (on effect p) bs ≡ does effect (split p zero bs)
unfolding done
is_done effect p bs = refl

pub double_more : (b : ℕ) (bs : List ℕ) → (b == 34) ≡ false → (b == 92) ≡ false → split double zero (b ∷ bs) ≡ does (more b) (split double zero bs)
double_more b bs p q = by_step double b bs (on (more b) double) (rw (p, q) refl) ∙ is_done (more b) double bs

pub single_more : (b : ℕ) (bs : List ℕ) → (b == 39) ≡ false → is_escaped_quote (b ∷ bs) ≡ false → split single zero (b ∷ bs) ≡ does (more b) (split single zero bs)
single_more b bs p q = by_step single b bs (on (more b) single) (rw (p, q) refl) ∙ is_done (more b) single bs

pub single_quote_more : (bs : List ℕ) → split single zero (92 ∷ 39 ∷ bs) ≡ does (more 39) (split single zero bs)
unfolding split
single_quote_more bs = refl

pub plain_more : (b : ℕ) (bs : List ℕ) → ends_word b ≡ false → (b == 34) ≡ false → (b == 39) ≡ false → split plain zero (b ∷ bs) ≡ does (more b) (split plain zero bs)
plain_more b bs e p q = by_step plain b bs (on (more b) plain) (rw (e, p, q) refl) ∙ is_done (more b) plain bs

pub plain_double : (bs : List ℕ) → split plain zero (34 ∷ bs) ≡ split double zero bs
plain_double bs = by_step plain 34 bs (on nothing double) refl ∙ is_done nothing double bs ∙ does_nothing (split double zero bs)

pub plain_single : (bs : List ℕ) → split plain zero (39 ∷ bs) ≡ split single zero bs
plain_single bs = by_step plain 39 bs (on nothing single) refl ∙ is_done nothing single bs ∙ does_nothing (split single zero bs)

pub space_goes : (b : ℕ) (bs : List ℕ) → is_space b ≡ true → split between zero (b ∷ bs) ≡ split between zero bs
space_goes b bs e = by_step between b bs (on nothing between) (rw e refl) ∙ is_done nothing between bs ∙ does_nothing (split between zero bs)

ends_is_space : (b : ℕ) → ends_word b ≡ true → is_space b ≡ true
ends_is_space b e = grind (arith, nat_tests, e)

space_or_not : (b : ℕ) → is_space b ≡ false → ends_word b ≡ false
space_or_not b e = grind (arith, nat_tests, e)

pub plain_ends : (b : ℕ) (bs : List ℕ) → ends_word b ≡ true → split plain zero (b ∷ bs) ≡ worded [] (split between zero (b ∷ bs))
plain_ends b bs e =
    by_step plain b bs (on ended between) (rw e refl) ∙ is_done ended between bs ∙ does_ended (split between zero bs)
    ∙ ap (worded []) (sym (space_goes b bs (ends_is_space b e)))

pub word_begins : (b : ℕ) (bs : List ℕ) → is_space b ≡ false → split between zero (b ∷ bs) ≡ split plain zero (b ∷ bs)
word_begins b bs e =
    by_step between b bs (in_word b) (rw e refl) ∙ sym (by_step plain b bs (in_word b) (rw (space_or_not b e) refl))

pub word_at_end : split plain zero [] ≡ worded [] (split between zero [])
unfolding split
word_at_end = refl

pub double_at_end : split double zero [] ≡ None
unfolding split
double_at_end = refl

pub single_at_end : split single zero [] ≡ None
unfolding split
single_at_end = refl

pub none_at_end : split between zero [] ≡ Some []
unfolding split
none_at_end = refl

-- what is behind the first k bytes, as the code takes it
abbrev pub tail_of : ℕ → List ℕ → List ℕ
tail_of k bs = take (length bs - k) (drop k bs)

shorter : (k : ℕ) (bs : List ℕ) → 0 < k → k ≤ length bs → length (tail_of k bs) < length bs
shorter k bs some within = omega (arith, ap length (take_rest bs k), length-drop k bs)

tail_is : (b : ℕ) (bs : List ℕ) → bs ≡ tail_of 1 (b ∷ bs)
tail_is b bs = sym (take_rest (b ∷ bs) 1)

begins_with : (b : ℕ) (bs : List ℕ) → 1 ≤ length bs → get_or bs 0 0 ≡ b → bs ≡ b ∷ tail_of 1 bs
begins_with b [] h e = absurd (omega arith)
begins_with b (c ∷ bs) h e = ap (λ (x : ℕ). x ∷ bs) e ∙ ap (λ (l : List ℕ). b ∷ l) (tail_is c bs)

-- what is split behind a byte of the front
at_byte : (p : Place) (b : ℕ) (bs : List ℕ) (r : Option (List (List ℕ))) → 1 ≤ length bs → get_or bs 0 0 ≡ b → split p zero (b ∷ tail_of 1 bs) ≡ r
    → (split p zero bs ≡ r) × (length (tail_of 1 bs) < length bs)
at_byte p b bs r h e is = (ap (split p zero) (begins_with b bs h e) ∙ is, shorter 1 bs (omega arith) h)

at_end : (p : Place) (bs : List ℕ) (r : Option (List (List ℕ))) → length bs < 1 → split p zero [] ≡ r → split p zero bs ≡ r
at_end p [] r h is = is
at_end p (b ∷ bs) r h is = absurd (omega arith)

pub double_byte_at : (bs : List ℕ) → 1 ≤ length bs → (get_or bs 0 0 == 34) ≡ false → (get_or bs 0 0 == 92) ≡ false
    → (split double zero bs ≡ does (more (get_or bs 0 0)) (split double zero (tail_of 1 bs))) × (length (tail_of 1 bs) < length bs)
double_byte_at bs h p q = at_byte double _ bs _ h refl (double_more _ _ p q)

pub double_end_at : (bs : List ℕ) → length bs < 1 → split double zero bs ≡ None
double_end_at bs h = at_end double bs _ h double_at_end

pub single_byte_at : (bs : List ℕ) → 1 ≤ length bs → (get_or bs 0 0 == 39) ≡ false → is_escaped_quote bs ≡ false
    → (split single zero bs ≡ does (more (get_or bs 0 0)) (split single zero (tail_of 1 bs))) × (length (tail_of 1 bs) < length bs)
single_byte_at bs h p q = at_byte single _ bs _ h refl (single_more _ _ p (ap is_escaped_quote (sym (begins_with _ bs h refl)) ∙ q))

pub single_end_at : (bs : List ℕ) → length bs < 1 → split single zero bs ≡ None
single_end_at bs h = at_end single bs _ h single_at_end

pub escaped_is_two : (bs : List ℕ) → is_escaped_quote bs ≡ true → 2 ≤ length bs
escaped_is_two [] e = absurd cc
escaped_is_two (b ∷ []) e = absurd cc
escaped_is_two (b ∷ c ∷ bs) e = omega arith

pub single_escaped_at : (bs : List ℕ) → is_escaped_quote bs ≡ true
    → (split single zero bs ≡ does (more 39) (split single zero (tail_of 2 bs))) × (length (tail_of 2 bs) < length bs)
single_escaped_at [] e = absurd cc
single_escaped_at (b ∷ []) e = absurd cc
single_escaped_at (b ∷ c ∷ bs) e =
    let first : b ≡ 92 = grind (arith, nat_tests, e) in
    let second : c ≡ 39 = grind (arith, nat_tests, e) in
    let tail : bs ≡ tail_of 2 (b ∷ c ∷ bs) = sym (take_rest (b ∷ c ∷ bs) 2) in (
      ap (λ (x : ℕ). split single zero (x ∷ c ∷ bs)) first ∙ ap (λ (x : ℕ). split single zero (92 ∷ x ∷ bs)) second ∙ single_quote_more bs
          ∙ ap (λ (l : List ℕ). does (more 39) (split single zero l)) tail,
      shorter 2 (b ∷ c ∷ bs) (omega arith) (omega arith),
    )

pub plain_end_at : (bs : List ℕ) → length bs < 1 → split plain zero bs ≡ worded [] (split between zero bs)
plain_end_at [] h = word_at_end
plain_end_at (b ∷ bs) h = absurd (omega arith)

pub plain_stops_at : (bs : List ℕ) → 1 ≤ length bs → ends_word (get_or bs 0 0) ≡ true → split plain zero bs ≡ worded [] (split between zero bs)
plain_stops_at [] h e = absurd (omega arith)
plain_stops_at (b ∷ bs) h e = plain_ends b bs e

pub plain_byte_at : (bs : List ℕ) → 1 ≤ length bs → (get_or bs 0 0 == 34) ≡ false → (get_or bs 0 0 == 39) ≡ false → ends_word (get_or bs 0 0) ≡ false
    → (split plain zero bs ≡ does (more (get_or bs 0 0)) (split plain zero (tail_of 1 bs))) × (length (tail_of 1 bs) < length bs)
plain_byte_at bs h p q e = at_byte plain _ bs _ h refl (plain_more _ _ e p q)

pub plain_double_at : (bs : List ℕ) → 1 ≤ length bs → get_or bs 0 0 ≡ 34 → (split plain zero bs ≡ split double zero (tail_of 1 bs)) × (length (tail_of 1 bs) < length bs)
plain_double_at bs h e = at_byte plain 34 bs _ h e (plain_double _)

pub plain_single_at : (bs : List ℕ) → 1 ≤ length bs → get_or bs 0 0 ≡ 39 → (split plain zero bs ≡ split single zero (tail_of 1 bs)) × (length (tail_of 1 bs) < length bs)
plain_single_at bs h e = at_byte plain 39 bs _ h e (plain_single _)

pub between_end_at : (bs : List ℕ) → length bs < 1 → split between zero bs ≡ Some []
between_end_at bs h = at_end between bs _ h none_at_end

pub between_space_at : (bs : List ℕ) → 1 ≤ length bs → is_space (get_or bs 0 0) ≡ true → (split between zero bs ≡ split between zero (tail_of 1 bs)) × (length (tail_of 1 bs) < length bs)
between_space_at bs h e = at_byte between _ bs _ h refl (space_goes _ _ e)

-- where a word begins
pub between_word_at : (bs : List ℕ) → 1 ≤ length bs → is_space (get_or bs 0 0) ≡ false → (split between zero bs ≡ split plain zero bs) × (ends_at bs ≡ false)
between_word_at [] h e = absurd (omega arith)
between_word_at (b ∷ bs) h e = (word_begins b bs e, space_or_not b e)

-- words that are missing in a word are missing in its line
pub word_missing : (e : Stop) (front : List (List ℕ)) (w : List ℕ) (words rest : Option (List (List ℕ))) → words ≡ after_words front rest → w ≡ [] → Leaves e (put_before w rest) → Leaves e words
word_missing stops.Memory front w words rest is none h = tt
word_missing stops.Short front w words rest is none h = h
word_missing (stops.Fault f) front w words rest is none h =
    (h.0, is ∙ ap (after_words front) (sym (ap (λ (x : List ℕ). put_before x rest) none) ∙ h.1) ∙ after_none front)

-- and a word that is whole is one word more of it
pub word_whole : (front all : List (List ℕ)) (w v : List ℕ) (words rest behind : Option (List (List ℕ))) → words ≡ after_words front rest → w ≡ [] → put_before w rest ≡ worded v behind
    → all ≡ front ++ v ∷ [] → words ≡ after_words all behind
word_whole front all w v words rest behind is none word longer =
    is ∙ ap (after_words front) (sym (ap (λ (x : List ℕ). put_before x rest) none) ∙ word) ∙ after_word front v behind
    ∙ ap (λ (ws : List (List ℕ)). after_words ws behind) (sym longer)
