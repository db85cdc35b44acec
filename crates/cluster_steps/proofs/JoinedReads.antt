-- The record of a read, by how many parts it has.
use Rattle.std.proofs.Common.{◌≡◌, ◌≢◌, ℕ, suc, true, false, cond, nat_eq, List, [], ◌∷◌, map, length, get_or, Option, Some, None, Result, Ok, Err, refl, sym, ap, ◌∙◌, append-nil, arith}
use Rattle.std.specs.Prelude.{filter, nat_lt, not, option_and_then, option_map}
use Rattle.std.proofs.lemmas.Bool.Decides.{nat_tests}
use Rattle.std.proofs.lemmas.List.{length-map}
use Rattle.resp_core.specs.Errors.{Refusal, Unreadable, by_cause, no_memory, refused, unread}
use Rattle.resp_core.specs.declared.errors.redis_error.Cause.TheVariants.{Memory}
use Rattle.resp_args.specs.Convert.{Answers, traverse}
use Rattle.cluster_routing.specs.HashSlot.{hash_slot}
use Rattle.cluster_routing.specs.Lists.{firsts}
use Rattle.cluster_routing.specs.Policies.{or_bad_reply}
use Rattle.stream_commands.specs.Join.{all_rows, join}
use Rattle.stream_commands.specs.ReadReply.{Row}
use Rattle.cluster_calls.specs.Calls.Answer.{Answer, Read}
use Rattle.cluster_calls.specs.Calls.Call.{Stream}
use Rattle.cluster_calls.specs.Calls.Reads.{stream_slots}
use Rattle.cluster_calls.specs.Calls.Task.{stream_keys}
use Rattle.cluster_steps.specs.Reads.{joined_at, read_places}
use Rattle.cluster_steps.proofs.ReadStreams.{slots_of_keys}

-- as many places as slots
many_places : (streams : List Stream) → length (read_places streams) ≡ length (firsts nat_eq (map hash_slot (stream_keys streams)))
many_places streams = length-map (stream_slots streams) _ ∙ ap (λ ss. length (firsts nat_eq ss)) (sym (slots_of_keys streams))

one_is_one : (n : ℕ) → n ≡ 1 → nat_lt n 2 ≡ true
one_is_one n h = grind (arith, nat_tests, h)

more_are_more : (n : ℕ) → suc n ≢ 1 → nat_lt (suc n) 2 ≡ false
more_are_more n h = grind (arith, nat_tests, h)

pub one_alone : {A : Type 0} (xs : List A) (x : A) → length xs ≡ 1 → x ≡ get_or xs 0 x → xs ≡ x ∷ []
one_alone [] x h e = absurd (omega (arith, h))
one_alone (y ∷ []) x h e = ap (λ z. z ∷ []) (sym e)
one_alone (y ∷ z ∷ xs) x h e = absurd (omega (arith, h))

module _ (streams : List Stream) where
  -- of one part it is that of its reply
  pub only_record : (rows : List Row) → 1 ≡ length (read_places streams) → joined_at (stream_keys streams) (read_places streams) (rows ∷ []) ≡ Some rows
  only_record rows count =
      ap (λ b. cond b (Some (all_rows (rows ∷ []))) (join (stream_keys streams) (read_places streams) (rows ∷ []))) (one_is_one _ (sym (many_places streams) ∙ sym count))
      ∙ ap (λ q. Some q) (append-nil rows)

-- of several, and of none, it is the join
pub several_records : (streams : List Stream) (records : List (List Row)) → length records ≢ 1 → length records ≡ length (read_places streams)
    → joined_at (stream_keys streams) (read_places streams) records ≡ join (stream_keys streams) (read_places streams) records
several_records [] [] more count = refl
several_records [] (r ∷ records) more count = absurd (omega (arith, count))
several_records (s ∷ streams) records more count =
    let behind : ℕ = length (filter (λ slot. not (nat_eq (hash_slot s.key) slot)) (firsts nat_eq (map hash_slot (stream_keys streams)))) in
    let many : length records ≡ suc behind = count ∙ many_places (s ∷ streams) in
    ap (λ b. cond b (Some (all_rows records)) (join (stream_keys (s ∷ streams)) (read_places (s ∷ streams)) records)) (more_are_more behind (λ e. more (many ∙ e)))

-- ---- the answer

-- as many readings as replies
pub as_many_read : {A B : Type 0} (f : A → Option B) (xs : List A) (ys : List B) → traverse f xs ≡ Some ys → length ys ≡ length xs
as_many_read f [] [] h = refl
as_many_read f [] (y ∷ ys) h = cc
as_many_read {B = B} f (x ∷ xs) ys h = by (f x) (traverse f xs) refl h (λ zs e. as_many_read f xs zs e)
  where
    by : (o : Option B) (p : Option (List B)) → traverse f xs ≡ p → option_and_then (λ z. option_map (λ zs. z ∷ zs) p) o ≡ Some ys → ((zs : List B) → traverse f xs ≡ Some zs → length zs ≡ length xs) → length ys ≡ suc (length xs)
    by None p t e later = cc
    by (Some z) None t e later = cc
    by (Some z) (Some zs) t e later = let same : z ∷ zs ≡ ys = cc in ap length (sym same) ∙ ap suc (later zs t)

-- a reading of what could not be read
pub none_read : {A B S T : Type 0} (read : S → A) (next : T → B) (f : A → Option B) (o : Option A) (e : Unreadable) → Answers {S = S} read o (Err e) → Answers {S = T} next (option_and_then f o) (Err e)
none_read read next f o (refused text) h = ap (option_and_then f) h
none_read read next f o no_memory h = tt

abbrev pub refused_as : Refusal → Result Answer Refusal
refused_as refusal = Err refusal

pub answered : (o : Option (List Row)) (rows : List Row) → o ≡ Some rows → Ok (Read rows) ≡ or_bad_reply (option_map Read o)
answered o rows h = sym (ap (λ q. or_bad_reply (option_map Read q)) h)

pub unanswered : {T : Type 0} (view : T → List Row) (o : Option (List Row)) (e : Unreadable) → Answers {S = T} view o (Err e) → refused_as (unread e) ≢ Err (by_cause Memory) → refused_as (unread e) ≡ or_bad_reply (option_map Read o)
unanswered view o (refused text) h had = sym (ap (λ q. or_bad_reply (option_map Read q)) h)
unanswered view o no_memory h had = absurd (had refl)
