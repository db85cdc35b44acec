-- What counts of one position of a pipeline that tells of each is as good as its command on one server.
use Rattle.std.proofs.Common.{◌≡◌, ℕ, Bool, true, false, cond, ◌||◌, nat_eq, List, [], ◌∷◌, map, filter, Option, Some, None, Result, Ok, Err, refl, sym, ap, ◌∙◌, subst}
use Rattle.std.specs.List.{AllByRecursion}
use Rattle.std.proofs.lemmas.Bool.{false≢true}
use Rattle.std.proofs.lemmas.Simd.{map-map}
use Rattle.resp_core.specs.Trees.{Tree, ErrorText}
use Rattle.resp_core.specs.Parts.{first_error}
use Rattle.resp_core.specs.Errors.{Refusal}
use Rattle.cluster_routing.specs.Combine.{PartReply}
use Rattle.cluster_routing.specs.Lists.{among, IsDistinct, Pairwise}
use Rattle.cluster_routing.specs.Parts.{tuple_slot}
use Rattle.cluster_routing.specs.Split.{Split, split_of, join_split, part_slots}
use Rattle.cluster_routing.proofs.Recut.{cut_of, split_whole}
use Rattle.cluster_calls.specs.Links.Log.{Exchange, is_answered}
use Rattle.cluster_calls.specs.Calls.Each.{Fate, answered, redirected, lost, fate_of}
use Rattle.cluster_calls.specs.Calls.Plan.{Dispatch}
use Rattle.cluster_calls.specs.Calls.Replies.{args_slot, exchange_slot, reply_or_nil, reply_by_split}
use Rattle.cluster_calls.specs.OneServer.Commands.{split_with, kept_by, kept_of, IsValueBy, IsRefusedBy, IsOutcomeBy}
use Rattle.cluster_calls.specs.OneServer.Honest.{is_counted}
use Rattle.cluster_calls.specs.OneServer.Keyspace.{Step}
use Rattle.cluster_calls.specs.OneServer.Meaning.{Meaning, DoAll}
use Rattle.cluster_calls.specs.OneServer.Operations.{RunCommand, Response, Reply, run_each}
use Rattle.cluster_calls.proofs.LogLaws.Plans.{SendsParts}
use Rattle.cluster_calls.proofs.ServerLaws.Calls.{kept_none}
use Rattle.cluster_calls.proofs.ServerLaws.Counted.{counted_steps, AllDone, IsPassed, passed_uncounted}
use Rattle.cluster_calls.proofs.ServerLaws.PartCall.{filter_all, whole_kept, parts_kept, split_told, whole_told}
use Rattle.cluster_calls.proofs.ServerLaws.Pieces.{SamePieces, IsDoneAs, AccountsAs, ServedIn}
use Rattle.cluster_calls.proofs.ServerLaws.Pipes.{all_counted}
use Rattle.cluster_calls.proofs.ServerLaws.SplitCall.{IsDispatchOf}

-- the dispatch that an exchange is of, and its reply as that of a part
abbrev pub its_dispatch : Exchange → Dispatch
its_dispatch x = record { node = x.request.node; args = x.request.args }

abbrev pub its_reply : Exchange → PartReply
its_reply x = record { slot = exchange_slot x; tree = reply_or_nil x }

-- the exchanges ask for a command: whole, or for its parts
abbrev pub AskFor : List (List ℕ) → Option Split → List Exchange → Type 0
AskFor args None ys = (y : Exchange) × (ys ≡ y ∷ []) × (y.request.args ≡ args) × (kept_of args (y ∷ []) ≡ args ∷ [])
AskFor args (Some split) ys = (split_of args ≡ Some split) × SendsParts split (map its_dispatch ys) × (map exchange_slot ys ≡ part_slots split.tuples)

-- what the outcome of a position says of its exchanges
pub record Says (o : Option Split) (ys : List Exchange) (outcome : Result Tree Refusal) : Type 0 where
  pub given : (tree : Tree) → outcome ≡ Ok tree → first_error tree ≡ None → AllByRecursion (λ x. is_answered x ≡ true) ys × (reply_by_split o (map its_reply ys) ≡ Some tree)
  pub sent_on : fate_of outcome ≡ redirected → AllByRecursion IsPassed ys

own_args : (ys : List Exchange) → Pairwise (λ (d : Dispatch) (x : Exchange). x.request.args ≡ d.args) (map its_dispatch ys) ys
own_args [] = tt
own_args (y ∷ ys) = (refl, own_args ys)

-- ---- some of the exchanges

all_chosen : (P : Dispatch → Type 0) (q : Exchange → Bool) (ys : List Exchange) → AllByRecursion P (map its_dispatch ys) → AllByRecursion P (map its_dispatch (filter q ys))
all_chosen P q [] h = tt
all_chosen P q (y ∷ ys) h = by (q y) (all_chosen P q ys h.1)
  where
    by : (b : Bool) → AllByRecursion P (map its_dispatch (filter q ys)) → AllByRecursion P (map its_dispatch (cond b (y ∷ filter q ys) (filter q ys)))
    by true r = (h.0, r)
    by false r = r

abbrev slots_of : List Exchange → List ℕ
slots_of ys = map (λ (d : Dispatch). args_slot d.args) (map its_dispatch ys)

not_chosen : (k : ℕ) (q : Exchange → Bool) (ys : List Exchange) → among nat_eq k (slots_of ys) ≡ false → among nat_eq k (slots_of (filter q ys)) ≡ false
not_chosen k q [] h = refl
not_chosen k q (y ∷ ys) h = by (nat_eq k (exchange_slot y)) refl (q y) h (λ g. not_chosen k q ys g)
  where
    by : (b : Bool) → nat_eq k (exchange_slot y) ≡ b → (c : Bool) → (b || among nat_eq k (slots_of ys)) ≡ false → (among nat_eq k (slots_of ys) ≡ false → among nat_eq k (slots_of (filter q ys)) ≡ false)
        → among nat_eq k (slots_of (cond c (y ∷ filter q ys) (filter q ys))) ≡ false
    by true e c h ih = absurd (false≢true (sym h))
    by false e true h ih = ap (λ b. (b || among nat_eq k (slots_of (filter q ys)))) e ∙ ih h
    by false e false h ih = ih h

distinct_chosen : (q : Exchange → Bool) (ys : List Exchange) → IsDistinct nat_eq (slots_of ys) → IsDistinct nat_eq (slots_of (filter q ys))
distinct_chosen q [] h = tt
distinct_chosen q (y ∷ ys) h = by (q y) (distinct_chosen q ys h.1)
  where
    by : (b : Bool) → IsDistinct nat_eq (slots_of (filter q ys)) → IsDistinct nat_eq (slots_of (cond b (y ∷ filter q ys) (filter q ys)))
    by true r = (not_chosen (exchange_slot y) q ys h.0, r)
    by false r = r

-- with all of its tuples it is the whole command
pub split_with_all : (args : List (List ℕ)) (split : Split) → split_of args ≡ Some split → split_with split split.tuples ≡ args ∷ []
split_with_all args split is =
    let some = (cut_of args split is).some in
    ap (split_with split) some.2 ∙ ap (λ ts. join_split split.word split.shared ts ∷ []) (sym some.2) ∙ ap (λ q. q ∷ []) (split_whole args split is)

-- of all parts the whole command is kept
all_kept : (args : List (List ℕ)) (split : Split) (ys : List Exchange) → split_of args ≡ Some split → SendsParts split (map its_dispatch ys) → kept_of args ys ≡ args ∷ []
all_kept args split ys is sends =
    ap (λ o. kept_by args o ys) is
    ∙ ap (λ q. split_with split (filter (λ t. among nat_eq (tuple_slot t) q) split.tuples)) (sym (map-map (λ (d : Dispatch). args_slot d.args) its_dispatch ys))
    ∙ ap (split_with split) (filter_all (λ t. among nat_eq (tuple_slot t) (slots_of ys)) split.tuples sends.whole)
    ∙ split_with_all args split is

-- where all are answered the whole command counts
pub answered_kept : (done : ℕ → Bool) (args : List (List ℕ)) (o : Option Split) (ys : List Exchange) → AskFor args o ys → AllByRecursion (λ x. is_answered x ≡ true) ys → kept_of args (filter (is_counted done) ys) ≡ args ∷ []
answered_kept done args None ys asked a = ap (kept_of args) (filter_all (is_counted done) ys (all_counted done ys a)) ∙ ap (kept_of args) asked.1 ∙ asked.3
answered_kept done args (Some split) ys asked a = ap (kept_of args) (filter_all (is_counted done) ys (all_counted done ys a)) ∙ all_kept args split ys asked.0 asked.1

module _ (meaning : Meaning) (done : ℕ → Bool) (args : List (List ℕ)) where
  -- ---- what is kept

  one_kept : (y : Exchange) → y.request.args ≡ args → kept_of args (y ∷ []) ≡ args ∷ [] → (b : Bool) (moves sts : List (List Step)) → Pairwise (IsDoneAs meaning RunCommand) (cond b (y ∷ []) []) sts → SamePieces sts moves
      → (responses : List Response) × ServedIn meaning (run_each (kept_of args (cond b (y ∷ []) []))) responses moves
  one_kept y e k true moves sts h c =
      let r = whole_kept meaning done args moves (its_dispatch y) e (its_dispatch y ∷ []) [] refl (y ∷ []) (refl, tt) sts h c in
      (r.0, subst (λ q. ServedIn meaning (run_each q) r.0 moves) (sym k) r.1)
  one_kept y e k false moves [] h c = ([], subst (λ q. ServedIn meaning (run_each q) [] moves) (sym (kept_none args)) ([], tt, c))
  one_kept y e k false moves (st ∷ sts) h c = absurd h

  pub position_kept : (o : Option Split) (ys : List Exchange) → AskFor args o ys → (moves : List (List Step)) → Pairwise (AccountsAs meaning done RunCommand) ys moves
      → (responses : List Response) × ServedIn meaning (run_each (kept_of args (filter (is_counted done) ys))) responses moves
  position_kept None ys asked moves h =
      let one = subst (λ q. Pairwise (AccountsAs meaning done RunCommand) q moves) asked.1 h in
      let c = counted_steps meaning done RunCommand (asked.0 ∷ []) moves one in
      subst (λ q. (responses : List Response) × ServedIn meaning (run_each (kept_of args (filter (is_counted done) q))) responses moves) (sym asked.1)
      (one_kept asked.0 asked.2 asked.3 (is_counted done asked.0) moves c.0 c.1 c.2)
  position_kept (Some split) ys asked moves h =
      let c = counted_steps meaning done RunCommand ys moves h in
      let counted = filter (is_counted done) ys in
      let r = parts_kept meaning done args moves split asked.0 (map its_dispatch counted) (all_chosen (IsDispatchOf split) (is_counted done) ys asked.1.each) (distinct_chosen (is_counted done) ys asked.1.distinct)
      counted (own_args counted) c.0 c.1 c.2 in
      (r.0, subst (λ o. ServedIn meaning (run_each (kept_by args o counted)) r.0 moves) (sym asked.0) r.1)

  -- ---- what is told

  all_done : (ys : List Exchange) → AllByRecursion (λ x. is_answered x ≡ true) ys → AllDone done (map its_dispatch ys) ys
  all_done ys a =
      let whole = filter_all (is_counted done) ys (all_counted done ys a) in
      record {
        args = subst (Pairwise (λ (d : Dispatch) (x : Exchange). x.request.args ≡ d.args) (map its_dispatch ys)) (sym whole) (own_args ys);
        answers = filter_all is_answered ys a ∙ sym whole;
        answered = subst (AllByRecursion (λ x. is_answered x ≡ true)) (sym whole) a;
      }

  told_whole : (o : Option Split) (ys : List Exchange) → AskFor args o ys → AllByRecursion (λ x. is_answered x ≡ true) ys → (tree : Tree) → reply_by_split o (map its_reply ys) ≡ Some tree
      → (moves : List (List Step)) → Pairwise (AccountsAs meaning done RunCommand) ys moves → ServedIn meaning (run_each (args ∷ [])) (Reply tree ∷ []) moves
  told_whole None ys asked a tree e moves h =
      let c = counted_steps meaning done RunCommand ys moves h in
      whole_told meaning done args moves (its_dispatch asked.0) asked.2 ys (subst (λ q. AllDone done (map its_dispatch q) ys) asked.1 (all_done ys a)) c.0 c.1 c.2 tree
      (ap (λ q. reply_by_split None (map its_reply q)) (filter_all is_answered ys a) ∙ e)
  told_whole (Some split) ys asked a tree e moves h =
      let c = counted_steps meaning done RunCommand ys moves h in
      split_told meaning done args moves split asked.0 (map its_dispatch ys) asked.1 ys (all_done ys a) c.0 c.1 c.2 tree
      (ap (λ q. reply_by_split (Some split) (map its_reply q)) (filter_all is_answered ys a) ∙ e)

  -- ---- what is served

  pub record PositionServed (ys : List Exchange) (outcome : Result Tree Refusal) (moves : List (List Step)) : Type 0 where
    pub responses : List Response
    pub served : ServedIn meaning (run_each (kept_of args (filter (is_counted done) ys))) responses moves
    pub outcome_is : IsOutcomeBy outcome responses

  none_counted : (ys : List Exchange) → AllByRecursion IsPassed ys → filter (is_counted done) ys ≡ []
  none_counted [] h = refl
  none_counted (y ∷ ys) h = ap (λ b. cond b (y ∷ filter (is_counted done) ys) (filter (is_counted done) ys)) (passed_uncounted done y h.0) ∙ none_counted ys h.1

  no_responses : (sts : List (List Step)) (responses : List Response) → DoAll meaning [] sts responses → responses ≡ []
  no_responses [] [] h = refl
  no_responses [] (r ∷ rs) h = absurd h
  no_responses (st ∷ sts) rs h = absurd h

  pub position_served : (o : Option Split) (ys : List Exchange) → AskFor args o ys → (outcome : Result Tree Refusal) → Says o ys outcome → (moves : List (List Step)) → Pairwise (AccountsAs meaning done RunCommand) ys moves → PositionServed ys outcome moves
  position_served o ys asked (Ok tree) says moves h = by (first_error tree) refl
    where
      by : (e : Option ErrorText) → first_error tree ≡ e → PositionServed ys (Ok tree) moves
      by None e =
          let given = says.given tree refl e in
          record {
            responses = Reply tree ∷ [];
            served = subst (λ q. ServedIn meaning (run_each q) (Reply tree ∷ []) moves) (sym (answered_kept done args o ys asked given.0)) (told_whole o ys asked given.0 tree given.1 moves h);
            outcome_is = subst (λ f. IsValueBy tree f (Reply tree ∷ [])) (sym e) refl;
          }
      by (Some err) e = let k = position_kept o ys asked moves h in record { responses = k.0; served = k.1; outcome_is = subst (λ f. IsValueBy tree f k.0) (sym e) tt }
  position_served o ys asked (Err refusal) says moves h = by (fate_of (Err refusal)) refl
    where
      by : (fate : Fate) → fate_of (Err refusal) ≡ fate → PositionServed ys (Err refusal) moves
      by answered e = let k = position_kept o ys asked moves h in record { responses = k.0; served = k.1; outcome_is = subst (λ f. IsRefusedBy f k.0) (sym e) tt }
      by lost e = let k = position_kept o ys asked moves h in record { responses = k.0; served = k.1; outcome_is = subst (λ f. IsRefusedBy f k.0) (sym e) tt }
      by redirected e =
          let k = position_kept o ys asked moves h in
          let none : kept_of args (filter (is_counted done) ys) ≡ [] = ap (kept_of args) (none_counted ys (says.sent_on e)) ∙ kept_none args in
          let done_none = subst (λ q. DoAll meaning (run_each q) k.1.0 k.0) none k.1.1 in
          record { responses = k.0; served = k.1; outcome_is = subst (λ f. IsRefusedBy f k.0) (sym e) (no_responses k.1.0 k.0 done_none) }
