-- A list of status codes, read as the code's and as the definitions' values.
use Rattle.std.proofs.Common.{◌≡◌, pos, negsuc, Bool, true, false, if◌then◌else◌, List, [], ◌∷◌, map, Option, Some, None, option_map, option_and_then, refl, ap, ◌∙◌}
use Rattle.std.specs.Ordering.{int_eq}
use Rattle.resp_core.specs.Trees as trees
use Rattle.resp_core.specs.Trees.{Tree}
use Rattle.resp_core.specs.Parts.{pair_list}
use Rattle.resp_args.specs.Convert.{traverse, items, sequence, one_pair, plain}
use Rattle.stream_commands.specs.StatusCodes.{status}
use Rattle.stream_commands.specs.declared.records.status.XDelExStatusCode.{XDelExStatusCode}
use Rattle.stream_commands.specs.declared.records.status.XDelExStatusCode.TheVariants.{IdNotFound, NotDeletedUnacknowledgedOrStillReferenced}
use Rattle.stream_commands.specs.declared.records.status.XDelExStatusCode.TheVariants as codes
use Rattle.stream_commands.specs.Shapes.{list_of}
use Rattle.cluster_calls.specs.Calls.Answer.{Deleted, not_found, deleted, still_referenced}
use Rattle.cluster_calls.specs.Links.Typed.{deletion_of}

abbrev codes_of : Tree → Option XDelExStatusCode
codes_of t = status IdNotFound codes.Deleted NotDeletedUnacknowledgedOrStillReferenced t

one_more : {M N : Type 0} (f : M → N) (o : Option M) (r : Option (List M)) → option_and_then (λ y. option_map (λ ys. y ∷ ys) (option_map (λ ms. map f ms) r)) (option_map f o) ≡ option_map (λ ms. map f ms) (option_and_then (λ y. option_map (λ ys. y ∷ ys) r) o)
one_more f None r = refl
one_more f (Some m) None = refl
one_more f (Some m) (Some ms) = refl

traverse_shown : {X M N : Type 0} (f : M → N) (read : X → Option M) (xs : List X) → traverse (λ x. option_map f (read x)) xs ≡ option_map (λ ms. map f ms) (traverse read xs)
traverse_shown f read [] = refl
traverse_shown f read (x ∷ xs) = ap (λ r. option_and_then (λ y. option_map (λ ys. y ∷ ys) r) (option_map f (read x))) (traverse_shown f read xs) ∙ one_more f (read x) (traverse read xs)

alone_shown : {M N : Type 0} (f : M → N) (o : Option M) → option_map (λ m. m ∷ []) (option_map f o) ≡ option_map (λ ms. map f ms) (option_map (λ m. m ∷ []) o)
alone_shown f None = refl
alone_shown f (Some m) = refl

sequence_shown : {M N : Type 0} (f : M → N) (read : Tree → Option M) (t : Tree) → sequence (λ t. option_map f (read t)) None t ≡ option_map (λ ms. map f ms) (sequence read None t)
sequence_shown f read trees.nil = refl
sequence_shown f read (trees.int n) = refl
sequence_shown f read (trees.bulk b) = alone_shown f (read (trees.bulk b))
sequence_shown f read (trees.array ts) = traverse_shown f read (items ts)
sequence_shown f read (trees.simple s) = refl
sequence_shown f read trees.okay = refl
sequence_shown f read (trees.map ps) = traverse_shown f (λ p. read (one_pair p)) (pair_list ps)
sequence_shown f read (trees.attribute t ps) = refl
sequence_shown f read (trees.set ts) = traverse_shown f read (items ts)
sequence_shown f read (trees.double s) = refl
sequence_shown f read (trees.boolean b) = refl
sequence_shown f read (trees.verbatim format s) = refl
sequence_shown f read (trees.big_number s) = refl
sequence_shown f read (trees.push kind ts) = refl
sequence_shown f read (trees.server_error e) = refl

abbrev either : {M : Type 0} → M → M → M → Bool → Bool → Bool → Option M
either missing done kept a b c = if a then Some missing else if b then Some done else if c then Some kept else None

either_shown : (a b c : Bool) → either not_found deleted still_referenced a b c ≡ option_map deletion_of (either IdNotFound codes.Deleted NotDeletedUnacknowledgedOrStillReferenced a b c)
either_shown true b c = refl
either_shown false true c = refl
either_shown false false true = refl
either_shown false false false = refl

status_shown : (t : Tree) → status not_found deleted still_referenced t ≡ option_map deletion_of (codes_of t)
status_shown trees.nil = refl
status_shown (trees.int n) = either_shown (int_eq n (negsuc 0)) (int_eq n (pos 1)) (int_eq n (pos 2))
status_shown (trees.bulk b) = refl
status_shown (trees.array ts) = refl
status_shown (trees.simple s) = refl
status_shown trees.okay = refl
status_shown (trees.map ps) = refl
status_shown (trees.attribute t ps) = refl
status_shown (trees.set ts) = refl
status_shown (trees.double s) = refl
status_shown (trees.boolean b) = refl
status_shown (trees.verbatim format s) = refl
status_shown (trees.big_number s) = refl
status_shown (trees.push kind ts) = refl
status_shown (trees.server_error e) = refl

twice : (o : Option (List XDelExStatusCode)) → option_map Deleted (option_map (λ cs. map deletion_of cs) o) ≡ option_map (λ cs. Deleted (map deletion_of cs)) o
twice None = refl
twice (Some cs) = refl

-- what XDELEX answers, from the codes that the code reads
pub codes_shown : (t : Tree) → option_map Deleted (list_of (status not_found deleted still_referenced) t) ≡ option_map (λ cs. Deleted (map deletion_of cs)) (list_of codes_of t)
codes_shown t =
    ap (λ read. option_map Deleted (list_of read t)) (λ i u. status_shown u i)
    ∙ ap (option_map Deleted) (sequence_shown deletion_of codes_of (plain t))
    ∙ twice (list_of codes_of t)
