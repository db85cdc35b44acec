-- What is told by where the parts of a command go.
use Rattle.std.proofs.Common.{◌≡◌, ℕ, List, [], ◌∷◌, map, None, Result, Ok, Err, refl, ap}
use Rattle.resp_core.specs.Errors.{Refusal}
use Rattle.cluster_calls.specs.Calls.Parts.{Part, Target, whole_part}
use Rattle.cluster_steps.specs.CodeParts.{part_targets}
use Rattle.cluster_steps.specs.WholeParts.{whole_at}

-- a refusal is that of the parts
pub refused_targets : (parts : Result (List Part) Refusal) (refusal : Refusal) → Err refusal ≡ part_targets parts → Err refusal ≡ parts
refused_targets (Ok ps) refusal h = cc
refused_targets (Err other) refusal h =
    let same : refusal ≡ other = cc in
    ap (λ e. Err e) same

whole_in : (args : List (List ℕ)) (ps : List Part) → whole_at args (map (λ (part : Part). part.target) ps) ≡ whole_part args (Ok ps)
whole_in args [] = refl
whole_in args (p ∷ []) = refl
whole_in args (p ∷ q ∷ ps) = refl

-- so is the part that a command is whole
pub whole_by_targets : (args : List (List ℕ)) (ts : List Target) (parts : Result (List Part) Refusal) → Ok ts ≡ part_targets parts → whole_at args ts ≡ whole_part args parts
whole_by_targets args ts (Ok ps) h =
    let same : ts ≡ map (λ (part : Part). part.target) ps = cc in
    rw same (whole_in args ps)
whole_by_targets args ts (Err refusal) h = cc

pub no_whole : (args : List (List ℕ)) (refusal : Refusal) (parts : Result (List Part) Refusal) → Err refusal ≡ part_targets parts → None ≡ whole_part args parts
no_whole args refusal (Ok ps) h = cc
no_whole args refusal (Err other) h = refl
