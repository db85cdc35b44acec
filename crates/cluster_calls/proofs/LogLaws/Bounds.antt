-- How many requests a command makes.
use Rattle.std.proofs.Common.{◌≡◌, ℕ, zero, suc, ◌+◌, ◌-◌, ◌*◌, ◌≤◌, Bool, true, false, cond, ◌==◌, List, [], ◌∷◌, length, Option, refl, sym, ap, arith}
use Rattle.std.specs.Prelude.{MatchBool}
use Rattle.std.proofs.Math.Nat.{suc-mul}
use Rattle.std.proofs.lemmas.Bool.{false≢true}
use Rattle.resp_core.specs.Trees.{Tree}
use Rattle.cluster_routing.specs.Address.{Address}
use Rattle.cluster_calls.specs.Links.Log.{Exchange, is_answered}
use Rattle.cluster_calls.specs.Calls.Plan.{Client, Dispatch}
use Rattle.cluster_calls.specs.Calls.Redirects.{Hop, Next, Stays, Lost, Goes, next_of, reply_next, MatchNext, FollowsRedirects}
use Rattle.cluster_calls.specs.Calls.Legal.{first_hop, PartByPart}

-- what goes on has budget left
has_budget : (links : List Address) (budget : ℕ) (r : Option Tree) (hop : Hop) → next_of links budget r ≡ Goes hop → (budget == 0) ≡ false
has_budget links budget r hop e = by (budget == 0) e
  where
    by : (b : Bool) → cond b Stays (reply_next links r) ≡ Goes hop → b ≡ false
    by true f = cc
    by false f = refl

one_less : (budget n m : ℕ) → (budget == 0) ≡ false → n ≤ suc (budget - 1) + m → suc n ≤ suc budget + m
one_less zero n m e h = absurd (false≢true (sym e))
one_less (suc b) n m e h = omega (arith, h)

-- a part's exchanges: one more than the budget at most, and those behind the last
follow_bound : (links : List Address) (budget : ℕ) (hop : Hop) (args : List (List ℕ)) (Behind : Exchange → List Exchange → Type 0) (xs : List Exchange)
    → FollowsRedirects links budget hop args Behind xs → (last : Exchange) × (behind : List Exchange) × Behind last behind × (length xs ≤ suc budget + length behind)
follow_bound links budget hop args Behind [] h = absurd h
follow_bound links budget hop args Behind (x ∷ xs) h = by (next_of links budget x.reply) refl h.1 (λ next g. follow_bound links (budget - 1) next args Behind xs g)
  where
    by : (n : Next) → next_of links budget x.reply ≡ n → MatchNext n (Behind x xs) (λ next. FollowsRedirects links (budget - 1) next args Behind xs)
        → ((next : Hop) → FollowsRedirects links (budget - 1) next args Behind xs → (last : Exchange) × (behind : List Exchange) × Behind last behind × (length xs ≤ suc (budget - 1) + length behind))
        → (last : Exchange) × (behind : List Exchange) × Behind last behind × (suc (length xs) ≤ suc budget + length behind)
    by Stays e g ih = (x, xs, g, omega arith)
    by Lost e g ih = (x, xs, g, omega arith)
    by (Goes next) e g ih = let r = ih next g in (r.0, r.1, r.2, one_less budget (length xs) (length r.1) (has_budget links budget x.reply next e) r.3)

pub parts_bound : (client : Client) (ds : List Dispatch) (xs : List Exchange) → PartByPart client ds xs → length xs ≤ length ds * suc client.settings.budget
parts_bound client [] xs h = let e : length xs ≡ 0 = ap length h in omega (arith, e)
parts_bound client (d ∷ ds) xs h = by (is_answered c.0) c.2 (λ g. parts_bound client ds c.1 g)
  where
    c : (last : Exchange) × (behind : List Exchange) × MatchBool (is_answered last) (PartByPart client ds behind) (behind ≡ []) × (length xs ≤ suc client.settings.budget + length behind)
    c = follow_bound client.links client.settings.budget (first_hop d) d.args (λ x behind. MatchBool (is_answered x) (PartByPart client ds behind) (behind ≡ [])) xs h

    by : (b : Bool) → MatchBool b (PartByPart client ds c.1) (c.1 ≡ []) → (PartByPart client ds c.1 → length c.1 ≤ length ds * suc client.settings.budget) → length xs ≤ suc (length ds) * suc client.settings.budget
    by true g ih = let i = ih g in let l = c.3 in let k = suc-mul (length ds) (suc client.settings.budget) in omega (arith, i, l, k)
    by false g ih = let e : length c.1 ≡ 0 = ap length g in let l = c.3 in let k = suc-mul (length ds) (suc client.settings.budget) in omega (arith, e, l, k)
