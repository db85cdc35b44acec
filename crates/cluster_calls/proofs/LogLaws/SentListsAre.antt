-- What a node got over a run are the run's commands, and no others.
use Rattle.std.proofs.Common.{◌≡◌, ◌∙◌, ℕ, Bool, true, false, cond, List, [], ◌∷◌, ◌++◌, length, Option, Some, refl, sym, ap, subst, decimal, append-nil, append_assoc}
use Rattle.std.specs.Io.KnownBytes.{Appends}
use Rattle.std.specs.List.{flat_map, AllByRecursion}
use Rattle.resp_core.specs.Trees.{Tree}
use Rattle.resp_args.specs.Laws.{Sendable}
use Rattle.resp_args.specs.Packed.{packed, packed_args}
use Rattle.resp_args.proofs.PackedOnce.{packed-same}
use Rattle.resp_link.specs.Call.{Seen}
use Rattle.cluster_routing.specs.Address.{Address}
use Rattle.cluster_routing.specs.Choice.{Strategy}
use Rattle.cluster_routing.specs.Lists.{concat}
use Rattle.cluster_calls.specs.Links.Nodes.{IsSentFor}
use Rattle.cluster_calls.specs.Links.Request.{Request, asking_command, outgoing_for, bytes_of}
use Rattle.cluster_calls.specs.Links.Run.{RunPlayed, run_calls}
use Rattle.cluster_calls.specs.Links.World.{World, link_at}
use Rattle.cluster_calls.specs.OneServer.Headline.{PlayedCall}
use Rattle.cluster_calls.specs.OneServer.SentLists.{AreReadOf, IsUnfinished, commands_for, commands_of}

one_packed : (asking : Bool) (args : List (List ℕ)) (more : List (List (List ℕ))) → outgoing_for asking args ++ flat_map packed more ≡ flat_map packed (cond asking (asking_command ∷ args ∷ []) (args ∷ []) ++ more)
one_packed true args more = append_assoc (packed asking_command) (packed args) (flat_map packed more)
one_packed false args more = refl

all_packed : (qs : List Request) → bytes_of qs ≡ flat_map packed (commands_of qs)
all_packed [] = refl
all_packed (q ∷ qs) = ap (λ bs. outgoing_for q.asking q.args ++ bs) (all_packed qs) ∙ one_packed q.asking q.args (commands_of qs)

same_behind : (xs ys zs : List ℕ) → xs ++ ys ≡ xs ++ zs → ys ≡ zs
same_behind [] ys zs e = e
same_behind (x ∷ xs) ys zs e = let f : xs ++ ys ≡ xs ++ zs = cc in same_behind xs ys zs f

appended : (o p : Option (List ℕ)) (out bytes more : List ℕ) → o ≡ Some out → p ≡ Some (out ++ more) → Appends o p bytes → more ≡ bytes
appended o p out bytes more e f h =
    let there : out ++ more ≡ out ++ bytes = subst (λ q. Appends (Some out) q bytes) f (subst (λ q. Appends q p bytes) e h) in
    same_behind out more bytes there

-- ---- whole commands, and bytes behind them

-- commands that were sent are the first that are read, up to a part that was sent of others
fronts : (os cs : List (List (List ℕ))) (rest part : List ℕ) → AllByRecursion Sendable os → AllByRecursion Sendable cs → IsUnfinished rest
    → flat_map packed os ++ rest ≡ flat_map packed cs ++ part → (more : List (List (List ℕ))) × (os ≡ cs ++ more) × (flat_map packed more ++ rest ≡ part)
fronts os [] rest part h k u e = (os, refl, e)
fronts [] (c ∷ cs) rest part h k u e = absurd (u c (flat_map packed cs ++ part) k.0 (e ∙ append_assoc (packed c) (flat_map packed cs) part))
fronts (o ∷ os) (c ∷ cs) rest part h k u e =
    let both = packed-same o c (flat_map packed os ++ rest) (flat_map packed cs ++ part) h.0 k.0 (sym (append_assoc (packed o) (flat_map packed os) rest) ∙ e ∙ append_assoc (packed c) (flat_map packed cs) part) in
    let further = fronts os cs rest part h.1 k.1 u both.1 in
    let same : o ∷ os ≡ c ∷ (cs ++ further.0) = ap (λ x. x ∷ os) both.0 ∙ ap (λ xs. c ∷ xs) further.1 in
    (further.0, same, further.2)

-- a command has bytes
counted : (args : List (List ℕ)) (rest : List ℕ) → packed args ++ rest ≡ 42 ∷ (decimal (length args) ++ 13 ∷ 10 ∷ (packed_args args ++ rest))
counted args rest = simp append_assoc

no_bytes : (os : List (List (List ℕ))) (rest : List ℕ) → flat_map packed os ++ rest ≡ [] → (os ≡ []) × (rest ≡ [])
no_bytes [] rest e = (refl, e)
no_bytes (o ∷ os) rest e =
    let shown = counted o (flat_map packed os ++ rest) in
    let whole = append_assoc (packed o) (flat_map packed os) rest in
    absurd (let no : ⊥ = cc in no)

front_sendable : (xs ys : List (List (List ℕ))) → AllByRecursion Sendable (xs ++ ys) → AllByRecursion Sendable xs
front_sendable [] ys h = tt
front_sendable (x ∷ xs) ys h = (h.0, front_sendable xs ys h.1)

of_both : (qs rs : List Request) → commands_of (qs ++ rs) ≡ commands_of qs ++ commands_of rs
of_both [] rs = refl
of_both (q ∷ qs) rs = ap (λ cs. commands_for q ++ cs) (of_both qs rs) ∙ sym (append_assoc (commands_for q) (commands_of qs) (commands_of rs))

calls_both : (before later : List (List Request)) → concat (before ++ later) ≡ concat before ++ concat later
calls_both [] later = refl
calls_both (qs ∷ before) later = ap (λ rs. qs ++ rs) (calls_both before later) ∙ sym (append_assoc qs (concat before) (concat later))

-- those of the link calls before the last
before_sendable : (calls before : List (List Request)) (last : List Request) → calls ≡ before ++ last ∷ [] → AllByRecursion Sendable (commands_of (concat calls))
    → AllByRecursion Sendable (commands_of (concat before))
before_sendable calls before last e h =
    let parts : commands_of (concat calls) ≡ commands_of (concat before) ++ commands_of (concat (last ∷ [])) =
    ap (λ cs. commands_of (concat cs)) e ∙ ap commands_of (calls_both before (last ∷ [])) ∙ of_both (concat before) (concat (last ∷ [])) in
    front_sendable (commands_of (concat before)) (commands_of (concat (last ∷ []))) (subst (AllByRecursion Sendable) parts h)

read_of : (failed : Bool) (calls : List (List Request)) (commands : List (List (List ℕ))) (rest bytes : List ℕ) → IsSentFor failed calls bytes → flat_map packed commands ++ rest ≡ bytes
    → AllByRecursion Sendable (commands_of (concat calls)) → AllByRecursion Sendable commands → IsUnfinished rest → AreReadOf failed calls commands rest
read_of false calls commands rest bytes are e fit fits u =
    let all = e ∙ are ∙ all_packed (concat calls) ∙ sym (append-nil (flat_map packed (commands_of (concat calls)))) in
    let further = fronts commands (commands_of (concat calls)) rest [] fits fit u all in
    let nothing = no_bytes further.0 rest further.2 in
    (further.1 ∙ ap (λ more. commands_of (concat calls) ++ more) nothing.0 ∙ append-nil (commands_of (concat calls)), nothing.1)
read_of true calls commands rest bytes are e fit fits u =
    let before = are.0 in
    let last = are.1 in
    let part = are.2 in
    let all : flat_map packed commands ++ rest ≡ flat_map packed (commands_of (concat before)) ++ part = e ∙ are.6 ∙ ap (λ bs. bs ++ part) (all_packed (concat before)) in
    let further = fronts commands (commands_of (concat before)) rest part fits (before_sendable calls before last are.4 fit) u all in
    (before, last, further.0, are.3, are.4, further.1, ap (λ bs. bs ++ are.3) further.2 ∙ are.5)

pub no_other_lists : (strategy : Option Strategy) (old new : World) (ts : List PlayedCall) (taken : Address → List Tree) → (run : RunPlayed strategy old new ts taken)
    → (a : Address) (before after : Seen) (out rest : List ℕ) (commands : List (List (List ℕ))) → (was : link_at old.nodes a ≡ Some before) → (now : link_at new.nodes a ≡ Some after)
    → before.sent ≡ Some out → after.sent ≡ Some (out ++ (flat_map packed commands ++ rest))
    → AllByRecursion Sendable (commands_of (concat (run_calls ts a))) → AllByRecursion Sendable commands → IsUnfinished rest
    → AreReadOf (run.made.each a before after was now).write_failed (run_calls ts a) commands rest
no_other_lists strategy old new ts taken run a before after out rest commands was now e f fit fits u =
    let n = run.made.each a before after was now in
    read_of n.write_failed (run_calls ts a) commands rest n.bytes n.are (appended before.sent after.sent out n.bytes (flat_map packed commands ++ rest) e f n.sent) fit fits u
