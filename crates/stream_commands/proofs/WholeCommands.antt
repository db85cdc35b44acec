-- Whole commands, from the arguments that their parts are written as.
use Rattle.std.proofs.Common.{◌≡◌, ℕ, List, [], ◌∷◌, ◌++◌, map, codes, refl, ap, sym, ◌∙◌}
use Rattle.std.specs.List.{flat_map}
use Rattle.resp_args.specs.Command.{Command, new_command}
use Rattle.resp_args.specs.declared.cmd.Arg.TheVariants.{Simple}
use Rattle.resp_args.proofs.Writings.{map-append}
use Rattle.stream_commands.specs.Clauses.{Args}
use Rattle.stream_commands.specs.Settings.{AddSettings}
use Rattle.stream_commands.specs.Sentences.{add_sentence}
use Rattle.stream_commands.specs.Commands.{field_args, xadd, plain_command}

-- names and values that are one argument each
fields_one : {F V : Type 0} (names : F → Args) (name : F → List ℕ) (values : V → Args) (value : V → List ℕ) → ((f : F) → names f ≡ name f ∷ []) → ((v : V) → values v ≡ value v ∷ []) → (fields : List (F × V))
    → flat_map (λ p. names p.0 ++ values p.1) fields ≡ field_args (map (λ p. (name p.0, value p.1)) fields)
fields_one names name values value n v [] = refl
fields_one names name values value n v (f ∷ fs) = rw (n f.0, v f.1, fields_one names name values value n v fs) refl

pub xadd_args : {F V : Type 0} (names : F → Args) (name : F → List ℕ) (values : V → Args) (value : V → List ℕ) → ((f : F) → names f ≡ name f ∷ []) → ((v : V) → values v ≡ value v ∷ []) → (fields : List (F × V))
    → (options : AddSettings) (keys : Args) (key : List ℕ) (ids : Args) (id : List ℕ) → keys ≡ key ∷ [] → ids ≡ id ∷ []
    → ((codes "XADD" ∷ []) ++ keys) ++ add_sentence options ++ ids ++ flat_map (λ p. names p.0 ++ values p.1) fields ≡ xadd key options id (map (λ p. (name p.0, value p.1)) fields)
xadd_args names name values value n v fields options keys key ids id k i = rw (k, i, fields_one names name values value n v fields) refl

-- arguments that are appended
pub then_args : (old new : Command) (args more : Args) → old ≡ plain_command args → new ≡ record old { args = old.args ++ map Simple more } → new ≡ plain_command (args ++ more)
then_args old new args more is added = added ∙ ap (λ (c : Command). record c { args = c.args ++ map Simple more }) is ∙ ap (λ all. record new_command { args = all }) (sym (map-append args more))
