-- When two entries are equal: in id, in fields one after another, and in both times.
use Rattle.std.specs.Prelude.{nat_eq, Bool, String, string_bytes}
use Rattle.std.specs.Cmp.{IsPartialEquivalence, and_per, on_per, partial_equiv_from_equiv, nat_eq_equiv}
use Rattle.std.specs.Cmp.Lexicographic.{pointwise, lists_per, nat_list_eq_equiv, options_equiv}
use Rattle.std.specs.Global.{Global}
use Rattle.std.specs.Option.{option_eq}
use Rattle.std.specs.Ordering.{eq_of_both, on}
use Rattle.resp_core.specs.contracts.value.ValuePartialEq.TheImpl as value_eq
use Rattle.resp_core.specs.contracts.value.ValuePartialEq.TheImpl.Laws as value_laws
use Rattle.resp_core.specs.declared.value.Value.{Value}
use Rattle.stream_commands.specs.declared.records.entries.StreamId.{StreamId}

-- two replies, by the `==` of `Value`
abbrev pub same_value : Value → Value → Bool
same_value = (value_eq.ghosts).eq

-- a field: its name by its bytes, and its value
abbrev pub same_field : String Global × Value → String Global × Value → Bool
same_field = eq_of_both (on (λ f. string_bytes f.0) (pointwise nat_eq)) (on (λ f. f.1) same_value)

-- two entries: id, fields one after another, and both times
abbrev pub same_entry : StreamId → StreamId → Bool
same_entry =
    eq_of_both (on (λ s. string_bytes s.id) (pointwise nat_eq))
    (eq_of_both (on (λ s. s.map.entries) (pointwise same_field))
    (eq_of_both (on (λ s. s.milliseconds_elapsed_from_delivery) (option_eq nat_eq))
    (on (λ s. s.delivered_count) (option_eq nat_eq))))

-- the equality of entries is symmetric and transitive
pub same_entry_laws : IsPartialEquivalence same_entry
same_entry_laws =
    and_per (on_per (λ (s : StreamId). string_bytes s.id) (partial_equiv_from_equiv nat_list_eq_equiv))
    (and_per (on_per (λ (s : StreamId). s.map.entries)
    (lists_per (and_per (on_per (λ (f : String Global × Value). string_bytes f.0)
    (partial_equiv_from_equiv nat_list_eq_equiv))
    (on_per (λ (f : String Global × Value). f.1) value_laws.laws-law))))
    (and_per (on_per (λ (s : StreamId). s.milliseconds_elapsed_from_delivery)
    (partial_equiv_from_equiv (options_equiv nat_eq_equiv)))
    (on_per (λ (s : StreamId). s.delivered_count)
    (partial_equiv_from_equiv (options_equiv nat_eq_equiv)))))
