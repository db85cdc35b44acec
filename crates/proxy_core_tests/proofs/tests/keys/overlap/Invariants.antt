use Rattle.std.specs.Prelude.{◌==◌}
use Rattle.std.specs.List.{list_any}
use Rattle.std.proofs.Common.{◌≡◌, drop}
use Rattle.proxy_core_tests.proofs.tests.keys.overlap.Given as goal

abbrev pub invariant-keys : goal.invariant-keys
invariant-keys l = list_any (λ slot. list_any (λ other. other == slot) l.others) (drop l.key-index l.keys) ≡ list_any (λ slot. list_any (λ other. other == slot) l.others) l.keys
