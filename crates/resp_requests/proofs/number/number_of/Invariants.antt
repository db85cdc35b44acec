use Rattle.std.proofs.Common.{◌≡◌, true, take}
use Rattle.std.specs.Str.Parse.{AllDigits, digits_value}
use Rattle.resp_requests.specs.Numbers.{is_well_led}
use Rattle.resp_requests.proofs.number.number_of.Given as goal

abbrev pub invariant-digits : goal.invariant-digits
invariant-digits l = record {
  led : is_well_led l.digits ≡ true;
  digits : AllDigits 10 (take l.i l.digits);
  value : l.value ≡ digits_value 10 (take l.i l.digits);
}
