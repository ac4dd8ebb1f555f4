use Rattle.std.proofs.Common.{◌≡◌, drop, true}
use Rattle.std.specs.List.{list_all}
use Rattle.std.specs.Char.{is_ascii_digit}
use Rattle.std.specs.Str.Parse.{digits_value, digits_value_after}
use Rattle.qs_script.proofs.script.words.decimal.Given as goal

-- the number so far and the digits that are left make up the whole
abbrev pub invariant-loop-digit : goal.invariant-loop-digit
invariant-loop-digit l = record {
  whole : digits_value_after 10 l.number (drop l.digit-index l.digits) ≡ digits_value 10 l.digits;
  digits : list_all is_ascii_digit (drop l.digit-index l.digits) ≡ true;
}
