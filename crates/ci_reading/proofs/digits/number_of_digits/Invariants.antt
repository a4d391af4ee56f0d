-- The digits so far are digits of the base, and the number is theirs.
use Rattle.std.proofs.Common.{◌≡◌, ◌<◌, ◌≤◌, take, length}
use Rattle.std.specs.Str.Parse.{AllDigits, digits_value}
use Rattle.ci_reading.proofs.digits.number_of_digits.Given as goal

abbrev pub invariant-loop-byte : goal.invariant-loop-byte
invariant-loop-byte l = record {
  digits : AllDigits l.base (take l.byte-index l.text);
  value : l.number ≡ digits_value l.base (take l.byte-index l.text);
  some : 0 < length l.text;
  few : length l.text ≤ l.most;
}
