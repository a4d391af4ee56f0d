use Rattle.std.proofs.Common.{◌≡◌, ◌<◌, ◌^◌, take}
use Rattle.std.specs.Str.Parse.{digits_value}
use Rattle.ci_asm.proofs.numbers.capped.Given as goal

-- what the digits so far write, which fits
abbrev pub invariant-loop-byte : goal.invariant-loop-byte
invariant-loop-byte l = record {
  value : l.magnitude ≡ digits_value l.base (take l.byte-index l.digits);
  bound : l.magnitude < 64 ^ l.byte-index;
}
