use Rattle.std.proofs.Common.{◌≡◌, ◌-◌, ◌++◌, take}
use Rattle.std.specs.String.{string_bytes}
use Rattle.ci_reading.specs.Hex.{eight_hex_digits}
use Rattle.ci_reading.proofs.hex.push_hex.Given as goal

-- the digits above the place
abbrev pub invariant-loop-place : goal.invariant-loop-place
invariant-loop-place l = string_bytes l.text ≡ string_bytes l.initial.text ++ take (8 - l.place) (eight_hex_digits l.word)
