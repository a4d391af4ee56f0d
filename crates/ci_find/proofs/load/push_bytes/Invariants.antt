use Rattle.std.proofs.Common.{◌≡◌, ◌++◌, take}
use Rattle.std.specs.String.{string_bytes}
use Rattle.ci_find.specs.LoadCommand.{byte_digits}
use Rattle.ci_find.proofs.load.push_bytes.Given as goal

-- the digits of the bytes so far were appended
abbrev pub invariant-loop-byte : goal.invariant-loop-byte
invariant-loop-byte l = string_bytes l.text ≡ string_bytes l.initial.text ++ byte_digits (take l.byte-index l.bytes)
