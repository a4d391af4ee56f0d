use Rattle.std.specs.String.{string_bytes}
use Rattle.std.proofs.Common.{take}
use Rattle.ci_reading.specs.Bytes.{words_of_bytes}
use Rattle.ci_commands.specs.DisCommand.{IsListing}
use Rattle.ci_commands.proofs.dis.listing.Given as goal

abbrev pub invariant-loop-place : goal.invariant-loop-place
invariant-loop-place l = IsListing (take l.place (words_of_bytes l.bytes)) (string_bytes l.text)
