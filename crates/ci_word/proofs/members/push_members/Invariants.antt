use Rattle.std.proofs.Common.{◌≡◌, ◌++◌, codes}
use Rattle.std.specs.String.{string_bytes}
use Rattle.std.specs.List.{flat_map}
use Rattle.std.specs.Fmt.{decimal}
use Rattle.std.specs.FinSet as set
use Rattle.ci_word.specs.Numbers.{numbers_below}
use Rattle.ci_word.proofs.members.push_members.Given as goal

abbrev pub invariant-loop-number : goal.invariant-loop-number
invariant-loop-number l = string_bytes l.members ≡ flat_map (λ n. codes " " ++ decimal n) (numbers_below l.number (set.contains l.numbers))
