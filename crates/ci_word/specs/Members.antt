-- The text of the members of a set of numbers below 256.
use Rattle.std.specs.Prelude.{ℕ, Bool, List, ◌++◌, codes}
use Rattle.std.specs.List.{flat_map}
use Rattle.std.specs.Fmt.{decimal}
use Rattle.ci_word.specs.Numbers.{numbers_below}

-- the numbers below 256 that pass the test, in ascending order, each in decimal after a blank
abbrev pub members_text : (ℕ → Bool) → List ℕ
members_text test = flat_map (λ n. codes " " ++ decimal n) (numbers_below 256 test)
