-- For private contracts: what a map of labels says of each label. The public definition of labels is in Assembly.
use Rattle.std.specs.Prelude.{ℕ, List, Option}
use Rattle.std.specs.BTreeMap.{BTreeMap, get_by}
use Rattle.std.specs.Ordering.{nat_cmp}
use Rattle.std.specs.Cmp.Lexicographic.{slice_cmp}
use denote.Ref.{Bor}
use Rattle.ci_asm.specs.declared.labels.Definition.{Definition}

abbrev pub found_in : BTreeMap (Bor (List ℕ)) Definition → List ℕ → Option Definition
found_in m name = get_by (λ k. slice_cmp nat_cmp name k.now) m
