-- Two instructions whose order counts, and what keeps it.
use Rattle.std.specs.Prelude.{◌≡◌, ℕ, ◌<◌, true, ◌⊎◌, List, IsTrue}
use Rattle.ci_isa.specs.declared.instruction.Insn.{Insn}
use Rattle.ci_isa.specs.Effects.{reads_register, writes_register, is_access}
use Rattle.ci_isa.specs.Sequences.{nth_insn}
use Rattle.ci_dfg.specs.BlockGraph.{has_arc_into}

-- A data hazard in register r: the second reads what the first writes, or writes what the first reads or writes. This
-- speaks of x1 to x31 alone: the hidden registers are what the words of a bundle share.
pub data HasHazard (r : ℕ) (first second : Insn) : Type 0 where
  read_after_write : writes_register first r ≡ true → reads_register second r ≡ true → HasHazard r first second
  write_after_read : reads_register first r ≡ true → writes_register second r ≡ true → HasHazard r first second
  write_after_write : writes_register first r ≡ true → writes_register second r ≡ true → HasHazard r first second

-- a node between j and k that writes register r too, with an arc from j into it and one from it into k
pub record IsJoinedBy (insns : List Insn) (r j k i : ℕ) : Type 0 where
  pub behind : j < i
  pub before : i < k
  pub writes : writes_register (nth_insn insns i) r ≡ true
  pub enters : IsTrue (has_arc_into insns i j)
  pub leaves : IsTrue (has_arc_into insns k i)

-- An arc joins two nodes with a hazard in a register, or a node between them that writes the register too.
abbrev pub HazardsAreJoined : Type 0
HazardsAreJoined =
    (insns : List Insn) (r j k : ℕ) → j < k → HasHazard r (nth_insn insns j) (nth_insn insns k)
    → IsTrue (has_arc_into insns k j) ⊎ ((i : ℕ) × IsJoinedBy insns r j k i)

-- An arc joins two nodes that both go to memory.
abbrev pub AccessesAreJoined : Type 0
AccessesAreJoined =
    (insns : List Insn) (j k : ℕ) → j < k → is_access (nth_insn insns j) ≡ true → is_access (nth_insn insns k) ≡ true
    → IsTrue (has_arc_into insns k j)
