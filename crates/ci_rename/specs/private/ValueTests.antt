-- For private contracts: the tests by which the code finds values that are local and tied, and registers that are free.
use Rattle.std.specs.Prelude.{◌≡◌, ℕ, ◌<◌, ◌==◌, ◌&&◌, ◌||◌, not, nat_le, Bool, true, false, List, length, IsTrue}
use Rattle.std.specs.List.{list_any}
use Rattle.ci_word.specs.Numbers.{some_below}
use Rattle.ci_isa.specs.declared.instruction.Insn.{Insn}
use Rattle.ci_isa.specs.declared.instruction.Insn.TheVariants.{Ecall}
use Rattle.ci_isa.specs.Effects.{reads_register, writes_register}
use Rattle.ci_isa.specs.Sequences.{nth_insn}
use Rattle.ci_cut.specs.declared.graph.Source.TheVariants.{Made}
use Rattle.ci_cut.specs.FlowGraph.{is_source}
use Rattle.ci_dfg.specs.BlockGraph.{source_of, sources}

abbrev pub is_call : Insn → Bool
is_call Ecall = true
is_call insn = false

module _ (insns : List Insn) where
  -- node k ties the value of node i by the register
  abbrev pub ties : ℕ → ℕ → ℕ → Bool
  ties i r k =
      (nat_le k i && reads_register (nth_insn insns k) r) || (not (k == i) && writes_register (nth_insn insns k) r)

  abbrev pub writes_at : ℕ → ℕ → Bool
  writes_at i r = writes_register (nth_insn insns i) r

  -- an environment call stands at k and reads the value of node i, which writes this register
  abbrev pub is_read_by_call : ℕ → ℕ → ℕ → Bool
  is_read_by_call i r k =
      is_call (nth_insn insns k) && reads_register (nth_insn insns k) r && is_source (Made i) (source_of insns k r)

  -- no environment call reads the value of node i
  abbrev pub IsUncalled : ℕ → Type 0
  IsUncalled i =
      (k : ℕ) → k < length insns → nth_insn insns k ≡ Ecall → list_any (is_source (Made i)) (sources insns k) ≡ false

  -- Node i writes the register, and no node between it and the last one does; that one does, or stands behind the
  -- block. So of the operands in this register those behind i, up to the last one, have node i as their source.
  pub record IsReadUpTo (i r last : ℕ) : Type 0 where
    pub behind : i < last
    pub writes : IsTrue (writes_at i r)
    pub none_between : (k : ℕ) → i < k → k < last → writes_at k r ≡ false
    pub ends : last < length insns → IsTrue (writes_at last r)

  -- one of the first nodes reads or writes the register
  abbrev pub is_used : ℕ → ℕ → Bool
  is_used count r = some_below count (λ k. reads_register (nth_insn insns k) r || writes_at k r)
