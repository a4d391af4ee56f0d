-- Renaming the values of a block: a value that lives inside the block alone takes a register that the block doesn't
-- use. For every reader.
use Rattle.std.specs.Prelude.{◌≡◌, ◌≢◌, ℕ, zero, suc, ◌+◌, ◌<◌, ◌==◌, true, false, if◌then◌else◌, List, length, map}
use Rattle.std.specs.List.{list_any}
use Rattle.std.specs.FinSet as finite
use Rattle.std.specs.Ordering.{nat_cmp}
use Rattle.ci_word.specs.Numbers.{numbers_below}
use Rattle.ci_isa.specs.declared.instruction.Insn.{Insn}
use Rattle.ci_isa.specs.declared.instruction.Insn.TheVariants.{Ecall}
use Rattle.ci_isa.specs.Effects.{ends_block, reads_register, writes_register}
use Rattle.ci_isa.specs.Sequences.{nth_insn}
use Rattle.ci_cut.specs.declared.graph.Source.TheVariants.{Made}
use Rattle.ci_cut.specs.FlowGraph.{is_source}
use Rattle.ci_dfg.specs.BlockGraph.{is_live, source_of, sources}
use Rattle.ci_rename.specs.OtherRegisters.{with_operands, with_result}

module _ (insns : List Insn) where
  -- The value of node i is tied by its register: the node reads the register's earlier value, another node writes the
  -- register too, or an earlier node reads it.
  pub data IsTied (i r : ℕ) : Type 0 where
    reads_own : reads_register (nth_insn insns i) r ≡ true → IsTied i r
    by_output : (k : ℕ) → k < length insns → k ≢ i → writes_register (nth_insn insns k) r ≡ true → IsTied i r
    by_anti : (k : ℕ) → k < i → reads_register (nth_insn insns k) r ≡ true → IsTied i r

  -- where the value of node i is in another register, the operand fields of instruction k that have the node as their
  -- source name that one, and so does the node's own result field
  abbrev pub moved_to : ℕ → ℕ → ℕ → ℕ → ℕ
  moved_to i to k r = if is_source (Made i) (source_of insns k r) then to else r

  abbrev pub renamed_insn : ℕ → ℕ → ℕ → Insn
  renamed_insn i to k =
      let read = with_operands (moved_to i to k) (nth_insn insns k) in
      if k == i then with_result to read else read

  abbrev pub renamed : ℕ → ℕ → List Insn
  renamed i to = map (renamed_insn i to) (numbers_below (length insns) (λ _. true))

module _ (live_out : finite.FinSet nat_cmp) (insns : List Insn) where
  -- One of x1 to x31 is free where no node of the block reads or writes it (an environment call reads x10 to x12 and
  -- x17, and writes x10) and it isn't live after the block.
  pub record IsFree (r : ℕ) : Type 0 where
    pub kept : 0 < r
    pub named : r < 32
    pub unread : (k : ℕ) → k < length insns → reads_register (nth_insn insns k) r ≡ false
    pub unwritten : (k : ℕ) → k < length insns → writes_register (nth_insn insns k) r ≡ false
    pub dead : finite.contains live_out r ≡ false

  -- the least of them
  pub record IsLeastFree (r : ℕ) : Type 0 where
    pub free : IsFree r
    pub least : (other : ℕ) → other < r → ¬ IsFree other

  -- The value of node i, in register r, is local: the node doesn't end the block, the value isn't live after the block,
  -- and no environment call reads it.
  pub record IsLocal (i r : ℕ) : Type 0 where
    pub acts : ends_block (nth_insn insns i) ≡ false
    pub writes : writes_register (nth_insn insns i) r ≡ true
    pub dead : is_live insns live_out i ≡ false
    pub uncalled :
        (k : ℕ) → k < length insns → nth_insn insns k ≡ Ecall → list_any (is_source (Made i)) (sources insns k) ≡ false

  -- what may be renamed, and to what
  pub record MayRename (i r to : ℕ) : Type 0 where
    pub is_local : IsLocal i r
    pub tied : IsTied insns i r
    pub least : IsLeastFree to

  -- Node i is gone through: where its value is local and tied and a register is free, the least free one takes the
  -- place of its register. The number is that of values renamed.
  pub data IsGoneThrough (i : ℕ) : List Insn → ℕ → Type 0 where
    renames : (r to : ℕ) → MayRename i r to → IsGoneThrough i (renamed insns i to) 1
    stays : ((r to : ℕ) → ¬ MayRename i r to) → IsGoneThrough i insns 0

-- The block is gone through from its first node to its last, each time as it then is.
pub data AreGoneThrough (live_out : finite.FinSet nat_cmp) (insns : List Insn) : ℕ → List Insn → ℕ → Type 0 where
  none : AreGoneThrough live_out insns zero insns 0
  more :
      (i : ℕ) (before after : List Insn) (values further : ℕ) → AreGoneThrough live_out insns i before values
      → IsGoneThrough live_out before i after further → AreGoneThrough live_out insns (suc i) after (values + further)

-- the renamed block, and how many of its values were renamed
abbrev pub IsRenamed : finite.FinSet nat_cmp → List Insn → List Insn → ℕ → Type 0
IsRenamed live_out insns new values = AreGoneThrough live_out insns (length insns) new values
