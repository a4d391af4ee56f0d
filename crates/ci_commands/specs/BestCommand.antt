-- For every reader: the command `best`, the best cut of a block, which is that of a file of words, or one of an
-- executable file. `pair` is the same command with another line.
use Rattle.std.specs.Prelude.{◌≡◌, ℕ, Bool, List, [], ◌∷◌, ◌++◌, codes, Option, Some, None}
use Rattle.std.specs.Fmt.{decimal, signed_decimal}
use Rattle.std.specs.FinSet as set
use Rattle.std.specs.Ordering.{nat_cmp}
use Rattle.ci_reading.specs.Lines.{line}
use Rattle.ci_word.specs.Members.{members_text}
use Rattle.ci_isa.specs.declared.instruction.Insn.{Insn}
use Rattle.ci_elf.specs.Executables.{Executable, IsImageOf}
use Rattle.ci_lat.specs.Latencies.{Latencies}
use Rattle.ci_cut.specs.declared.graph.Limits.{Limits}
use Rattle.ci_cut.specs.FlowGraph.{FlowGraph}
use Rattle.ci_cut.specs.Gain.{gain}
use Rattle.ci_cut.specs.Best.{IsBest, HasNoCut}
use Rattle.ci_cut.specs.Need.{NeedExceeds}
use Rattle.ci_dfg.specs.BlockGraph.{graph_of}
use Rattle.ci_calls.specs.declared.refusals.Refusal.{Refusal}
use Rattle.ci_calls.specs.declared.success.Success.{Success}
use Rattle.ci_calls.specs.Evaluations.{IsUnsupported}
use Rattle.ci_calls.specs.Files.{executable_input, table_input, optional_input, optional_bytes, AreGiven, AreLatencies}
use Rattle.ci_calls.specs.Forms.{any_bytes}
use Rattle.ci_calls.specs.Inputs.{Input}
use Rattle.ci_commands.specs.ListedBlocks.{IsListedBlock, IsNoListedBlock}
use Rattle.ci_commands.specs.WordBlocks.{IsWordBlock, IsNoWordBlock, every_register}

-- ---- the block

-- the file with the block: an executable where an address in it is given, and else the words of the block
abbrev pub block_input : Option ℕ → List ℕ → Input
block_input None name = record { name = name; limit = 1024; form = any_bytes }
block_input (Some address) name = executable_input name

-- The block that the file holds, and the registers that are live after it. After a block of words alone these are all.
abbrev pub HoldsBlock : Option ℕ → List ℕ → List ℕ → List Insn → set.FinSet nat_cmp → Type 0
HoldsBlock None named bytes insns live_out = IsWordBlock bytes insns × (live_out ≡ every_register)
HoldsBlock (Some address) named bytes insns live_out =
    (file : Executable) × IsImageOf bytes file × IsListedBlock file named address insns live_out

-- why it holds none, as a position and a word
abbrev pub HoldsNoBlock : Option ℕ → List ℕ → List ℕ → ℕ → ℕ → Type 0
HoldsNoBlock None named bytes position word = IsNoWordBlock bytes position word
HoldsNoBlock (Some address) named bytes position word =
    (file : Executable) × IsImageOf bytes file × IsNoListedBlock file named address position word

-- ---- the line

-- the members in ascending order, and the gain
abbrev pub cut_line : FlowGraph → (ℕ → Bool) → List ℕ
cut_line graph cut =
    line (codes "cut" ++ members_text cut ++ codes " gain " ++ signed_decimal (gain graph cut))

abbrev pub no_cut_line : List ℕ
no_cut_line = line (codes "no cut")

abbrev pub skipped_line : ℕ → List ℕ
skipped_line budget = line (codes "skipped budget " ++ decimal budget)

-- The line of the best cut, or that there is none; or, exactly where the need of the graph is greater than the budget,
-- that the block is skipped.
pub data IsBestLine (graph : FlowGraph) (limits : Limits) (budget : ℕ) : List ℕ → Type 0 where
  cut_is_best : (cut : ℕ → Bool) → ¬ NeedExceeds graph limits budget → IsBest graph limits cut
      → IsBestLine graph limits budget (cut_line graph cut)
  no_cut : ¬ NeedExceeds graph limits budget → HasNoCut graph limits → IsBestLine graph limits budget no_cut_line
  skipped : NeedExceeds graph limits budget → IsBestLine graph limits budget (skipped_line budget)

-- ---- the command

-- the file with the block, and the table
abbrev pub best_inputs : Option ℕ → List ℕ → Option (List ℕ) → List Input
best_inputs at file table = block_input at file ∷ optional_input table_input table

module _ (at : Option ℕ) (named : List ℕ) where
  -- It puts the line that is due to the block within the limits and the budget, by the latencies of the table. Which line
  -- is due tells the relation of a graph, the limits and the budget with a line.
  pub record IsBestMade
      (IsLineOf : FlowGraph → Limits → ℕ → List ℕ → Type 0) (limits : Limits) (budget : ℕ)
      (table_name : Option (List ℕ)) (read : List (List ℕ)) (success : Success) : Type 0 where
    pub bytes : List ℕ
    pub table : Option (List ℕ)
    pub read_is : read ≡ bytes ∷ optional_bytes table
    pub table_given : AreGiven table_name table
    pub insns : List Insn
    pub live_out : set.FinSet nat_cmp
    pub latencies : Latencies
    pub block : HoldsBlock at named bytes insns live_out
    pub latencies_are : AreLatencies table latencies
    pub line : IsLineOf (graph_of insns live_out latencies) limits budget success.text.items
    pub writes_none : success.writes.items ≡ []

  -- it refuses a file that holds no block
  pub record IsBestRefused (read : List (List ℕ)) (refusal : Refusal) : Type 0 where
    pub bytes : List ℕ
    pub others : List (List ℕ)
    pub read_is : read ≡ bytes ∷ others
    pub unsupported : IsUnsupported (HoldsNoBlock at named bytes) refusal
