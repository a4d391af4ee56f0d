-- States that agree on some registers, and on what runs are compared by.
use Rattle.std.specs.Prelude.{◌≡◌, ℕ, ◌≤◌, Bool, true, false, ◌&&◌, ◌||◌, not, ⊤, List, [], ◌∷◌, None}
use Rattle.std.specs.List.{list_any}
use Rattle.ci_isa.specs.declared.instruction.Insn.{Insn}
use Rattle.ci_isa.specs.declared.instruction.Insn.TheVariants.{Unit, Cread, Cput}
use Rattle.ci_isa.specs.Effects.{operands, results, is_among, ends_block}
use Rattle.ci_machine.specs.Cores.{Core, first_hidden, hidden, hidden_operands, hidden_result, register}
use Rattle.ci_machine.specs.Outcomes.{Reached, continued, reached}
use Rattle.ci_machine.specs.Actions.{Units, act, accessed}

-- ---- what an instruction reads and writes

-- how far one instruction comes
abbrev pub acted : Units → Insn → Core → Reached Core
acted units insn core = reached core (act units insn core)

-- the further registers are hidden ones
abbrev pub TakeHidden : Units → Type 0
TakeHidden units = (number r : ℕ) → is_among (units.further number) r ≡ true → first_hidden ≤ r

-- The registers that it takes its operands from, and those that take its results, with the hidden ones. What a unit
-- word reads depends on its unit, and what it writes on the word alone.
abbrev pub all_operands : Units → Insn → List ℕ
all_operands units (Unit number rd rs1 rs2 rs3) = rs1 ∷ rs2 ∷ rs3 ∷ units.further number
all_operands units (Cread rd index) = hidden_result index ∷ []
all_operands units insn = operands insn

abbrev pub all_results : Insn → List ℕ
all_results (Unit number rd rs1 rs2 rs3) = rd ∷ hidden
all_results (Cput rs1 rs2) = hidden_operands
all_results insn = results insn

abbrev pub reads : Units → Insn → ℕ → Bool
reads units insn = is_among (all_operands units insn)

abbrev pub writes : Insn → ℕ → Bool
writes insn = is_among (all_results insn)

-- ---- runs of several instructions

-- the instructions in order, and none after an end
abbrev pub act_all : Units → List Insn → Reached Core → Reached Core
act_all units [] run = run
act_all units (insn ∷ insns) run = act_all units insns (continued (act units insn) run)

-- ---- agreement

-- memory outside the text, heap end, input left and output are equal
pub record AgreeOutside (text : ℕ → Bool) (left right : Core) : Type 0 where
  pub memory : (address : ℕ) → text address ≡ false → left.memory address ≡ right.memory address
  pub heap_end : left.heap_end ≡ right.heap_end
  pub input : left.input ≡ right.input
  pub output : left.output ≡ right.output

-- the registers of the set are equal
abbrev pub AgreeOn : (ℕ → Bool) → Core → Core → Type 0
AgreeOn set left right = (r : ℕ) → set r ≡ true → register left r ≡ register right r

-- Two runs came to the same end, or both to none. Where they go on, the registers of the set are equal.
pub record AreRelated (text : ℕ → Bool) (set : ℕ → Bool) (left right : Reached Core) : Type 0 where
  pub end : left.end ≡ right.end
  pub outside : AgreeOutside text left.state right.state
  pub registers : left.end ≡ None → AgreeOn set left.state right.state

-- ---- what a list of instructions needs

-- none of them ends a block, so each of them acts
abbrev pub AreActions : List Insn → Type 0
AreActions insns = list_any ends_block insns ≡ false

-- The registers that must agree before the instructions for those of the set to agree behind them: those that are read
-- before they are written, and those of the set that are not written.
abbrev pub needed : Units → List Insn → (ℕ → Bool) → ℕ → Bool
needed units [] set r = set r
needed units (insn ∷ insns) set r = reads units insn r || (needed units insns set r && not (writes insn r))

-- no byte that the instruction moves is text
abbrev pub LeavesText : (ℕ → Bool) → Insn → Core → Type 0
LeavesText text insn core = list_any text (accessed insn core) ≡ false

-- none of the instructions moves a byte of text, up to the one that ends
abbrev pub AllLeaveText : Units → (ℕ → Bool) → List Insn → Reached Core → Type 0
AllLeaveText units text [] run = ⊤
AllLeaveText units text (insn ∷ insns) run =
    (run.end ≡ None → LeavesText text insn run.state) × AllLeaveText units text insns (continued (act units insn) run)
