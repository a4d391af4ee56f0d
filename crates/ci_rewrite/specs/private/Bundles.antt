-- For private contracts: bundles of words, that is a `cput`, the unit word behind it, and the `cread` words behind
-- that; and what each of them finds in the hidden registers.
use Rattle.std.specs.Prelude.{◌≡◌, ◌≢◌, ℕ, zero, suc, ◌<◌, ◌≤◌, ⊤, ◌⊎◌, Bool, true, false, ◌&&◌, ◌||◌}
use Rattle.std.specs.Prelude.{if◌then◌else◌, List, [], ◌∷◌, length, slice_index, slice_index_or}
use Rattle.ci_isa.specs.declared.instruction.Insn.{Insn}
use Rattle.ci_isa.specs.declared.instruction.Insn.TheVariants.{Unit}
use Rattle.ci_isa.specs.FieldBounds.{FieldsFit}
use Rattle.ci_isa.specs.Effects.{is_among, is_kept, is_cread, is_cput}
use Rattle.ci_isa.specs.Sequences.{nth_insn}
use Rattle.ci_machine.specs.Actions.{Units}
use Rattle.ci_machine.specs.Agreement.{reads, writes, needed, act_all}
use Rattle.ci_machine.specs.Blocks.{HaveSameStreams}
use Rattle.ci_machine.specs.Cores.{Core, first_hidden, hidden_operands, register, values_in}
use Rattle.ci_machine.specs.Outcomes.{at_start}
use Rattle.ci_dfg.specs.Bundles.{AreBundled}
use Rattle.ci_unit.specs.UseWords.{use_words}

-- ---- what they take

-- a unit word of this number
abbrev pub is_unit_of : ℕ → Insn → Type 0
is_unit_of n (Unit number rd rs1 rs2 rs3) = number ≡ n
is_unit_of n insn = ⊥

-- Units take the hidden operands behind the sources of their words, or none; and none where a unit word of their number
-- in the list has no `cput` directly before it.
pub record TakeGiven (units : Units) (insns : List Insn) : Type 0 where
  pub operands : (number r : ℕ) → is_among (units.further number) r ≡ true → is_among hidden_operands r ≡ true
  pub bare :
      (number k : ℕ) → k < length insns → is_unit_of number (nth_insn insns k)
      → ((u : ℕ) × (k ≡ suc u) × (is_cput (nth_insn insns u) ≡ true)) ⊎ (units.further number ≡ [])

-- ---- what is written there

-- the hidden registers that a bundle has written behind an instruction, by those that it had written before it
abbrev pub given_behind : Insn → (ℕ → Bool) → ℕ → Bool
given_behind insn given r = writes insn r || (is_cread insn && given r)

-- each instruction reads such hidden registers alone as its bundle has written
abbrev pub AreGiven : Units → (ℕ → Bool) → List Insn → Type 0
AreGiven units given [] = ⊤
AreGiven units given (insn ∷ insns) =
    ((r : ℕ) → first_hidden ≤ r → reads units insn r ≡ true → given r ≡ true)
    × AreGiven units (given_behind insn given) insns

-- those that are written before place k
abbrev pub given_at : List Insn → ℕ → ℕ → Bool
given_at insns zero r = false
given_at insns (suc k) r = given_behind (nth_insn insns k) (given_at insns k) r

-- ---- what a bundle finds in the hidden registers, it has written

-- By place: a hidden register that an instruction reads was written by its bundle before it.
abbrev pub BundlesAreGiven : Type 0
BundlesAreGiven =
    (units : Units) (insns : List Insn) → AreBundled insns → TakeGiven units insns
    → ((k : ℕ) → k < length insns → FieldsFit (nth_insn insns k))
    → (k r : ℕ) → k < length insns → first_hidden ≤ r → reads units (nth_insn insns k) r ≡ true
    → given_at insns k r ≡ true

-- So no hidden register is needed before such a list.
abbrev pub NoHiddenNeeded : Type 0
NoHiddenNeeded =
    (units : Units) (insns : List Insn) (set : ℕ → Bool) → AreGiven units (λ _. false) insns
    → ((r : ℕ) → first_hidden ≤ r → set r ≡ false) → (r : ℕ) → first_hidden ≤ r → needed units insns set r ≡ false

-- ---- the use of a unit

-- the registers that a unit takes its values from
abbrev pub taken_from : Bool → List ℕ → List ℕ
taken_from passes inputs =
    slice_index inputs 0 ∷ slice_index inputs 1 ∷ slice_index inputs 2
    ∷ (if passes then slice_index inputs 3 ∷ slice_index inputs 4 ∷ [] else [])

-- what the use leaves: each output in its register, and all else but the hidden registers as before
pub record IsLeft (outputs values : List ℕ) (now behind : Core) : Type 0 where
  pub others :
      (q : ℕ) → q < first_hidden → ((i : ℕ) → i < length outputs → slice_index outputs i ≢ q)
      → register behind q ≡ register now q
  pub there :
      (i : ℕ) → i < length outputs
      → ((j : ℕ) → i < j → j < length outputs → slice_index outputs j ≢ slice_index outputs i)
      → register behind (slice_index outputs i) ≡ slice_index_or values i 0
  pub memory : behind.memory ≡ now.memory
  pub rest : HaveSameStreams behind now

-- The unit takes all its inputs as they are before the use, of which those behind the third by the hidden operands;
-- or the first three alone, whatever is passed.
abbrev pub UseLeaves : Type 0
UseLeaves =
    (units : Units) (passes takes : Bool) (number : ℕ) (inputs outputs : List ℕ) (now : Core)
    → units.further number ≡ (if takes then hidden_operands else []) → (takes ≡ true → passes ≡ true)
    → ((i : ℕ) → slice_index inputs i < first_hidden)
    → ((i : ℕ) → i < length outputs → (slice_index outputs i < first_hidden) × (is_kept (slice_index outputs i) ≡ true))
    → 1 ≤ length outputs → length outputs ≤ 3
    → (behind : Core) × (act_all units (use_words passes number inputs outputs) (at_start now) ≡ at_start behind)
    × IsLeft outputs (units.results number (values_in now (taken_from takes inputs))) now behind
