-- There is an extended machine for all modules, and it is one; it makes words of words, and runs files of the plain
-- machine as that does.
use Rattle.std.proofs.Common.{◌≡◌, ℕ, zero, suc, ◌<◌, ◌≤◌, refl, ap, sym, subst, ◌∙◌, arith, lit<, List, [], ◌∷◌, Option, Some, None, inl, inr}
use Rattle.std.specs.Prelude.{◌^◌, ◌%◌, ◌==◌, ◌&&◌, Bool, true, false, length, slice_get, All, if◌then◌else◌}
use Rattle.std.specs.Option.{option_map}
use Rattle.std.proofs.lemmas.Bool.{cases_lt}
use Rattle.std.proofs.lemmas.Bool.Decides.{nat_tests}
use Rattle.std.proofs.lemmas.Option.{slice_get_cases, get_or_from_slice_get}
use Rattle.std.proofs.lemmas.List.Elements.{All-tail}
use Rattle.std.proofs.lemmas.Grind.{get_or_default_zero}
use Rattle.ci_word.proofs.NumberLaws.{sum_below-same}
use Rattle.ci_isa.specs.declared.instruction.Insn.{Insn}
use Rattle.ci_isa.specs.declared.instruction.Insn.TheVariants.{Lui, Unit, Illegal}
use Rattle.ci_isa.specs.Effects.{is_unit, is_among}
use Rattle.ci_isa.specs.Fields.{HasCustomOpcode}
use Rattle.ci_isa.specs.Laws.{IsInsnAtX}
use Rattle.ci_isa.specs.Table.{ReadsX, IsInsnAt}
use Rattle.ci_isa.proofs.RowCompleteness.{only_extended}
use Rattle.ci_isa.proofs.TableLaws.{one_insn_at_each_word}
use Rattle.ci_elf.specs.WordLists.{AreWords}
use Rattle.ci_verilog.specs.Modules.{Module, IsModule}
use Rattle.ci_verilog.specs.Values.{IsValueOf}
use Rattle.ci_verilog.proofs.ValueLaws.{value_exists, value_is_one, values_are_words}
use Rattle.ci_machine.specs.Cores.{first_hidden, hidden_operands}
use Rattle.ci_machine.specs.Extended.{HasModule, ReadsWith, IsInsnWith, IsExtended, latencies_with}
use Rattle.ci_machine.specs.ExtendedLaws.{ExtendedExists, ExtendedIsOne, ExtendedTakesHidden}
use Rattle.ci_machine.specs.ExtendedLaws.{ExtendedRunsPlainFiles}
use Rattle.ci_machine.specs.Meanings.{GiveSameOfWords}
use Rattle.ci_machine.specs.Programs.{Program, State, in_text, loaded_program, opening}
use Rattle.ci_machine.specs.Runs.{Latencies, latency, before_step, step_cost, cost}
use Rattle.ci_machine.specs.Steps.{Meaning, IsPlain, word_at}
use Rattle.ci_machine.specs.Words.{AreTaken, MakesWords, GivesWords}
use Rattle.ci_machine.proofs.PlainMeaning.{plain_and_extended_agree}
use Rattle.ci_machine.proofs.SameRuns.{runs_of_words, file_runs_alike}
use Rattle.ci_machine.proofs.TestLaws.{some_is}

-- ---- the values of a unit

pub five_words : (a b c d e : ℕ) → a < 2 ^ 32 → b < 2 ^ 32 → c < 2 ^ 32 → d < 2 ^ 32 → e < 2 ^ 32
    → AreWords (a ∷ b ∷ c ∷ d ∷ e ∷ [])
five_words a b c d e first second third fourth fifth zero = first
five_words a b c d e first second third fourth fifth (suc zero) = second
five_words a b c d e first second third fourth fifth (suc (suc zero)) = third
five_words a b c d e first second third fourth fifth (suc (suc (suc zero))) = fourth
five_words a b c d e first second third fourth fifth (suc (suc (suc (suc zero)))) = fifth
five_words a b c d e first second third fourth fifth (suc (suc (suc (suc (suc k))))) = lit< tt

-- ---- one instruction stands at a word

module _ (modules : List Module) (word : ℕ) where
  one_reading : (left right : Insn) → ReadsX word left → ReadsX word right → left ≡ right
  one_reading left right one other = some_is (sym (only_extended word left one) ∙ only_extended word right other)

  -- what has a row at the word is what stands there
  pub row_stands : (insn stands : Insn) → ReadsWith modules word insn → IsInsnWith modules word stands → insn ≡ stands
  row_stands insn (Illegal bare) row is = absurd (is.1 insn row)
  row_stands insn stands row is = one_reading insn stands row.0 is.0

  bare_stands : (bare : ℕ) (stands : Insn) → IsInsnWith modules word (Illegal bare) → IsInsnWith modules word stands
      → Illegal bare ≡ stands
  bare_stands bare (Illegal other) one is = ap (λ w. Illegal w) (one.0 ∙ sym is.0)
  bare_stands bare stands one is = absurd (one.1 stands is)

  pub one_stands : (left right : Insn) → IsInsnWith modules word left → IsInsnWith modules word right → left ≡ right
  one_stands (Illegal bare) right one other = bare_stands bare right one other
  one_stands left right one other = row_stands left right one other

  -- nothing stands where the module is missing that the instruction needs
  pub without_module : (insn : Insn) → ReadsX word insn → ¬ HasModule modules insn → IsInsnWith modules word (Illegal word)
  without_module insn reads missing =
      (refl, λ other row. missing (subst (HasModule modules) (one_reading other insn row.0 reads) row.1))

  some_stands : (insn : Insn) → IsInsnAtX word insn → (found : Insn) × IsInsnWith modules word found
  some_stands (Illegal bare) is = (Illegal bare, (is.0, λ insn row. is.1 insn row.0))
  some_stands (Unit number rd rs1 rs2 rs3) is =
      elim (cases_lt number (length modules)) [
        | inl has ↦ (Unit number rd rs1 rs2 rs3, (is, has))
        | inr past ↦ (Illegal word, without_module (Unit number rd rs1 rs2 rs3) is (λ has. omega arith))
      ]
  some_stands insn is = (insn, (is, tt))

  what_stands : (insn : Insn) × IsInsnWith modules word insn
  what_stands = let there = (one_insn_at_each_word word).1 in some_stands there.insn there.stands

-- ---- what modules compute

-- the module of a number is one of the modules
module_kept : (modules : List Module) → All IsModule modules → (number : ℕ) (m : Module) → slice_get modules number ≡ Some m → IsModule m
module_kept modules all number m there =
    elim (slice_get_cases modules number).1 [
      | inl found ↦ subst IsModule (get_or_from_slice_get modules number m m there) (all number m found.1)
      | inr past ↦ let never : None ≡ Some m = sym past.1 ∙ there in cc
    ]

results_of : (found : Option Module) → ((m : Module) → found ≡ Some m → IsModule m) → List ℕ → List ℕ
results_of (Some m) kept values = (value_exists m (kept m refl) values).0
results_of found kept values = []

results_computed : (found : Option Module) (kept : (m : Module) → found ≡ Some m → IsModule m) (m : Module) → found ≡ Some m → (values : List ℕ)
    → IsValueOf m values (results_of found kept values)
unfolding results_of
results_computed None kept m there values = cc
results_computed (Some other) kept m there values =
    let found = value_exists other (kept other refl) values in
    subst (λ m. IsValueOf m values found.0) (some_is there) found.1

pub extended_exists : ExtendedExists
extended_exists modules all = (
  record {
    insn = λ word. (what_stands modules word).0;
    units = record {
      further = λ number. hidden_operands;
      results = λ number values. results_of (slice_get modules number) (module_kept modules all number) values;
    };
  },
  record {
    reads = λ word. (what_stands modules word).1;
    further = λ number. refl;
    computes = λ number m there values five words.
        results_computed (slice_get modules number) (module_kept modules all number) m there values;
  },
)

-- ---- units

all_words : (values : List ℕ) → AreWords values → All (λ n. n < 2 ^ 32) values
all_words values words k d below = subst (λ (n : ℕ). n < 2 ^ 32) (sym (get_or_default_zero values k d below)) (words k)

are_words : (values : List ℕ) → All (λ n. n < 2 ^ 32) values → AreWords values
are_words [] all k = lit< tt
are_words (n ∷ values) all zero = all 0 0 (omega arith)
are_words (n ∷ values) all (suc k) = are_words values (All-tail (λ n. n < 2 ^ 32) n values all) k

module _ (modules : List Module) (all : All IsModule modules) where
  -- there is a module of each number below theirs
  module_there : (number : ℕ) → number < length modules → (m : Module) × (slice_get modules number ≡ Some m) × IsModule m
  module_there number below =
      elim (slice_get_cases modules number).1 [
        | inl found ↦ (found.0, found.2, module_kept modules all number found.0 found.2)
        | inr past ↦ absurd (omega (arith, past.0))
      ]

  module _ (meaning : Meaning) (is : IsExtended modules meaning) where
    -- a unit may be given as many words as a module has inputs
    pub five_taken : (number : ℕ) (values : List ℕ) → AreTaken meaning.units number values → length values ≡ 5
    five_taken number values taken =
        let e : length (meaning.units.further number) ≡ 2 = ap length (is.further number) in omega (arith, taken.count)

    -- a unit that has a module gives words
    pub units_give_words : (number : ℕ) → number < length modules → (values : List ℕ) → AreTaken meaning.units number values
        → AreWords (meaning.units.results number values)
    units_give_words number has values taken =
        let m = module_there number has in
        are_words (meaning.units.results number values)
        (values_are_words m.0 m.2 values (meaning.units.results number values) (all_words values taken.words)
        (is.computes number m.0 m.1 values (five_taken number values taken) taken.words))

    makes_words : (word : ℕ) (insn : Insn) → IsInsnWith modules word insn → MakesWords meaning.units insn
    makes_words word (Lui rd upper) stands = omega (arith, stands.0.0, stands.0.1.2)
    makes_words word (Unit number rd rs1 rs2 rs3) stands = units_give_words number stands.1
    makes_words word insn stands = tt

    pub extended_gives_words : GivesWords meaning
    extended_gives_words word = makes_words word (meaning.insn word) (is.reads word)

  module _ (left right : Meaning) (one : IsExtended modules left) (other : IsExtended modules right) where
    units_give_same : (word number rd rs1 rs2 rs3 : ℕ) → IsInsnWith modules word (Unit number rd rs1 rs2 rs3)
        → GiveSameOfWords left.units right.units (Unit number rd rs1 rs2 rs3)
    units_give_same word number rd rs1 rs2 rs3 stands = (
      one.further number ∙ sym (other.further number),
      λ values taken.
          let m = module_there number stands.1 in
          let three = five_taken left one number values taken in
          value_is_one m.0 m.2 values (left.units.results number values) (right.units.results number values)
          (one.computes number m.0 m.1 values three taken.words) (other.computes number m.0 m.1 values three taken.words),
    )

    gives_same : (word : ℕ) (insn : Insn) → IsInsnWith modules word insn → GiveSameOfWords left.units right.units insn
    gives_same word (Unit number rd rs1 rs2 rs3) stands = units_give_same word number rd rs1 rs2 rs3 stands
    gives_same word insn stands = tt

pub extended_is_one : ExtendedIsOne
extended_is_one modules all left right one other program n state of_words =
    runs_of_words left right
    (record {
      reads = λ word. one_stands modules word (left.insn word) (right.insn word) (one.reads word) (other.reads word);
      gives = λ word. gives_same modules all left right one other word (left.insn word) (one.reads word);
    })
    program (extended_gives_words modules all left one) n state of_words

pub extended_takes_hidden : ExtendedTakesHidden
extended_takes_hidden modules meaning is number r among = low r (subst (λ further. is_among further r ≡ true) (is.further number) among)
  where
    low : (r : ℕ) → is_among hidden_operands r ≡ true → first_hidden ≤ r
    low r is = grind (arith, nat_tests)

-- ---- files of the plain machine

-- where the opcode is no custom one, the instruction that stands at the word needs no module
stands_as_x : (modules : List Module) (word : ℕ) → ¬ HasCustomOpcode word → (insn : Insn) → IsInsnWith modules word insn → IsInsnAtX word insn
stands_as_x modules word none (Illegal bare) is = (is.0, by_module)
  where
    by_module : (insn : Insn) → ¬ ReadsX word insn
    by_module (Unit number rd rs1 rs2 rs3) reads = none (inl reads.1.0)
    by_module insn reads = is.1 insn (reads, tt)
stands_as_x modules word none insn is = is.0

module _ (modules : List Module) (latencies : Latencies) where
  -- cycles of modules matter to unit words alone
  same_latency : (insn : Insn) → is_unit insn ≡ false → latency latencies insn ≡ latency (latencies_with latencies modules) insn
  same_latency (Unit number rd rs1 rs2 rs3) none = cc
  same_latency insn none = refl

  module _ (plain : Meaning) (is_plain : IsPlain plain) (program : Program) where
    plain_is_no_unit : (word : ℕ) (insn : Insn) → IsInsnAt word insn → is_unit insn ≡ false
    plain_is_no_unit word (Unit number rd rs1 rs2 rs3) stands = absurd stands.1
    plain_is_no_unit word insn stands = refl

    same_step_cost : (state : State) → step_cost plain program latencies state ≡ step_cost plain program (latencies_with latencies modules) state
    same_step_cost state = tested ((state.pc % 4 == 0) && in_text program state.pc) (word_at state.core.memory state.pc)
      where
        costs : Latencies → Option Insn → ℕ
        costs by None = 0
        costs by (Some insn) = latency by insn

        tested : (test : Bool) (word : Option ℕ)
            → costs latencies (if test then option_map plain.insn word else None)
            ≡ costs (latencies_with latencies modules) (if test then option_map plain.insn word else None)
        tested false word = refl
        tested true None = refl
        tested true (Some word) = same_latency (plain.insn word) (plain_is_no_unit word (plain.insn word) (is_plain word))

    same_cost : (n : ℕ) (state : State) → cost plain program latencies n state ≡ cost plain program (latencies_with latencies modules) n state
    same_cost n state = sum_below-same n _ _ _ _ (λ i lt. refl) (λ i lt made. same_step_cost (before_step plain program state i))

pub extended_runs_plain_files : ExtendedRunsPlainFiles
extended_runs_plain_files modules plain extended is_plain is_extended file input n formed none clear =
    let agree =
    plain_and_extended_agree plain extended file is_plain
    (λ word other. stands_as_x modules word other (extended.insn word) (is_extended.reads word)) none in
    let one = file_runs_alike plain extended file formed agree input n clear in (
      one,
      λ latencies.
          same_cost modules latencies plain is_plain (loaded_program file) n (opening file input)
          ∙ one.costs (latencies_with latencies modules),
    )
