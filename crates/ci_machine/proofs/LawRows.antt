-- What the laws say, computed on the programs of the other rows.
use Rattle.std.proofs.Common.{◌≡◌, ◌<◌, ℕ, refl, sym, ap, ◌∙◌, arith, List, [], ◌∷◌, Option, Some, None, pos, is_some}
use Rattle.std.specs.Prelude.{◌+◌, Bool, true, false, not, ◌&&◌, ◌||◌, ◌==◌, if◌then◌else◌}
use Rattle.std.specs.List.{list_any, sum_by}
use Rattle.ci_word.specs.declared.arithmetic.Op.TheVariants.{Add}
use Rattle.ci_word.specs.Numbers.{count_below, sum_below, some_below}
use Rattle.ci_word.proofs.NumberLaws.{some_below_iff}
use Rattle.ci_isa.specs.declared.instruction.LoadKind.TheVariants as kinds
use Rattle.ci_isa.specs.declared.instruction.Insn.{Insn}
use Rattle.ci_isa.specs.declared.instruction.Insn.TheVariants.{Alu, AluImm, Lui, Load, Ecall, Unit, Cread}
use Rattle.ci_isa.specs.Effects.{is_unit, is_cread}
use Rattle.ci_elf.specs.Executables.{Executable, place_of, text_word}
use Rattle.ci_elf.specs.Fields.{field}
use Rattle.ci_machine.specs.declared.ends.End.TheVariants as ends
use Rattle.ci_machine.specs.Cores.{Core, first_hidden, register, with_register}
use Rattle.ci_machine.specs.Outcomes.{at_start}
use Rattle.ci_machine.specs.Agreement.{acted}
use Rattle.ci_machine.specs.Agreement.{AllLeaveText, needed}
use Rattle.ci_machine.specs.Programs.{Program, State, at_pc, in_text, loaded_program, opening}
use Rattle.ci_machine.specs.Steps.{Meaning, word_at}
use Rattle.ci_machine.specs.Touches.{moved, touched}
use Rattle.ci_machine.specs.Runs.{latency, after, before_step, is_made, cost, steps_made}
use Rattle.ci_machine.specs.RunEvents.{jalr_target, entries, IsTame}
use Rattle.ci_machine.specs.Blocks.{behind}
use Rattle.ci_machine.proofs.TestLaws.{by_test}
use Rattle.ci_machine.proofs.Rows.{core, units, plain, file, sample, sample_file, default_latencies, reader, reader_file, reading}

-- ---- words

-- a sum is a word again, and what a unit gives need not be one
sums : (register (acted units (Alu Add 8 6 6) core).state 8 ≡ 0x20) × (register (acted units (Unit 3 8 6 6 7) core).state 8 ≡ 0x100000020)
unfolding core units
sums = (refl, refl)

-- ---- text

-- the sample's run leaves its first word as it is in the file
text_stays : (word_at (after plain sample 61 (opening sample_file [])).state.core.memory 0x10074 ≡ Some 0x00020437)
    × (text_word sample_file 0x10074 ≡ 0x00020437)
unfolding plain sample sample_file units field place_of
text_stays = (refl, refl)

-- sw x0, 0(x2), from a state in which x2 has the word's own address: text that is touched may change
writer_file : Executable
writer_file = record reader_file { bytes = 0x23 ∷ 0x20 ∷ 0x01 ∷ 0x00 ∷ [] }

writing_at : ℕ → State
writing_at address = at_pc 0x1000 (with_register (opening writer_file []).core 2 address)

text_changes : (word_at (after plain (loaded_program writer_file) 1 (writing_at 0x1000)).state.core.memory 0x1000 ≡ Some 0)
    × (touched plain (loaded_program writer_file) (writing_at 0x1000) ≡ Some 0x1000)
unfolding plain writer_file reader_file units writing_at
text_changes = (refl, refl)

-- with another second word the memory is another one in these four bytes
patched_file : Executable
patched_file = record file {
  bytes = 0x13 ∷ 0x05 ∷ 0x70 ∷ 0x00 ∷ 0x93 ∷ 0x08 ∷ 0xe0 ∷ 0x05 ∷ 0x13 ∷ 0x00 ∷ 0x00 ∷ 0x00 ∷ 0x73 ∷ 0x00 ∷ 0x00 ∷ 0x00 ∷ [];
}

opens_alike : ((opening patched_file []).core.memory 0x1006 ≡ Some 0xe0) × ((opening file []).core.memory 0x1006 ≡ Some 0xd0)
    × ((opening patched_file []).core.memory 0x1010 ≡ (opening file []).core.memory 0x1010)
unfolding patched_file file
opens_alike = (refl, refl, refl)

-- a write of two bytes of text touches it, and one of three bytes of which one isn't mapped moves none
calls : ℕ → Core
calls n = record (opening reader_file []).core {
  registers = λ r. if r == 17 then 64 else if r == 10 then 1 else if r == 11 then 0x1002 else if r == 12 then n else 0;
}

call_touches : (list_any (in_text reader) (moved Ecall (calls 2)) ≡ true) × (list_any (in_text reader) (moved Ecall (calls 3)) ≡ false)
unfolding calls reader reader_file
call_touches = (refl, refl)

-- ---- lists of instructions

-- the five instructions that the sample begins with
first_five : List Insn
first_five = Lui 8 0x20000 ∷ AluImm Add 9 0 (pos 4) ∷ AluImm Add 18 0 (pos 0) ∷ Load kinds.W 5 8 (pos 0) ∷ AluImm Add 10 18 (pos 0) ∷ []

-- the second load reads what the first instruction gives, and x8 is written before it is read
needs : (needed units first_five (λ _. false) 8 ≡ false) × (needed units first_five (λ _. true) 7 ≡ true)
    × (needed units (AluImm Add 9 8 (pos 4) ∷ first_five) (λ _. false) 8 ≡ true)
unfolding first_five units
needs = (refl, refl, refl)

-- a hidden register is needed by the `cread` of its index, and else where the set has it
plain_needs : (list_any is_unit first_five ≡ false) × (list_any is_cread first_five ≡ false)
    × (needed units first_five (λ _. false) first_hidden ≡ false) × (needed units first_five (λ _. true) first_hidden ≡ true)
    × (needed units (Cread 6 0 ∷ first_five) (λ _. false) first_hidden ≡ true)
    × (needed units (Cread 6 1 ∷ first_five) (λ _. false) first_hidden ≡ false)
    × (needed units (Cread 6 1 ∷ first_five) (λ _. false) (first_hidden + 1) ≡ true)
unfolding first_five units
plain_needs = (refl, refl, refl, refl, refl, refl, refl)

five_leave_text : AllLeaveText units (in_text sample) first_five (at_start (opening sample_file []).core)
unfolding first_five sample sample_file units
five_leave_text = ((λ on. refl), ((λ on. refl), ((λ on. refl), ((λ on. refl), ((λ on. refl), tt)))))

-- five steps come where the list does, and cost what it does
five_steps :
    ((after plain sample 5 (opening sample_file [])).state.pc ≡ behind first_five 0x10074)
    × (cost plain sample default_latencies 5 (opening sample_file []) ≡ sum_by (latency default_latencies) first_five)
    × (sum_by (latency default_latencies) first_five ≡ 6)
unfolding first_five plain sample sample_file units default_latencies sum_below
five_steps = (refl, refl, refl)

-- the sample's run goes on up to its last step, and stays there
ends_at : ((after plain sample 60 (opening sample_file [])).end ≡ None)
    × ((after plain sample 61 (opening sample_file [])).end ≡ Some (ends.Exit 0))
    × ((after plain sample 70 (opening sample_file [])).state.pc ≡ (after plain sample 60 (opening sample_file [])).state.pc)
unfolding plain sample sample_file units
ends_at = (refl, refl, refl)

-- ---- counts

behind_five : State
behind_five = (after plain sample 5 (opening sample_file [])).state

-- 75 cycles, 61 steps and 4 entries, 5 steps of which lie behind
rest_of_run : (cost plain sample default_latencies 56 behind_five ≡ 69) × (steps_made plain sample 65 behind_five ≡ 56)
    × (entries plain sample 56 behind_five 0x10080 ≡ 3)
unfolding behind_five plain sample sample_file units default_latencies sum_below count_below
rest_of_run = (refl, refl, refl)

-- ---- meanings

-- it reads a word that isn't in the text otherwise, and its units give nothing
other : Meaning
other = record {
  insn = λ word. if word == 0x0000000b then Unit 0 5 6 7 8 else plain.insn word;
  units = record { further = λ number. []; results = λ number values. [] };
}

one_run : ((after other sample 61 (opening sample_file [])).state.core.output ≡ 0xe8 ∷ 0x1d ∷ 0x00 ∷ 0x00 ∷ [])
    × (cost other sample default_latencies 61 (opening sample_file []) ≡ 75)
unfolding other plain sample sample_file units default_latencies sum_below
one_run = (refl, refl)

-- ---- tame runs

-- a JALR that leads to text leads to no listed address
is_unlisted : (ℕ → Bool) → (ℕ → Bool) → Option ℕ → Bool
is_unlisted text is_listed None = false
is_unlisted text is_listed (Some target) = text target && not (is_listed target)

module _ (is_listed : ℕ → Bool) (program : Program) (start : State) where
  -- what no step of a tame run does
  goes_astray : ℕ → Bool
  goes_astray i =
      is_made plain program start i
      && (is_some (touched plain program (before_step plain program start i))
      || is_unlisted (in_text program) is_listed (jalr_target plain program (before_step plain program start i)))

  tame_by_test : (n : ℕ) → some_below n goes_astray ≡ false → IsTame plain program is_listed n start
  unfolding goes_astray is_unlisted
  tame_by_test n none = record {
    leaves_text = λ i lt made. not_some _ (clear (is_made plain program start i) _ _ (stays i lt) made).0;
    listed = λ i target lt made led there.
        let on : is_unlisted (in_text program) is_listed (jalr_target plain program (before_step plain program start i)) ≡ false =
        (clear (is_made plain program start i) _ _ (stays i lt) made).1 in
        let here : (in_text program target && not (is_listed target)) ≡ false =
        sym (ap (is_unlisted (in_text program) is_listed) led) ∙ on in
        by_both (in_text program target) (is_listed target) here there;
  }
    where
      stays : (i : ℕ) → i < n → goes_astray i ≡ false
      stays i lt =
          by_test (goes_astray i)
          (λ astray. let never : true ≡ false = sym ((some_below_iff n goes_astray).1 (i, lt, astray)) ∙ none in cc) (λ no. no)

      not_some : (o : Option ℕ) → is_some o ≡ false → o ≡ None
      not_some None is = refl
      not_some (Some a) is = cc

      clear : (p q r : Bool) → (p && (q || r)) ≡ false → p ≡ true → (q ≡ false) × (r ≡ false)
      clear true false false none is = (refl, refl)
      clear true true r none is = cc
      clear true false true none is = cc
      clear false q r none is = cc

      by_both : (p q : Bool) → (p && not q) ≡ false → p ≡ true → q ≡ true
      by_both p q none is = grind arith

-- the first addresses of the two functions, and that behind the call
listed : ℕ → Bool
listed address = (address == 0x100c4) || (address == 0x100d4) || (address == 0x1008c)

sample_is_tame : IsTame plain sample listed 61 (opening sample_file [])
unfolding goes_astray is_unlisted listed plain sample sample_file units some_below
sample_is_tame = tame_by_test listed sample (opening sample_file []) 61 none
  where
    none : some_below 61 (goes_astray listed sample (opening sample_file [])) ≡ false
    none = refl

-- with no address listed it isn't
sample_needs_a_list : ¬ IsTame plain sample (λ _. false) 61 (opening sample_file [])
unfolding plain sample sample_file units
sample_needs_a_list tame = let never : false ≡ true = tame.listed 5 0x100c4 (omega arith) refl refl refl in cc

-- nor is a run that loads from its text
reader_is_not_tame : ¬ IsTame plain reader listed 1 (reading 0xffe)
unfolding plain reader reader_file reading units
reader_is_not_tame tame = let never : ◌≡◌ {A = Option ℕ} (Some 0x1000) None = tame.leaves_text 0 (omega arith) refl in cc
