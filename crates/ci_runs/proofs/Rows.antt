-- What the definitions of whole runs say of each end, of the number of steps, and of a program of thirty words.
use Rattle.std.proofs.Common.{◌≡◌, ℕ, ◌+◌, refl, List, [], ◌∷◌, Some, None}
use Rattle.std.specs.Prelude.{Bool, true, false, ◌==◌, ◌/◌, ◌*◌, ◌%◌, ◌^◌, bit_xor, slice_index, if◌then◌else◌}
use Rattle.std.specs.List.{flat_map}
use Rattle.std.specs.Option.{unwrap_or}
use Rattle.ci_word.specs.Numbers.{sum_below}
use Rattle.ci_isa.specs.declared.instruction.Width.TheVariants.{Word}
use Rattle.ci_isa.specs.declared.instruction.Insn.TheVariants.{Illegal}
use Rattle.ci_isa.specs.private.Decoding.{jump_row, branch_row, load_row, store_row, immediate_row, shift_row, constant_row}
use Rattle.ci_isa.specs.private.Decoding.{operation_row, fence_row, environment_row, plain_row, unit_row, hidden_row, extended_row}
use Rattle.ci_elf.specs.Executables.{Executable}
use Rattle.ci_machine.specs.declared.ends.End.{End}
use Rattle.ci_machine.specs.declared.ends.End.TheVariants as ends
use Rattle.ci_machine.specs.Accesses.{bytes_of_number}
use Rattle.ci_machine.specs.Actions.{Units}
use Rattle.ci_machine.specs.Outcomes.{Reached, is_access_fault}
use Rattle.ci_machine.specs.Programs.{Program, State, loaded_program, opening}
use Rattle.ci_machine.specs.Runs.{after, cost}
use Rattle.ci_machine.specs.Steps.{Meaning}
use Rattle.ci_machine.proofs.Rows.{plain, sample, sample_file, default_latencies, units}
use Rattle.ci_runs.specs.WholeRuns.{Rewriting, AreAlikeAt, AreMachines, IsTameFor, RunAlike, MeetAtLeaders, AreAtFront, old_run, new_run, text, is_among}

-- ---- ends

-- a refused access is the only end that may come at another step
refused : is_access_fault (ends.Access 0 Word) ≡ true
refused = refl

not_refused :
    (is_access_fault (ends.Exit 0) ≡ false) × (is_access_fault ends.Break ≡ false) × (is_access_fault (ends.Misaligned 2) ≡ false)
    × (is_access_fault (ends.Fetch 0) ≡ false) × (is_access_fault (ends.Illegal 0) ≡ false)
not_refused = (refl, refl, refl, refl, refl)

-- ---- 256 steps

-- what has ended after n steps has ended in the other run after 256 more, and after as many where no access is refused
within_256 : (is_text : ℕ → Bool) (n : ℕ) (old new : ℕ → Reached State) (end : End) → AreAlikeAt is_text n old new
    → ((old n).end ≡ Some end → (new (n + 256)).end ≡ Some end) × ((new n).end ≡ Some end → (old (n + 256)).end ≡ Some end)
    × (is_access_fault end ≡ false → (old n).end ≡ Some end → (new n).end ≡ Some end)
within_256 is_text n old new end alike =
    (λ is. (alike.old_ends end is).ended, λ is. (alike.new_ends end is).ended, λ fault is. (alike.same_steps end fault).0 is)

-- the premise is that the original run is tame for 256 steps more
tame_for_256 : (rewriting : Rewriting) (first second : Meaning) (input : List ℕ) (n : ℕ) → AreMachines rewriting first second input
    → IsTameFor rewriting first input (n + 256) → RunAlike rewriting
    → AreAlikeAt (text rewriting) n (old_run rewriting first input) (new_run rewriting second input)
tame_for_256 rewriting first second input n machines tame alike = alike first second input n machines tame

fronts_for_256 : (rewriting : Rewriting) (first second : Meaning) (input : List ℕ) (n : ℕ) → AreMachines rewriting first second input
    → IsTameFor rewriting first input (n + 256) → MeetAtLeaders rewriting → (old_run rewriting first input n).end ≡ None
    → is_among rewriting.live.leaders (old_run rewriting first input n).state.pc ≡ true
    → AreAtFront rewriting (old_run rewriting first input n) (new_run rewriting second input n)
fronts_for_256 rewriting first second input n machines tame meet on listed = meet first second input n machines tame on listed

-- ---- a program of thirty words, and the same with two units

-- the first unit is ((a << 3) ^ a) + 5, and the second is (s >> 1) ^ s of s = a + b
unfoldable pub two_units : Units
two_units = record { further = λ number. []; results = results }
  where
    first : ℕ → ℕ
    first a = (bit_xor (a * 8 % 2 ^ 32) a + 5) % 2 ^ 32

    second : ℕ → ℕ
    second s = bit_xor s (s / 2)

    results : ℕ → List ℕ → List ℕ
    results number values =
        (if number == 0 then first (slice_index values 0)
        else second ((slice_index values 0 + slice_index values 1) % 2 ^ 32)) ∷ 0 ∷ []

unfoldable pub extended : Meaning
unfolding jump_row branch_row load_row store_row immediate_row shift_row constant_row operation_row fence_row environment_row plain_row unit_row hidden_row extended_row
extended = record { insn = λ word. unwrap_or (extended_row word) (Illegal word); units = two_units }

-- the two functions, from 100c4 on, with the unit words, no-ops, and what else they had
unfoldable pub folded_file : Executable
folded_file = record sample_file {
  bytes = flat_map (bytes_of_number 4) (
      0x00020437 ∷ 0x00400493 ∷ 0x00000913 ∷ 0x00042283 ∷ 0x00090513 ∷ 0x000280e7 ∷ 0x00050913 ∷ 0x00440413 ∷ 0xfff48493 ∷ 0xfe0494e3
      ∷ 0x000205b7 ∷ 0x0125a823 ∷ 0x01058593 ∷ 0x00100513 ∷ 0x00400613 ∷ 0x04000893 ∷ 0x00000073 ∷ 0x00000513 ∷ 0x05d00893 ∷ 0x00000073
      ∷ 0x0005050b ∷ 0x00000013 ∷ 0x00000013 ∷ 0x00008067 ∷ 0x000103b7 ∷ 0x0ec3a383 ∷ 0x0075150b ∷ 0x00000013 ∷ 0x00000013 ∷ 0x00008067
      ∷ 0x000003e8 ∷ 0x100c4 ∷ 0x100d4 ∷ 0x100c4 ∷ 0x100d4 ∷ 0 ∷ []);
}

unfoldable pub folded : Program
folded = loaded_program folded_file

-- what the law promises of it holds: the same end at the same step, the same output, and 8 cycles less
same_end : (after plain sample 61 (opening sample_file [])).end ≡ (after extended folded 61 (opening folded_file [])).end
unfolding plain sample sample_file units extended two_units folded folded_file
same_end = refl

still_on : ((after plain sample 60 (opening sample_file [])).end ≡ None) × ((after extended folded 60 (opening folded_file [])).end ≡ None)
unfolding plain sample sample_file units extended two_units folded folded_file
still_on = (refl, refl)

same_output : (after extended folded 61 (opening folded_file [])).state.core.output ≡ 0xe8 ∷ 0x1d ∷ 0x00 ∷ 0x00 ∷ []
unfolding extended two_units folded folded_file sample_file
same_output = refl

less_by_eight :
    (cost plain sample default_latencies 61 (opening sample_file []) ≡ 75)
    × (cost extended folded default_latencies 61 (opening folded_file []) ≡ 67)
unfolding plain sample sample_file units extended two_units folded folded_file default_latencies sum_below
less_by_eight = (refl, refl)
