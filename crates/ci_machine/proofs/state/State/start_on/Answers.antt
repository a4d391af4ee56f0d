use Rattle.std.proofs.Common.{◌≡◌, ℕ, zero, suc, false, ◌-◌, ◌∷◌, cond, get_or, replicate, refl, sym, subst, ◌∙◌, nat_eq, arith}
use Rattle.std.proofs.lemmas.Bool.Decides.{nat_tests}
use Rattle.ci_elf.specs.Executables.{IsAscending}
use Rattle.ci_elf.specs.MemoryMap.{stack_end}
use Rattle.ci_machine.specs.States.{state_of, core_of}
use Rattle.ci_machine.proofs.TestLaws.{passed}
use Rattle.ci_machine.proofs.state.State.start_on.Goals as goal

zeros_at : (n k : ℕ) → ◌≡◌ {A = ℕ} (get_or (replicate n 0) k 0) 0
zeros_at zero k = refl
zeros_at (suc n) zero = refl
zeros_at (suc n) (suc k) = zeros_at n k

other : (r : ℕ) → nat_eq (suc (suc (suc r))) 2 ≡ false
other r = grind (arith, nat_tests)

-- x2 alone has a value
registers_at : (value r : ℕ) → ◌≡◌ {A = ℕ} (get_or (0 ∷ 0 ∷ value ∷ replicate 33 0) r 0) (cond (nat_eq r 2) value 0)
registers_at value zero = refl
registers_at value (suc zero) = refl
registers_at value (suc (suc zero)) = refl
registers_at value (suc (suc (suc r))) =
    zeros_at 33 r ∙ sym (passed {A = ℕ} (nat_eq (suc (suc (suc r))) 2) value 0 (other r))

pub returns-clause-state : goal.returns-clause-state
unfolding state_of core_of
returns-clause-state c = λ k. record {
  pc = c.entry.ensures k;
  core = record {
    registers = λ r. registers_at (stack_end - 16) r k;
    memory = c.in_ok-opening_memory.ensures.bytes k;
    heap_end = c.in_ok-opening_memory.ensures.heap k;
    input = c.args.input.items;
    output = c.new-2.ensures.items k;
  };
}

pub new-requires : goal.new-requires
new-requires c = subst IsAscending (sym c.ranges-2.ensures.value) c.ranges-2.ensures.well_formed.ascending
