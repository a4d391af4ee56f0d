-- What an environment call makes of a core.
use Rattle.std.proofs.Common.{◌≡◌, ℕ, ◌-◌, ◌≤◌, true, false, cond, List, Option, Some, None, is_some, length, take, drop, eqb, refl, sym, ap, ◌∙◌, arith}
use Rattle.std.proofs.lemmas.List.{length-take-le, length-drop}
use Rattle.ci_machine.specs.declared.state.State.{State as Machine}
use Rattle.ci_machine.specs.States.{core_of, program_of, state_of}
use Rattle.ci_machine.specs.Cores.{Core, register}
use Rattle.ci_machine.specs.Accesses.{addresses, with_bytes}
use Rattle.ci_machine.specs.Programs.{Program}
use Rattle.ci_machine.specs.Calls.{answering, range_at, read_length, read_into, read_call, may_end_at, with_heap_end, heap_call}

pub heap_call-is : (program : Program) (core next new : Core) (result : ℕ)
    → next ≡ cond (may_end_at program (register core 10)) (with_heap_end core (register core 10)) core
    → result ≡ next.heap_end → new ≡ answering next result → new ≡ heap_call program core
heap_call-is program core next new result e r n =
    n ∙ ap (answering next) r ∙ ap (λ (c : Core). answering c c.heap_end) e

-- a core after so many bytes were read
abbrev pub after_read : Core → ℕ → Core
after_read core count = record core {
  memory = with_bytes core.memory (addresses count (register core 11)) (take count core.input);
  input = drop count core.input;
}

read_into-some : (core : Core) (bytes : Option (List ℕ)) → is_some bytes ≡ true
    → answering (after_read core (read_length core)) (read_length core) ≡ read_into core bytes
read_into-some core (Some bytes) h = refl
read_into-some core None h = absurd (let e : false ≡ true = h in cc)

pub read_call-is : (core new : Core) (count : ℕ) → register core 10 ≡ 0 → count ≡ read_length core
    → is_some (range_at core.memory (register core 11) count) ≡ true → new ≡ answering (after_read core count) count
    → new ≡ read_call core
read_call-is core new count zero e mapped n =
    let there : is_some (range_at core.memory (register core 11) (read_length core)) ≡ true =
    ap (λ (k : ℕ). is_some (range_at core.memory (register core 11) k)) (sym e) ∙ mapped in
    n ∙ ap (λ (k : ℕ). answering (after_read core k) k) e
    ∙ read_into-some core (range_at core.memory (register core 11) (read_length core)) there
    ∙ sym (ap (λ (x : ℕ). cond (eqb x 0) (read_into core (range_at core.memory (register core 11) (read_length core)))
    (answering core 0xfffffff7)) zero)

-- bytes of the input that were written
pub read_bytes : (memory later : ℕ → Option ℕ) (a read count n : ℕ) (input row : List ℕ) → n ≡ count → row ≡ input
    → count ≤ length input - read
    → later ≡ with_bytes memory (addresses (length (take n (drop read row))) a) (take n (drop read row))
    → later ≡ with_bytes memory (addresses count a) (take count (drop read input))
read_bytes memory later a read count n input row e same within h =
    let size : length (take count (drop read input)) ≡ count =
    length-take-le count (drop read input) (omega (arith, length-drop read input)) in
    h
    ∙ (λ k. with_bytes memory (addresses (length (take (e k) (drop read (same k)))) a) (take (e k) (drop read (same k))))
    ∙ ap (λ (m : ℕ). with_bytes memory (addresses m a) (take count (drop read input))) size

-- the state after the heap's end was asked for or moved
pub heap_called : (old next new : Machine) (result : ℕ)
    → state_of new ≡ record { pc = next.pc; core = answering (core_of next) result } → result ≡ (core_of next).heap_end
    → next.pc ≡ old.pc
    → core_of next ≡ cond (may_end_at (program_of old) (register (core_of old) 10)) (with_heap_end (core_of old) (register (core_of old) 10)) (core_of old)
    → state_of new ≡ record { pc = old.pc; core = heap_call (program_of old) (core_of old) }
heap_called old next new result e r p n =
    e ∙ (λ k. record { pc = p k; core = heap_call-is (program_of old) (core_of old) (core_of next) (answering (core_of next) result) result n r refl k })
