-- The environment calls. RISC-V Unprivileged ISA 20191213, section 2.8, leaves them to the environment; their numbers
-- and answers are those of Linux. The number is in x17, the arguments are in x10 to x12, and x10 takes the answer.
use Rattle.std.specs.Prelude.{ℕ, ◌+◌, ◌-◌, ◌^◌, Bool, ◌==◌, ◌&&◌, ◌||◌, nat_le, min, if◌then◌else◌, List, ◌++◌}
use Rattle.std.specs.Prelude.{length, take, drop, Option, Some, None}
use Rattle.ci_elf.specs.MemoryMap.{memory_top, stack_start, stack_end, most_memory}
use Rattle.ci_machine.specs.declared.ends.End.TheVariants as ends
use Rattle.ci_machine.specs.Cores.{Core, register, with_register}
use Rattle.ci_machine.specs.Accesses.{addresses, bytes_at, with_bytes}
use Rattle.ci_machine.specs.Outcomes.{Outcome, Next, Ended}
use Rattle.ci_machine.specs.Programs.{Program, loaded_size, heap_start, lies_in}

-- ---- answers

-- the file number is not one that is open
abbrev pub bad_file : ℕ
bad_file = 0xfffffff7

-- a byte is not mapped
abbrev pub bad_address : ℕ
bad_address = 0xfffffff2

-- there is no such call
abbrev pub no_such_call : ℕ
no_such_call = 0xffffffda

abbrev pub answering : Core → ℕ → Core
answering core answer = with_register core 10 answer

-- ---- bytes that are read and written

-- the n bytes from an address on, where all of them are mapped and none lies past FFFFFFFF
abbrev pub range_at : (ℕ → Option ℕ) → ℕ → ℕ → Option (List ℕ)
range_at memory address n = if nat_le (address + n) (2 ^ 32) then bytes_at memory (addresses n address) else None

-- how many bytes a read gives: those that are wanted, or those that are left
abbrev pub read_length : Core → ℕ
read_length core = min (register core 12) (length core.input)

abbrev pub read_into : Core → Option (List ℕ) → Core
read_into core (Some _) =
    answering
    (record core {
      memory =
          with_bytes core.memory (addresses (read_length core) (register core 11)) (take (read_length core) core.input);
      input = drop (read_length core) core.input;
    })
    (read_length core)
read_into core None = answering core bad_address

-- 63: from the input, file 0
abbrev pub read_call : Core → Core
read_call core =
    if register core 10 == 0 then read_into core (range_at core.memory (register core 11) (read_length core))
    else answering core bad_file

abbrev pub written_from : Core → Option (List ℕ) → Core
written_from core (Some bytes) = answering (record core { output = core.output ++ bytes }) (register core 12)
written_from core None = answering core bad_address

-- the output is file 1 and file 2
abbrev pub is_output : ℕ → Bool
is_output file = (file == 1) || (file == 2)

-- 64: to the output
abbrev pub write_call : Core → Core
write_call core =
    if is_output (register core 10) then written_from core (range_at core.memory (register core 11) (register core 12))
    else answering core bad_file

-- ---- the heap

-- The heap may end there: not below its start nor above the top of memory, with no byte of the stack in it, and with
-- no more bytes than there may be beside those of the segments and the stack.
abbrev pub may_end_at : Program → ℕ → Bool
may_end_at program address =
    nat_le (heap_start program) address && nat_le address memory_top
    && (nat_le address stack_start || nat_le stack_end (heap_start program))
    && nat_le (loaded_size program.segments + (address - heap_start program)) most_memory

-- the bytes up to the new end are mapped, new ones with 0, and those past it are not
abbrev pub with_heap_end : Core → ℕ → Core
with_heap_end core end = record core {
  heap_end = end;
  memory = λ address.
      if lies_in core.heap_end end address then Some 0
      else if lies_in end core.heap_end address then None
      else core.memory address;
}

-- 214: sets the end of the heap, where it may end there, and answers where it ends now
abbrev pub heap_call : Program → Core → Core
heap_call program core =
    let next = if may_end_at program (register core 10) then with_heap_end core (register core 10) else core in
    answering next next.heap_end

-- ---- the call

-- the call of this number
abbrev pub numbered_call : Program → ℕ → Core → Outcome Core
numbered_call program number core =
    if number == 63 then Next (read_call core)
    else if number == 64 then Next (write_call core)
    else if number == 93 then Ended (ends.Exit (register core 10))
    else if number == 214 then Next (heap_call program core)
    else Next (answering core no_such_call)

abbrev pub call : Program → Core → Outcome Core
call program core = numbered_call program (register core 17) core
