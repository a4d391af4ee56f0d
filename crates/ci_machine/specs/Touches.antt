-- For readers of profiles and laws: which bytes of memory a step moves, which of them are text, which calls may change
-- bytes below an address, and runs that leave the text alone.
use Rattle.std.specs.Prelude.{◌≡◌, ℕ, ◌<◌, Bool, ◌==◌, ◌&&◌, ◌||◌, nat_lt, true, if◌then◌else◌, List, []}
use Rattle.std.specs.Prelude.{Option, Some, None, find}
use Rattle.ci_isa.specs.declared.instruction.Insn.{Insn}
use Rattle.ci_isa.specs.declared.instruction.Insn.TheVariants.{Ecall}
use Rattle.ci_machine.specs.Accesses.{addresses}
use Rattle.ci_machine.specs.Actions.{accessed}
use Rattle.ci_machine.specs.Calls.{is_output, may_end_at, range_at, read_length}
use Rattle.ci_machine.specs.Cores.{Core, register}
use Rattle.ci_machine.specs.Programs.{Program, State, in_text}
use Rattle.ci_machine.specs.Runs.{before_step, is_made}
use Rattle.ci_machine.specs.Steps.{Meaning, fetched}

-- the addresses of the n bytes from the one in x11 on, where they are all mapped
abbrev pub moved_range : Core → ℕ → List ℕ
moved_range core n = where_mapped (range_at core.memory (register core 11) n) (addresses n (register core 11))
  where
    where_mapped : Option (List ℕ) → List ℕ → List ℕ
    where_mapped (Some _) places = places
    where_mapped None places = []

-- the addresses of the bytes that the call moves, in their order: none where it answers a fault
abbrev pub moved_by_call : Core → List ℕ
moved_by_call core =
    if (register core 17 == 63) && (register core 10 == 0) then moved_range core (read_length core)
    else if (register core 17 == 64) && is_output (register core 10) then moved_range core (register core 12)
    else []

-- the heap ends below this address, or would where the call asks for
abbrev pub may_move_heap_below : Program → ℕ → Core → Bool
may_move_heap_below program address core =
    nat_lt core.heap_end address || (may_end_at program (register core 10) && nat_lt (register core 10) address)

-- The call may change bytes below this address: each read may, and so may one that sets the end of the heap, where that
-- lies below the address before or behind the call.
abbrev pub may_change_below : Program → ℕ → Core → Bool
may_change_below program address core =
    (register core 17 == 63) || ((register core 17 == 214) && may_move_heap_below program address core)

-- the addresses of the bytes that an instruction moves, in the order of the access
abbrev pub moved : Insn → Core → List ℕ
moved Ecall core = moved_by_call core
moved insn core = accessed insn core

-- the address of the first byte of text that the step from this state moves
abbrev pub touched : Meaning → Program → State → Option ℕ
touched meaning program state =
    elim (fetched meaning program state) [ None ↦ None | Some insn ↦ find (in_text program) (moved insn state.core) ]

module _ (meaning : Meaning) (program : Program) where
  -- none of n steps touches the text
  abbrev pub LeavesTextFor : ℕ → State → Type 0
  LeavesTextFor n state =
      (i : ℕ) → i < n → is_made meaning program state i ≡ true
      → touched meaning program (before_step meaning program state i) ≡ None

  -- the step that begins at this pc is the first that touches the text, and this is the first byte that it moves there
  pub record IsFirstTouch (n : ℕ) (state : State) (pc address : ℕ) : Type 0 where
    pub place : ℕ
    pub within : place < n
    pub made : is_made meaning program state place ≡ true
    pub there : (before_step meaning program state place).pc ≡ pc
    pub touches : touched meaning program (before_step meaning program state place) ≡ Some address
    pub first : LeavesTextFor place state
