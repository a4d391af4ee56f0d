-- Files that are read one after the other.
use Rattle.std.proofs.Common.{◌≡◌, ◌≢◌, ◌⊎◌, ℕ, ◌≤◌, inl, inr, Bool, List, [], ◌∷◌, ◌++◌, length, Option, Some, Result, Ok, Err, IfOk}
use Rattle.std.proofs.Common.{refl}
use Rattle.std.specs.Prelude.{Vec, IfErr}
use Rattle.std.specs.declared.alloc.Global.{Global}
use Rattle.ci_io.specs.CallLists.{Answer, Call, read}
use Rattle.ci_io.specs.MadeCalls.{AreMade}
use Rattle.ci_io.specs.Outcomes.{ShelfState}
use Rattle.ci_io.proofs.CallLaws.{AreMade-append}
use Rattle.ci_elf.specs.declared.faults.ElfFault.{ElfFault}
use Rattle.ci_elf.specs.declared.faults.ElfFault.TheVariants as elf
use Rattle.ci_elf.specs.Rules.{IsReadAs}
use Rattle.ci_lat.specs.declared.faults.LatFault.{LatFault}
use Rattle.ci_lat.specs.declared.faults.LatFault.TheVariants as lat
use Rattle.ci_lat.specs.Faults.{HaveFault}
use Rattle.ci_log.specs.declared.faults.LogFault.{LogFault}
use Rattle.ci_log.specs.declared.faults.LogFault.TheVariants as log
use Rattle.ci_log.specs.Faults.{IsFaultOf as IsLogFaultOf}
use Rattle.ci_netlist.specs.declared.faults.GateFault.{GateFault}
use Rattle.ci_netlist.specs.declared.faults.GateFault.TheVariants as net
use Rattle.ci_netlist.specs.Faults.{IsFaultOf as IsNetFaultOf}
use Rattle.ci_vread.specs.declared.faults.VFault.{VFault}
use Rattle.ci_vread.specs.declared.faults.VFault.TheVariants as verilog
use Rattle.ci_vread.specs.Promised.{IsFaultOf}
use Rattle.ci_calls.specs.declared.refusals.Refusal.{Refusal}
use Rattle.ci_calls.specs.declared.refusals.Refusal.TheVariants.{NoMemory}
use Rattle.ci_calls.specs.Files.{program_input, input_bytes}
use Rattle.ci_calls.specs.Forms.{Form, IsWellFormed, IsMalformed, any_bytes, executable_file, latency_table}
use Rattle.ci_calls.specs.Forms.{verilog_units, log_book, gate_netlists}
use Rattle.ci_calls.specs.Inputs.{Input}
use Rattle.ci_calls.specs.Reads.{AreFit, reads_of, IsRefusedAs, AreStoppedReads, HaveRead, HaveNotRead, out_of_memory, refused}
use Rattle.ci_calls.specs.Reads.{one_more, IsReadingOf, IsOptionalReadingOf}
use Rattle.ci_calls.specs.Refused.{elf_refusal, log_refusal, nets_refusal, table_refusal, units_refusal}

-- ---- lists of files

AreFit-append : (front others : List Input) (answered more : List (List ℕ)) → AreFit front answered
    → AreFit others more → AreFit (front ++ others) (answered ++ more)
AreFit-append [] others [] more a b = b
AreFit-append [] others (bytes ∷ answered) more a b = absurd a
AreFit-append (input ∷ front) others [] more a b = absurd a
AreFit-append (input ∷ front) others (bytes ∷ answered) more a b =
    (a.0, AreFit-append front others answered more a.1 b)

reads_of-append : (front others : List Input) (answered more : List (List ℕ)) → AreFit front answered
    → reads_of (front ++ others) (answered ++ more) ≡ reads_of front answered ++ reads_of others more
reads_of-append [] others [] more fit = refl
reads_of-append [] others (bytes ∷ answered) more fit = absurd fit
reads_of-append (input ∷ front) others [] more fit = absurd fit
reads_of-append (input ∷ front) others (bytes ∷ answered) more fit =
    λ i. read input.name input.limit (Ok bytes) ∷ reads_of-append front others answered more fit.1 i

stopped_behind : (front others : List Input) (answered : List (List ℕ)) (calls : List Call) (refusal : Refusal)
    → AreFit front answered → AreStoppedReads others calls refusal
    → AreStoppedReads (front ++ others) (reads_of front answered ++ calls) refusal
stopped_behind [] others [] calls refusal fit stopped = stopped
stopped_behind [] others (bytes ∷ answered) calls refusal fit stopped = absurd fit
stopped_behind (input ∷ front) others [] calls refusal fit stopped = absurd fit
stopped_behind (input ∷ front) others (bytes ∷ answered) calls refusal fit stopped =
    one_more input (front ++ others) bytes (reads_of front answered ++ calls) refusal fit.0
    (stopped_behind front others answered calls refusal fit.1 stopped)

stopped_after : (inputs : List Input) (answered : List (List ℕ)) → AreFit inputs answered
    → AreStoppedReads inputs (reads_of inputs answered) NoMemory
stopped_after [] answered fit = out_of_memory []
stopped_after (input ∷ inputs) [] fit = absurd fit
stopped_after (input ∷ inputs) (bytes ∷ answered) fit =
    one_more input inputs bytes (reads_of inputs answered) NoMemory fit.0 (stopped_after inputs answered fit.1)

-- ---- bytes that are refused

-- the refusal of bytes that are not of the form, or for which memory ran out
abbrev IsRefusedFor : Form → List ℕ → Refusal → Type 0
IsRefusedFor form bytes refusal = IsMalformed form bytes refusal ⊎ (refusal ≡ NoMemory)

pub bad_executable : (bytes : List ℕ) (fault : ElfFault) → IsReadAs bytes (Err fault)
    → IsRefusedFor executable_file bytes (elf_refusal fault)
bad_executable bytes elf.NoMemory broken = inr refl
bad_executable bytes fault broken = inl (broken (λ e. cc))

pub bad_table : (bytes : List ℕ) (fault : LatFault) → (fault ≢ lat.NoMemory → HaveFault bytes fault)
    → IsRefusedFor latency_table bytes (table_refusal fault)
bad_table bytes lat.NoMemory has = inr refl
bad_table bytes fault has = inl (has (λ e. cc))

pub bad_units : (bytes : List ℕ) (fault : VFault) → IsFaultOf bytes fault
    → IsRefusedFor verilog_units bytes (units_refusal fault)
bad_units bytes verilog.NoMemory has = inr refl
bad_units bytes (verilog.Bad kind offset) has = inl has

pub bad_book : (bytes : List ℕ) (fault : LogFault) → IsLogFaultOf bytes fault
    → IsRefusedFor log_book bytes (log_refusal fault)
bad_book bytes log.NoMemory has = inr refl
bad_book bytes fault has = inl has

pub bad_nets : (bytes : List ℕ) (fault : GateFault) → IsNetFaultOf bytes fault
    → IsRefusedFor gate_netlists bytes (nets_refusal fault)
bad_nets bytes net.NoMemory has = inr refl
bad_nets bytes (net.Bad offset) has = inl has

module _ (read_may_fail write_may_fail : List ℕ → Bool) where
  abbrev Read : ShelfState → ShelfState → List Input → List (List ℕ) → Type 0
  Read = HaveRead read_may_fail write_may_fail

  abbrev NotRead : ShelfState → ShelfState → List Input → Refusal → Type 0
  NotRead = HaveNotRead read_may_fail write_may_fail

  -- no file is read
  pub none_read : (before : ShelfState) → Read before before [] []
  none_read before = record { fit = tt; made = refl }

  -- some files are read, and then others
  pub HaveRead-append : (before between after : ShelfState) (front others : List Input) (answered more : List (List ℕ))
      → Read before between front answered → Read between after others more
      → Read before after (front ++ others) (answered ++ more)
  HaveRead-append before between after front others answered more a b = record {
    fit = AreFit-append front others answered more a.fit b.fit;
    made = rw (reads_of-append front others answered more a.fit)
        (AreMade-append read_may_fail write_may_fail before between after (reads_of front answered)
        (reads_of others more) a.made b.made);
  }

  -- some files are read, and then others are not
  pub unread_behind : (before between after : ShelfState) (front others : List Input) (answered : List (List ℕ))
      (refusal : Refusal) → Read before between front answered → NotRead between after others refusal
      → NotRead before after (front ++ others) refusal
  unread_behind before between after front others answered refusal a b = record {
    calls = reads_of front answered ++ b.calls;
    stopped = stopped_behind front others answered b.calls refusal a.fit b.stopped;
    made = AreMade-append read_may_fail write_may_fail before between after (reads_of front answered) b.calls a.made b.made;
  }

  -- all files are read, and then memory runs out
  pub read_without_memory : (before after : ShelfState) (inputs : List Input) (answered : List (List ℕ))
      → Read before after inputs answered → NotRead before after inputs NoMemory
  read_without_memory before after inputs answered a = record {
    calls = reads_of inputs answered;
    stopped = stopped_after inputs answered a.fit;
    made = a.made;
  }

  -- memory runs out before any file is read
  pub nothing_read : (before : ShelfState) (inputs : List Input) → NotRead before before inputs NoMemory
  nothing_read before inputs = record { calls = []; stopped = out_of_memory inputs; made = refl }

  -- ---- one file

  abbrev MadeOne : ShelfState → ShelfState → Call → Type 0
  MadeOne before after call = AreMade read_may_fail write_may_fail before after (call ∷ [])

  -- one file is all that is read
  pub one_read : (before after : ShelfState) (input : Input) (bytes : List ℕ)
      → MadeOne before after (read input.name input.limit (Ok bytes)) → length bytes ≤ input.limit
      → IsWellFormed input.form bytes → Read before after (input ∷ []) (bytes ∷ [])
  one_read before after input bytes made within well_formed =
      record { fit = (record { within_limit = within; well_formed = well_formed }, tt); made = made }

  module _ (before after : ShelfState) (others : List Input) where
    -- the first file is refused, whatever comes behind it
    pub first_unread : (input : Input) (answer : Answer) (refusal : Refusal) → IsRefusedAs input answer refusal
        → MadeOne before after (read input.name input.limit answer) → NotRead before after (input ∷ others) refusal
    first_unread input answer refusal is made = record {
      calls = read input.name input.limit answer ∷ [];
      stopped = refused input others answer refusal is;
      made = made;
    }

  -- a file that an option names is read as it is where it is named
  pub named : {T : Type 0} (before after : ShelfState) (input : List ℕ → Input) (name : List ℕ)
      (Says : List ℕ → T → Type 0) (SaysOf : Option (List ℕ) → T → Type 0) (result : Result T Refusal)
      → ((bytes : List ℕ) (value : T) → Says bytes value → SaysOf (Some bytes) value)
      → IsReadingOf read_may_fail write_may_fail before after (input name) result Says
      → IsOptionalReadingOf read_may_fail write_may_fail before after input (Some name) result SaysOf
  named before after input name Says SaysOf (Ok value) says (bytes, was, is) = (Some bytes, refl, was, says bytes value is)
  named before after input name Says SaysOf (Err refusal) says unread = unread

  -- the input of a program, where a file is given
  pub input_given : (before after : ShelfState) (name : List ℕ) (result : Result (Vec ℕ Global) Refusal)
      → IfOk result (λ bytes. MadeOne before after (read name 16777216 (Ok bytes.items)))
      → IfOk result (λ bytes. length bytes.items ≤ 16777216)
      → IfErr result (λ refusal. (form : Form) (others : List Input)
      → NotRead before after (record { name = name; limit = 16777216; form = form } ∷ others) refusal)
      → IsOptionalReadingOf read_may_fail write_may_fail before after program_input (Some name) result
      (λ bytes input. input.items ≡ input_bytes bytes)
  input_given before after name (Ok bytes) made within unread =
      (Some bytes.items, refl, one_read before after (program_input name) bytes.items made within tt, refl)
  input_given before after name (Err refusal) made within unread = unread any_bytes
