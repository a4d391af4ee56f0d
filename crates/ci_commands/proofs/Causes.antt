-- Why there is no answer on a file.
use Rattle.std.proofs.Common.{◌≡◌, ℕ, ◌≤◌, inl, inr, Bool, List, [], ◌∷◌, length, Ok, refl, sym, ◌∙◌}
use Rattle.ci_io.specs.CallLists.{read}
use Rattle.ci_io.specs.MadeCalls.{AreMade}
use Rattle.ci_io.specs.Outcomes.{ShelfState}
use Rattle.ci_asm.specs.declared.faults.AsmFault.{AsmFault}
use Rattle.ci_asm.specs.declared.faults.AsmFault.TheVariants as assembly
use Rattle.ci_calls.specs.declared.refusals.Refusal.{Refusal}
use Rattle.ci_calls.specs.declared.refusals.Refusal.TheVariants.{Unsupported, NoMemory, ManyGates}
use Rattle.ci_calls.specs.Evaluations.{IsUnsupported, IsManyGates}
use Rattle.ci_calls.specs.Inputs.{Input}
use Rattle.ci_calls.specs.Reads.{HaveRead, HaveNotRead, IsRefusalOf}
use Rattle.ci_calls.specs.Refused.{asm_refusal}
use Rattle.ci_calls.specs.Refusals.{status_of}
use Rattle.ci_calls.proofs.InputLaws.{first_unread, read_without_memory}
use Rattle.ci_commands.specs.AsmCommand.{asm_inputs, text_input}
use Rattle.ci_commands.specs.private.Causes.{IsCause, IsTextFault}

-- what follows from a cause is a cause
pub IsCause-weaker : (P Q : ℕ → ℕ → Type 0) → ((position word : ℕ) → P position word → Q position word)
    → (refusal : Refusal) → IsCause P refusal → IsCause Q refusal
IsCause-weaker P Q follows (Unsupported position word) is = follows position word is
IsCause-weaker P Q follows NoMemory is = tt
IsCause-weaker P Q follows refusal is = absurd is

pub unsupported_cause : (P : ℕ → ℕ → Type 0) (refusal : Refusal) → IsUnsupported P refusal → IsCause P refusal
unsupported_cause P (Unsupported position word) is = is
unsupported_cause P refusal is = absurd is

-- of files that are all read a command refuses what has such a cause
module _
    (read_may_fail write_may_fail : List ℕ → Bool) (before after : ShelfState) (inputs : List Input)
    (answered : List (List ℕ)) (have_read : HaveRead read_may_fail write_may_fail before after inputs answered)
    (Refuses : List (List ℕ) → Refusal → Type 0) (P : ℕ → ℕ → Type 0)
    (refuses : (refusal : Refusal) → IsUnsupported P refusal → Refuses answered refusal) where
  pub refused_by : (refusal : Refusal) → IsCause P refusal
      → IsRefusalOf read_may_fail write_may_fail before after inputs Refuses refusal
  refused_by (Unsupported position word) is =
      inr (record { answered = answered; read = have_read; refused = refuses (Unsupported position word) is })
  refused_by NoMemory is =
      inl (read_without_memory read_may_fail write_may_fail before after inputs answered have_read)
  refused_by refusal is = absurd is

-- files that the command doesn't take have one status
unsupported_status : (P : ℕ → ℕ → Type 0) (refusal : Refusal) → IsUnsupported P refusal → status_of refusal ≡ 7
unsupported_status P (Unsupported position word) is = refl
unsupported_status P refusal is = absurd is

pub unsupported_once : (P Q : ℕ → ℕ → Type 0) (first second : Refusal) → IsUnsupported P first → IsUnsupported Q second
    → status_of first ≡ status_of second
unsupported_once P Q first second a b = unsupported_status P first a ∙ sym (unsupported_status Q second b)

-- and so have modules with too many gates
many_gates_status : (P : ℕ → ℕ → Type 0) (refusal : Refusal) → IsManyGates P refusal → status_of refusal ≡ 14
many_gates_status P (ManyGates number gates) is = refl
many_gates_status P refusal is = absurd is

pub many_gates_once : (P Q : ℕ → ℕ → Type 0) (first second : Refusal) → IsManyGates P first → IsManyGates Q second
    → status_of first ≡ status_of second
many_gates_once P Q first second a b = many_gates_status P first a ∙ sym (many_gates_status Q second b)

-- a file that holds no assembler text is refused
module _
    (read_may_fail write_may_fail : List ℕ → Bool) (before after : ShelfState) (name bytes : List ℕ)
    (made : AreMade read_may_fail write_may_fail before after (read name 1048576 (Ok bytes) ∷ []))
    (within : length bytes ≤ 1048576) where
  pub unread_text : (fault : AsmFault) → IsTextFault bytes fault
      → HaveNotRead read_may_fail write_may_fail before after (asm_inputs name) (asm_refusal fault)
  unread_text (assembly.Bad kind line column) is =
      first_unread read_may_fail write_may_fail before after [] (text_input name) (Ok bytes)
      (asm_refusal (assembly.Bad kind line column)) (within, inl is) made
  unread_text assembly.NoMemory is =
      first_unread read_may_fail write_may_fail before after [] (text_input name) (Ok bytes) NoMemory (within, inr refl)
      made
