-- What the calls promise, by the definitions.
use Rattle.std.proofs.Common.{◌≡◌, ℕ, List, [], ◌∷◌, refl, sym, ap, ◌∙◌, subst, Result, Ok, Err}
use Rattle.std.specs.Prelude.{IfOk, IfErr}
use Rattle.ci_isa.specs.declared.instruction.Insn.{Insn}
use Rattle.ci_asm.specs.declared.faults.AsmFault.{AsmFault}
use Rattle.ci_asm.specs.declared.faults.AsmFault.TheVariants.{Bad, NoMemory}
use Rattle.ci_asm.specs.private.Programs.{Position, assembled, AreWordsOf, AreWordsIn, IsFaultIn}
use Rattle.ci_asm.specs.Assembly.{IsAssembly, HasFault}
use Rattle.ci_asm.specs.Promised.{IsOnlyAssembly, IsFaultOf}
use Rattle.ci_asm.proofs.ReadPrograms.{assembled_is, is_assembled}
use Rattle.ci_asm.proofs.OneMeaning.{fault_assembled}
use Rattle.ci_asm.proofs.OneWord.{one_word}
use Rattle.ci_asm.proofs.ProgramFaults.{fault_is}

-- ---- one meaning

same_words : (insns : List Insn) (words others : List ℕ) → AreWordsOf words insns → AreWordsOf others insns → words ≡ others
same_words [] [] [] first second = refl
same_words [] [] (v ∷ others) first second = absurd second
same_words [] (w ∷ words) others first second = absurd first
same_words (i ∷ insns) [] others first second = absurd first
same_words (i ∷ insns) (w ∷ words) [] first second = absurd second
same_words (i ∷ insns) (w ∷ words) (v ∷ others) first second = λ k. one_word i w v first.0 second.0 k ∷ same_words insns words others first.1 second.1 k

pub one_assembly : (text words others : List ℕ) → IsAssembly text words → IsAssembly text others → words ≡ others
one_assembly text words others first second =
    let a = is_assembled text words first in
    let b = is_assembled text others second in
    let same : ◌≡◌ {A = Result (List Insn) Position} (Ok a.0) (Ok b.0) = sym a.1 ∙ b.1 in
    let insns : a.0 ≡ b.0 = cc in
    same_words b.0 words others (subst (AreWordsOf words) insns a.2) b.2

pub no_fault : (text words : List ℕ) (kind line column : ℕ) → IsAssembly text words → ¬ HasFault text kind line column
no_fault text words kind line column is fault =
    let a = is_assembled text words is in
    let b = fault_assembled text kind line column fault in
    absurd (cc)

pub one_fault : (text : List ℕ) (kind line column other row place : ℕ) → HasFault text kind line column → HasFault text other row place
    → (kind ≡ other) × (line ≡ row) × (column ≡ place)
one_fault text kind line column other row place first second =
    let a = fault_assembled text kind line column first in
    let b = fault_assembled text other row place second in
    let same : ◌≡◌ {A = Result (List Insn) Position} (Err (record { kind = kind; line = line; column = column }))
    (Err (record { kind = other; line = row; column = place })) = sym a ∙ b in
    let told : ◌≡◌ {A = Position} (record { kind = kind; line = line; column = column }) (record { kind = other; line = row; column = place }) = cc in
    (ap (λ p. p.kind) told, ap (λ p. p.line) told, ap (λ p. p.column) told)

pub only_told : {V : Type 0} (text : List ℕ) (r : Result V AsmFault) (items : V → List ℕ) → IfOk r (λ words. IsAssembly text (items words))
    → IfOk r (λ words. IsOnlyAssembly text (items words))
only_told text (Ok words) items is = record {
  no_others = λ others also. one_assembly text others (items words) also is;
  no_fault = λ kind line column. no_fault text (items words) kind line column is;
}
only_told text (Err f) items is = tt

-- ---- what is assembled

pub words_told : {V : Type 0} (text : List ℕ) (r : Result V AsmFault) (items : V → List ℕ) → IfOk r (λ words. AreWordsIn (items words) (assembled text))
    → IfOk r (λ words. IsAssembly text (items words))
words_told text (Ok words) items are = assembled_is text (items words) are
words_told text (Err f) items are = tt

pub fault_told : (text : List ℕ) (f : AsmFault) → IsFaultIn (assembled text) f → IsFaultOf text f
fault_told text (Bad kind line column) is = fault_is text _ is
fault_told text NoMemory is = tt

pub faults_told : {A : Type 0} (text : List ℕ) (r : Result A AsmFault) → IfErr r (IsFaultIn (assembled text)) → IfErr r (IsFaultOf text)
faults_told text (Ok x) are = tt
faults_told text (Err f) are = fault_told text f are
