-- What lists of instructions read first and write, where they take the same sources.
use Rattle.std.specs.Prelude.{◌≡◌, ℕ, zero, suc, ◌<◌, ◌==◌, ◌++◌, true, false, List, [], ◌∷◌, length, map, take, drop, Option, Some, None}
use Rattle.std.specs.List.{list_any}
use Rattle.std.proofs.Common.{refl, sym, ap, ◌∙◌, subst, arith, inl, inr, true≢false}
use Rattle.std.proofs.lemmas.Bool.{and_from, and_parts, eqb-true, false_from_ne_true, or_cases, or_right}
use Rattle.std.proofs.lemmas.List.{get_or-take, get_or_default}
use Rattle.ci_isa.specs.declared.instruction.Insn.{Insn}
use Rattle.ci_isa.specs.declared.instruction.Insn.TheVariants.{Ebreak}
use Rattle.ci_isa.specs.Effects.{is_kept, operands, reads_register, writes_register}
use Rattle.ci_isa.specs.Sequences.{ReadFirst, Write, latest_writer, nth_insn}
use Rattle.ci_isa.proofs.LastWriter.{no_writer, unwritten_before}
use Rattle.ci_cut.specs.declared.graph.Source.{Source}
use Rattle.ci_cut.specs.declared.graph.Source.TheVariants.{Entry}
use Rattle.ci_dfg.specs.BlockGraph.{source_from, source_of}
use Rattle.ci_machine.proofs.RegisterLaws.{first_there}
use Rattle.ci_machine.proofs.StandingLists.{length_first}
use Rattle.ci_rename.specs.OtherRegisters.{all_sources}

-- ---- what is read first, by places

-- an instruction reads the register, and none before it writes it
abbrev pub FirstRead : List Insn → ℕ → Type 0
FirstRead insns r = (k : ℕ) × (k < length insns) × (reads_register (nth_insn insns k) r ≡ true) × (latest_writer insns r k ≡ None)

-- no instruction of a list writes a register that none of its places writes
pub no_write : (insns : List Insn) (r : ℕ) → ((j : ℕ) → j < length insns → writes_register (nth_insn insns j) r ≡ false) → ¬ Write insns r
no_write insns r unwritten write =
    let (j, within, is) = write.there in
    true≢false (sym write.writes ∙ ap (λ insn. writes_register insn r) (sym is ∙ sym (get_or_default insns j Ebreak write.writer within)) ∙ unwritten j within)

-- and the other way round
no_writes : (insns : List Insn) (r : ℕ) → ¬ Write insns r → (j : ℕ) → j < length insns → writes_register (nth_insn insns j) r ≡ false
no_writes insns r unwritten j below = false_from_ne_true (writes_register (nth_insn insns j) r) (λ writes.
    unwritten (record { writer = nth_insn insns j; there = (j, below, get_or_default insns j (nth_insn insns j) Ebreak below); writes = writes }))

split_at : (insns : List Insn) (k : ℕ) → k < length insns → insns ≡ take k insns ++ nth_insn insns k ∷ drop (suc k) insns
split_at [] k below = absurd (omega arith)
split_at (insn ∷ insns) zero below = refl
split_at (insn ∷ insns) (suc k) below = ap (λ xs. insn ∷ xs) (split_at insns k (omega arith))

pub read_first : (insns : List Insn) (r : ℕ) → FirstRead insns r → ReadFirst insns r
read_first insns r (k, below, reads, absent) = record {
  before = take k insns;
  reader = nth_insn insns k;
  after = drop (suc k) insns;
  split = split_at insns k below;
  reads = reads;
  unwritten = no_write (take k insns) r (λ j under.
      let before : j < k = omega (arith, length_first insns k (omega arith)) in
      ap (λ insn. writes_register insn r) (get_or-take k insns j Ebreak before) ∙ unwritten_before insns r k absent j before);
}

at_join : (before after : List Insn) (reader : Insn) → nth_insn (before ++ reader ∷ after) (length before) ≡ reader
at_join [] after reader = refl
at_join (insn ∷ before) after reader = at_join before after reader

in_front : (before rest : List Insn) (j : ℕ) → j < length before → nth_insn (before ++ rest) j ≡ nth_insn before j
in_front [] rest j below = absurd (omega arith)
in_front (insn ∷ before) rest zero below = refl
in_front (insn ∷ before) rest (suc j) below = in_front before rest j (omega arith)

past_join : (before after : List Insn) (reader : Insn) → length before < length (before ++ reader ∷ after)
past_join [] after reader = omega arith
past_join (insn ∷ before) after reader = let shorter = past_join before after reader in omega arith

pub first_read : (insns : List Insn) (r : ℕ) → ReadFirst insns r → FirstRead insns r
first_read insns r first =
    subst (λ list. FirstRead list r) (sym first.split) (
      length first.before,
      past_join first.before first.after first.reader,
      ap (λ insn. reads_register insn r) (at_join first.before first.after first.reader) ∙ first.reads,
      no_writer (first.before ++ first.reader ∷ first.after) r (length first.before)
          (λ j below.
          ap (λ insn. writes_register insn r) (in_front first.before (first.reader ∷ first.after) j below)
          ∙ no_writes first.before r first.unwritten j below),
    )

-- ---- sources

-- what comes from the entry comes in its own register, which none writes before
entry_is : (insns : List Insn) (k q r : ℕ) → source_of insns k q ≡ Entry r → (q ≡ r) × (latest_writer insns q k ≡ None)
entry_is insns k q r = tested (latest_writer insns q k) refl
  where
    tested : (o : Option ℕ) → latest_writer insns q k ≡ o → source_from insns q o ≡ Entry r → (q ≡ r) × (latest_writer insns q k ≡ None)
    tested None is same = let equal : q ≡ r = cc in (equal, is)
    tested (Some w) is same = cc

of_entry : (insns : List Insn) (k r : ℕ) → latest_writer insns r k ≡ None → source_of insns k r ≡ Entry r
of_entry insns k r none = ap (source_from insns r) none

-- an operand with the source of another
with_source : (f g : ℕ → Source) (registers others : List ℕ) (r : ℕ) → map f registers ≡ map g others → list_any (λ n. n == r) registers ≡ true
    → (q : ℕ) × (list_any (λ n. n == q) others ≡ true) × (g q ≡ f r)
with_source f g [] others r same is = absurd (true≢false (sym is))
with_source f g (n ∷ registers) [] r same is = cc
with_source f g (n ∷ registers) (m ∷ others) r same is =
    let head : f n ≡ g m = cc in
    let tail : map f registers ≡ map g others = cc in
    elim (or_cases (n == r) (list_any (λ n. n == r) registers) is) [
      | inl here ↦ (m, first_there m others, sym head ∙ ap f (eqb-true n r here))
      | inr later ↦ let (q, there, source) = with_source f g registers others r tail later in (q, or_right (m == q) _ there, source)
    ]

-- ---- lists with the same sources

module _ (one two : List Insn) (as_many : length two ≡ length one) where
  -- both read the same first,
  pub reads_alike : ((k : ℕ) → k < length one → all_sources one k ≡ all_sources two k) → (r : ℕ) → ReadFirst one r → ReadFirst two r
  reads_alike sources r first =
      let (k, below, reads, absent) = first_read one r first in
      let parts = and_parts (is_kept r) (list_any (λ n. n == r) (operands (nth_insn one k))) reads in
      let (q, there, source) =
      with_source (source_of one k) (source_of two k) (operands (nth_insn one k)) (operands (nth_insn two k)) r (sources k below) parts.1 in
      let (same, none) = entry_is two k q r (source ∙ of_entry one k r absent) in
      read_first two r (
        k,
        omega (arith, as_many),
        and_from (is_kept r) (list_any (λ n. n == r) (operands (nth_insn two k))) parts.0
            (subst (λ n. list_any (λ o. o == n) (operands (nth_insn two k)) ≡ true) same there),
        subst (λ n. latest_writer two n k ≡ None) same none,
      )

  -- and what the one leaves as it was, with that source behind both, the other does too
  pub leaves_alike : (r : ℕ) → source_of two (length one) r ≡ source_of one (length one) r → ¬ Write one r → ¬ Write two r
  leaves_alike r source unwritten =
      let absent = no_writer one r (length one) (no_writes one r unwritten) in
      let (same, none) = entry_is two (length one) r r (source ∙ of_entry one (length one) r absent) in
      no_write two r (λ j below. unwritten_before two r (length one) none j (omega (arith, as_many)))
