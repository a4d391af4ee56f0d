-- Which operands have a node as their source, by the places of the nodes.
use Rattle.std.specs.Prelude.{◌≡◌, ◌≢◌, ℕ, ◌<◌, ◌≤◌, true, if◌then◌else◌, List, length}
use Rattle.std.proofs.Common.{refl, sym, ap, ◌∙◌, arith, true≢false}
use Rattle.std.proofs.lemmas.Bool.{eq-eqb, eqb-true, false_from_ne_true}
use Rattle.ci_isa.specs.declared.instruction.Insn.{Insn}
use Rattle.ci_isa.specs.Effects.{writes_register}
use Rattle.ci_isa.specs.Sequences.{IsLastWriter, nth_insn}
use Rattle.ci_isa.proofs.LastWriter.{latest_writer_is_last}
use Rattle.ci_isa.proofs.OperandLaws.{single_result}
use Rattle.ci_cut.specs.declared.graph.Source.{Source}
use Rattle.ci_cut.specs.declared.graph.Source.TheVariants.{Entry, Made}
use Rattle.ci_cut.specs.FlowGraph.{is_source}
use Rattle.ci_dfg.specs.BlockGraph.{source_from, source_of}
use Rattle.ci_dfg.proofs.SourceLaws.{made_is}
use Rattle.ci_rename.specs.Renaming.{moved_to}
use Rattle.ci_rename.specs.private.ValueTests.{IsReadUpTo}

pub made_source : (i : ℕ) (s : Source) → is_source (Made i) s ≡ true → s ≡ Made i
made_source i (Entry r) is = cc
made_source i (Made k) is = ap Made (sym (eqb-true i k is))

module _ (insns : List Insn) (i from last to k : ℕ) (read : IsReadUpTo insns i from last) (there : k < length insns) where
  -- an operand between the node and the last one has the node as its source
  pub moves : (q : ℕ) → q ≡ from → i < k → k ≤ last → moved_to insns i to k q ≡ to
  moves q same behind before =
      let writer : IsLastWriter insns from k i = record {
        before = behind;
        writes = read.writes;
        none_between = λ j later below. read.none_between j later (omega arith);
      } in
      let found : source_of insns k q ≡ Made i =
      ap (source_of insns k) same ∙ ap (source_from insns from) ((latest_writer_is_last insns from k i).1 writer) in
      ap (λ s. if is_source (Made i) s then to else q) found ∙ ap (λ b. if b then to else q) (eq-eqb i i refl)

  -- any other has another source
  keeps : (q : ℕ) → (IsLastWriter insns q k i → ⊥) → moved_to insns i to k q ≡ q
  keeps q other =
      ap (λ b. if b then to else q)
      (false_from_ne_true (is_source (Made i) (source_of insns k q)) (λ is.
      other ((latest_writer_is_last insns q k i).0 (made_is insns k q i (made_source i _ is)))))

  pub stays_other : (q : ℕ) → q ≢ from → moved_to insns i to k q ≡ q
  stays_other q differs =
      keeps q (λ writer. differs (sym (single_result (nth_insn insns i) q writer.writes) ∙ single_result (nth_insn insns i) from read.writes))

  pub stays_before : (q : ℕ) → k ≤ i → moved_to insns i to k q ≡ q
  stays_before q early = keeps q (λ writer. let before = writer.before in omega arith)

  pub stays_behind : (q : ℕ) → q ≡ from → last < k → moved_to insns i to k q ≡ q
  stays_behind q same late = keeps q (λ writer.
      true≢false (sym (read.ends (omega arith)) ∙ ap (writes_register (nth_insn insns last)) (sym same)
      ∙ writer.none_between last read.behind late))

pub ruleset reads = (moves, stays_other, stays_before, stays_behind)
