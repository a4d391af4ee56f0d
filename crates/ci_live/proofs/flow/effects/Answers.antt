use Rattle.std.proofs.Common.{◌≡◌, ℕ, ◌+◌, ◌-◌, ◌↔◌, sym, ap, ◌∙◌, subst, arith, drop, length, List, []}
use Rattle.std.proofs.Math.Seq.{drop-length}
use Rattle.std.specs.FinSet as set
use Rattle.ci_isa.specs.declared.instruction.Insn.{Insn}
use Rattle.ci_isa.specs.RegisterSets.{registers_read}
use Rattle.ci_isa.specs.Sequences.{ReadFirst, Write}
use Rattle.ci_live.specs.private.Flows.{Has}
use Rattle.ci_live.proofs.SetLaws.{has_none}
use Rattle.ci_isa.proofs.SequenceLaws.{nothing_read, nothing_written}
use Rattle.ci_live.proofs.EffectLaws.{read_before, written_before}
use Rattle.ci_live.proofs.flow.effects.Goals as goal

pub loop-place-init : goal.loop-place-init
loop-place-init c =
    let none : drop (length c.args.insns.now) c.args.insns.now ≡ [] = drop-length c.args.insns.now in
    record {
      uses = λ r. (
        λ has. absurd (has_none r (subst (λ s. Has s r) c.empty-uses.ensures has)),
        λ f. absurd (nothing_read r (subst (λ xs. ReadFirst xs r) none f)),
      );
      defs = λ r. (
        λ has. absurd (has_none r (subst (λ s. Has s r) c.empty-defs.ensures has)),
        λ w. absurd (nothing_written r (subst (λ xs. Write xs r) none w)),
      );
    }

pub loop-place-preserved : goal.loop-place-preserved
loop-place-preserved c =
    let insns : List Insn = c.args.insns.now in
    let insn = c.index-insns-place.result in
    let k : ℕ = c.loop-place.place - 1 in
    let next : k + 1 ≡ c.loop-place.place = omega arith in
    record {
      uses =
          λ r.
          subst (λ s. Has s r ↔ ReadFirst (drop k insns) r)
          (sym (c.union-uses.ensures.value ∙ (λ i. set.union (c.reads-operands.ensures i) (c.minus.ensures.value i))
          ∙ ap (λ t. set.union (registers_read insn) (set.difference c.loop-place.uses t)) c.writes-results.ensures))
          (read_before insns k insn (omega arith) c.index-insns-place.is r c.loop-place.uses
          (subst (λ n. Has c.loop-place.uses r ↔ ReadFirst (drop n insns) r) (sym next) (c.loop-place.invariant.uses r)));
      defs =
          λ r.
          subst (λ s. Has s r ↔ Write (drop k insns) r)
          (sym (c.union-defs.ensures.value ∙ ap (λ t. set.union t c.loop-place.defs) c.writes-results.ensures))
          (written_before insns k insn (omega arith) c.index-insns-place.is r c.loop-place.defs
          (subst (λ n. Has c.loop-place.defs r ↔ Write (drop n insns) r) (sym next) (c.loop-place.invariant.defs r)));
    }
