use Rattle.std.proofs.Common.{◌≡◌, ◌+◌, inl, inr, true, sym, ◌∙◌, Some}
use Rattle.ci_isa.specs.Effects.{ends_block}
use Rattle.ci_block.specs.private.Sources.{Leads}
use Rattle.ci_block.proofs.MarkLaws.{added_both}
use Rattle.ci_block.proofs.text.mark_from.Goals as goal

pub returns : goal.returns
returns c =
    let from = c.args.address in
    let insn = c.args.insn.now in
    added_both c.args.marks.now c.mark_if_some.new.self c.mark_behind.new.marks (λ a. c.target_of.result ≡ Some a)
    (λ a. (ends_block insn ≡ true) × (from + 4 ≡ a)) (Leads from insn) c.mark_if_some.ensures c.mark_behind.ensures
    (λ a h. elim h [ inl t ↦ inl (sym c.target_of.ensures ∙ t) | inr b ↦ inr b ])
    (λ a h. elim h [ inl t ↦ inl (c.target_of.ensures ∙ t) | inr b ↦ inr b ])
