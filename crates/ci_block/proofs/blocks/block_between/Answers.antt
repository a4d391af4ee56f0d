use Rattle.std.proofs.Common.{◌≡◌, ◌+◌, ◌-◌, ◌*◌, refl, sym, ◌∙◌, ap, subst, arith}
use Rattle.ci_block.specs.Blocks.{IsNext}
use Rattle.ci_block.specs.private.Stretches.{AreInsns, IsStretch}
use Rattle.ci_block.specs.Text.{StandsAt}
use Rattle.ci_block.proofs.BlockLaws.{last_word, whole_words}
use Rattle.ci_block.proofs.blocks.block_between.Goals as goal

pub insns_from-requires : goal.insns_from-requires
insns_from-requires c = subst (IsStretch c.args.image.now c.args.start) (sym (whole_words c.args.image.now c.args.start c.args.end c.requires)) c.requires

pub insn_in-requires : goal.insn_in-requires
insn_in-requires c = last_word c.args.image.now c.args.start c.args.end c.requires

pub returns : goal.returns
returns c =
    let image = c.args.image.now in
    let insns = c.in_ok-insns_from.field-0.items in
    record {
      leads = refl;
      size = ap (λ n. c.args.start + 4 * n) c.in_ok-insns_from.ensures.many ∙ whole_words image c.args.start c.args.end c.requires;
      insns = subst (λ n. AreInsns image c.args.start n insns) (sym c.in_ok-insns_from.ensures.many) c.in_ok-insns_from.ensures;
      next = λ last insn is stands.
          let here : last ≡ c.args.end - 4 = omega arith in
          let one = c.insn_in.ensures.only insn (subst (λ a. StandsAt image a insn) here stands) in
          subst (λ a. IsNext image a insn c.successors.result) (sym here)
          (subst (λ i. IsNext image (c.args.end - 4) i c.successors.result) (sym one) c.successors.ensures);
    }
