-- The block whose leader the address is, or that there is none.
use Rattle.std.proofs.Common.{◌∙◌, subst, sym}
use Rattle.std.specs.List.{Contains}
use Rattle.std.proofs.lemmas.Result.{err_from_is_err_and}
use Rattle.ci_block.specs.declared.blocks.Block.{Block}
use Rattle.ci_block.specs.CustomWords.{IsFirstCustomWord}
use Rattle.ci_dfg.specs.Bundles.{AreBundled}
use Rattle.ci_commands.specs.ListedBlocks.{IsNoListedBlock, custom_word}
use Rattle.ci_commands.proofs.Causes.{IsCause-weaker}
use Rattle.ci_commands.proofs.ListedLaws.{listed, bundled, short, unlisted}
use Rattle.ci_commands.proofs.best.listed.listed_block.Goals as goal

pub returns-in_err-analysis-clause-cause : goal.returns-in_err-analysis-clause-cause
returns-in_err-analysis-clause-cause c =
    let p = err_from_is_err_and c.from_residual.result c.from_residual.ensures.1 in
    rw (p.1, p.2)
    (IsCause-weaker (IsFirstCustomWord c.args.image.now) (IsNoListedBlock c.args.image.now c.args.named.now c.args.address)
    (λ position word first. custom_word first) c.in_err-analysis.field-0.0 c.in_err-analysis.ensures.cause)

pub returns-in-Some-clause-few : goal.returns-in-Some-clause-few
returns-in-Some-clause-few c =
    let block : Block = c.in-Some.block.now in
    let there = subst (λ bs. Contains bs block) c.all.ensures.value c.in-Some.ensures.0 in
    let items = c.in_ok-from_slice-in-Some.ensures.items ∙ c.as_slice.ensures.value in
    rw items (short c.args.image.now c.args.named.now c.args.address c.in_ok-analysis.analysis.blocks
    c.in_ok-analysis.analysis.live c.in_ok-analysis.ensures.no_custom c.in_ok-analysis.ensures.done block there
    c.in-Some.ensures.1)

pub returns-in-Some-clause-bundled : goal.returns-in-Some-clause-bundled
returns-in-Some-clause-bundled c =
    let block : Block = c.in-Some.block.now in
    let there = subst (λ bs. Contains bs block) c.all.ensures.value c.in-Some.ensures.0 in
    let items = c.in_ok-from_slice-in-Some.ensures.items ∙ c.as_slice.ensures.value in
    subst (λ insns. AreBundled insns) (sym items)
    (bundled c.args.image.now c.args.named.now c.args.address c.in_ok-analysis.analysis.blocks
    c.in_ok-analysis.analysis.live c.in_ok-analysis.ensures.no_custom c.in_ok-analysis.ensures.done block there
    c.in-Some.ensures.1)

pub returns-in-Some-clause-found : goal.returns-in-Some-clause-found
returns-in-Some-clause-found c =
    let block : Block = c.in-Some.block.now in
    let there = subst (λ bs. Contains bs block) c.all.ensures.value c.in-Some.ensures.0 in
    let items = c.in_ok-from_slice-in-Some.ensures.items ∙ c.as_slice.ensures.value in
    listed c.args.image.now c.args.named.now c.args.address c.in_ok-analysis.analysis.blocks
    c.in_ok-analysis.analysis.live c.in_ok-analysis.ensures.no_custom c.in_ok-analysis.ensures.done block there
    c.in-Some.ensures.1
    c.in_ok-from_slice-in-Some.field-0.items c.after.result items c.after.ensures

pub returns-clause-cause : goal.returns-clause-cause
returns-clause-cause c =
    unlisted c.args.image.now c.args.named.now c.args.address c.in_ok-analysis.analysis.blocks
    c.in_ok-analysis.analysis.live c.in_ok-analysis.ensures.no_custom c.in_ok-analysis.ensures.done
    (λ block there. c.in-None.ensures block (subst (λ bs. Contains bs block) (sym c.all.ensures.value) there))
