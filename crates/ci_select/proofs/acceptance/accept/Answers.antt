use Rattle.std.proofs.Common.{subst, sym}
use Rattle.std.proofs.lemmas.Result.{IfOk-weaker}
use Rattle.std.specs.Prelude.{IfOk}
use Rattle.ci_elf.proofs.TextPlaceLaws.{formed}
use Rattle.ci_block.specs.Blocks.{AreInOrder}
use Rattle.ci_machine.specs.Words.{AreBytes}
use Rattle.ci_select.specs.Instances.{AreBlocksOf, AreOfSomeFile, instance_of}
use Rattle.ci_select.specs.WrongPlaces.{IsVerdict}
use Rattle.ci_select.proofs.PresentIsOne.{blocks_in_order}
use Rattle.ci_select.proofs.VerdictLaws.{accepted_decides}
use Rattle.ci_select.proofs.acceptance.accept.Goals as goal
use Rattle.ci_select.proofs.acceptance.accept.Goals.{After-bytes_are_small}

of_file : (c : After-bytes_are_small) → AreOfSomeFile c.args.blocks.now c.args.live.now
of_file c = (
  c.args.image.now,
  c.requires.blocks,
  formed c.args.image.now.bytes c.requires.image.0 c.args.image.now c.requires.image.1,
  subst AreBytes c.bytes.ensures c.bytes_are_small.ensures,
)

in_order : (c : After-bytes_are_small) → AreInOrder c.args.blocks.now
in_order c =
    blocks_in_order (instance_of c.args.profile.now c.args.blocks.now c.args.live.now c.args.table.now c.args.plan.now)
    (of_file c)

pub new-requires : goal.new-requires
new-requires c = of_file (goal.at.new-requires c).After-bytes_are_small

pub verdict_by-requires-clause-blocks : goal.verdict_by-requires-clause-blocks
verdict_by-requires-clause-blocks c =
    subst (λ i. AreBlocksOf c.args.image.now i.blocks i.live) (sym c.in_ok-rounds.ensures.instance) c.requires.blocks

pub returns-clause-verdict : goal.returns-clause-verdict
returns-clause-verdict c =
    subst (λ i. IfOk c.verdict_by.result (IsVerdict i c.args.image.now c.args.book.now c.args.modules.now c.args.new.now))
    c.in_ok-rounds.ensures.instance c.verdict_by.ensures

pub returns-clause-accepted : goal.returns-clause-accepted
returns-clause-accepted c =
    IfOk-weaker c.verdict_by.result _ _
    (accepted_decides (in_order (goal.at.returns-clause-accepted c).After-bytes_are_small)) (returns-clause-verdict c)
