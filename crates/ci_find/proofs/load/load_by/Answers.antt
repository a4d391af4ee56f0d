-- The line tells of the choice and of both runs.
use Rattle.std.proofs.Common.{◌∙◌, length, subst}
use Rattle.ci_machine.specs.Words.{AreBytes}
use Rattle.ci_find.specs.LoadCommand.{load_line}
use Rattle.ci_find.proofs.LoadLaws.{load_made}
use Rattle.ci_find.proofs.load.load_by.Goals as goal

pub returns : goal.returns
returns c =
    let file = c.args.image.now in
    let original = c.args.original.now in
    let analysis = c.in_ok-analysis.analysis in
    let chosen = c.in_ok-chosen.chosen in
    let made = c.in_ok-chosen.ensures in
    let told = c.in_ok-text.ensures in
    load_made c.args.seed file chosen.image c.args.table.now original.profile original.output.items analysis.blocks
    analysis.live c.plan.result chosen.book chosen.units chosen.saved told.0
    (record { writes = c.new.result; text = c.into_bytes.result })
    c.requires.usual c.requires.program c.requires.image (subst AreBytes c.bytes.ensures c.bytes_are_small.ensures)
    c.requires.run (rw c.targets.ensures at c.in_ok-analysis.ensures) c.plan.ensures made.book made.given_up made.units
    c.as_slice-units.ensures.kept made.bytes (subst AreBytes c.bytes-2.ensures c.bytes_are_small-2.ensures) made.saved
    made.same_else told.1
    ((λ i. (c.into_bytes.ensures.value i).items)
    ∙ (told.2
    ∙ (λ i. load_line c.args.seed (length (c.all.ensures.value i)) chosen.book.entries chosen.units chosen.saved
    original.profile.cost told.0 original.output.items)))
    c.new.ensures.items
