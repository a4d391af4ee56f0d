use Rattle.std.proofs.Common.{refl, sym, ◌∙◌, arith}
use Rattle.ci_elf.proofs.WordPlaceLaws.{word_below}
use Rattle.ci_block.proofs.MarkLaws.{nothing_marked, word_marked}
use Rattle.ci_block.proofs.marks.Marks.mark.Goals as goal

pub index_mut-requires : goal.index_mut-requires
index_mut-requires c =
    let marks = c.args.self.now in
    omega (arith, marks.whole, word_below marks.places c.args.address c.in-Some.place (sym c.in-Some.ensures))

pub returns-in-Some : goal.returns-in-Some
returns-in-Some c = word_marked c.args.self.now _ c.args.address c.in-Some.place refl (sym c.in-Some.ensures) refl

pub returns-in_default : goal.returns-in_default
returns-in_default c = nothing_marked c.args.self.now c.args.address (sym c.of.ensures ∙ c.in_default.is)
