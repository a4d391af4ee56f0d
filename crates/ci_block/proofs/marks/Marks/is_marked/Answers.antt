use Rattle.std.proofs.Common.{◌≡◌, ◌+◌, ◌*◌, get_or, false, true≢false, sym, ◌∙◌, ap, arith, Some}
use Rattle.std.proofs.lemmas.List.{get_or_default}
use Rattle.ci_elf.specs.WordPlaces.{word_place}
use Rattle.ci_elf.proofs.WordPlaceLaws.{word_below}
use Rattle.ci_block.specs.private.Marking.{range_at}
use Rattle.ci_block.proofs.MarkLaws.{flag_of_marked, marked_by_flag, not_marked}
use Rattle.ci_block.proofs.RangeLaws.{held_below}
use Rattle.ci_block.proofs.marks.Marks.is_marked.Goals as goal

pub range-requires : goal.range-requires
range-requires c =
    let places = c.args.self.now.places in
    held_below places (range_at places c.args.index).start c.args.index (omega (arith, c.requires))

pub index-requires : goal.index-requires
index-requires c =
    let marks = c.args.self.now in
    omega (arith, marks.whole, word_below marks.places _ c.in-Some.place (sym c.in-Some.ensures.place))

pub returns-in-Some : goal.returns-in-Some
returns-in-Some c =
    let marks = c.args.self.now in
    let address = (range_at marks.places c.args.index).start + 4 * c.args.word in
    let there : word_place marks.places address ≡ Some c.in-Some.place =
    ap (λ r. word_place marks.places (r.start + 4 * c.args.word)) (sym c.range.ensures) ∙ sym c.in-Some.ensures.place in
    let flag : c.index.result.now ≡ get_or marks.flags.items c.in-Some.place false =
    c.index.ensures ∙ get_or_default marks.flags.items c.in-Some.place c.index.result.now false
    (omega (arith, marks.whole, word_below marks.places address c.in-Some.place there)) in
    ((λ is. marked_by_flag marks address c.in-Some.place there (sym flag ∙ is)), (λ m. flag ∙ flag_of_marked marks address c.in-Some.place there m))

pub returns-in-None : goal.returns-in-None
returns-in-None c =
    let marks = c.args.self.now in
    let none = ap (λ r. word_place marks.places (r.start + 4 * c.args.word)) (sym c.range.ensures) ∙ sym c.in-None.ensures.place in
    ((λ is. absurd (true≢false (sym is))), (λ m. absurd (not_marked marks _ none m)))
