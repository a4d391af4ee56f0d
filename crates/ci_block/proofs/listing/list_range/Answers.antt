use Rattle.std.proofs.Common.{◌+◌, ◌<◌, sym, subst}
use Rattle.ci_block.specs.private.Listing.{IsListedBelow}
use Rattle.ci_block.specs.private.Marking.{range_at}
use Rattle.ci_block.specs.private.Marks.{IsMarked}
use Rattle.ci_block.proofs.ListingLaws.{IsListedTo, none_listed, word_added, word_passed}
use Rattle.ci_block.proofs.listing.list_range.Goals as goal
use Rattle.ci_block.proofs.listing.list_range.Goals.{then-is_leader+in_ok-push, else-is_leader}

pub loop-word-init : goal.loop-word-init
loop-word-init c =
    let marks = c.args.marks.now in
    let ranges = marks.places in
    none_listed ranges (IsMarked marks) c.range-range.result.start c.args.addresses.now.items
    (subst (λ r. IsListedBelow ranges (IsMarked marks) r.start c.args.addresses.now.items) (sym c.range-range.ensures) c.requires.before)

pub loop-word-preserved : goal.loop-word-preserved
loop-word-preserved c =
    let marks = c.args.marks.now in
    let ranges = marks.places in
    let listed : IsListedTo ranges (IsMarked marks) (range_at ranges c.args.index).start c.loop-word.word c.loop-word.last c.loop-word.addresses.items =
    subst (λ r. IsListedTo ranges (IsMarked marks) r.start c.loop-word.word c.loop-word.last c.loop-word.addresses.items) c.range-range.ensures
    c.loop-word.invariant in
    let within : c.loop-word.word < (range_at ranges c.args.index).words =
    subst (λ r. c.loop-word.word < r.words) c.range-range.ensures c.loop-word-test.true in
    subst (λ r. IsListedTo ranges (IsMarked marks) r.start (c.loop-word.word + 1) c.if-is_leader.last c.if-is_leader.addresses.items)
    (sym c.range-range.ensures)
    (elim c.if-is_leader.branch [
      | then-is_leader+in_ok-push w ↦ rw (w.last-is, w.addresses-is, w.in_ok-push.ensures.items, c.range-range.ensures)
          (word_added ranges marks.text (IsMarked marks) c.loop-word.addresses.items c.args.index c.loop-word.word c.loop-word.last within
          listed w.if-is_leader.ensures)
      | else-is_leader w ↦ rw (w.last-is, w.addresses-is)
          (word_passed ranges marks.text (IsMarked marks) c.loop-word.addresses.items c.args.index c.loop-word.word c.loop-word.last within
          listed w.if-is_leader.ensures.0 w.if-is_leader.ensures.1)
    ])
