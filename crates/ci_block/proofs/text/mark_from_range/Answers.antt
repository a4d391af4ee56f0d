use Rattle.std.proofs.Common.{◌≡◌, ◌+◌, ◌*◌, ◌<◌, ◌≤◌, sym, subst, arith}
use Rattle.ci_elf.specs.declared.ranges.Range.{Range}
use Rattle.ci_block.specs.private.Marks.{Adds}
use Rattle.ci_block.specs.private.Sources.{IsFromWords, Leads}
use Rattle.ci_elf.specs.Executables.{IsTextWord, end_of}
use Rattle.ci_elf.specs.MemoryMap.{memory_top}
use Rattle.ci_block.proofs.MarkLaws.{added_both}
use Rattle.ci_block.proofs.RangeLaws.{number_of, word_of_range}
use Rattle.ci_block.proofs.SourceLaws.{from_word, word_or_before}
use Rattle.ci_block.proofs.text.mark_from_range.Goals as goal

pub insn_in-requires : goal.insn_in-requires
insn_in-requires c =
    let ranges = c.args.image.now.ranges in
    let i = number_of ranges c.args.range c.requires.there in
    subst (λ r. IsTextWord ranges (r.start + 4 * c.loop-word.word)) i.2
    (word_of_range ranges c.requires.text i.0 c.loop-word.word (subst (λ r. c.loop-word.word < r.words) (sym i.2) c.loop-word-test.true))

pub mark_from-requires : goal.mark_from-requires
mark_from-requires c =
    let ranges = c.args.image.now.ranges in
    let i = number_of ranges c.args.range c.requires.there in
    let top = subst (λ (r : Range). end_of r ≤ memory_top) i.2 (c.requires.text.below_top i.0) in
    omega (arith, top)

pub loop-word-preserved : goal.loop-word-preserved
loop-word-preserved c =
    let image = c.args.image.now in
    let start = c.args.range.start in
    let word = c.loop-word.word in
    added_both c.args.marks.now c.loop-word.marks c.mark_from.new.marks (IsFromWords image start word) (Leads (start + 4 * word) c.insn_in.result)
    (IsFromWords image start (word + 1)) c.loop-word.invariant c.mark_from.ensures
    (from_word image start word c.insn_in.result c.insn_in.ensures.stands) (word_or_before image start word c.insn_in.result c.insn_in.ensures.stands)

pub returns : goal.returns
returns c =
    let all : c.loop-word.word ≡ c.args.range.words = omega arith in
    subst (λ n. Adds c.args.marks.now c.loop-word.marks (IsFromWords c.args.image.now c.args.range.start n)) all c.loop-word.invariant
