use Rattle.std.proofs.Common.{◌≡◌, sym, ◌∙◌, ap, [], ◌∷◌, ◌++◌, Some, None, arith}
use Rattle.std.proofs.lemmas.List.{append-nil}
use Rattle.ci_elf.specs.Fields.{e_shnum}
use Rattle.ci_elf.specs.Executables.{has_words, range_of, ranges_of}
use Rattle.ci_reading.specs.Broken.{those_below}
use Rattle.ci_reading.proofs.BrokenLaws.{each_below_none, those_below_step}
use Rattle.ci_elf.proofs.ranges.text_ranges.Goals as goal
use Rattle.ci_elf.proofs.ranges.text_ranges.Goals.{in-Some+in_ok-push, in_default}

pub loop-n-init : goal.loop-n-init
loop-n-init c = c.new-ranges.ensures.items ∙ sym (each_below_none _)

pub loop-n-preserved : goal.loop-n-preserved
loop-n-preserved c =
    elim c.match-range_of_section.branch [
      | in-Some+in_ok-push w ↦
          ap (λ v. v.items) w.ranges-is ∙ w.in_ok-push.ensures.items ∙ ap (λ l. l ++ w.in-Some.range ∷ []) c.loop-n.invariant
          ∙ sym (those_below_step (has_words c.args.bytes.now) (range_of c.args.bytes.now) c.loop-n.n (Some w.in-Some.range) w.in-Some.ensures)
      | in_default w ↦
          ap (λ v. v.items) w.ranges-is ∙ c.loop-n.invariant ∙ sym (append-nil _)
          ∙ sym (those_below_step (has_words c.args.bytes.now) (range_of c.args.bytes.now) c.loop-n.n None w.in_default.ensures)
    ]

pub returns : goal.returns
unfolding ranges_of
returns c =
    let all : c.loop-n.n ≡ e_shnum c.args.bytes.now = omega arith in
    c.loop-n.invariant ∙ ap (λ n. those_below n (has_words c.args.bytes.now) (range_of c.args.bytes.now)) all
