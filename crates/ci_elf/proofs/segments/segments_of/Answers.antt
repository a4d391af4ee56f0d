use Rattle.std.proofs.Common.{◌≡◌, sym, ◌∙◌, ap, [], ◌∷◌, ◌++◌, Some, None, arith}
use Rattle.std.proofs.lemmas.List.{append-nil}
use Rattle.ci_elf.specs.Fields.{is_loadable, e_phnum}
use Rattle.ci_elf.specs.Executables.{segment_of, segments_of}
use Rattle.ci_reading.specs.Broken.{those_below}
use Rattle.ci_reading.proofs.BrokenLaws.{each_below_none, those_below_step}
use Rattle.ci_elf.proofs.segments.segments_of.Goals as goal
use Rattle.ci_elf.proofs.segments.segments_of.Goals.{in-Some+in_ok-push, in_default}

pub loop-n-init : goal.loop-n-init
loop-n-init c = c.new-segments.ensures.items ∙ sym (each_below_none _)

pub loop-n-preserved : goal.loop-n-preserved
loop-n-preserved c =
    elim c.match-segment_at.branch [
      | in-Some+in_ok-push w ↦
          ap (λ v. v.items) w.segments-is ∙ w.in_ok-push.ensures.items ∙ ap (λ l. l ++ w.in-Some.segment ∷ []) c.loop-n.invariant
          ∙ sym (those_below_step (is_loadable c.args.bytes.now) (segment_of c.args.bytes.now) c.loop-n.n (Some w.in-Some.segment) w.in-Some.ensures)
      | in_default w ↦
          ap (λ v. v.items) w.segments-is ∙ c.loop-n.invariant ∙ sym (append-nil _)
          ∙ sym (those_below_step (is_loadable c.args.bytes.now) (segment_of c.args.bytes.now) c.loop-n.n None w.in_default.ensures)
    ]

pub returns : goal.returns
unfolding segments_of
returns c =
    let all : c.loop-n.n ≡ e_phnum c.args.bytes.now = omega arith in
    c.loop-n.invariant ∙ ap (λ n. those_below n (is_loadable c.args.bytes.now) (segment_of c.args.bytes.now)) all
