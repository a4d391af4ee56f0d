use Rattle.std.proofs.Common.{◌+◌, ◌<◌, refl, subst, arith}
use Rattle.ci_elf.specs.declared.segments.Segment.{Segment}
use Rattle.ci_elf.proofs.ImageLaws.{loaded_from, loaded_to, loader, loads_between}
use Rattle.ci_elf.proofs.image.loaded_place.Goals as goal

pub returns-in_err-segment : goal.returns-in_err-segment
returns-in_err-segment c =
    rw c.from_residual.ensures (λ s there loads. omega (arith, c.in_err-segment.ensures s there, loaded_from s c.args.address loads))

pub returns-then-distance-segment : goal.returns-then-distance-segment
returns-then-distance-segment c =
    let last = c.in_ok-segment.ensures in
    record {
      segment = c.in_ok-segment.segment;
      there = last.among;
      loads = loads_between c.in_ok-segment.segment c.args.address last.before (omega (arith, last.before, c.if-distance-segment.true));
      is = refl;
    }

pub returns-else-distance-segment : goal.returns-else-distance-segment
returns-else-distance-segment c s there loads =
    let one = loader c.args.segments.now c.args.address c.in_ok-segment.segment s c.requires.layout c.in_ok-segment.ensures there loads in
    let to : c.args.address < c.in_ok-segment.segment.address + c.in_ok-segment.segment.file_size =
    subst (λ (t : Segment). c.args.address < t.address + t.file_size) one (loaded_to s c.args.address loads) in
    omega (arith, to, c.if-distance-segment.false, c.in_ok-segment.ensures.before)
