use Rattle.std.proofs.Common.{◌∙◌}
use Rattle.ci_machine.specs.Memories.{segments_of}
use Rattle.ci_machine.specs.Layouts.{HasLayout, HasPages}
use Rattle.ci_machine.proofs.MemoryLaws.{fits_there}
use Rattle.ci_machine.proofs.memory.Memory.may_end_at.Goals as goal

pub returns : goal.returns
unfolding segments_of HasLayout HasPages
returns c =
    let laid = c.args.self.now.laid_out in
    λ text. c.is_room.ensures ∙ (λ k. fits_there (laid.begins k) (laid.counted k) c.args.end)
