-- What the check unfolds to see a machine's state through its views, and where its memory lies.
use Rattle.std.specs.Prelude.{⊤}
use Rattle.ci_machine.specs.Layouts.{HasLayout, HasPages}
use Rattle.ci_machine.specs.Memories.{segments_of}
use Rattle.ci_machine.specs.States.{state_of, core_of, program_of}

unfoldable pub views : ⊤
unfolding state_of core_of program_of
views = tt

unfoldable pub layouts : ⊤
unfolding HasLayout HasPages segments_of
layouts = tt
