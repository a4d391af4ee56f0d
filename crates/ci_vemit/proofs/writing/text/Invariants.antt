use Rattle.std.proofs.Common.{◌≡◌, take}
use Rattle.std.specs.List.{flat_map}
use Rattle.ci_vemit.specs.Texts.{module_text}
use Rattle.ci_vemit.proofs.writing.text.Given as goal

abbrev pub invariant-loop-module : goal.invariant-loop-module
invariant-loop-module l = l.text.items ≡ flat_map module_text (take l.module-index l.modules)
