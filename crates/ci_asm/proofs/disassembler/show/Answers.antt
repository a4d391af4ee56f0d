use Rattle.std.proofs.Common.{◌≡◌, arith}
use Rattle.std.proofs.lemmas.Grind.{common_steps}
use Rattle.std.specs.String.{string_bytes}
use Rattle.ci_asm.specs.Shown.{shown}
use Rattle.ci_asm.proofs.ShownAssembles.{shown_assembles}
use Rattle.ci_asm.proofs.disassembler.show.Goals as goal

pub returns-clause-assembles : goal.returns-clause-assembles
returns-clause-assembles c =
    let text : string_bytes c.push_line.new.text ≡ shown c.args.insn.now = grind (arith, common_steps) in
    shown_assembles c.args.insn.now _ c.requires text
