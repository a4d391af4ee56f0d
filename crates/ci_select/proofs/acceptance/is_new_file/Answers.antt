use Rattle.std.proofs.Common.{◌∙◌, sym, subst}
use Rattle.std.proofs.lemmas.Bool.Decides.{Decides-eqb}
use Rattle.std.proofs.lemmas.Slice.Eq.{slice_eq-Decides}
use Rattle.ci_elf.proofs.TextPlaceLaws.{formed}
use Rattle.ci_machine.specs.Words.{AreBytes}
use Rattle.ci_select.specs.NewFiles.{IsNewFile}
use Rattle.ci_select.specs.private.Followed.{instance_in}
use Rattle.ci_select.proofs.VerdictLaws.{new_file_decided}
use Rattle.ci_select.proofs.acceptance.is_new_file.Goals as goal

pub returns : goal.returns
returns c = λ history follows.
    let decides = slice_eq-Decides Decides-eqb c.bytes-3.result.now c.args.bytes.now c.eq.result c.eq.ensures in
    new_file_decided (instance_in c.args.rounds.now) c.args.image.now history c.bytes-3.result.now c.args.bytes.now c.eq.result
    (formed c.args.image.now.bytes c.requires.image.0 c.args.image.now c.requires.image.1)
    (subst AreBytes c.bytes.ensures c.bytes_are_small.ensures) c.requires.blocks follows.legal
    (subst AreBytes (c.bytes-2.ensures ∙ sym c.bytes-3.ensures) c.bytes_are_small-2.ensures) c.bytes_are_small-3.ensures
    decides
    (subst (IsNewFile (instance_in c.args.rounds.now) c.args.image.now history) (sym c.bytes-3.ensures)
    (c.in_ok-own.ensures.bytes history follows))
