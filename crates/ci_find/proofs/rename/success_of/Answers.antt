-- The renamed file, which is read as an executable, is written, and its line is put.
use Rattle.std.proofs.Common.{◌∙◌, ℕ, List, Ok, subst, sym}
use Rattle.ci_elf.specs.Executables.{Executable}
use Rattle.ci_elf.specs.Rules.{IsReadAs}
use Rattle.ci_elf.proofs.TextChangeLaws.{text_may_change}
use Rattle.ci_find.proofs.rename.success_of.Goals as goal

pub returns : goal.returns
returns c =
    let image = c.args.image.now in
    let renamed = c.in_ok-renamed.renamed in
    let is = c.in_ok-renamed.ensures in
    let success = c.in_ok-success.ensures in
    let read : IsReadAs renamed.image.bytes (Ok renamed.image) =
    subst (λ (file : Executable). IsReadAs renamed.image.bytes (Ok file)) (sym is.new_is)
    (text_may_change image.bytes renamed.image.bytes image c.requires.image is.text_alone) in (
      c.new_bytes-bytes.result.items,
      success.writes,
      record {
        renamed = renamed.image;
        values = renamed.values;
        changed = renamed.changed;
        is_renamed = is;
        new_is = subst (λ (bytes : List ℕ). IsReadAs bytes (Ok renamed.image)) (sym c.new_bytes-bytes.ensures) read;
        text_is = success.text ∙ c.in_ok-text.ensures;
      },
    )
