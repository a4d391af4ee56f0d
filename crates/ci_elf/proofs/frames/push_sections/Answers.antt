use Rattle.std.proofs.Common.{◌+◌, ◌++◌, ◌∙◌, ap}
use Rattle.ci_elf.specs.Frames.{section}
use Rattle.ci_elf.proofs.FrameLaws.{four_pieces}
use Rattle.ci_elf.proofs.frames.push_sections.Goals as goal

pub returns : goal.returns
returns c =
    let t = c.args.text_size in
    let n = c.args.constants_size in
    let v = c.args.values_size in
    c.in_ok-push_section-4.ensures
    ∙ ap (λ l. l ++ section 1 3 0x20000 (116 + t + n) v)
    (c.in_ok-push_section-3.ensures
    ∙ ap (λ l. l ++ section 1 2 (0x10000 + (116 + t)) (116 + t) n)
    (c.in_ok-push_section-2.ensures ∙ ap (λ l. l ++ section 1 6 0x10074 116 t) c.in_ok-push_section.ensures))
    ∙ four_pieces c.args.bytes.now.items (section 0 0 0 0 0) (section 1 6 0x10074 116 t) (section 1 2 (0x10000 + (116 + t)) (116 + t) n)
    (section 1 3 0x20000 (116 + t + n) v)
