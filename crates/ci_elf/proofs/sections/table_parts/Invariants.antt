use Rattle.std.proofs.Common.{◌≡◌, ◌*◌, [], ◌∷◌, ◌++◌}
use Rattle.ci_elf.specs.Fields.{e_phoff, e_phnum, e_shoff, e_shnum}
use Rattle.ci_elf.specs.private.Parts.{part, parts_below, symbols_at}
use Rattle.ci_elf.proofs.sections.table_parts.Given as goal

abbrev pub invariant-loop-n : goal.invariant-loop-n
invariant-loop-n l =
    l.parts.items
    ≡ (part 0 52 ∷ part (e_phoff l.bytes) (32 * e_phnum l.bytes) ∷ part (e_shoff l.bytes) (40 * e_shnum l.bytes) ∷ [])
    ++ parts_below l.n (symbols_at l.bytes)
