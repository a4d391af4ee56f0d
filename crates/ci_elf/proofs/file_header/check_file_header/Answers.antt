use Rattle.std.proofs.Common.{◌≡◌, true, not, [], ◌∷◌, take, refl, sym, ◌∙◌, ap, arith, true≢false}
use Rattle.std.specs.Str.{bytes_eq}
use Rattle.std.proofs.lemmas.Slice.Eq.{bytes_eq-Decides}
use Rattle.ci_elf.specs.declared.faults.ElfFault.TheVariants.{Short, NotElf}
use Rattle.ci_elf.specs.Rules.{HasFileHeader, HasMagic}
use Rattle.ci_elf.proofs.CheckLaws.{fault_here, fault_behind}
use Rattle.ci_elf.proofs.file_header.check_file_header.Goals as goal

pub returns-then-bytes-lt52 : goal.returns-then-bytes-lt52
returns-then-bytes-lt52 c = fault_here c.args.bytes.now HasFileHeader (HasMagic ∷ []) (Short 0) (λ long. omega (arith, long)) refl

pub returns-then-ne : goal.returns-then-ne
returns-then-ne c =
    fault_behind c.args.bytes.now (HasFileHeader ∷ []) (HasMagic ∷ []) NotElf (c.if-bytes-lt52.false, tt)
    (fault_here c.args.bytes.now HasMagic [] NotElf (λ is.
    let same : bytes_eq (take 4 c.args.bytes.now) c.as_slice.result.now ≡ true =
    (bytes_eq-Decides _ _).1 (is ∙ sym c.as_slice.ensures) in
    true≢false (c.if-ne.ensures ∙ ap not same)) refl)
