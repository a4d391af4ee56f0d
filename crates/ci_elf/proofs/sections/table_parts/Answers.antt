use Rattle.std.proofs.Common.{◌≡◌, ◌*◌, [], ◌∷◌, ◌++◌, refl, ◌∙◌, ap, arith}
use Rattle.ci_elf.specs.Fields.{e_phoff, e_phnum, e_shoff, e_shnum}
use Rattle.ci_elf.specs.private.Parts.{part, parts_below, symbols_at}
use Rattle.ci_reading.proofs.BrokenLaws.{each_below_none}
use Rattle.ci_elf.proofs.PairRuleLaws.{parts_step}
use Rattle.ci_elf.proofs.sections.table_parts.Goals as goal

pub loop-n-init : goal.loop-n-init
loop-n-init c =
    rw (
      c.in_ok-parts.ensures.items,
      c.new.ensures,
      c.new-2.ensures,
      c.new-3.ensures,
      c.program_table.ensures,
      c.program_count.ensures.count,
      c.section_table.ensures,
      c.section_count.ensures.count,
      each_below_none,
    )
    refl

pub loop-n-preserved : goal.loop-n-preserved
loop-n-preserved c =
    c.in_ok-push.ensures.items ∙ ap (λ l. l ++ c.symbol_part.result ∷ []) c.loop-n.invariant
    ∙ ap (λ l. part 0 52 ∷ part (e_phoff c.args.bytes.now) (32 * e_phnum c.args.bytes.now)
    ∷ part (e_shoff c.args.bytes.now) (40 * e_shnum c.args.bytes.now) ∷ l)
    (parts_step (symbols_at c.args.bytes.now) c.loop-n.n _ _ refl c.symbol_part.ensures)

pub returns : goal.returns
returns c =
    let all : c.loop-n.n ≡ e_shnum c.args.bytes.now = omega arith in
    c.loop-n.invariant
    ∙ ap (λ n. part 0 52 ∷ part (e_phoff c.args.bytes.now) (32 * e_phnum c.args.bytes.now)
    ∷ part (e_shoff c.args.bytes.now) (40 * e_shnum c.args.bytes.now) ∷ parts_below n (symbols_at c.args.bytes.now)) all
