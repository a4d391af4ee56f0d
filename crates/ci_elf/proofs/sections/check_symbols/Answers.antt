use Rattle.std.proofs.Common.{◌∙◌, [], sym, subst, refl}
use Rattle.std.proofs.lemmas.Bool.Decides.{not_from_Decides}
use Rattle.ci_elf.specs.Fields.{is_symbol_table}
use Rattle.ci_elf.specs.Rules.{HasSymbols}
use Rattle.ci_elf.specs.private.SectionChecks.{IsTable, section_of}
use Rattle.ci_elf.proofs.CheckLaws.{fault_here}
use Rattle.ci_elf.proofs.SegmentLaws.{chosen}
use Rattle.ci_elf.proofs.sections.check_symbols.Goals as goal

pub returns-else-is_symbol_table : goal.returns-else-is_symbol_table
returns-else-is_symbol_table c =
    let is = chosen (is_symbol_table c.args.bytes.now c.args.n) c.in-Some.table (section_of c.args.bytes.now c.args.n) c.in-Some.ensures in
    fault_here c.args.bytes.now (HasSymbols c.args.n) [] _
    (λ holds.
    let table = holds is.0 in
    not_from_Decides _ c.is_symbol_table.ensures c.if-is_symbol_table.false
    (subst (λ s. IsTable c.args.bytes.now s c.entry_size.result) (sym is.1)
    (record { in_file = table.in_file; entry_size = c.entry_size.ensures ∙ table.entry_size; whole = table.whole })))
    refl
