use Rattle.std.proofs.Common.{◌∙◌, arith}
use Rattle.std.proofs.lemmas.Option.{IfSome_then}
use Rattle.ci_isa.specs.Table.{Reads}
use Rattle.ci_isa.proofs.RowSoundness.{plain_reads}
use Rattle.ci_isa.proofs.RowCompleteness.{only_plain, none_read, plain_well_formed}
use Rattle.ci_isa.proofs.decoding.decode.Goals as goal

pub returns-clause-found : goal.returns-clause-found
returns-clause-found c = rw c.plain_row.ensures (plain_reads c.args.word (omega arith))

pub returns-clause-only : goal.returns-clause-only
returns-clause-only c = λ insn reads. c.plain_row.ensures ∙ only_plain c.args.word insn reads

pub returns-clause-none : goal.returns-clause-none
returns-clause-none c = none_read c.plain_row.result (Reads c.args.word) (λ insn reads. c.plain_row.ensures ∙ only_plain c.args.word insn reads)

pub returns-clause-well_formed : goal.returns-clause-well_formed
returns-clause-well_formed c = IfSome_then c.plain_row.result (rw c.plain_row.ensures (plain_reads c.args.word (omega arith))) (plain_well_formed c.args.word)
