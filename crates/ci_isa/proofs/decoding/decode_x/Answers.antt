use Rattle.std.proofs.Common.{◌∙◌, arith}
use Rattle.std.proofs.lemmas.Option.{IfSome_then}
use Rattle.ci_isa.specs.Table.{ReadsX}
use Rattle.ci_isa.proofs.RowSoundness.{extended_reads}
use Rattle.ci_isa.proofs.RowCompleteness.{only_extended, none_read, read_well_formed}
use Rattle.ci_isa.proofs.decoding.decode_x.Goals as goal

pub returns-clause-found : goal.returns-clause-found
returns-clause-found c = rw c.extended_row.ensures (extended_reads c.args.word (omega arith))

pub returns-clause-only : goal.returns-clause-only
returns-clause-only c = λ insn reads. c.extended_row.ensures ∙ only_extended c.args.word insn reads

pub returns-clause-none : goal.returns-clause-none
returns-clause-none c = none_read c.extended_row.result (ReadsX c.args.word) (λ insn reads. c.extended_row.ensures ∙ only_extended c.args.word insn reads)

pub returns-clause-well_formed : goal.returns-clause-well_formed
returns-clause-well_formed c = IfSome_then c.extended_row.result
    (rw c.extended_row.ensures (extended_reads c.args.word (omega arith))) (read_well_formed c.args.word)
