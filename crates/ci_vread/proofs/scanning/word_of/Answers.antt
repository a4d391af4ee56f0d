-- The longer words, by their bytes.
use Rattle.std.proofs.Common.{refl, arith, codes}
use Rattle.std.proofs.lemmas.Slice.Eq.{text_from_reads}
use Rattle.ci_vread.proofs.scanning.word_of.Goals as goal

pub returns-in-module : goal.returns-in-module
returns-in-module c = let e = text_from_reads c.args.bytes.now (codes "module") (omega arith) (grind arith) in rw e refl

pub returns-in-output : goal.returns-in-output
returns-in-output c = let e = text_from_reads c.args.bytes.now (codes "output") (omega arith) (grind arith) in rw e refl

pub returns-in-assign : goal.returns-in-assign
returns-in-assign c = let e = text_from_reads c.args.bytes.now (codes "assign") (omega arith) (grind arith) in rw e refl

pub returns-in-endmodule : goal.returns-in-endmodule
returns-in-endmodule c = let e = text_from_reads c.args.bytes.now (codes "endmodule") (omega arith) (grind arith) in rw e refl
