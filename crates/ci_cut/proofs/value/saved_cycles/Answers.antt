use Rattle.std.proofs.Common.{◌∙◌, arith}
use Rattle.ci_cut.specs.Gain.{saved_cycles}
use Rattle.ci_cut.proofs.GainArithmetic.{reads_fit, pads_fit, less_reads_fits, gain_is, less_pads_fits}
use Rattle.ci_cut.proofs.value.saved_cycles.Goals as goal

pub overflow_mul-result : goal.overflow_mul-result
overflow_mul-result c = reads_fit c.args.further c.read.result c.requires.further (omega arith)

pub overflow_sub-result : goal.overflow_sub-result
overflow_sub-result c =
    less_reads_fits c.args.software c.args.hardware c.args.further c.read.result c.requires.software (omega arith) c.requires.further (omega arith)

pub overflow_mul-result-2 : goal.overflow_mul-result-2
overflow_mul-result-2 c = pads_fit c.args.size c.args.further c.pad.result c.requires.size c.requires.further (omega arith)

pub overflow_sub-result-2 : goal.overflow_sub-result-2
overflow_sub-result-2 c =
    less_pads_fits c.args.software c.args.hardware c.args.further c.read.result
    c.requires.software (omega arith) c.requires.further (omega arith) c.args.size c.pad.result
    c.requires.size (omega arith)

pub returns : goal.returns
returns c =
    gain_is c.args.software c.args.hardware c.args.further c.read.result
    c.requires.software (omega arith) c.requires.further (omega arith) c.args.size c.pad.result
    c.requires.size (omega arith)
    ∙ (λ i. saved_cycles (c.read.ensures i) (c.pad.ensures i) c.args.software c.args.hardware c.args.further c.args.size)
