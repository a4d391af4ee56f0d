use Rattle.std.proofs.Common.{subst}
use Rattle.ci_netlist.specs.private.Reading.{Fails, netlists_read}
use Rattle.ci_netlist.proofs.TextReading.{IsTold, read_spells, stop_is_bad}
use Rattle.ci_netlist.proofs.reading.read.Goals as goal
use Rattle.ci_netlist.proofs.reading.read.Goals.{In-Err-Stopped}

told : (c : In-Err-Stopped) → IsTold c.args.bytes.now c.in-Err-Stopped.left
told c =
    stop_is_bad c.args.bytes.now c.in-Err-Stopped.left c.requires
    (subst (λ f. Fails f (netlists_read 32 0 c.args.bytes.now)) c.in-Err-Stopped.field-0-is c.in-Err-Stopped.ensures)

pub overflow_sub-result : goal.overflow_sub-result
overflow_sub-result c = (told c).few

pub returns-in-Ok-clause-nets : goal.returns-in-Ok-clause-nets
returns-in-Ok-clause-nets c = read_spells c.args.bytes.now c.in-Ok.nets.items c.requires c.in-Ok.ensures

pub returns-in-Err-Stopped-clause-fault : goal.returns-in-Err-Stopped-clause-fault
returns-in-Err-Stopped-clause-fault c = (told (goal.at.returns-in-Err-Stopped-clause-fault c).In-Err-Stopped).is_bad
