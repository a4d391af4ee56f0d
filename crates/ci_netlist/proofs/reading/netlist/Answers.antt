use Rattle.std.proofs.Common.{◌≤◌}
use Rattle.ci_netlist.specs.private.Reading.{netlist_of}
use Rattle.ci_netlist.proofs.ReadingLoops.{IsRead, few_gates, netlist_reads, netlist_left}
use Rattle.ci_netlist.proofs.reading.netlist.Goals as goal
use Rattle.ci_netlist.proofs.reading.netlist.Goals.{In_ok-count, In_ok-outputs}

few : (c : In_ok-count) → c.in_ok-count.count ≤ 4194304
few c =
    let read = c.in_ok-count in
    few_gates c.args.place read.count c.args.bytes.now read.rest.now c.requires.place c.requires.few read.ensures

is_read : (c : In_ok-outputs)
    → IsRead (netlist_of c.in_ok-gates.gates.items c.in_ok-outputs.outputs.items) c.args.bytes.now c.in_ok-outputs.rest.now
is_read c =
    let gates = c.in_ok-gates in
    let outputs = c.in_ok-outputs in
    netlist_left c.args.place c.args.bytes.now outputs.rest.now (netlist_of gates.gates.items outputs.outputs.items)
    c.requires.place c.requires.few
    (netlist_reads c.args.place c.in_ok-count.count c.args.bytes.now c.in_ok-count.rest.now c.in_ok-count.ensures
    gates.gates.items outputs.outputs.items gates.rest.now outputs.rest.now gates.ensures outputs.ensures)

pub gates-requires : goal.gates-requires
gates-requires c = few (goal.at.gates-requires c).In_ok-count

pub outputs-requires : goal.outputs-requires
outputs-requires c = few (goal.at.outputs-requires c).In_ok-count

pub new-requires : goal.new-requires
new-requires c = (is_read (goal.at.new-requires c).In_ok-outputs).is_netlist

pub returns-clause-left : goal.returns-clause-left
returns-clause-left c = (is_read (goal.at.returns-clause-left c).In_ok-outputs).left
