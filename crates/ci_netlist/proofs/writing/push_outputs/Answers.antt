use Rattle.std.proofs.Common.{◌≡◌, ◌++◌, ◌-◌, length, codes, take, drop, arith}
use Rattle.std.proofs.lemmas.List.{length-take}
use Rattle.std.proofs.lemmas.Result.{on_ok_weaker}
use Rattle.ci_netlist.specs.Texts.{bits_line}
use Rattle.ci_netlist.proofs.WritingLaws.{outputs_written}
use Rattle.ci_netlist.proofs.writing.push_outputs.Goals as goal

pub slice_bounds-push_bits-end-2 : goal.slice_bounds-push_bits-end-2
slice_bounds-push_bits-end-2 c =
    let bits = c.args.bits.now in
    let e = length-take 32 bits in
    let f = c.requires in
    omega (arith, e, f)

pub returns : goal.returns
returns c =
    let bits = c.args.bits.now in
    let second = c.push_bits-2.new.text.items in
    let third = c.push_bits-3.new.text.items in
    on_ok_weaker c.push_bits-3.result
    (λ (x : third ≡ second ++ bits_line (codes "x") (take (length bits - 64) (drop 64 bits))).
    outputs_written bits c.args.text.now.items c.push_bits.new.text.items second third c.in_ok-push_bits.ensures
    c.in_ok-push_bits-2.ensures x)
    c.push_bits-3.ensures
