use Rattle.std.proofs.Common.{◌≡◌, ◌++◌}
use Rattle.ci_netlist.specs.Texts.{netlist_text}
use Rattle.ci_netlist.proofs.WritingLaws.{one_written}
use Rattle.ci_netlist.proofs.writing.write.Goals as goal

pub loop-number-preserved : goal.loop-number-preserved
loop-number-preserved c =
    let before = c.loop-number in
    let net = c.index-nets-number in
    let text = c.push_netlist.new.text.items in
    let appended = c.in_ok-push_netlist.ensures.text in
    let next : text ≡ before.text.items ++ netlist_text before.number net.result = cc appended in
    one_written c.args.nets.now before.number net.result before.text.items text c.loop-number-test.true net.is
    c.push_netlist.ensures.kept before.invariant next
