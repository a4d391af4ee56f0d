-- A read that answers no bytes refuses the first file of a list, whatever comes after it.
use Rattle.std.proofs.Common.{Err}
use Rattle.ci_io.proofs.CallLaws.{AreMade-read}
use Rattle.ci_calls.proofs.InputLaws.{first_unread}
use Rattle.ci_calls.proofs.inputs.read_file.Goals as goal

pub returns-in-Err-clause-refused : goal.returns-in-Err-clause-refused
returns-in-Err-clause-refused g c = λ form others.
    let e = c.in-Err.ensures in
    first_unread _ _ _ _ others (record { name = c.args.name.now; limit = c.args.limit; form = form })
    (Err c.in-Err.fault) c.unread.result (c.unread.ensures c.args.limit form)
    (AreMade-read g.F.Shelf.read_may_fail g.F.Shelf.write_may_fail (g.F.Shelf.state c.args.shelf.now)
    (g.F.Shelf.state c.read.new.self) c.args.name.now c.args.limit (Err c.in-Err.fault) e.called e.of_the_file
    e.absent_where_told e.fault_where_it_may e.fault_counted e.never_falls e.files_stay e.writes_stay)
