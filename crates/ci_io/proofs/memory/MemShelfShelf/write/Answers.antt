-- A call that fails leaves the file, so the name holds what it held.
use Rattle.std.proofs.Common.{◌∙◌, ap, sym, refl}
use Rattle.std.specs.FinMap.{get}
use Rattle.ci_io.proofs.WithFile.{with_file-again}
use Rattle.ci_io.proofs.memory.MemShelfShelf.write.Goals as goal

pub returns-then-is_next_to_fail-clause-fault : goal.returns-then-is_next_to_fail-clause-fault
returns-then-is_next_to_fail-clause-fault c = λ _.
    let files = c.args.self.now.files in
    (get files c.args.name.now, ap (λ state. state.files) c.self.view_is ∙ sym (with_file-again c.args.name.now (get files c.args.name.now) files refl))
