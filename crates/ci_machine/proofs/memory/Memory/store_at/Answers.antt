use Rattle.std.proofs.Common.{ap, ◌∙◌, arith, is_some}
use Rattle.ci_isa.specs.Effects.{width_bytes}
use Rattle.ci_machine.specs.Accesses.{addresses, bytes_of_number, with_bytes}
use Rattle.ci_machine.specs.Memories.{is_mapped, memory_of}
use Rattle.ci_machine.specs.Layouts.{HasLayout, HasPages}
use Rattle.ci_machine.specs.Windows.{HasWindows}
use Rattle.ci_machine.proofs.WindowLaws.{still_seen}
use Rattle.ci_machine.proofs.AccessLaws.{length-bytes_of_number}
use Rattle.ci_machine.proofs.MemoryWrites.{seen_run, seen_written, paged_written}
use Rattle.ci_machine.proofs.memory.Memory.store_at.Goals as goal

pub invariant_of-self : goal.invariant_of-self
unfolding HasLayout HasPages HasWindows
invariant_of-self c =
    let old = c.args.self.now in
    let long = length-bytes_of_number (width_bytes c.args.width) c.args.value in
    let inside = c.requires.on_page in
    record {
      laid_out = old.laid_out;
      paged = paged_written old c.store_at.new.self (bytes_of_number (width_bytes c.args.width) c.args.value) c.args.address (omega (arith, long, inside))
          (λ k lt. c.requires.mapped k (omega (arith, long)))
          c.store_at.ensures.content c.store_at.ensures.has c.store_at.ensures.room;
      seen = still_seen old _ c.store_at.ensures.table;
    }

pub returns-clause-mapped : goal.returns-clause-mapped
returns-clause-mapped c =
    ap is_some (seen_run c.args.self.now (width_bytes c.args.width) c.args.address (omega (arith, c.requires.on_page)) c.requires.mapped)

pub returns-clause-written : goal.returns-clause-written
unfolding memory_of is_mapped
returns-clause-written c =
    let old = c.args.self.now in
    let row = bytes_of_number (width_bytes c.args.width) c.args.value in
    let long = length-bytes_of_number (width_bytes c.args.width) c.args.value in
    let inside = c.requires.on_page in
    (λ k x. seen_written old c.store_at.new.self row c.args.address (omega (arith, long, inside))
    (λ k lt. c.requires.mapped k (omega (arith, long))) c.store_at.ensures.content x k)
    ∙ ap (λ n. with_bytes (memory_of old) (addresses n c.args.address) row) long
