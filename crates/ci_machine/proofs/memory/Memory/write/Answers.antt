use Rattle.std.proofs.Common.{◌+◌, ◌∙◌, length}
use Rattle.ci_machine.specs.Accesses.{addresses, with_bytes}
use Rattle.ci_machine.specs.Memories.{is_mapped, memory_of}
use Rattle.ci_machine.specs.Layouts.{HasLayout, HasPages}
use Rattle.ci_machine.specs.Windows.{HasWindows}
use Rattle.ci_machine.proofs.WindowLaws.{still_seen}
use Rattle.ci_machine.proofs.MemoryWrites.{in_range, mapped_run, same_mapped, seen_written, paged_written}
use Rattle.ci_machine.proofs.memory.Memory.write.Goals as goal

pub make_pages-requires-clause-fits : goal.make_pages-requires-clause-fits
make_pages-requires-clause-fits c = (in_range (memory_of c.args.self.now) c.args.address (length c.args.bytes.now) c.requires.mapped).0

pub make_pages-requires-clause-mapped : goal.make_pages-requires-clause-mapped
make_pages-requires-clause-mapped c =
    let old = c.args.self.now in
    let range = in_range (memory_of old) c.args.address (length c.args.bytes.now) c.requires.mapped in
    mapped_run old (length c.args.bytes.now) c.args.address range.0 range.1

pub invariant_of-self : goal.invariant_of-self
unfolding HasLayout HasPages HasWindows
invariant_of-self c =
    let old = c.make_pages.new.self in
    let range = in_range (memory_of c.args.self.now) c.args.address (length c.args.bytes.now) c.requires.mapped in
    record {
      laid_out = old.laid_out;
      paged = paged_written old c.write_all.new.self c.args.bytes.now c.args.address range.0
          (λ k lt. same_mapped c.args.self.now old c.make_pages.ensures.memory (c.args.address + k)
          ∙ mapped_run c.args.self.now (length c.args.bytes.now) c.args.address range.0 range.1 k lt)
          c.write_all.ensures.content c.write_all.ensures.has c.write_all.ensures.room;
      seen = still_seen old _ c.write_all.ensures.table;
    }

pub returns-clause-written : goal.returns-clause-written
unfolding memory_of is_mapped
returns-clause-written c =
    let old = c.make_pages.new.self in
    let range = in_range (memory_of c.args.self.now) c.args.address (length c.args.bytes.now) c.requires.mapped in
    (λ k x. seen_written old c.write_all.new.self c.args.bytes.now c.args.address range.0
    (λ j lt. same_mapped c.args.self.now old c.make_pages.ensures.memory (c.args.address + j)
    ∙ mapped_run c.args.self.now (length c.args.bytes.now) c.args.address range.0 range.1 j lt)
    c.write_all.ensures.content x k)
    ∙ (λ k. with_bytes (c.make_pages.ensures.memory k) (addresses (length c.args.bytes.now) c.args.address) c.args.bytes.now)
