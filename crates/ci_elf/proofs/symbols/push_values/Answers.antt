use Rattle.std.proofs.Common.{refl, arith}
use Rattle.ci_elf.specs.private.SymbolChecks.{value_at}
use Rattle.ci_elf.proofs.EntryLaws.{walk_begins, at_run, at_entry}
use Rattle.ci_elf.proofs.symbols.push_values.Goals as goal

pub loop-k-init : goal.loop-k-init
loop-k-init c = record { below = omega arith; at = record { first = refl; many = refl; walked = walk_begins _ _ _ _ _ } }

pub loop-k-preserved-then-run-eq0 : goal.loop-k-preserved-then-run-eq0
loop-k-preserved-then-run-eq0 c =
    let places = c.args.taken.now in
    let start = c.args.table.start in
    let more =
    at_entry places c.loop-k.taken c.run_at-run.new.self (value_at c.args.bytes.now start) start c.loop-k.k c.args.symbols.now.items c.loop-k.symbols.items
    c.loop-k.invariant.at (omega arith) c.run_at-run.ensures.same c.take.new.self c.run_at-run.result c.run_at-run.ensures.run c.if-run-eq0.true c.take.ensures in
    record { below = omega arith; at = rw (c.in_ok-push.ensures.items, c.word_at.ensures) more }

pub loop-k-preserved : goal.loop-k-preserved
loop-k-preserved c =
    let places = c.args.taken.now in
    let start = c.args.table.start in
    record {
      below = omega arith;
      at = at_run places c.loop-k.taken c.run_at-run.new.self (value_at c.args.bytes.now start) start c.loop-k.k c.args.symbols.now.items c.loop-k.symbols.items
          c.loop-k.invariant.at (omega arith) c.run_at-run.ensures.same c.run_at-run.result c.min-k.result c.run_at-run.ensures.run (omega arith);
    }
