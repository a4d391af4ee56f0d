use Rattle.std.proofs.Common.{◌≡◌, ◌++◌, ◌∙◌, ap, arith, subst, sym}
use Rattle.ci_elf.specs.Fields.{e_shnum}
use Rattle.ci_reading.specs.Broken.{each_below}
use Rattle.ci_elf.specs.Executables.{begins_entry, symbols_of}
use Rattle.ci_elf.specs.private.SymbolChecks.{TakesToo, free_values, symbols_here}
use Rattle.ci_reading.proofs.BrokenLaws.{each_below_none, each_below_more}
use Rattle.ci_elf.proofs.TableLaws.{none_taken, room_for, room_stays, table_among, table_holds, table_taken, values_here}
use Rattle.ci_elf.proofs.symbols.symbol_values.Goals as goal

pub loop-n-init : goal.loop-n-init
loop-n-init c = record {
  values = c.new-symbols.ensures.items ∙ sym (each_below_none _);
  room = room_for c.args.bytes.now c.table_span.result c.in_ok-taken.taken c.table_span.ensures c.in_ok-taken.ensures.first c.in_ok-taken.ensures.many;
  taken = none_taken c.args.bytes.now c.in_ok-taken.taken c.in_ok-taken.ensures.free;
}

pub push_values-requires : goal.push_values-requires
push_values-requires c =
    let bytes = c.args.bytes.now in
    let n = c.loop-n.n in
    rw c.symbol_part.ensures
    (table_among bytes n (table_holds bytes c.requires.sections n (omega arith)) c.loop-n.taken c.loop-n.invariant.room (omega arith))

pub loop-n-preserved : goal.loop-n-preserved
loop-n-preserved c =
    let bytes = c.args.bytes.now in
    let n = c.loop-n.n in
    let old = c.loop-n.taken in
    let new = c.push_values.new.taken in
    let taken = c.loop-n.invariant.taken in
    let same = subst (λ table. TakesToo old new (begins_entry table.start table.end)) c.symbol_part.ensures c.in_ok-push_values.ensures.taken in
    record {
      values =
          c.in_ok-push_values.ensures.values ∙ ap (λ table. c.loop-n.symbols.items ++ free_values bytes old table) c.symbol_part.ensures
          ∙ ap (λ l. c.loop-n.symbols.items ++ l) (values_here bytes n old new taken c.loop-n.invariant.room (omega arith))
          ∙ ap (λ l. l ++ symbols_here bytes n) c.loop-n.invariant.values
          ∙ sym (each_below_more n (symbols_here bytes));
      room = room_stays bytes n old new taken same c.loop-n.invariant.room;
      taken = table_taken bytes n old new taken same;
    }

pub returns : goal.returns
unfolding symbols_of
returns c =
    let all : c.loop-n.n ≡ e_shnum c.args.bytes.now = omega arith in
    c.loop-n.invariant.values ∙ ap (λ n. each_below n (symbols_here c.args.bytes.now)) all
