-- A shelf that tells no file owes only what its counts do.
use Rattle.std.proofs.Common.{◌≡◌, Option, None, refl}
use Rattle.ci_io.specs.Outcomes.{Files}
use Rattle.ci_io.proofs.RaisedCounter.{Rises-raised, OnOk-always}
use Rattle.ci_io.proofs.system.FileShelfShelf.TheImpl.Goals as goal

pub read-tells : goal.read-tells
read-tells g c = record {
  called = c.ensures.called;
  of_the_file = tt;
  within_limit = c.ensures.within_limit;
  absent_where_told = λ absent. absurd (c.ensures.never_absent absent);
  fault_where_it_may = λ _. refl;
  fault_counted = λ fault. Rises-raised _ _ (c.ensures.after_fault fault);
  absent_not_counted = λ absent. absurd (c.ensures.never_absent absent);
  never_falls = c.ensures.never_falls;
  files_stay = refl;
  writes_stay = c.ensures.writes_stay;
}

pub write-tells : goal.write-tells
write-tells g c = record {
  called = c.ensures.called;
  ok = OnOk-always c.result (◌≡◌ {A = Option Files} None None) refl;
  fault = λ _. (None, refl);
  no_memory = λ _. refl;
  never_absent = c.ensures.never_absent;
  never_too_large = c.ensures.never_too_large;
  fault_where_it_may = λ _. refl;
  fault_counted = λ fault. Rises-raised _ _ (c.ensures.after_fault fault);
  never_falls = c.ensures.never_falls;
  reads_stay = c.ensures.reads_stay;
}
