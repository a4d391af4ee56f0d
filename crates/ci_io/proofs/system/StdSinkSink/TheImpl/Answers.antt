-- A sink that tells no byte owes only what its count does.
use Rattle.std.proofs.Common.{◌≡◌, ℕ, List, Option, None, refl, arith}
use Rattle.ci_io.proofs.RaisedCounter.{Rises-raised, OnErr-IsErrOf, OnOk-always}
use Rattle.ci_io.proofs.system.StdSinkSink.TheImpl.Goals as goal

pub put-tells : goal.put-tells
put-tells g c = record {
  called = c.ensures.called;
  ok = OnOk-always c.result (◌≡◌ {A = Option (List ℕ)} None None) refl;
  fault = λ _. (0, refl);
  no_memory = λ _. refl;
  no_memory_counted = λ none. absurd (c.ensures.never_no_memory none);
  fault_counted = λ fault. Rises-raised _ _ (OnErr-IsErrOf c.result _ _ c.ensures.after_fault fault);
  others_not_counted = λ _. refl;
  never_falls = c.ensures.never_falls;
  memory_never_falls = omega arith;
}
