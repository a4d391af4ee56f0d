-- What is known of the calls that were made is known of those that a list has since.
use Rattle.std.proofs.Common.{◌≡◌, ◌∙◌, ℕ, Bool, List, ◌++◌, drop, length, ap, sym, subst}
use Rattle.std.proofs.Math.Seq.{drop-append_seam}
use Rattle.ci_io.specs.CallLists.{Call}
use Rattle.ci_io.specs.MadeCalls.{AreMade, ArePut}
use Rattle.ci_io.specs.Outcomes.{ShelfState, SinkState}
use Rattle.ci_io.proofs.CallLaws.{AreMade-grown}
use Rattle.ci_find.specs.EndsBy.{EndsBy}
use Rattle.ci_find.specs.SinceCalls.{since}

-- they are those by which the list grew
since_is : (before calls after : List Call) → after ≡ before ++ calls → since before after ≡ calls
since_is before calls after grown = ap (drop (length before)) grown ∙ drop-append_seam before calls

module _ (read_may_fail write_may_fail : List ℕ → Bool) (before after : ShelfState) (sink_before sink_after : SinkState)
    (words : List (List ℕ)) (status : ℕ) where
  -- by some calls the call of the program ends so
  abbrev pub Called : Type 0
  Called =
      (calls : List Call) × (puts : List Call) × AreMade read_may_fail write_may_fail before after calls
      × ArePut sink_before sink_after puts × EndsBy words calls puts status

  calls_since : (called : Called) → called.0 ≡ since before.calls after.calls
  calls_since (calls, puts, made, put, ends) =
      sym (since_is before.calls calls after.calls (AreMade-grown read_may_fail write_may_fail before after calls made))

  puts_since : (called : Called) → called.1 ≡ since sink_before.calls sink_after.calls
  puts_since (calls, puts, made, put, ends) = sym (since_is sink_before.calls puts sink_after.calls put)

  -- they were made on the shelf,
  pub made_since : Called → AreMade read_may_fail write_may_fail before after (since before.calls after.calls)
  made_since called =
      subst (AreMade read_may_fail write_may_fail before after) (calls_since called) called.2

  -- and on the sink,
  pub put_since : Called → ArePut sink_before sink_after (since sink_before.calls sink_after.calls)
  put_since called = subst (ArePut sink_before sink_after) (puts_since called) called.3

  -- and by them it ends so
  pub ends_since : Called → EndsBy words (since before.calls after.calls) (since sink_before.calls sink_after.calls) status
  ends_since called =
      subst (λ calls. EndsBy words calls (since sink_before.calls sink_after.calls) status) (calls_since called)
      (subst (λ puts. EndsBy words called.0 puts status) (puts_since called) called.4)
