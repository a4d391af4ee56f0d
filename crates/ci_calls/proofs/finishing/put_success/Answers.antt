-- After a put that failed, or ran out of memory, the fault line is put.
use Rattle.std.proofs.Common.{◌≡◌, ◌≢◌, [], ◌∷◌, ◌++◌, Ok, Err, ap, inl, inr, refl, Option, None, Some, List, ℕ, sym, append-nil, rules}
use Rattle.std.specs.Option.{option_map}
use Rattle.std.proofs.lemmas.List.{nil_from_length}
use Rattle.ci_io.specs.declared.sinks.SinkErr.TheVariants as sink
use Rattle.ci_io.specs.CallLists.{put}
use Rattle.ci_calls.specs.Called as made
use Rattle.ci_calls.proofs.CallsMade.{ArePut-append}
use Rattle.ci_calls.specs.private.Finish.{taken, fault, no_memory}
use Rattle.ci_calls.proofs.finishing.put_success.Goals as goal

-- a sink that took nothing more took an empty text
takes_nothing : (before : Option (List ℕ)) → before ≡ option_map (λ taken. taken ++ []) before
takes_nothing None = search rules
takes_nothing (Some before) = ap Some (sym (append-nil before))

pub returns-then-is_empty-clause-text_put : goal.returns-then-is_empty-clause-text_put
returns-then-is_empty-clause-text_put g c =
    let empty : c.args.text.now ≡ [] = nil_from_length _ (search rules) in
    rw empty (taken (takes_nothing _))

pub returns-in-Ok-clause-text_put : goal.returns-in-Ok-clause-text_put
returns-in-Ok-clause-text_put g c = taken c.in-Ok.ensures.ok

pub returns-in-Err-Fault-clause-text_put : goal.returns-in-Err-Fault-clause-text_put
returns-in-Err-Fault-clause-text_put g c =
    let failed = ap Err c.in-Err-Fault.field-0-is in
    let front = c.in-Err-Fault.ensures.fault failed in
    let some : c.args.text.now ≢ [] = search rules in
    rw c.refuse_put.ensures.status (fault some (g.O.Sink.state c.put.new.self)
    (record {
      faults = c.in-Err-Fault.ensures.never_falls;
      memory_faults = c.in-Err-Fault.ensures.memory_never_falls;
    }) (c.in-Err-Fault.ensures.fault_counted failed) front c.refuse_put.ensures.put)

pub returns-in-Err-NoMemory-clause-text_put : goal.returns-in-Err-NoMemory-clause-text_put
returns-in-Err-NoMemory-clause-text_put g c =
    let failed = ap Err c.in-Err-NoMemory.field-0-is in
    let some : c.args.text.now ≢ [] = search rules in
    rw c.refuse_memory.ensures.status (no_memory some (g.O.Sink.state c.put.new.self)
    (record {
      faults = c.in-Err-NoMemory.ensures.never_falls;
      memory_faults = c.in-Err-NoMemory.ensures.memory_never_falls;
    }) (c.in-Err-NoMemory.ensures.no_memory_counted failed) (c.in-Err-NoMemory.ensures.no_memory failed) c.refuse_memory.ensures.put)

-- ---- the puts

pub returns-then-is_empty-clause-called : goal.returns-then-is_empty-clause-called
returns-then-is_empty-clause-called g c =
    let empty : c.args.text.now ≡ [] = nil_from_length _ (search rules) in
    ([], sym (append-nil _), made.taken [] (inl (empty, refl)))

pub returns-in-Ok-clause-called : goal.returns-in-Ok-clause-called
returns-in-Ok-clause-called g c =
    let some : c.args.text.now ≢ [] = search rules in
    (put c.args.text.now (Ok tt) ∷ [], c.in-Ok.ensures.called, made.taken _ (inr (some, refl)))

pub returns-in-Err-Fault-clause-called : goal.returns-in-Err-Fault-clause-called
returns-in-Err-Fault-clause-called g c =
    let called = rw c.in-Err-Fault.field-0-is at c.in-Err-Fault.ensures.called in
    let some : c.args.text.now ≢ [] = search rules in
    let line = c.refuse_put.ensures.called in (
      put c.args.text.now (Err sink.Fault) ∷ line.0,
      ArePut-append (g.O.Sink.state c.args.out.now) (g.O.Sink.state c.put.new.self) (g.O.Sink.state c.refuse_put.new.out)
          (put c.args.text.now (Err sink.Fault) ∷ []) line.0 called line.1,
      rw c.refuse_put.ensures.status (made.put_failed line.0 some line.2),
    )

pub returns-in-Err-NoMemory-clause-called : goal.returns-in-Err-NoMemory-clause-called
returns-in-Err-NoMemory-clause-called g c =
    let called = rw c.in-Err-NoMemory.field-0-is at c.in-Err-NoMemory.ensures.called in
    let some : c.args.text.now ≢ [] = search rules in
    let line = c.refuse_memory.ensures.called in (
      put c.args.text.now (Err sink.NoMemory) ∷ line.0,
      ArePut-append (g.O.Sink.state c.args.out.now) (g.O.Sink.state c.put.new.self) (g.O.Sink.state c.refuse_memory.new.out)
          (put c.args.text.now (Err sink.NoMemory) ∷ []) line.0 called line.1,
      rw c.refuse_memory.ensures.status (made.no_memory line.0 some line.2),
    )
