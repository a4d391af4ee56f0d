use Rattle.std.proofs.Common.{ℕ, List, [], Ok, ◌∷◌, ◌++◌, sym, subst}
use Rattle.ci_elf.specs.Executables.{IsImageOf}
use Rattle.ci_elf.specs.Rules.{IsReadAs, MemoryIsBounded, Holds, memory_rules, section_rules, segment_rules, sharing_rules}
use Rattle.ci_reading.proofs.BrokenLaws.{kept_front, kept_back}
use Rattle.ci_elf.proofs.CheckLaws.{fault_in_front, fault_behind}
use Rattle.ci_elf.proofs.ReadingLaws.{header_stage, loading_stage, text_stage, last_stage, kept_stages, read_handed_on, well_formed_from, image_from}
use Rattle.ci_elf.proofs.reading.read_vec.Goals as goal

pub returns-in_err-check_headers : goal.returns-in_err-check_headers
returns-in_err-check_headers c =
    subst (λ (file : List ℕ). IsReadAs file c.from_residual.result) c.as_slice-file.ensures.value
    (read_handed_on c.as_slice-file.result.now _ _ c.from_residual.ensures.1
    (fault_in_front c.as_slice-file.result.now header_stage
    (loading_stage c.as_slice-file.result.now ++ (text_stage c.as_slice-file.result.now ++ last_stage)) _
    c.in_err-check_headers.ensures))

pub returns-in_err-segments : goal.returns-in_err-segments
returns-in_err-segments c =
    subst (λ (file : List ℕ). IsReadAs file c.from_residual-in_err-segments.result) c.as_slice-file.ensures.value
    (read_handed_on c.as_slice-file.result.now _ _ c.from_residual-in_err-segments.ensures.1
    (fault_behind c.as_slice-file.result.now header_stage
    (loading_stage c.as_slice-file.result.now ++ (text_stage c.as_slice-file.result.now ++ last_stage)) _
    c.in_ok-check_headers.ensures
    (fault_in_front c.as_slice-file.result.now (loading_stage c.as_slice-file.result.now)
    (text_stage c.as_slice-file.result.now ++ last_stage) _ c.in_err-segments.ensures.test)))

pub returns-in_err-check_texts : goal.returns-in_err-check_texts
returns-in_err-check_texts c =
    subst (λ (file : List ℕ). IsReadAs file c.from_residual-in_err-check_texts.result) c.as_slice-file.ensures.value
    (read_handed_on c.as_slice-file.result.now _ _ c.from_residual-in_err-check_texts.ensures.1
    (fault_behind c.as_slice-file.result.now header_stage
    (loading_stage c.as_slice-file.result.now ++ (text_stage c.as_slice-file.result.now ++ last_stage)) _
    c.in_ok-check_headers.ensures
    (fault_behind c.as_slice-file.result.now (loading_stage c.as_slice-file.result.now)
    (text_stage c.as_slice-file.result.now ++ last_stage) _ c.in_ok-segments.ensures.test
    (fault_in_front c.as_slice-file.result.now (text_stage c.as_slice-file.result.now) last_stage _ c.in_err-check_texts.ensures))))

pub returns-in_err-ranges : goal.returns-in_err-ranges
returns-in_err-ranges c =
    subst (λ (file : List ℕ). IsReadAs file c.from_residual-in_err-ranges.result) c.as_slice-file.ensures.value
    (read_handed_on c.as_slice-file.result.now _ _ c.from_residual-in_err-ranges.ensures.1
    (fault_behind c.as_slice-file.result.now header_stage
    (loading_stage c.as_slice-file.result.now ++ (text_stage c.as_slice-file.result.now ++ last_stage)) _
    c.in_ok-check_headers.ensures
    (fault_behind c.as_slice-file.result.now (loading_stage c.as_slice-file.result.now)
    (text_stage c.as_slice-file.result.now ++ last_stage) _ c.in_ok-segments.ensures.test
    (fault_behind c.as_slice-file.result.now (text_stage c.as_slice-file.result.now) last_stage _ c.in_ok-check_texts.ensures c.in_err-ranges.ensures.test))))

pub check_texts-requires-clause-placed : goal.check_texts-requires-clause-placed
check_texts-requires-clause-placed c =
    kept_front (Holds c.as_slice-file.result.now) (segment_rules c.as_slice-file.result.now)
    (memory_rules c.as_slice-file.result.now ++ MemoryIsBounded ∷ []) c.in_ok-segments.ensures.test

pub check_texts-requires-clause-memory : goal.check_texts-requires-clause-memory
check_texts-requires-clause-memory c =
    kept_front (Holds c.as_slice-file.result.now) (memory_rules c.as_slice-file.result.now) (MemoryIsBounded ∷ [])
    (kept_back (Holds c.as_slice-file.result.now) (segment_rules c.as_slice-file.result.now)
    (memory_rules c.as_slice-file.result.now ++ MemoryIsBounded ∷ []) c.in_ok-segments.ensures.test)

pub checked_ranges-requires-clause-placed : goal.checked_ranges-requires-clause-placed
checked_ranges-requires-clause-placed c =
    kept_front (Holds c.as_slice-file.result.now) (segment_rules c.as_slice-file.result.now)
    (memory_rules c.as_slice-file.result.now ++ MemoryIsBounded ∷ []) c.in_ok-segments.ensures.test

pub checked_ranges-requires-clause-memory : goal.checked_ranges-requires-clause-memory
checked_ranges-requires-clause-memory c =
    kept_front (Holds c.as_slice-file.result.now) (memory_rules c.as_slice-file.result.now) (MemoryIsBounded ∷ [])
    (kept_back (Holds c.as_slice-file.result.now) (segment_rules c.as_slice-file.result.now)
    (memory_rules c.as_slice-file.result.now ++ MemoryIsBounded ∷ []) c.in_ok-segments.ensures.test)

pub checked_ranges-requires-clause-sections : goal.checked_ranges-requires-clause-sections
checked_ranges-requires-clause-sections c =
    kept_front (Holds c.as_slice-file.result.now) (section_rules c.as_slice-file.result.now)
    (sharing_rules c.as_slice-file.result.now) c.in_ok-check_texts.ensures

pub symbol_values-requires-clause-sections : goal.symbol_values-requires-clause-sections
symbol_values-requires-clause-sections c =
    kept_front (Holds c.as_slice-file.result.now) (section_rules c.as_slice-file.result.now)
    (sharing_rules c.as_slice-file.result.now) c.in_ok-check_texts.ensures

pub new-image-requires-clause-well_formed : goal.new-image-requires-clause-well_formed
new-image-requires-clause-well_formed c =
    rw (sym c.as_slice-file.ensures.value, c.entry-entry.ensures, c.in_ok-segments.ensures.value)
    (well_formed_from c.as_slice-file.result.now
    (kept_front (Holds c.as_slice-file.result.now) (segment_rules c.as_slice-file.result.now)
    (memory_rules c.as_slice-file.result.now ++ MemoryIsBounded ∷ []) c.in_ok-segments.ensures.test)
    (kept_front (Holds c.as_slice-file.result.now) (memory_rules c.as_slice-file.result.now) (MemoryIsBounded ∷ [])
    (kept_back (Holds c.as_slice-file.result.now) (segment_rules c.as_slice-file.result.now)
    (memory_rules c.as_slice-file.result.now ++ MemoryIsBounded ∷ []) c.in_ok-segments.ensures.test))
    (kept_front (Holds c.as_slice-file.result.now) (section_rules c.as_slice-file.result.now)
    (sharing_rules c.as_slice-file.result.now) c.in_ok-check_texts.ensures)
    c.in_ok-ranges.ranges.items c.in_ok-ranges.ensures.same c.in_ok-symbols.symbols.items
    (kept_back (Holds c.as_slice-file.result.now) (memory_rules c.as_slice-file.result.now) (MemoryIsBounded ∷ [])
    (kept_back (Holds c.as_slice-file.result.now) (segment_rules c.as_slice-file.result.now)
    (memory_rules c.as_slice-file.result.now ++ MemoryIsBounded ∷ []) c.in_ok-segments.ensures.test)).0
    c.in_ok-ranges.ensures.ascending
    c.in_ok-ranges.ensures.test.1.0)

pub returns : goal.returns
returns c =
    subst (λ (file : List ℕ). IsReadAs file (Ok c.new-image.result)) c.as_slice-file.ensures.value (
      kept_stages c.as_slice-file.result.now c.in_ok-check_headers.ensures c.in_ok-segments.ensures.test
          c.in_ok-check_texts.ensures c.in_ok-ranges.ensures.test,
      subst (IsImageOf c.as_slice-file.result.now) (sym c.new-image.ensures)
          (rw (sym c.as_slice-file.ensures.value, c.entry-entry.ensures, c.in_ok-segments.ensures.value, c.in_ok-symbols.ensures)
          (image_from c.as_slice-file.result.now
          (kept_front (Holds c.as_slice-file.result.now) (segment_rules c.as_slice-file.result.now)
          (memory_rules c.as_slice-file.result.now ++ MemoryIsBounded ∷ []) c.in_ok-segments.ensures.test)
          (kept_front (Holds c.as_slice-file.result.now) (memory_rules c.as_slice-file.result.now)
          (MemoryIsBounded ∷ []) (kept_back (Holds c.as_slice-file.result.now)
          (segment_rules c.as_slice-file.result.now)
          (memory_rules c.as_slice-file.result.now ++ MemoryIsBounded ∷ []) c.in_ok-segments.ensures.test))
          (kept_front (Holds c.as_slice-file.result.now) (section_rules c.as_slice-file.result.now)
          (sharing_rules c.as_slice-file.result.now) c.in_ok-check_texts.ensures)
          c.in_ok-ranges.ranges.items c.in_ok-ranges.ensures.same c.in_ok-ranges.ensures.ascending)),
    )
