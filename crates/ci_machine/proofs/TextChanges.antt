-- The memory in which a run of a file opens, where words of the file's text are written over.
use Rattle.std.proofs.Common.{◌≡◌, ℕ, ◌+◌, ◌-◌, ◌≤◌, false, List, [], ◌∷◌, Some, Ok, refl, sym, ◌∙◌, ap, arith, nat_lt, true≢false}
use Rattle.std.specs.List.{Contains}
use Rattle.std.proofs.lemmas.Bool.{ltb-true}
use Rattle.std.proofs.lemmas.Bool.Decides.{nat_tests}
use Rattle.ci_elf.specs.declared.segments.Segment.{Segment}
use Rattle.ci_elf.specs.Executables.{Executable}
use Rattle.ci_elf.specs.Rules.{IsReadAs}
use Rattle.ci_elf.specs.TextChanges.{ChangeText}
use Rattle.ci_elf.proofs.ImageLaws.{contains_tail}
use Rattle.ci_elf.proofs.PatchLaws.{text_is_loaded_once}
use Rattle.ci_machine.specs.FileLaws.{OpensAlike}
use Rattle.ci_machine.specs.Programs.{in_text, lies_in, loaded_byte, loaded_memory, loaded_program}
use Rattle.ci_machine.proofs.TestLaws.{by_test}

module _ (old new : List ℕ) (file : Executable) (read : IsReadAs old (Ok file)) (change : ChangeText file new)
    (address : ℕ) (outside : in_text (loaded_program file) address ≡ false) where
  -- a byte of a segment outside the text
  same_byte :
      (segment : Segment) → Contains file.segments segment → segment.address ≤ address
      → loaded_byte file.bytes segment (address - segment.address) ≡ loaded_byte new segment (address - segment.address)
  same_byte segment there from =
      let distance = address - segment.address in
      by_test (nat_lt distance segment.file_size) (λ is.
      rw is (sym (change.same_else (segment.offset + distance) (λ text.
      let loaded = text_is_loaded_once old file read segment distance there (ltb-true distance segment.file_size is) text in
      let here : segment.address + distance ≡ address = omega arith in
      true≢false (sym (rw here at loaded) ∙ outside))))) (λ is. rw is refl)

  same_memory :
      (segments : List Segment) → ((s : Segment) → Contains segments s → Contains file.segments s)
      → loaded_memory file.bytes segments address ≡ loaded_memory new segments address
  same_memory [] among = refl
  same_memory (s ∷ segments) among =
      by_test (lies_in s.address (s.address + s.memory_size) address) (λ is.
      let from : s.address ≤ address = grind (arith, nat_tests) in
      rw is (ap Some (same_byte s (among s (0, omega arith, refl)) from)))
      (λ is. rw is (same_memory segments (λ t c. among t (contains_tail s segments t c))))

pub opens_alike : OpensAlike
opens_alike old new file input read change = record {
  memory = λ address outside. same_memory old new file read change address outside file.segments (λ s c. c);
  heap_end = refl;
  input = refl;
  output = refl;
}
