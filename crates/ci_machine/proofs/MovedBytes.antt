-- An instruction that ends a block moves the same bytes from cores that agree.
use Rattle.std.proofs.Common.{◌≡◌, ℕ, ◌+◌, ◌^◌, refl, subst, ◌∙◌, List, [], ◌∷◌, min, length, Option, Some, None}
use Rattle.std.specs.Prelude.{Bool, true, false, ◌==◌, ◌&&◌, nat_le, if◌then◌else◌, is_some}
use Rattle.std.specs.List.{list_any}
use Rattle.ci_isa.specs.declared.instruction.Insn.{Insn}
use Rattle.ci_isa.specs.declared.instruction.Insn.TheVariants.{Ecall, Load, Store}
use Rattle.ci_isa.specs.Effects.{ends_block, is_among}
use Rattle.ci_machine.specs.Cores.{Core, register}
use Rattle.ci_machine.specs.Accesses.{addresses, bytes_at}
use Rattle.ci_machine.specs.Actions.{Units}
use Rattle.ci_machine.specs.Agreement.{reads, AgreeOutside, AgreeOn}
use Rattle.ci_machine.specs.Calls.{range_at, read_length, is_output}
use Rattle.ci_machine.specs.Touches.{moved_range}
use Rattle.ci_machine.specs.Touches.{moved}
use Rattle.ci_machine.specs.Blocks.{IsMapped}
use Rattle.ci_machine.proofs.RegisterLaws.{operands_agree}
use Rattle.ci_machine.proofs.ControlFrame.{same_mapped, mapped_alike}

range_mapped : (left right : ℕ → Option ℕ) (a n : ℕ) → ((a : ℕ) → is_some (left a) ≡ is_some (right a))
    → is_some (range_at left a n) ≡ is_some (range_at right a n)
range_mapped left right a n same = tested (nat_le (a + n) (2 ^ 32))
  where
    tested : (test : Bool) → is_some (if test then bytes_at left (addresses n a) else None) ≡ is_some (if test then bytes_at right (addresses n a) else None)
    tested true = same_mapped left right (addresses n a) same
    tested false = refl

module _ (text set : ℕ → Bool) (units : Units) (left right : Core) (mapped_left : IsMapped text left.memory) (mapped_right : IsMapped text right.memory)
    (outside : AgreeOutside text left right) (agree : AgreeOn set left right) where
  range_alike : register left 11 ≡ register right 11 → (n m : ℕ) → n ≡ m → moved_range left n ≡ moved_range right m
  range_alike x11 n m same =
      tested (range_at left.memory (register left 11) n) (range_at right.memory (register right 11) m) refl refl
      (range_mapped left.memory right.memory (register left 11) n (mapped_alike text left right outside mapped_left mapped_right)
      ∙ (λ i. is_some (range_at right.memory (x11 i) (same i))))
    where
      tested : (l r : Option (List ℕ)) → range_at left.memory (register left 11) n ≡ l → range_at right.memory (register right 11) m ≡ r → is_some l ≡ is_some r
          → moved_range left n ≡ moved_range right m
      tested None None p q alike = rw (p, q) refl
      tested (Some a) None p q alike = cc
      tested None (Some b) p q alike = cc
      tested (Some a) (Some b) p q alike = rw (p, q) (λ i. addresses (same i) (x11 i))

  pub moved_alike : (insn : Insn) → ends_block insn ≡ true → ((r : ℕ) → reads units insn r ≡ true → set r ≡ true) → moved insn left ≡ moved insn right
  moved_alike Ecall ends covered =
      let calls = 10 ∷ 11 ∷ 12 ∷ 17 ∷ [] in
      let x10 = read_agrees calls 10 covered refl in
      let x11 = read_agrees calls 11 covered refl in
      let x12 = read_agrees calls 12 covered refl in
      let x17 = read_agrees calls 17 covered refl in
      let same_length : read_length left ≡ read_length right = λ i. min (x12 i) (length (outside.input i)) in
      let reading = range_alike x11 (read_length left) (read_length right) same_length in
      let writing = range_alike x11 (register left 12) (register right 12) x12 in
      λ i. if (x17 i == 63) && (x10 i == 0) then reading i else if (x17 i == 64) && is_output (x10 i) then writing i else []
    where
      read_agrees : (registers : List ℕ) (r : ℕ) → ((q : ℕ) → is_among registers q ≡ true → set q ≡ true) → list_any (λ n. n == r) registers ≡ true
          → register left r ≡ register right r
      read_agrees registers r covered there = operands_agree registers left right r (λ q is. agree q (covered q is)) there
  moved_alike (Load kind rd rs1 offset) ends covered = cc
  moved_alike (Store width rs1 rs2 offset) ends covered = cc
  moved_alike insn ends covered = refl

  -- so it leaves the text alone from both
  pub leaves_alike : (insn : Insn) → ends_block insn ≡ true → ((r : ℕ) → reads units insn r ≡ true → set r ≡ true)
      → list_any text (moved insn left) ≡ false → list_any text (moved insn right) ≡ false
  leaves_alike insn ends covered clear = subst (λ places. list_any text places ≡ false) (moved_alike insn ends covered) clear
