-- The rule that no two segments overlap in memory, by the parts of memory that they have.
use Rattle.std.proofs.Common.{◌≡◌, ℕ, ◌+◌, ◌<◌, ◌≤◌, min, max, Bool, true, false, cond, List, refl, arith}
use Rattle.ci_elf.specs.declared.parts.Part.{Part}
use Rattle.ci_elf.specs.Fields.{is_loadable, p_vaddr, p_memsz}
use Rattle.ci_elf.specs.private.Parts.{Overlap, part, nothing, memory_of}
use Rattle.ci_elf.specs.Rules.{MemoryIsApart, Holds, Apart}

-- parts that share no place
pub apart_from_parts : (a s b t : ℕ) → min (a + s) (b + t) ≤ max a b → Apart a s b t
apart_from_parts a s b t h x in_first in_second = omega (arith, in_first.0, in_first.1, in_second.0, in_second.1)

pub overlap_breaks : (a s b t : ℕ) → max a b < min (a + s) (b + t) → ¬ Apart a s b t
overlap_breaks a s b t h apart = apart (max a b) (omega arith, omega arith) (omega arith, omega arith)

-- what is chosen by a test
pub chosen_part : (b : Bool) (p : Part) → b ≡ true → cond b p nothing ≡ p
chosen_part true p is = refl
chosen_part false p is = cc

-- a part that overlaps one is not nothing
pub overlap_chosen : (b : Bool) (p q : Part) → Overlap (cond b p nothing) q → b ≡ true
overlap_chosen true p q h = refl
overlap_chosen false p q h = absurd (omega arith)

-- nor is one that has a place
pub place_chosen : (b : Bool) (p : Part) (x : ℕ) → x < (cond b p nothing).end → b ≡ true
place_chosen true p x h = refl
place_chosen false p x h = absurd (omega arith)

pub overlap_symmetric : (p q : Part) → Overlap p q → Overlap q p
overlap_symmetric p q h = omega arith

module _ (bytes : List ℕ) (m n : ℕ) where
  pub memory_kept :
      min (memory_of bytes m).end (memory_of bytes n).end ≤ max (memory_of bytes m).start (memory_of bytes n).start
      → Holds bytes (MemoryIsApart m n)
  memory_kept h first second =
      let known = rw (
        chosen_part (is_loadable bytes m) (part (p_vaddr bytes m) (p_memsz bytes m)) first,
        chosen_part (is_loadable bytes n) (part (p_vaddr bytes n) (p_memsz bytes n)) second,
      ) at h in
      apart_from_parts (p_vaddr bytes m) (p_memsz bytes m) (p_vaddr bytes n) (p_memsz bytes n) known

  pub memory_broken : Overlap (memory_of bytes m) (memory_of bytes n) → ¬ Holds bytes (MemoryIsApart m n)
  memory_broken h holds =
      let first = overlap_chosen (is_loadable bytes m) (part (p_vaddr bytes m) (p_memsz bytes m)) (memory_of bytes n) h in
      let second = overlap_chosen (is_loadable bytes n) (part (p_vaddr bytes n) (p_memsz bytes n)) (memory_of bytes m)
      (overlap_symmetric (memory_of bytes m) (memory_of bytes n) h) in
      let known = rw (
        chosen_part (is_loadable bytes m) (part (p_vaddr bytes m) (p_memsz bytes m)) first,
        chosen_part (is_loadable bytes n) (part (p_vaddr bytes n) (p_memsz bytes n)) second,
      ) at h in
      overlap_breaks (p_vaddr bytes m) (p_memsz bytes m) (p_vaddr bytes n) (p_memsz bytes n) known (holds first second)
