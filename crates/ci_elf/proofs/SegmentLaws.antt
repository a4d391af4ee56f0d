-- Segments as fields of their headers, and what is said of them.
use Rattle.std.proofs.Common.{◌≡◌, ℕ, ◌+◌, ◌<◌, ◌≤◌, ◌⊎◌, inl, inr, Bool, true, false, cond, ◌&&◌, nat_eq, nat_lt, List, Some, None, refl, arith, lit<}
use Rattle.std.specs.Prelude.{IsTrue}
use Rattle.std.proofs.lemmas.Bool.{cases_lt}
use borrow.Author.Tests.{ltb-true}
use Rattle.ci_elf.specs.declared.segments.Segment.{Segment}
use Rattle.ci_elf.specs.Fields.{is_loadable, p_type, p_vaddr, p_memsz}
use Rattle.ci_elf.specs.Executables.{segment_of}
use Rattle.ci_elf.specs.MemoryMap.{stack_start, stack_size}
use Rattle.ci_elf.specs.Rules.{FitsMemory, Apart}
use Rattle.ci_elf.specs.private.Checks.{SegmentFits, loadable_at}

pub chosen : {A : Type 0} (b : Bool) (s t : A) → Some s ≡ cond b (Some t) None → (b ≡ true) × (s ≡ t)
chosen true s t h = (refl, cc)
chosen false s t h = cc

pub none_chosen : {A : Type 0} (b : Bool) (t : A) → None ≡ cond b (Some t) None → b ≡ false
none_chosen true t h = cc
none_chosen false t h = refl

pub both : (a b : Bool) → (a && b) ≡ true → b ≡ true
both true b h = h
both false b h = cc

module _ (bytes : List ℕ) (n : ℕ) where
  -- segment n was found
  pub found : (segment : Segment) → Some segment ≡ loadable_at bytes n → IsTrue (is_loadable bytes n) × (segment ≡ segment_of bytes n)
  found segment h = chosen (is_loadable bytes n) segment (segment_of bytes n) h

  pub not_found : None ≡ loadable_at bytes n → ¬ IsTrue (is_loadable bytes n)
  not_found h is = let f : is_loadable bytes n ≡ false = none_chosen (is_loadable bytes n) (segment_of bytes n) h in cc

  pub has_memory : IsTrue (is_loadable bytes n) → 0 < p_memsz bytes n
  unfolding is_loadable
  has_memory h = ltb-true 0 (p_memsz bytes n) (both (nat_eq (p_type bytes n) 1) (nat_lt 0 (p_memsz bytes n)) h)

-- two parts that are not empty share no place just where one ends before the other begins
pub apart_means : (a s b t : ℕ) → 0 < s → 0 < t → Apart a s b t → (a + s ≤ b) ⊎ (b + t ≤ a)
apart_means a s b t some other apart = elim (cases_lt b (a + s)) [
  | inl h ↦ elim (cases_lt a (b + t)) [
    | inl k ↦ elim (cases_lt a b) [
      | inl l ↦ absurd (apart b (omega arith, h) (omega arith, omega arith))
      | inr l ↦ absurd (apart a (omega arith, omega arith) (l, k))
    ]
    | inr k ↦ inr k
  ]
  | inr h ↦ inl h
]

pub means_apart : (a s b t : ℕ) → (a + s ≤ b) ⊎ (b + t ≤ a) → Apart a s b t
means_apart a s b t (inl h) x within other = absurd (omega (arith, within.1, other.0))
means_apart a s b t (inr h) x within other = absurd (omega (arith, within.0, other.1))

module _ (bytes : List ℕ) (n : ℕ) where
  pub fits_from : SegmentFits (segment_of bytes n) → FitsMemory bytes n
  fits_from fits = record {
    filled = fits.filled;
    below_top = fits.below_top;
    off_stack = means_apart (p_vaddr bytes n) (p_memsz bytes n) stack_start stack_size fits.off_stack;
  }

  pub fits_to : 0 < p_memsz bytes n → FitsMemory bytes n → SegmentFits (segment_of bytes n)
  fits_to memory fits = record {
    filled = fits.filled;
    below_top = fits.below_top;
    off_stack = apart_means (p_vaddr bytes n) (p_memsz bytes n) stack_start stack_size memory (lit< tt) fits.off_stack;
  }
