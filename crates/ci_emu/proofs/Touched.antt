-- What is told after a step more.
use Rattle.std.proofs.Common.{◌≡◌, ℕ, Option, Some, None, refl, inl, inr}
use Rattle.std.specs.Prelude.{is_none, false, ◌↔◌, ◌⊎◌}
use Rattle.std.specs.BTreeSet.{BTreeSet}
use Rattle.ci_emu.specs.private.Counting.{first_touch, Led}

pub without_touch : (earlier : Option (ℕ × ℕ)) (pc : ℕ) → first_touch earlier pc None ≡ earlier
without_touch (Some touch) pc = refl
without_touch None pc = refl

pub with_earlier : (earlier : Option (ℕ × ℕ)) (pc : ℕ) (address : Option ℕ) → is_none earlier ≡ false → first_touch earlier pc address ≡ earlier
with_earlier (Some touch) pc address some = refl
with_earlier None pc address some = cc

pub ruleset laws = (without_touch, with_earlier)

-- a target that is told already
pub told_before : (targets : BTreeSet ℕ) (target : Option ℕ) → ((address : ℕ) → target ≡ Some address → Led targets address)
    → (address : ℕ) → Led targets address ↔ (Led targets address ⊎ (target ≡ Some address))
told_before targets target told address = (λ led. inl led, λ either. elim either [ inl led ↦ led | inr is ↦ told address is ])
