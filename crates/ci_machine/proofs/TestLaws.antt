-- Facts on tests, and cases on a test and on an end.
use Rattle.std.proofs.Common.{◌≡◌, ℕ, ◌<◌, ◌≤◌, ◌⊎◌, inl, inr, cond, refl, arith, Option, Some, None}
use Rattle.std.proofs.lemmas.Bool.Decides.{nat_tests}
use Rattle.std.specs.Prelude.{Bool, true, false, ◌&&◌, ◌||◌}
use Rattle.ci_machine.specs.Programs.{lies_in}
use Rattle.ci_machine.specs.declared.ends.End.{End}

pub by_test : {A : Type 0} (b : Bool) → (b ≡ true → A) → (b ≡ false → A) → A
by_test true holds fails = holds refl
by_test false holds fails = fails refl

pub by_end : {A : Type 0} (end : Option End) → (end ≡ None → A) → ((e : End) → end ≡ Some e → A) → A
by_end None none some = none refl
by_end (Some e) none some = some e refl

pub neither_first : (p q : Bool) → (p || q) ≡ false → p ≡ false
neither_first p q none = grind arith

pub neither_second : (p q : Bool) → (p || q) ≡ false → q ≡ false
neither_second p q none = grind arith

pub both_first : (p q : Bool) → (p && q) ≡ true → p ≡ true
both_first p q both = grind arith

pub both_second : (p q : Bool) → (p && q) ≡ true → q ≡ true
both_second p q both = grind arith

pub either_first : (p q : Bool) → (p || q) ≡ true → q ≡ false → p ≡ true
either_first p q is none = grind arith

pub or_second : (p q : Bool) → (p || q) ≡ true → p ≡ false → q ≡ true
or_second p q is none = grind arith

pub either_second : (p q : Bool) → q ≡ true → (p || q) ≡ true
either_second p q is = grind arith

pub some_is : {A : Type 0} {a b : A} → Some a ≡ Some b → a ≡ b
some_is e = cc

-- a run has ended, or it has not
pub no_end : (end : Option End) (e : End) → end ≡ None → end ≡ Some e → ⊥
no_end end e none some = cc

pub taken : {A : Type 0} (b : Bool) (x y : A) → b ≡ true → cond b x y ≡ x
taken true x y h = refl
taken false x y h = absurd (let e : false ≡ true = h in cc)

pub passed : {A : Type 0} (b : Bool) (x y : A) → b ≡ false → cond b x y ≡ y
passed true x y h = absurd (let e : true ≡ false = h in cc)
passed false x y h = refl

-- ---- addresses between two others

pub lies_in-bounds : (start end address : ℕ) → lies_in start end address ≡ true → (start ≤ address) × (address < end)
lies_in-bounds start end address h = (grind (arith, nat_tests), grind (arith, nat_tests))

pub bounds-lies_in : (start end address : ℕ) → start ≤ address → address < end → lies_in start end address ≡ true
bounds-lies_in start end address low high = grind (arith, nat_tests)

pub outside : (start end address : ℕ) → (address < start) ⊎ (end ≤ address) → lies_in start end address ≡ false
outside start end address (inl h) = grind (arith, nat_tests)
outside start end address (inr h) = grind (arith, nat_tests)
