-- Cases by the outcome of a test, or of a step that may fail.
use Rattle.std.proofs.Common.{◌≡◌, ℕ, ◌⊎◌, inl, inr, Bool, true, false, cond, ◌&&◌, not, refl, ap, Option, Some, None, Result, Ok, Err}
use Rattle.std.specs.Option.{ok_or}
use Rattle.ci_asm.specs.declared.faults.Rule.{Rule}
use Rattle.ci_asm.specs.declared.faults.Fault.{Fault}
use Rattle.ci_asm.specs.private.Statements.{◌>>=◌, fault, at_place}

-- ---- tests

pub by_test : {P : Type 0} (b : Bool) → (b ≡ true → P) → (b ≡ false → P) → P
by_test true first second = first refl
by_test false first second = second refl

pub true_is_not_false : {b : Bool} → b ≡ true → b ≡ false → ⊥
true_is_not_false is not = cc

pub not_true : (b : Bool) → not b ≡ true → b ≡ false
not_true true e = absurd (cc)
not_true false e = refl

pub and_both : (a b : Bool) → (a && b) ≡ true → (a ≡ true) × (b ≡ true)
and_both true true e = (refl, refl)
and_both true false e = absurd (cc)
and_both false true e = absurd (cc)
and_both false false e = absurd (cc)

pub pick_true : {A : Type 0} (b : Bool) (x y : A) → b ≡ true → cond b x y ≡ x
pick_true b x y e = ap (λ c. cond c x y) e

pub pick_false : {A : Type 0} (b : Bool) (x y : A) → b ≡ false → cond b x y ≡ y
pick_false b x y e = ap (λ c. cond c x y) e

-- ---- steps that may fail

pub same_ok : {A E : Type 0} (x y : A) → ◌≡◌ {A = Result A E} (Ok x) (Ok y) → x ≡ y
same_ok x y e = cc

pub err_same : {A E : Type 0} (a b : E) → ◌≡◌ {A = Result A E} (Err a) (Err b) → a ≡ b
err_same a b e = cc

pub bind_ok : {A B E : Type 0} (r : Result A E) (f : A → Result B E) (y : B) → (r >>= f) ≡ Ok y → (x : A) × (r ≡ Ok x) × (f x ≡ Ok y)
bind_ok (Ok x) f y e = (x, refl, e)
bind_ok (Err x) f y e = absurd (cc)

-- the part that has the fault
pub bind_err : {A B E : Type 0} (r : Result A E) (f : A → Result B E) (e : E) → (r >>= f) ≡ Err e → (r ≡ Err e) ⊎ ((x : A) × (r ≡ Ok x) × (f x ≡ Err e))
bind_err (Ok x) f e h = inr (x, refl, h)
bind_err (Err y) f e h = inl (cc)

pub map_err : {A B E : Type 0} (r : Result A E) (f : A → B) (e : E) → (r >>= λ x. Ok (f x)) ≡ Err e → r ≡ Err e
map_err (Ok x) f e h = absurd (cc)
map_err (Err y) f e h = cc

pub at_place_ok : {A : Type 0} (place : ℕ) (r : Result A Rule) (x : A) → at_place place r ≡ Ok x → r ≡ Ok x
at_place_ok place (Ok y) x e = cc
at_place_ok place (Err rule) x e = absurd (cc)

pub at_place_err : {A : Type 0} (place : ℕ) (r : Result A Rule) (f : Fault) → at_place place r ≡ Err f → (rule : Rule) × (r ≡ Err rule) × (fault rule place ≡ f)
at_place_err place (Ok x) f e = absurd (cc)
at_place_err place (Err rule) f e = (rule, refl, cc)

pub cond_ok : {A E : Type 0} (b : Bool) (x y : A) (rule : E) → cond b (Ok x) (Err rule) ≡ Ok y → (b ≡ true) × (x ≡ y)
cond_ok true x y rule e = (refl, cc)
cond_ok false x y rule e = absurd (cc)

pub unless_ok : {A E : Type 0} (b : Bool) (f : E) (r : Result A E) (x : A) → cond b (Err f) r ≡ Ok x → (b ≡ false) × (r ≡ Ok x)
unless_ok true f r x e = absurd (cc)
unless_ok false f r x e = (refl, e)

pub found_ok : {A E : Type 0} (o : Option A) (rule : E) (x : A) → ok_or o rule ≡ Ok x → o ≡ Some x
found_ok (Some y) rule x e = cc
found_ok None rule x e = absurd (cc)

pub found_err : {A E : Type 0} (o : Option A) (rule other : E) → ok_or o rule ≡ Err other → other ≡ rule
found_err (Some x) rule other e = absurd (cc)
found_err None rule other e = cc
