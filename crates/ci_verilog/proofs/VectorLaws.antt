-- Vectors one behind the other, and shifts past a width.
use Rattle.std.specs.Prelude.{◌≡◌, ℕ, zero, suc, ◌+◌, ◌-◌, ◌*◌, ◌/◌, ◌%◌, ◌^◌, ◌<◌, ◌≤◌, replicate}
use Rattle.std.proofs.Common.{sym, ap, ◌∙◌, subst, arith, zero-add}
use Rattle.std.proofs.Math.Nat.{div-eq_of_lt, pow-le-pow_right, add-mul-mod_self_right, mul_assoc, add-mul, zero-mod, le_refl}
use Rattle.std.proofs.lemmas.Nat.{pow-add, mul-add-lt, shl_whole, row_fits}
use Rattle.ci_verilog.specs.declared.vectors.Vector.{Vector}
use Rattle.ci_verilog.specs.Values.{of_width, above, joined}
use Rattle.ci_verilog.specs.private.Held.{InRange}

same_vector : (u v : Vector) → u.width ≡ v.width → u.value ≡ v.value → u ≡ v
same_vector u v e f = λ i. record { width = e i; value = f i }

pub above_assoc : (a b c : Vector) → above a (above b c) ≡ above (above a b) c
above_assoc a b c =
    same_vector (above a (above b c)) (above (above a b) c) (omega arith)
    (let e : a.value * 2 ^ (b.width + c.width) ≡ a.value * 2 ^ b.width * 2 ^ c.width =
    ap (λ n. a.value * n) (pow-add 2 b.width c.width) ∙ sym (mul_assoc a.value (2 ^ b.width) (2 ^ c.width)) in
    let f : (a.value * 2 ^ b.width + b.value) * 2 ^ c.width ≡ a.value * 2 ^ b.width * 2 ^ c.width + b.value * 2 ^ c.width =
    add-mul (a.value * 2 ^ b.width) b.value (2 ^ c.width) in
    omega (arith, e, f))

pub above_nothing : (v : Vector) → above v (of_width 0 0) ≡ v
above_nothing v = same_vector (above v (of_width 0 0)) v (omega arith) (omega arith)

pub nothing_above : (v : Vector) → above (of_width 0 0) v ≡ v
nothing_above v = same_vector (above (of_width 0 0) v) v (omega arith) (omega arith)

pub above_in_range : (h l : Vector) → InRange h → InRange l → InRange (above h l)
above_in_range h l hr lr =
    let e : h.value * 2 ^ l.width + l.value < 2 ^ l.width * 2 ^ h.width = mul-add-lt h.value (2 ^ l.width) l.value (2 ^ h.width) hr lr in
    let f : 2 ^ (h.width + l.width) ≡ 2 ^ h.width * 2 ^ l.width = pow-add 2 h.width l.width in
    let g : 2 ^ h.width * 2 ^ l.width ≡ 2 ^ l.width * 2 ^ h.width = grind arith in
    omega (arith, e, f, g)

pub in_64 : (n w : ℕ) → n < 2 ^ w → w ≤ 64 → n < 2 ^ 64
in_64 n w below narrow = let e : 2 ^ w ≤ 2 ^ 64 = pow-le-pow_right {n = 2} (omega arith) narrow in omega (arith, e)

-- the value of two vectors fits the word that they are made in, and the word that they are cast to
pub above_fits : (h l : Vector) (n m : ℕ) → n ≡ h.value → m ≡ l.value → h.width + l.width ≤ 64 → InRange h → InRange l
    → n * 2 ^ l.width % 2 ^ 128 + m < 2 ^ 64
above_fits h l n m e f narrow hr lr =
    let whole : n * 2 ^ l.width % 2 ^ 128 ≡ n * 2 ^ l.width =
    shl_whole n 64 l.width 128 (subst (λ k. k < 2 ^ 64) (sym e) (in_64 h.value h.width hr (omega arith))) (omega arith) in
    let bound : h.value * 2 ^ l.width + l.value < 2 ^ 64 = in_64 (above h l).value (h.width + l.width) (above_in_range h l hr lr) narrow in
    let same : n * 2 ^ l.width ≡ h.value * 2 ^ l.width = ap (λ k. k * 2 ^ l.width) e in
    omega (arith, whole, bound, same)

-- ---- shifts

pub shifted_past_right : (n w k : ℕ) → n < 2 ^ w → w ≤ k → 0 ≡ n / 2 ^ k
shifted_past_right n w k below past =
    sym (div-eq_of_lt (let e : 2 ^ w ≤ 2 ^ k = pow-le-pow_right {n = 2} (omega arith) past in omega (arith, e)))

pub shifted_past_left : (n w k : ℕ) → w ≤ k → 0 ≡ n * 2 ^ k % 2 ^ w
shifted_past_left n w k past =
    let e : 2 ^ k ≡ 2 ^ (k - w) * 2 ^ w = ap (λ m. 2 ^ m) (let f : k ≡ (k - w) + w = omega arith in f) ∙ pow-add 2 (k - w) w in
    let f : n * 2 ^ k ≡ 0 + n * 2 ^ (k - w) * 2 ^ w =
    ap (λ m. n * m) e ∙ sym (mul_assoc n (2 ^ (k - w)) (2 ^ w)) ∙ sym (zero-add (n * 2 ^ (k - w) * 2 ^ w)) in
    sym (ap (λ m. m % 2 ^ w) f ∙ add-mul-mod_self_right 0 (n * 2 ^ (k - w)) (2 ^ w) ∙ zero-mod (2 ^ w))

-- ---- copies

pub copies_are_wide : (k : ℕ) (v : Vector) → (joined (replicate k v)).width ≡ k * v.width
copies_are_wide zero v = omega arith
copies_are_wide (suc k) v = let e = copies_are_wide k v in omega (arith, e, let m : suc k * v.width ≡ v.width + k * v.width = grind arith in m)

pub copies_in_range : (k : ℕ) (v : Vector) → InRange v → InRange (joined (replicate k v))
copies_in_range zero v r = omega arith
copies_in_range (suc k) v r = above_in_range v (joined (replicate k v)) r (copies_in_range k v r)

-- one copy more at the end is one more at the front
one_more_copy : (k : ℕ) (v : Vector) → above (joined (replicate k v)) v ≡ joined (replicate (suc k) v)
one_more_copy zero v = nothing_above v ∙ sym (above_nothing v)
one_more_copy (suc k) v = sym (above_assoc v (joined (replicate k v)) v) ∙ ap (above v) (one_more_copy k v)

pub next_copy : (k : ℕ) (v copies : Vector) → copies ≡ joined (replicate k v) → above copies v ≡ joined (replicate (k + 1) v)
next_copy k v copies e =
    ap (λ c. above c v) e ∙ one_more_copy k v ∙ ap (λ n. joined (replicate n v)) (let f : suc k ≡ k + 1 = omega arith in f)

pub copies_fit : (k n : ℕ) (v copies : Vector) → copies ≡ joined (replicate k v) → k < n → n * v.width ≤ 64 → copies.width + v.width ≤ 64
copies_fit k n v copies e below narrow =
    let f : copies.width ≡ k * v.width = ap (λ c. c.width) e ∙ copies_are_wide k v in
    let g : k * v.width + v.width ≤ n * v.width = row_fits k v.width n v.width below (le_refl v.width) in
    omega (arith, f, g)

pub copies_stay_in_range : (k : ℕ) (v copies : Vector) → copies ≡ joined (replicate k v) → InRange v → InRange copies
copies_stay_in_range k v copies e r = subst (λ c. InRange c) (sym e) (copies_in_range k v r)
