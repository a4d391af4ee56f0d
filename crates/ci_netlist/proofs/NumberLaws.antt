-- Laws of numbers, over plain variables.
use Rattle.std.specs.Prelude.{◌≡◌, ℕ, suc, ◌+◌, ◌*◌, ◌/◌, ◌%◌, ◌^◌, ◌<◌, ◌≤◌}
use Rattle.std.proofs.Common.{sym, ap, ◌∙◌, arith}
use Rattle.std.proofs.Math.Nat.{pow-succ', mul_assoc, mul-add, mul_comm, mod-add-div, add-mul-mod_self_left, add-mod}
use Rattle.std.proofs.lemmas.Nat.{mod-mul-add, mul-mod_second, mul-le}

pub twice_power : (n x : ℕ) → 2 ^ suc n * x ≡ 2 * (2 ^ n * x)
twice_power n x = ap (λ p. p * x) (pow-succ' 2 n) ∙ mul_assoc 2 (2 ^ n) x

pub power_more : (n x : ℕ) → 2 ^ (n + 1) * x ≡ 2 * (2 ^ n * x)
power_more n x = ap (λ m. 2 ^ m * x) (let e : n + 1 ≡ suc n = omega arith in e) ∙ twice_power n x

-- a step of the sum of two rows of digits: p is the place's power, l and r its digits, c the carry into it, d out of it
pub carried_on : (p b left right first l r c s d : ℕ) → s + 2 * d ≡ l + r + c → b + p * c ≡ left + right + first
    → (b + p * s) + 2 * (p * d) ≡ (left + p * l) + (right + p * r) + first
carried_on p b left right first l r c s d full before =
    let e : p * (s + 2 * d) ≡ p * (l + r + c) = ap (λ n. p * n) full in
    let f : p * (s + 2 * d) ≡ p * s + p * (2 * d) = mul-add p s (2 * d) in
    let g : p * (l + r + c) ≡ p * (l + r) + p * c = mul-add p (l + r) c in
    let h : p * (l + r) ≡ p * l + p * r = mul-add p l r in
    let i : p * (2 * d) ≡ 2 * (p * d) = sym (mul_assoc p 2 d) ∙ ap (λ n. n * d) (mul_comm p 2) ∙ mul_assoc 2 p d in
    omega (arith, e, f, g, h, i, before)

-- the low digits of a sum with its carry
pub low_digits : (p s c n : ℕ) → s < p → s + p * c ≡ n → s ≡ n % p
low_digits p s c n below is =
    sym (mod-mul-add c p s below) ∙ ap (λ m. m % p) (let e : c * p ≡ p * c = mul_comm c p in omega (arith, e, is))

-- twice a remainder, modulo twice
pub twice_mod : (x m : ℕ) → (2 * (x % m)) % (2 * m) ≡ (2 * x) % (2 * m)
twice_mod x m =
    let e : 2 * x ≡ 2 * (x % m) + 2 * m * (x / m) =
    ap (λ n. 2 * n) (sym (mod-add-div x m)) ∙ mul-add 2 (x % m) (m * (x / m))
    ∙ ap (λ n. 2 * (x % m) + n) (sym (mul_assoc 2 m (x / m))) in
    sym (ap (λ n. n % (2 * m)) e ∙ add-mul-mod_self_left (2 * (x % m)) (2 * m) (x / m))

-- a row more of a product, from the highest digit of the right factor down: b is the digit, rest the higher ones
pub row_more : (k left b rest : ℕ) → (b * (left % 2 ^ (k + 1)) + 2 * (left * rest % 2 ^ k)) % 2 ^ (k + 1)
    ≡ left * (b + 2 * rest) % 2 ^ (k + 1)
row_more k left b rest =
    let m = 2 ^ (k + 1) in
    let double : m ≡ 2 * 2 ^ k = ap (λ n. 2 ^ n) (let e : k + 1 ≡ suc k = omega arith in e) ∙ pow-succ' 2 k in
    let high : (2 * (left * rest % 2 ^ k)) % m ≡ (2 * (left * rest)) % m =
    ap (λ n. (2 * (left * rest % 2 ^ k)) % n) double ∙ twice_mod (left * rest) (2 ^ k)
    ∙ ap (λ n. (2 * (left * rest)) % n) (sym double) in
    let low : (b * (left % m)) % m ≡ (b * left) % m = mul-mod_second b left m in
    let whole : b * left + 2 * (left * rest) ≡ left * (b + 2 * rest) =
    (λ t. mul_comm b left t
    + (sym (mul_assoc 2 left rest) ∙ ap (λ n. n * rest) (mul_comm 2 left) ∙ mul_assoc left 2 rest) t)
    ∙ sym (mul-add left b (2 * rest)) in
    add-mod (b * (left % m)) (2 * (left * rest % 2 ^ k)) m
    ∙ (λ t. (low t + high t) % m)
    ∙ sym (add-mod (b * left) (2 * (left * rest)) m)
    ∙ ap (λ n. n % m) whole

pub rows_more : (k : ℕ) → 3 * k * (k + 1) + (k + 1) + 5 * (k + 1) ≡ 3 * (k + 1) * (k + 1 + 1)
rows_more k = grind arith

pub rows_fit : (k n : ℕ) → k < n → 3 * k * (k + 1) + (k + 1) + 5 * (k + 1) ≤ 3 * n * (n + 1)
rows_fit k n below =
    let e : 3 * (k + 1) * (k + 1 + 1) ≤ 3 * n * (n + 1) =
    mul-le (3 * (k + 1)) (k + 1 + 1) (3 * n) (n + 1) (omega arith) (omega arith) in
    omega (arith, e, rows_more k)
