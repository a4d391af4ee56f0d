-- Numerals of at most ten digits.
use Rattle.std.proofs.Common.{ℕ, ◌+◌, ◌*◌, ◌^◌, ◌<◌, ◌≤◌, arith, add-one, lit<, lit≤}
use Rattle.std.proofs.Math.Nat.{pow-suc, pow-le-pow_right, mul-le-mul_left, one-le-pow}

-- one digit more
pub more_fits : (m base d k : ℕ) → base ≤ 16 → d ≤ 36 → m < 64 ^ k → m * base + d < 64 ^ (k + 1)
more_fits m base d k small digit fits =
    let p : 1 ≤ 64 ^ k = one-le-pow k 64 (lit< tt) in
    let q : m * base ≤ m * 16 = mul-le-mul_left m small in
    rw (add-one, pow-suc) (omega arith)

-- ten digits fit a word of 64 bits
pub ten_fit : (m k : ℕ) → k ≤ 10 → m < 64 ^ k → m < 2 ^ 64
ten_fit m k few fits =
    let p : 64 ^ k ≤ 64 ^ 10 = pow-le-pow_right (lit< tt) few in
    let q : 64 ^ 10 ≤ 2 ^ 64 = lit≤ tt in
    omega arith
