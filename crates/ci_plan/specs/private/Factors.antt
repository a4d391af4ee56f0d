-- For private contracts: copies of a vector as a product.
use Rattle.std.specs.Prelude.{ℕ, zero, suc, ◌+◌, ◌*◌, ◌^◌}

-- 1 at the lowest bit of each copy
abbrev pub factor : ℕ → ℕ → ℕ
factor zero width = 0
factor (suc count) width = 2 ^ (count * width) + factor count width
