-- How signed numbers are written as unsigned ones in ZigZag, and read from them. `negsuc n` is -(n + 1).
use Rattle.std.specs.Prelude.{ℕ, suc, ◌-◌, ◌*◌, ◌/◌, ◌%◌, ◌==◌, ℤ, pos, negsuc, if◌then◌else◌}

-- a signed number in ZigZag: 2n for a number n of at least 0, and 2|n| - 1 for one below 0 (guide, Signed Integers)
abbrev pub zigzag : ℤ → ℕ
zigzag (pos n) = 2 * n
zigzag (negsuc n) = 2 * suc n - 1

-- the signed number that an unsigned one stands for in ZigZag: 0, -1, 1, -2 and so on (guide, Signed Integers)
abbrev pub unzigzag : ℕ → ℤ
unzigzag n = if n % 2 == 0 then pos (n / 2) else negsuc (n / 2)
