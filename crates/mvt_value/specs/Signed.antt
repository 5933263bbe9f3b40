-- How signed numbers are written as unsigned ones. `negsuc n` is -(n + 1).
use Rattle.std.specs.Prelude.{ℕ, suc, ◌-◌, ◌^◌, nat_lt, ℤ, pos, negsuc, if◌then◌else◌}

-- `negsuc n` is -(n + 1)

-- a signed number in two's complement of 64 bits: one below 0 as the number that is 2 ^ 64 more
-- (guide, Signed Integers)
abbrev pub twos_complement : ℤ → ℕ
twos_complement (pos n) = n
twos_complement (negsuc n) = 2 ^ 64 - suc n

-- the signed number that an unsigned one of 64 bits stands for in two's complement: from 2 ^ 63 up, the one that is 2 ^
-- 64 less (guide, Signed Integers)
abbrev pub signed : ℕ → ℤ
signed n = if nat_lt n (2 ^ 63) then pos n else negsuc (2 ^ 64 - suc n)
