-- What the counts of a device say of its calls.
use Rattle.std.proofs.Common.{◌≡◌, ℕ, ◌+◌, arith}
use Rattle.tile_device.specs.Device.{counted}

pub counted-zero : (n : ℕ) → counted 0 n ≡ n
counted-zero n = omega arith

-- one count after the other
pub counted-more : (n m both more x y z : ℕ) → both ≡ n + m → y ≡ counted (n + 0) x → z ≡ counted (m + more) y → z ≡ counted (both + more) x
counted-more n m both more x y z sum first second = omega arith

pub counted-same : (more x y z : ℕ) → y ≡ counted 0 x → z ≡ counted more y → z ≡ counted more x
counted-same more x y z first second = omega arith
