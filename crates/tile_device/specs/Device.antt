-- What contracts see of devices: how they count their troubles.
use Rattle.std.specs.Prelude.{ℕ, ◌+◌, ◌-◌, ◌^◌, min, max, Bool, ◌&&◌, ◌==◌, Result, Ok, Err, Some, None}
use Rattle.std.specs.declared.option.Option.{Option}
use Rattle.tile_device.specs.declared.device.Trouble.{Trouble}
use Rattle.tile_device.specs.declared.device.Trouble.TheVariants.{Interrupted, Failed}

-- the trouble that a call returned, or none
abbrev pub trouble_of : {A : Type 0} → Result A Trouble → Option Trouble
trouble_of (Ok value) = None
trouble_of (Err trouble) = Some trouble

-- how many interruptions a trouble counts as: 0 or 1
abbrev pub interruptions_in : Option Trouble → ℕ
interruptions_in None = 0
interruptions_in (Some Interrupted) = 1
interruptions_in (Some Failed) = 0

-- how many failures a trouble counts as: 0 or 1
abbrev pub failures_in : Option Trouble → ℕ
failures_in None = 0
failures_in (Some Interrupted) = 0
failures_in (Some Failed) = 1

-- the count `n` raised by `more`, but to no more than 2^64 - 1; it is never lowered
abbrev pub counted : ℕ → ℕ → ℕ
counted more n = max n (min (n + more) (2 ^ 64 - 1))

-- the count of interruptions after a call with this trouble, or none
abbrev pub interruptions_after : Option Trouble → ℕ → ℕ
interruptions_after trouble n = counted (interruptions_in trouble) n

-- the count of failures after a call with this trouble, or none
abbrev pub failures_after : Option Trouble → ℕ → ℕ
failures_after trouble n = counted (failures_in trouble) n

-- a reader or a writer, and how often it was interrupted and failed
pub record Counted (D : Type 0) : Type 0 where
  pub device : D
  pub interruptions : ℕ
  pub failures : ℕ

-- the device was not interrupted and did not fail
abbrev pub is_untroubled : {D : Type 0} → Counted D → Bool
is_untroubled d = (d.interruptions == 0) && (d.failures == 0)
