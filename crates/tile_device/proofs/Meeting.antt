-- What trouble was met, over several calls.
use Rattle.std.proofs.Common.{◌≡◌, ℕ, zero, suc, ◌+◌, ◌<◌, true, false, IsTrue, sym, ap, ◌∙◌, arith, Some, None}
use Rattle.std.specs.declared.option.Option.{Option}
use Rattle.tile_device.specs.Device.{interruptions_in, failures_in, interruptions_after, failures_after}
use Rattle.tile_device.specs.declared.device.Trouble.{Trouble}
use Rattle.tile_device.specs.declared.device.Trouble.TheVariants.{Interrupted}
use Rattle.tile_device.specs.Seen.{Seen, Meets}
use Rattle.tile_device.proofs.Troubles.{counted-zero, counted-more, counted-same}

pub meets_nothing : (s : Seen) → Meets s s 0 None
meets_nothing s = record { interruptions = sym (counted-zero s.interruptions); failures = sym (counted-zero s.failures); still_tells = λ h. h }

-- what one call met
pub meets_call : (a b : Seen) (retries : ℕ) (trouble : Option Trouble) → retries ≡ 0
    → b.interruptions ≡ interruptions_after trouble a.interruptions → b.failures ≡ failures_after trouble a.failures
    → (IsTrue b.tells → IsTrue a.tells) → Meets a b retries trouble
meets_call a b retries trouble none i f still = record { interruptions = omega (arith, none, i); failures = f; still_tells = still }

-- a call was interrupted, and is made again
pub meets_interrupted : (a b : Seen) (trouble : Trouble) → trouble ≡ Interrupted
    → b.interruptions ≡ interruptions_after (Some trouble) a.interruptions → b.failures ≡ failures_after (Some trouble) a.failures
    → (IsTrue b.tells → IsTrue a.tells) → Meets a b 1 None
meets_interrupted a b trouble is i f still = record {
  interruptions = i ∙ ap (λ (t : Trouble). interruptions_after (Some t) a.interruptions) is;
  failures = f ∙ ap (λ (t : Trouble). failures_after (Some t) a.failures) is;
  still_tells = still;
}

-- an interruption that takes no retry finds none
pub none_left : (trouble : Trouble) (m k : ℕ) → k ≡ m → ((trouble ≡ Interrupted) × (0 < m) → false ≡ true) → Some trouble ≡ Some Interrupted → k ≡ 0
none_left trouble zero k same ends e = same
none_left trouble (suc m) k same ends e =
    let is : trouble ≡ Interrupted = cc in
    let never = ends (is, omega arith) in
    absurd cc

-- calls that went through, and then some that may have met trouble
pub meets_then : (a b c : Seen) (n m retries : ℕ) (trouble : Option Trouble) → retries ≡ n + m → Meets a b n None → Meets b c m trouble → Meets a c retries trouble
meets_then a b c n m retries trouble sum first second = record {
  interruptions = counted-more n m retries (interruptions_in trouble) a.interruptions b.interruptions c.interruptions sum first.interruptions second.interruptions;
  failures = counted-same (failures_in trouble) a.failures b.failures c.failures first.failures second.failures;
  still_tells = λ h. first.still_tells (second.still_tells h);
}
