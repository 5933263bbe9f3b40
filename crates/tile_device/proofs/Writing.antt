-- What a loop that writes piece by piece keeps.
use Rattle.std.proofs.Common.{◌≡◌, ℕ, ◌+◌, ◌-◌, ◌<◌, List, [], ◌++◌, IsTrue, length, take, drop, sym, ap, subst, ◌∙◌, arith, append_assoc, append-nil, length-append, take-append-drop, refl, true, false, Some, None}
use Rattle.std.proofs.lemmas.List.{take_at, nil_from_length}
use Rattle.std.specs.Prelude.{Result, Ok, Err, OnErr}
use Rattle.std.specs.Io.KnownBytes.{Appends, Keeps}
use Rattle.std.proofs.KnownBytes.{Appends-nil, Appends-kept}
use Rattle.tile_device.specs.Device.{trouble_of, interruptions_after, failures_after}
use Rattle.tile_device.specs.declared.device.Trouble.{Trouble}
use Rattle.tile_device.specs.declared.device.Trouble.TheVariants.{Interrupted}
use Rattle.tile_device.specs.Seen.{Seen, Meets, Writes, Sends, written}
use Rattle.tile_device.proofs.Meeting.{meets_call, meets_interrupted, none_left}
use Rattle.tile_device.proofs.Sending.{sends_nothing, writes_more}

-- a sink took `done`, a prefix of `all`, and the budget paid for it
pub record LeavesRest (old new : Seen) (before after : ℕ) (all rest : List ℕ) : Type 0 where
  pub done : List ℕ
  pub split : all ≡ done ++ rest
  pub writes : Writes old new before after (written (before - after) done)

-- what is kept grows by nothing
kept_none : (b c : Seen) → (IsTrue c.tells → Keeps b.bytes c.bytes) → IsTrue c.tells → Appends b.bytes c.bytes []
kept_none b c kept told = Appends-kept b.bytes b.bytes c.bytes [] (Appends-nil b.bytes) (kept told)

with_none : (done all rest : List ℕ) → all ≡ done ++ rest → all ≡ (done ++ []) ++ rest
with_none done all rest split = split ∙ ap (λ (t : List ℕ). t ++ rest) (sym (append-nil done))

-- it took nothing at first
pub leaves_all : (s : Seen) (n : ℕ) (all : List ℕ) → LeavesRest s s n n all all
leaves_all s n all = record { done = []; split = refl; writes = sends_nothing s n }

-- it took all where no rest is left
pub leaves_none : (a b : Seen) (n m : ℕ) (all rest : List ℕ) → LeavesRest a b n m all rest → length rest ≡ 0 → Sends a b n m all None
leaves_none a b n m all rest leaves none =
    let whole : all ≡ leaves.done = leaves.split ∙ ap (λ (t : List ℕ). leaves.done ++ t) (nil_from_length rest none) ∙ append-nil leaves.done in
    subst (λ (t : List ℕ). Writes a b n m (written (n - m) t)) (sym whole) leaves.writes

-- and then a prefix of the rest
pub leaves_less : (a b c : Seen) (n m : ℕ) (all rest less : List ℕ) (count : ℕ) → LeavesRest a b n m all rest
    → Meets b c 0 None → (IsTrue c.tells → Appends b.bytes c.bytes (take count rest)) → less ≡ drop count rest
    → LeavesRest a c n m all less
leaves_less a b c n m all rest less count leaves meets appends e = record {
  done = leaves.done ++ take count rest;
  split = leaves.split ∙ ap (λ (t : List ℕ). leaves.done ++ t) (sym (take-append-drop count rest) ∙ ap (λ (t : List ℕ). take count rest ++ t) (sym e))
      ∙ sym (append_assoc leaves.done (take count rest) less);
  writes = writes_more a b c n m m (n - m) leaves.done (written 0 (take count rest)) leaves.writes
      (record { receives = record { meets = meets; bytes = appends }; pays = record { spent = omega arith; last = λ h. absurd cc } });
}

-- an interrupted write is made again
pub leaves_again : (a b c : Seen) (n m k : ℕ) (all rest : List ℕ) (trouble : Trouble) → LeavesRest a b n m all rest → trouble ≡ Interrupted → m ≡ k + 1
    → c.interruptions ≡ interruptions_after (Some trouble) b.interruptions → c.failures ≡ failures_after (Some trouble) b.failures
    → (IsTrue c.tells → IsTrue b.tells) → (IsTrue c.tells → Keeps b.bytes c.bytes) → LeavesRest a c n k all rest
leaves_again a b c n m k all rest trouble leaves is paid i f still kept =
    let again : Writes b c m k (written 1 []) = record {
      receives = record { meets = meets_interrupted b c trouble is i f still; bytes = kept_none b c kept };
      pays = record { spent = sym paid; last = λ e. absurd cc };
    } in
    record { done = leaves.done ++ []; split = with_none leaves.done all rest leaves.split; writes = writes_more a b c n m k (n - m) leaves.done (written 1 []) leaves.writes again }

-- a trouble ends the writing
pub leaves_stopped : {A : Type 0} (a b c : Seen) (n m k : ℕ) (all rest : List ℕ) (trouble : Trouble) (r : Result A Trouble) → LeavesRest a b n m all rest → r ≡ Err trouble → k ≡ m
    → ((trouble ≡ Interrupted) × (0 < m) → false ≡ true) → c.interruptions ≡ interruptions_after (Some trouble) b.interruptions → c.failures ≡ failures_after (Some trouble) b.failures
    → (IsTrue c.tells → IsTrue b.tells) → (IsTrue c.tells → Keeps b.bytes c.bytes) → Sends a c n k all (trouble_of r)
leaves_stopped {A} a b c n m k all rest trouble r leaves is same ends i f still kept =
    let stop : Writes b c m k (record { bytes = []; retries = 0; trouble = Some trouble }) = record {
      receives = record { meets = meets_call b c 0 (Some trouble) refl i f still; bytes = kept_none b c kept };
      pays = record { spent = omega (arith, same); last = none_left trouble m k same ends };
    } in
    subst (λ (r : Result A Trouble). Sends a c n k all (trouble_of r)) (sym is)
    (leaves.done ++ [], (rest, with_none leaves.done all rest leaves.split), writes_more a b c n m k (n - m) leaves.done (record { bytes = []; retries = 0; trouble = Some trouble }) leaves.writes stop)

-- a write met trouble, with something left
pub wrote_prefix : (a b c : Seen) (n m : ℕ) (all rest : List ℕ) → LeavesRest a b n m all rest → 0 < length rest
    → (IsTrue c.tells → IsTrue b.tells) → (IsTrue c.tells → Keeps b.bytes c.bytes)
    → IsTrue c.tells → (n : ℕ) × (n < length all) × Appends a.bytes c.bytes (take n all)
wrote_prefix a b c n m all rest leaves some still kept told =
    let prefix : take (length leaves.done) all ≡ leaves.done = ap (take (length leaves.done)) leaves.split ∙ take_at leaves.done rest (length leaves.done) refl in (
      length leaves.done,
      omega (arith, ap length leaves.split, length-append leaves.done rest),
      subst (Appends a.bytes c.bytes) (sym prefix) (Appends-kept a.bytes b.bytes c.bytes leaves.done (leaves.writes.receives.bytes (still told)) (kept told)),
    )

pub on_err : {A E P : Type 0} (r : Result A E) → P → OnErr r P
on_err (Ok a) p = tt
on_err (Err e) p = p
