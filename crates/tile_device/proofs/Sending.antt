-- What a sink received, over several calls.
use Rattle.std.proofs.Common.{◌≡◌, ◌≢◌, ℕ, ◌+◌, ◌-◌, ◌<◌, List, [], ◌∷◌, ◌++◌, IsTrue, length, take, drop, get_or, sym, ap, subst, ◌∙◌, append_assoc, append-nil, take-append-drop, arith, refl, Some, None}
use Rattle.std.specs.Prelude.{Result, Ok, Err}
use Rattle.std.specs.declared.option.Option.{Option}
use Rattle.std.specs.List.{flat_map}
use Rattle.std.specs.Io.KnownBytes.{Keeps}
use Rattle.std.proofs.KnownBytes.{Appends-nil, Appends-trans, Appends-kept}
use Rattle.std.proofs.lemmas.Grind.{flat_map-append}
use Rattle.std.proofs.lemmas.List.{take_more}
use Rattle.tile_device.specs.Device.{trouble_of, interruptions_in, failures_after}
use Rattle.tile_device.specs.declared.device.Trouble.{Trouble}
use Rattle.tile_device.specs.declared.device.Trouble.TheVariants.{Interrupted, Failed}
use Rattle.tile_device.specs.Seen.{Seen, Output, written, Receives, Sends, Writes}
use Rattle.tile_device.proofs.Meeting.{meets_nothing, meets_then}

pub receives_nothing : (s : Seen) → Receives s s (written 0 [])
receives_nothing s = record { meets = meets_nothing s; bytes = λ told. Appends-nil s.bytes }

pub writes_nothing : (s : Seen) (left : ℕ) → Writes s s left left (written 0 [])
writes_nothing s left = record { receives = receives_nothing s; pays = record { spent = omega arith; last = λ e. absurd cc } }

-- a writing that went through, and then another
pub writes_more : (a b c : Seen) (n m k r : ℕ) (bytes : List ℕ) (output : Output) → Writes a b n m (written r bytes) → Writes b c m k output
    → Writes a c n k (record { bytes = bytes ++ output.bytes; retries = n - k; trouble = output.trouble })
writes_more a b c n m k r bytes output first second =
    let sum : n - k ≡ r + output.retries = omega (arith, first.pays.spent, second.pays.spent) in
    record {
      receives = record {
        meets = meets_then a b c r output.retries (n - k) output.trouble sum first.receives.meets second.receives.meets;
        bytes = λ told. Appends-trans a.bytes b.bytes c.bytes bytes output.bytes (first.receives.bytes (second.receives.meets.still_tells told)) (second.receives.bytes told);
      };
      pays = record { spent = omega (arith, first.pays.spent, second.pays.spent); last = second.pays.last };
    }

pub sends_nothing : (s : Seen) (left : ℕ) → Sends s s left left [] None
sends_nothing s left = let none : left - left ≡ 0 = omega arith in subst (λ (n : ℕ). Writes s s left left (written n [])) (sym none) (writes_nothing s left)

-- one thing after the other
pub sends_more : (a b c : Seen) (n m k : ℕ) (bytes more : List ℕ) (trouble : Option Trouble) → Sends a b n m bytes None → Sends b c m k more trouble → Sends a c n k (bytes ++ more) trouble
sends_more a b c n m k bytes more None first second = writes_more a b c n m k (n - m) bytes (written (m - k) more) first second
sends_more a b c n m k bytes more (Some trouble) first (prefix, (rest, split), second) = (
  bytes ++ prefix,
  (rest, ap (λ (t : List ℕ). bytes ++ t) split ∙ sym (append_assoc bytes prefix rest)),
  writes_more a b c n m k (n - m) bytes (record { bytes = prefix; retries = m - k; trouble = Some trouble }) first second,
)

-- what stops early stops in a longer whole too
pub stops_early : (a b : Seen) (n m : ℕ) (bytes more : List ℕ) (trouble : Trouble) → Sends a b n m bytes (Some trouble) → Sends a b n m (bytes ++ more) (Some trouble)
stops_early a b n m bytes more trouble (prefix, (rest, split), writes) = (
  prefix,
  (rest ++ more, ap (λ (t : List ℕ). t ++ more) split ∙ append_assoc prefix rest more),
  writes,
)

-- ---- a flush

-- it sends nothing, and costs nothing
flushed : (a b : Seen) (left : ℕ) (trouble : Option Trouble) → interruptions_in trouble ≡ 0 → b.interruptions ≡ a.interruptions → b.failures ≡ failures_after trouble a.failures
    → (IsTrue b.tells → IsTrue a.tells) → (IsTrue b.tells → Keeps a.bytes b.bytes) → Writes a b left left (record { bytes = []; retries = left - left; trouble = trouble })
flushed a b left trouble none same f still keeps = record {
  receives = record {
    meets = record { interruptions = omega (arith, none, same); failures = f; still_tells = still };
    bytes = λ told. Appends-kept a.bytes a.bytes b.bytes [] (Appends-nil a.bytes) (keeps told);
  };
  pays = record { spent = omega arith; last = λ e. omega (arith, none, ap interruptions_in e) };
}

-- what was sent is flushed, which is not interrupted
pub sends_flushed : {A : Type 0} (a b c : Seen) (n m : ℕ) (bytes : List ℕ) (r : Result A Trouble) → Sends a b n m bytes None
    → r ≢ Err Interrupted → c.interruptions ≡ b.interruptions → c.failures ≡ failures_after (trouble_of r) b.failures
    → (IsTrue c.tells → IsTrue b.tells) → (IsTrue c.tells → Keeps b.bytes c.bytes) → Sends a c n m bytes (trouble_of r)
sends_flushed a b c n m bytes (Ok done) sends h same f still keeps =
    subst (λ (t : List ℕ). Sends a c n m t None) (append-nil bytes) (sends_more a b c n m m bytes [] None sends (flushed b c m None refl same f still keeps))
sends_flushed a b c n m bytes (Err Interrupted) sends h same f still keeps = absurd (h refl)
sends_flushed a b c n m bytes (Err Failed) sends h same f still keeps =
    subst (λ (t : List ℕ). Sends a c n m t (Some Failed)) (append-nil bytes)
    (sends_more a b c n m m bytes [] (Some Failed) sends ([], ([], refl), flushed b c m (Some Failed) refl same f still keeps))

-- ---- pieces

-- the pieces up to this place, and the one there
pub pieces_to : {X : Type 0} (f : X → List ℕ) (xs : List X) (i : ℕ) (d : X) → i < length xs
    → flat_map f (take (i + 1) xs) ≡ flat_map f (take i xs) ++ f (get_or xs i d)
pieces_to {X} f xs i d lt =
    ap (flat_map f) (take_more xs i d lt) ∙ flat_map-append f (take i xs) (get_or xs i d ∷ [])
    ∙ ap (λ (t : List ℕ). flat_map f (take i xs) ++ t) (append-nil (f (get_or xs i d)))

-- the piece at this place, between those before it and those after it
pub pieces_at : {X : Type 0} (f : X → List ℕ) (xs : List X) (i : ℕ) (d : X) → i < length xs
    → flat_map f xs ≡ (flat_map f (take i xs) ++ f (get_or xs i d)) ++ flat_map f (drop (i + 1) xs)
pieces_at {X} f xs i d lt =
    ap (flat_map f) (sym (take-append-drop (i + 1) xs)) ∙ flat_map-append f (take (i + 1) xs) (drop (i + 1) xs)
    ∙ ap (λ (t : List ℕ). t ++ flat_map f (drop (i + 1) xs)) (pieces_to f xs i d lt)

-- one more piece was sent
pub pieces_more : {X : Type 0} (a b c : Seen) (n m k : ℕ) (f : X → List ℕ) (xs : List X) (i : ℕ) (d : X) → i < length xs
    → Sends a b n m (flat_map f (take i xs)) None → Sends b c m k (f (get_or xs i d)) None → Sends a c n k (flat_map f (take (i + 1) xs)) None
pieces_more a b c n m k f xs i d lt before sends =
    subst (λ (t : List ℕ). Sends a c n k t None) (sym (pieces_to f xs i d lt)) (sends_more a b c n m k (flat_map f (take i xs)) (f (get_or xs i d)) None before sends)

-- a piece was cut short
pub pieces_stop : {X : Type 0} (a b c : Seen) (n m k : ℕ) (f : X → List ℕ) (xs : List X) (i : ℕ) (d : X) (trouble : Trouble) → i < length xs
    → Sends a b n m (flat_map f (take i xs)) None → Sends b c m k (f (get_or xs i d)) (Some trouble) → Sends a c n k (flat_map f xs) (Some trouble)
pieces_stop a b c n m k f xs i d trouble lt before sends =
    subst (λ (t : List ℕ). Sends a c n k t (Some trouble)) (sym (pieces_at f xs i d lt))
    (stops_early a c n k (flat_map f (take i xs) ++ f (get_or xs i d)) (flat_map f (drop (i + 1) xs)) trouble
    (sends_more a b c n m k (flat_map f (take i xs)) (f (get_or xs i d)) (Some trouble) before sends))
