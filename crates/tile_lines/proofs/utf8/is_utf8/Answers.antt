use Rattle.std.proofs.Common.{◌≡◌, ℕ, Bool, true, false, List, Result, Ok, Err, refl, sym, ◌∙◌, Bor}
use Rattle.std.specs.Prelude.{MatchResult, is_ok}
use Rattle.std.specs.Str.{IsUtf8, is_utf8}
use Rattle.std.proofs.lemmas.Str.{IsUtf8-from_is_utf8, is_utf8-from_IsUtf8}
use Rattle.tile_lines.proofs.utf8.is_utf8.Goals as goal

not_true : (b : Bool) → ¬ (b ≡ true) → b ≡ false
not_true true h = absurd (h refl)
not_true false h = refl

tests : {T E : Type 0} (bytes : List ℕ) (r : Result T E) (P : T → Type 0) → ((x : T) → P x → IsUtf8 bytes) → MatchResult r P (λ _. ¬ (IsUtf8 bytes)) → is_ok r ≡ is_utf8 bytes
tests bytes (Ok x) P text h = sym (is_utf8-from_IsUtf8 bytes (text x h))
tests bytes (Err e) P text h = sym (not_true (is_utf8 bytes) (λ t. h (IsUtf8-from_is_utf8 bytes t)))

pub returns : goal.returns
returns c =
    c.is_ok.ensures.value ∙ tests c.args.bytes.now c.from_utf8.result (λ (s : Bor (List ℕ)). (s.now ≡ c.args.bytes.now) × IsUtf8 c.args.bytes.now) (λ s h. h.1) c.from_utf8.ensures
