-- A line that sets an attribute is refused for the first of its arguments that is refused.
use Rattle.std.proofs.Common.{◌≡◌, ℕ, ◌<◌, ◌≤◌, List, [], ◌∷◌, length, map, get_or, Ok, refl, inl, inr, arith}
use Rattle.mvt_meaning.specs.Command.{LayerChoice, FeatureChoice}
use Rattle.tile_arguments.specs.Arguments.{text_of, value_of}
use Rattle.tile_lines.specs.Answers.{Refuses}
use Rattle.tile_lines.specs.WordStands.{word_of}
use Rattle.tile_lines.specs.declared.parse_error.ParseError.{ParseError}
use Rattle.tile_lines.specs.declared.words.Word.{Word}
use Rattle.tile_script.specs.Commands.{chosen_of, set_of}

pub place_refused : (words : List Word) (first next : Word) (refusal : ParseError) → 5 ≤ length words → length words < 6 → Refuses refusal (chosen_of (word_of (get_or words 0 first)) (word_of (get_or words 1 next))) → Refuses refusal (set_of (map word_of words))
unfolding set_of
place_refused [] first next refusal low high refuses = absurd (omega arith)
place_refused (layer ∷ []) first next refusal low high refuses = absurd (omega arith)
place_refused (layer ∷ feature ∷ []) first next refusal low high refuses = absurd (omega arith)
place_refused (layer ∷ feature ∷ key ∷ []) first next refusal low high refuses = absurd (omega arith)
place_refused (layer ∷ feature ∷ key ∷ name ∷ []) first next refusal low high refuses = absurd (omega arith)
place_refused (layer ∷ feature ∷ key ∷ name ∷ value ∷ []) first next refusal low high refuses = elim refuses [ inl memory ↦ inl memory | inr e ↦ inr (rw e refl) ]
place_refused (layer ∷ feature ∷ key ∷ name ∷ value ∷ more ∷ others) first next refusal low high refuses = absurd (omega arith)

pub key_refused : (words : List Word) (first next third : Word) (chosen : LayerChoice × FeatureChoice) (refusal : ParseError) → 5 ≤ length words → length words < 6 → chosen_of (word_of (get_or words 0 first)) (word_of (get_or words 1 next)) ≡ Ok chosen → Refuses refusal (text_of (word_of (get_or words 2 third))) → Refuses refusal (set_of (map word_of words))
unfolding set_of
key_refused [] first next third chosen refusal low high is refuses = absurd (omega arith)
key_refused (layer ∷ []) first next third chosen refusal low high is refuses = absurd (omega arith)
key_refused (layer ∷ feature ∷ []) first next third chosen refusal low high is refuses = absurd (omega arith)
key_refused (layer ∷ feature ∷ key ∷ []) first next third chosen refusal low high is refuses = absurd (omega arith)
key_refused (layer ∷ feature ∷ key ∷ name ∷ []) first next third chosen refusal low high is refuses = absurd (omega arith)
key_refused (layer ∷ feature ∷ key ∷ name ∷ value ∷ []) first next third chosen refusal low high is refuses = elim refuses [ inl memory ↦ inl memory | inr e ↦ inr (rw (is, e) refl) ]
key_refused (layer ∷ feature ∷ key ∷ name ∷ value ∷ more ∷ others) first next third chosen refusal low high is refuses = absurd (omega arith)

pub value_refused : (words : List Word) (first next third fourth fifth : Word) (chosen : LayerChoice × FeatureChoice) (text : List ℕ) (refusal : ParseError) → 5 ≤ length words → length words < 6 → chosen_of (word_of (get_or words 0 first)) (word_of (get_or words 1 next)) ≡ Ok chosen → text_of (word_of (get_or words 2 third)) ≡ Ok text → Refuses refusal (value_of (word_of (get_or words 3 fourth)) (word_of (get_or words 4 fifth))) → Refuses refusal (set_of (map word_of words))
unfolding set_of
value_refused [] first next third fourth fifth chosen text refusal low high is said refuses = absurd (omega arith)
value_refused (layer ∷ []) first next third fourth fifth chosen text refusal low high is said refuses = absurd (omega arith)
value_refused (layer ∷ feature ∷ []) first next third fourth fifth chosen text refusal low high is said refuses = absurd (omega arith)
value_refused (layer ∷ feature ∷ key ∷ []) first next third fourth fifth chosen text refusal low high is said refuses = absurd (omega arith)
value_refused (layer ∷ feature ∷ key ∷ name ∷ []) first next third fourth fifth chosen text refusal low high is said refuses = absurd (omega arith)
value_refused (layer ∷ feature ∷ key ∷ name ∷ value ∷ []) first next third fourth fifth chosen text refusal low high is said refuses = elim refuses [ inl memory ↦ inl memory | inr e ↦ inr (rw (is, said, e) refl) ]
value_refused (layer ∷ feature ∷ key ∷ name ∷ value ∷ more ∷ others) first next third fourth fifth chosen text refusal low high is said refuses = absurd (omega arith)
