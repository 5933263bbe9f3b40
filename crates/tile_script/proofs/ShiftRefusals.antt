-- A line that shifts a geometry asks for the shift.
use Rattle.std.proofs.Common.{◌≡◌, ◌<◌, ◌≤◌, ℤ, List, [], ◌∷◌, length, map, get_or, Ok, refl, arith}
use Rattle.mvt_meaning.specs.Command.{LayerChoice, FeatureChoice, Shift}
use Rattle.tile_arguments.specs.Arguments.{distance_of}
use Rattle.tile_lines.specs.WordStands.{word_of}
use Rattle.tile_lines.specs.declared.words.Word.{Word}
use Rattle.tile_script.specs.Commands.{chosen_of, shift_of}

pub along_and_down : (words : List Word) (first next third fourth : Word) (chosen : LayerChoice × FeatureChoice) (dx dy : ℤ) → 4 ≤ length words → length words < 5 → chosen_of (word_of (get_or words 0 first)) (word_of (get_or words 1 next)) ≡ Ok chosen → Ok dx ≡ distance_of (word_of (get_or words 2 third)) → Ok dy ≡ distance_of (word_of (get_or words 3 fourth)) → shift_of (map word_of words) ≡ Ok (Shift chosen.0 chosen.1 dx dy)
unfolding shift_of
along_and_down [] first next third fourth chosen dx dy low high is along down = absurd (omega arith)
along_and_down (layer ∷ []) first next third fourth chosen dx dy low high is along down = absurd (omega arith)
along_and_down (layer ∷ feature ∷ []) first next third fourth chosen dx dy low high is along down = absurd (omega arith)
along_and_down (layer ∷ feature ∷ x ∷ []) first next third fourth chosen dx dy low high is along down = absurd (omega arith)
along_and_down (layer ∷ feature ∷ x ∷ y ∷ []) first next third fourth chosen dx dy low high is along down = rw (is, ← along, ← down) refl
along_and_down (layer ∷ feature ∷ x ∷ y ∷ more ∷ others) first next third fourth chosen dx dy low high is along down = absurd (omega arith)
