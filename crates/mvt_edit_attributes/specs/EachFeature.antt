-- What becomes of the fields of each feature, where tags fields or the pairs of a key go.
use Rattle.std.specs.Prelude.{ℕ, List, map}
use Rattle.mvt_document.specs.Plain.{Field, LayerItem}
use Rattle.mvt_meaning.specs.Tagging.{is_tags, removals}
use Rattle.mvt_edit_steps.specs.Decided.{field_fates}
use Rattle.mvt_edit_steps.specs.Fates.{goes_if}
use Rattle.mvt_renumber.specs.declared.fate.Fate.{Fate}

-- the tags fields go, and the other fields of a feature stay (tiles 4.2)
abbrev pub tags_go : List Field → List (Fate Field)
tags_go fields = map (λ field. goes_if (is_tags field)) fields

-- the pairs of a key go from the tags fields, and the other fields of a feature stay, in a layer of these items
-- (tiles 4.4)
abbrev pub pairs_go : List ℕ → List LayerItem → List Field → List (Fate Field)
pairs_go key items fields = field_fates 2 (removals key items fields) fields
