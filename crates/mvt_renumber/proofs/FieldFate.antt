-- What becomes of a field follows from what is left of it and from whether some number changes.
use Rattle.std.proofs.Common.{◌≡◌, ℕ, List, Option, sym, ap, ◌∙◌}
use Rattle.std.proofs.lemmas.Bool.{cond-true, cond-false}
use Rattle.mvt_document.specs.Plain.{Field}
use Rattle.mvt_renumber.specs.Renumbering.{field_numbers, renumbered_field, some_changed}
use Rattle.mvt_renumber.specs.Fates.{changes, fate_left, fate_seen, field_fate, left_of_fate}
use Rattle.mvt_renumber.specs.declared.fate.Fate.{Fate}
use Rattle.mvt_renumber.specs.declared.fate.Fate.TheVariants.{Stays, Goes, Becomes}

pub field_fate-seen : {T : Type 0} (stands : T → Field) (number : ℕ) (decisions : List (Option ℕ)) (field : Field) (fate : Fate T)
    → left_of_fate stands field fate ≡ renumbered_field number decisions field → changes fate ≡ some_changed decisions (field_numbers number field) → fate_seen stands fate ≡ field_fate number decisions field
field_fate-seen stands number decisions field Stays left changed =
    sym (cond-false (some_changed decisions (field_numbers number field)) (fate_left (renumbered_field number decisions field)) Stays (sym changed))
field_fate-seen stands number decisions field Goes left changed =
    ap fate_left left ∙ sym (cond-true (some_changed decisions (field_numbers number field)) (fate_left (renumbered_field number decisions field)) Stays (sym changed))
field_fate-seen stands number decisions field (Becomes other) left changed =
    ap fate_left left ∙ sym (cond-true (some_changed decisions (field_numbers number field)) (fate_left (renumbered_field number decisions field)) Stays (sym changed))
