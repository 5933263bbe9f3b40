-- The id of a feature depends on its fields other than tags.
use Rattle.std.proofs.Common.{◌≡◌, None, ap, arith}
use Rattle.std.specs.List.{last_or}
use Rattle.mvt_document.specs.Plain.{Feature}
use Rattle.mvt_messages.specs.Views.{id_of}
use Rattle.mvt_meaning.specs.Tagging.{without_tags}
use Rattle.command_laws.proofs.OtherFields.{values_stay}

pub id_same : (old new : Feature) → without_tags new.fields ≡ without_tags old.fields → id_of new ≡ id_of old
id_same old new others = ap (last_or None) (values_stay 2 1 (λ e. omega (arith, e)) old.fields new.fields others)
