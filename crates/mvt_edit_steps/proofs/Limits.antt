-- What a command makes if a file can hold it, and if none can.
use Rattle.std.proofs.Common.{◌≡◌, ◌<◌, ◌≤◌, Bool, true, false, not, Ok, Err, length, nat_lt, refl}
use Rattle.std.proofs.lemmas.Bool.{le-ltb, lt-ltb}
use Rattle.mvt_document.specs.declared.TheConstants.{MAX_FILE}
use Rattle.mvt_document.specs.Plain.{Document}
use Rattle.mvt_document.specs.Wire.{bytes_of}
use Rattle.mvt_meaning.specs.Meaning.{within_limit}
use Rattle.mvt_meaning.specs.declared.refusal.Refusal.TheVariants.{TooLarge}

pub limit_kept : (made : Document) → length (bytes_of made) ≤ MAX_FILE → within_limit made ≡ Ok made
limit_kept made within = let fits : nat_lt MAX_FILE (length (bytes_of made)) ≡ false = le-ltb MAX_FILE (length (bytes_of made)) within in rw fits refl

pub limit_passed : (made : Document) → MAX_FILE < length (bytes_of made) → within_limit made ≡ Err TooLarge
limit_passed made past = let large : nat_lt MAX_FILE (length (bytes_of made)) ≡ true = lt-ltb MAX_FILE (length (bytes_of made)) past in rw large refl
