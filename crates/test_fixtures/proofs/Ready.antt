-- A change that was carried out leads back, and a change that fits what it makes can follow it.
use Rattle.std.proofs.Common.{◌≡◌, Bool, true, false, Ok, if◌then◌else◌, ◌++◌, subst, sym, ap, ◌∙◌}
use Rattle.mvt_wire.specs.Plain.{Document}
use Rattle.mvt_change.specs.Changes.{Change, Fits, go, turn}
use Rattle.mvt_change.proofs.Turning.{change_makes, fits_joined, go_joined, turned_fits}
use Rattle.mvt_meaning.specs.Command.{Command}
use Rattle.mvt_meaning.specs.Meaning.{applied}
use Rattle.test_fixtures.specs.Edits.{Edit, CanFlip, Series, IsSeries}

pub flipped : (done : Bool) (edit : Edit) → CanFlip edit → CanFlip (record { document = if done then go edit.change edit.document else edit.document; change = if done then turn edit.change edit.document else edit.change })
flipped true edit ready = record { valid = change_makes edit.change edit.document ready.valid ready.fits; fits = turned_fits edit.change edit.document ready.valid ready.fits }
flipped false edit ready = record { valid = ready.valid; fits = ready.fits }

-- two changes of the command make the same document
same_made : (command : Command) (next carried : Change) (document : Document) → applied command document ≡ Ok (go next document) → applied command document ≡ Ok (go carried document) → go next document ≡ go carried document
same_made command next carried document first second = cc

pub followed : (command : Command) (series : Series) (next carried : Change) → IsSeries series → Fits next series.made → applied command series.made ≡ Ok (go next series.made) → applied command series.made ≡ Ok (go carried series.made) → IsSeries (record { edit = record { document = series.edit.document; change = series.edit.change ++ next }; made = go carried series.made })
followed command series next carried is fits first second =
    let document = series.edit.document in
    let change = series.edit.change in
    record {
      ready = record { valid = is.ready.valid; fits = fits_joined change next document is.ready.fits (subst (Fits next) (sym is.made) fits) };
      made = go_joined change next document ∙ ap (go next) is.made ∙ same_made command next carried series.made first second;
    }
