-- Lines that are put piece by piece.
use Rattle.std.proofs.Common.{◌≡◌, ℕ, cond, List, [], ◌∷◌, ◌++◌, Result, Ok, Err, codes, append_assoc, append-nil}
use Rattle.std.specs.Prelude.{OnOk, is_ok}
use Rattle.std.proofs.lemmas.Grind.{flat_map-append}
use Rattle.mvt_document.specs.Plain.{Feature}
use Rattle.mvt_geometry.specs.Shapes.{Geometry}
use Rattle.mvt_view.specs.FeatureGeometry.{HasFeatureGeometry}
use Rattle.tile_text.specs.Texts.{geometry_form}
use Rattle.tile_lines.specs.Lines.{with_feed}
use Rattle.tile_listing.specs.Listing.{spaced, geometry_line, joined_lines}
use Rattle.tile_listing.proofs.Shown.{with_geometry, without_geometry}

-- what there is where the last call went well
pub ok_put : {T E : Type 0} (r : Result T E) (old new piece : List ℕ) → new ≡ cond (is_ok r) (old ++ piece) old → OnOk r (new ≡ old ++ piece)
ok_put (Ok x) old new piece e = e
ok_put (Err x) old new piece e = tt

pub numbers_put : (t0 t1 t2 t3 t4 t5 version extent features keys values : List ℕ) → t1 ≡ t0 ++ codes " version " ++ version → t2 ≡ t1 ++ codes " extent " ++ extent → t3 ≡ t2 ++ codes " features " ++ features → t4 ≡ t3 ++ codes " keys " ++ keys → t5 ≡ t4 ++ codes " values " ++ values
    → t5 ≡ t0 ++ 32 ∷ spaced (codes "version" ∷ version ∷ codes "extent" ∷ extent ∷ codes "features" ∷ features ∷ codes "keys" ∷ keys ∷ codes "values" ∷ values ∷ [])
numbers_put t0 t1 t2 t3 t4 t5 version extent features keys values e1 e2 e3 e4 e5 = rw (e5, e4, e3, e2, e1) (simp append_assoc)

pub geometry_put : (feature : Feature) (geometry : Geometry) (t0 t1 t2 t3 : List ℕ) → HasFeatureGeometry feature geometry → t1 ≡ t0 ++ codes "geometry " → t2 ≡ t1 ++ geometry_form geometry → t3 ≡ t2 ++ codes "\n" → t3 ≡ t0 ++ with_feed (geometry_line feature)
geometry_put feature geometry t0 t1 t2 t3 has e1 e2 e3 = rw (with_geometry feature geometry has, e3, e2, e1) (simp append_assoc)

pub no_geometry_put : (feature : Feature) (t0 t1 : List ℕ) → ((geometry : Geometry) → HasFeatureGeometry feature geometry → ⊥) → t1 ≡ t0 ++ codes "geometry unreadable\n" → t1 ≡ t0 ++ with_feed (geometry_line feature)
no_geometry_put feature t0 t1 none e = rw (without_geometry feature none) e

pub layer_put : (t0 t1 t2 t3 t4 line : List ℕ) (ks vs fs : List (List ℕ)) → t1 ≡ t0 ++ with_feed line → t2 ≡ t1 ++ joined_lines ks → t3 ≡ t2 ++ joined_lines vs → t4 ≡ t3 ++ joined_lines fs → t4 ≡ t0 ++ joined_lines (line ∷ (ks ++ (vs ++ fs)))
layer_put t0 t1 t2 t3 t4 line ks vs fs e1 e2 e3 e4 = rw (e4, e3, e2, e1, flat_map-append with_feed ks (vs ++ fs), flat_map-append with_feed vs fs) (simp append_assoc)

pub feature_put : (t0 t1 t2 t3 line last : List ℕ) (attributes : List (List ℕ)) → t1 ≡ t0 ++ with_feed line → t2 ≡ t1 ++ joined_lines attributes → t3 ≡ t2 ++ with_feed last → t3 ≡ t0 ++ joined_lines (line ∷ (attributes ++ last ∷ []))
feature_put t0 t1 t2 t3 line last attributes e1 e2 e3 = rw (e3, e2, e1, flat_map-append with_feed attributes (last ∷ [])) (simp (append_assoc, append-nil))
