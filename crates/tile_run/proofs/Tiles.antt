-- A tile that is read, and one that is written.
use Rattle.std.proofs.Common.{◌≡◌, ℕ, ◌+◌, ◌<◌, ◌≤◌, true, ◌↔◌, List, length, Vec, Global, refl, sym, ap, subst, ◌∙◌, inl, inr, arith}
use Rattle.std.specs.Prelude.{IsErrOf, OnOk, Result, Ok, Err, nat_lt}
use Rattle.std.proofs.lemmas.Bool.{cases_lt}
use Rattle.std.proofs.lemmas.Bool.Decides.{nat_tests}
use Rattle.mvt_document.specs.declared.TheConstants.{MAX_FILE}
use Rattle.mvt_document.specs.declared.Document.{Document}
use Rattle.mvt_document.specs.Opens.{OpensAs, OpensAsNothing, IsPlace}
use Rattle.mvt_document.specs.Stands.{document_of}
use Rattle.mvt_wire.specs.declared.faults.ReadError.{ReadError}
use Rattle.mvt_wire.specs.declared.faults.ReadError.TheVariants.{BadWire, FileTooLarge, NoMemory}
use Rattle.tile_device.specs.Seen.{Intake}
use Rattle.tile_device.specs.Transfer.{ReadsUpTo}
use Rattle.tile_run.specs.Steps.{OpensTile, stop_for}

-- a tile opens as the document that the file that it was read into opens as
pub opens_so : (read : Vec ℕ Global) (file : List ℕ) (tile : Intake) (document : Document) → file ≡ read.items → ReadsUpTo (MAX_FILE + 1) (Ok read) tile
    → IsErrOf {E = ReadError} (Ok document) FileTooLarge ↔ (MAX_FILE < length file)
    → OpensAs file (document_of document) → OpensTile (Ok document) tile
opens_so read file tile document same reads too_large opens =
    elim (cases_lt MAX_FILE (length file)) [
      | inl longer ↦ absurd (let no = too_large.1 longer in cc)
      | inr within ↦ (
          let all : file ≡ tile.bytes = same ∙ sym reads.bytes in
          let few : length tile.bytes ≤ MAX_FILE = omega (arith, ap length all, within) in
          let less : nat_lt (length tile.bytes) (MAX_FILE + 1) ≡ true = grind (arith, nat_tests, few) in
          record { whole = reads.is_whole ∙ less; untroubled = reads.trouble; opens = subst (λ file. OpensAs file (document_of document)) all opens }
          )
    ]

-- what the reader says is wrong with the file that a tile was read into is wrong with the tile
pub opens_not : (read : Vec ℕ Global) (file : List ℕ) (tile : Intake) (error : ReadError) → file ≡ read.items → ReadsUpTo (MAX_FILE + 1) (Ok read) tile
    → IsErrOf {T = Document} (Err error) FileTooLarge ↔ (MAX_FILE < length file)
    → ((place : ℕ) → IsErrOf {T = Document} (Err error) (BadWire place) → OpensAsNothing file)
    → ((place : ℕ) → IsErrOf {T = Document} (Err error) (BadWire place) → IsPlace file place)
    → OpensTile (Err (stop_for error)) tile
opens_not read file tile (BadWire place) same reads too_large bad_wire is_place =
    elim (cases_lt MAX_FILE (length file)) [
      | inl longer ↦ absurd (let no = too_large.1 longer in cc)
      | inr within ↦ (
          let all : file ≡ tile.bytes = same ∙ sym reads.bytes in
          let few : length tile.bytes ≤ MAX_FILE = omega (arith, ap length all, within) in
          let less : nat_lt (length tile.bytes) (MAX_FILE + 1) ≡ true = grind (arith, nat_tests, few) in
          (reads.trouble, (reads.is_whole ∙ less, (few, subst OpensAsNothing all (bad_wire place refl), subst (λ file. IsPlace file place) all (is_place place refl))))
          )
    ]
opens_not read file tile FileTooLarge same reads too_large bad_wire is_place = (reads.trouble, let long = too_large.0 refl in omega (arith, ap length same, ap length reads.bytes, long))
opens_not read file tile NoMemory same reads too_large bad_wire is_place = reads.trouble

-- what holds of all tiles holds of one that was written
pub on_ok : {A B : Type 0} (written : Result A B) {P : Type 0} → P → OnOk written P
on_ok (Ok done) says = says
on_ok (Err stop) says = tt
