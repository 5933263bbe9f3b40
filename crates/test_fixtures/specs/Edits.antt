-- What contracts see of a document with a change that fits it.
use Rattle.std.specs.Prelude.{◌≡◌}
use Rattle.mvt_wire.specs.Plain.{Document}
use Rattle.mvt_wire.specs.Opens.{IsDocument}
use Rattle.mvt_change.specs.Changes.{Change, Fits, go}

-- a document and a change
pub record Edit : Type 0 where
  pub document : Document
  pub change : Change

-- the document is valid, and the change fits it
pub record CanFlip (edit : Edit) : Type 0 where
  pub valid : IsDocument edit.document
  pub fits : Fits edit.change edit.document

-- a document and a change, and the document that the change makes
pub record Series : Type 0 where
  pub edit : Edit
  pub made : Document

-- the document is valid, the change fits it and makes the other document
pub record IsSeries (series : Series) : Type 0 where
  pub ready : CanFlip series.edit
  pub made : go series.edit.change series.edit.document ≡ series.made
