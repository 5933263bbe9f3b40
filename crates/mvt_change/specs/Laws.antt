-- Laws of changes.
use Rattle.std.specs.Prelude.{◌≡◌, ◌↔◌, List, ◌++◌}
use Rattle.mvt_document.specs.Plain.{Document}
use Rattle.mvt_document.specs.Opens.{IsDocument}
use Rattle.mvt_change.specs.Changes.{Change, go, Fits, turn}
use Rattle.mvt_change.specs.Joining.{joined, go_along, FitAlong}

-- a change that fits leads from a valid document to a valid document
abbrev pub ChangeMakesDocument : Type 0
ChangeMakesDocument = (change : Change) (document : Document) → IsDocument document → Fits change document → IsDocument (go change document)

-- the turned change fits what the change made of a valid document
abbrev pub TurnedFits : Type 0
TurnedFits = (change : Change) (document : Document) → IsDocument document → Fits change document → Fits (turn change document) (go change document)

-- after a change that fits, the turned change leads back to the document
abbrev pub TurnedLeadsBack : Type 0
TurnedLeadsBack = (change : Change) (document : Document) → Fits change document → go (turn change document) (go change document) ≡ document

-- a change that fits, turned twice, is the change itself
abbrev pub TurnedTwice : Type 0
TurnedTwice = (change : Change) (document : Document) → Fits change document → turn (turn change document) (go change document) ≡ change

-- two joined changes are carried out one after the other
abbrev pub JoinedGo : Type 0
JoinedGo = (first second : Change) (document : Document) → go (first ++ second) document ≡ go second (go first document)

-- two joined changes fit exactly if the first fits, and the second fits what it made
abbrev pub JoinedFit : Type 0
JoinedFit = (first second : Change) (document : Document) → Fits (first ++ second) document ↔ (Fits first document × Fits second (go first document))

-- a joined list of changes is carried out one change after the other
abbrev pub JoinedListGoes : Type 0
JoinedListGoes = (changes : List Change) (document : Document) → go (joined changes) document ≡ go_along changes document

-- a joined list of changes fits exactly if each fits what those before it made
abbrev pub JoinedListFits : Type 0
JoinedListFits = (changes : List Change) (document : Document) → Fits (joined changes) document ↔ FitAlong changes document
