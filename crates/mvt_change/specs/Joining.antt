-- Several changes as one, and where they lead. A list of changes begins with the one that is carried out first.
use Rattle.std.specs.Prelude.{List, [], ◌∷◌, ◌++◌}
use Rattle.mvt_document.specs.Plain.{Document}
use Rattle.mvt_change.specs.Changes.{Change, go, Fits}

-- one change with the steps of all changes of the list
abbrev pub joined : List Change → Change
joined [] = []
joined (change ∷ changes) = change ++ joined changes

-- the document after all changes of the list
abbrev pub go_along : List Change → Document → Document
go_along [] document = document
go_along (change ∷ changes) document = go_along changes (go change document)

-- each change of the list fits what those before it made
abbrev pub FitAlong : List Change → Document → Type 0
FitAlong [] document = Unit {0}
FitAlong (change ∷ changes) document = Fits change document × FitAlong changes (go change document)
