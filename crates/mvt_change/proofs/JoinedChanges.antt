-- Joined changes are carried out one after the other, and another one at the end brings its steps.
use Rattle.std.proofs.Common.{◌≡◌, ℕ, ◌+◌, ◌<◌, List, [], ◌∷◌, ◌++◌, append_assoc, length, length-append, get_or, take, map, reverse, refl, sym, ap, ◌∙◌}
use Rattle.std.proofs.lemmas.List.{append-nil, map-append, reverse-append, take_more}
use Rattle.mvt_change.specs.declared.change.Change.{Change as HeldChange}
use Rattle.mvt_change.specs.ChangeStands.{change_of}
use Rattle.mvt_change.specs.Changes.{Change, go}
use Rattle.mvt_change.specs.Joining.{joined}
use Rattle.mvt_change.specs.Laws.{JoinedListGoes, JoinedListFits}
use Rattle.mvt_change.proofs.Ordered.{length_of_change}
use Rattle.mvt_change.proofs.Turning.{go_joined, fit_joined}

pub go_joined_list : JoinedListGoes
go_joined_list [] document = refl
go_joined_list (change ∷ changes) document = go_joined change (joined changes) document ∙ go_joined_list changes (go change document)

pub fit_joined_list : JoinedListFits
fit_joined_list [] document = (λ fits. tt, λ fit. tt)
fit_joined_list (change ∷ changes) document =
    let both = fit_joined change (joined changes) document in
    let rest = fit_joined_list changes (go change document) in
    (λ fits. let fit = both.0 fits in (fit.0, rest.0 fit.1), λ fit. both.1 (fit.0, rest.1 fit.1))

-- ---- one more at the end

joined_more : (changes : List Change) (change : Change) → joined (changes ++ change ∷ []) ≡ joined changes ++ change
joined_more [] change = append-nil change
joined_more (first ∷ changes) change = ap (λ steps. first ++ steps) (joined_more changes change) ∙ sym (append_assoc first (joined changes) change)

pub joined_last : (changes : List HeldChange) (change : HeldChange) → joined (map change_of (changes ++ change ∷ [])) ≡ joined (map change_of changes) ++ change_of change
joined_last changes change = ap joined (map-append change_of changes (change ∷ [])) ∙ joined_more (map change_of changes) (change_of change)

pub joined_from_last : (changes : List HeldChange) (change : HeldChange) → joined (reverse (map change_of (changes ++ change ∷ []))) ≡ change_of change ++ joined (reverse (map change_of changes))
joined_from_last changes change =
    rw (map-append, reverse-append (map change_of changes) (change_of change ∷ []))

-- the last one, taken out and put back, with the same steps
pub put_back : (changes rest made : List HeldChange) (last new : HeldChange) → changes ≡ rest ++ last ∷ [] → made ≡ rest ++ new ∷ [] → change_of new ≡ change_of last → map change_of made ≡ map change_of changes
put_back changes rest made last new were are same =
    ap (map change_of) are ∙ map-append change_of rest (new ∷ []) ∙ ap (λ change. map change_of rest ++ change ∷ []) same ∙ sym (ap (map change_of) were ∙ map-append change_of rest (last ∷ []))

pub length_joined_last : (changes : List HeldChange) (change : HeldChange) → length (joined (map change_of (changes ++ change ∷ []))) ≡ length (joined (map change_of changes)) + length change.steps.items
length_joined_last changes change =
    rw (joined_last changes change, length-append, length_of_change change)

pub length_joined_next : (changes : List HeldChange) (i : ℕ) (change : HeldChange) → i < length changes → change ≡ get_or changes i change → length (joined (map change_of (take (i + 1) changes))) ≡ length (joined (map change_of (take i changes))) + length change.steps.items
length_joined_next changes i change inside is =
    rw (take_more changes i change inside, ← is) (length_joined_last (take i changes) change)
