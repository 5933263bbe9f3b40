-- Which layer a name means, and which feature an id means.
use Rattle.std.proofs.Common.{◌≡◌, ◌≢◌, ℕ, zero, suc, ◌+◌, Bool, true, false, Option, Some, None, option_map, Ok, Err, List, [], ◌∷◌, slice_get, refl, sym, ap, ◌∙◌, inl, inr, subst, arith}
use Rattle.std.specs.Prelude.{◌==◌, ◌↔◌}
use Rattle.std.proofs.lemmas.Bool.{cases_Bool, eq-eqb, eqb-true}
use Rattle.std.proofs.lemmas.Slice.Eq.{bytes_eq-Decides}
use Rattle.std.specs.Option.{option_map_or}
use Rattle.std.specs.Str.{bytes_eq}
use Rattle.mvt_document.specs.Plain.{Feature, Layer}
use Rattle.mvt_messages.specs.Views.{features, has_id, id_of, is_named, layers, name_of, the_one}
use Rattle.mvt_meaning.specs.declared.refusal.Refusal.{Refusal}
use Rattle.mvt_meaning.specs.declared.refusal.Refusal.TheVariants.{AmbiguousFeature, AmbiguousLayer, NoFeature, NoLayer}
use Rattle.mvt_meaning.proofs.Positions.{positions_from, positions_pass, positions_skip}
use Rattle.mvt_meaning.proofs.SelectionLemmas.{two_apart}
use Rattle.command_laws.specs.SelectionLaws.{HasId, HasName, IdMeansTheOne, IdMeansNone, NameMeansTheOne, NameMeansNone}

-- an item passes at this position
abbrev pub PassesAt : {A : Type 0} → (A → Bool) → List A → ℕ → Type 0
PassesAt passes xs at = option_map passes (slice_get xs at) ≡ Some true

one_later : {A : Type 0} (passes : A → Bool) (n k : ℕ) (x : A) (xs : List A) → (j : ℕ) × (k ≡ n + 1 + j) × PassesAt passes xs j → (j : ℕ) × (k ≡ n + j) × PassesAt passes (x ∷ xs) j
one_later passes n k x xs found = let place = found.1 in (suc found.0, omega arith, found.2)

first_passes : {A : Type 0} (passes : A → Bool) (n i k : ℕ) (x : A) (xs : List A) → passes x ≡ true → slice_get (n ∷ positions_from passes (n + 1) xs) i ≡ Some k → ((i : ℕ) → slice_get (positions_from passes (n + 1) xs) i ≡ Some k → (j : ℕ) × (k ≡ n + 1 + j) × PassesAt passes xs j) → (j : ℕ) × (k ≡ n + j) × PassesAt passes (x ∷ xs) j
first_passes passes n zero k x xs pass e later = let same : n ≡ k = cc in (0, omega arith, ap (λ b. Some b) pass)
first_passes passes n (suc i) k x xs pass e later = one_later passes n k x xs (later i e)

position_passes : {A : Type 0} (passes : A → Bool) (n : ℕ) (xs : List A) (i k : ℕ) → slice_get (positions_from passes n xs) i ≡ Some k → (j : ℕ) × (k ≡ n + j) × PassesAt passes xs j
position_passes passes n [] i k e = absurd cc
position_passes passes n (x ∷ xs) i k e =
    elim (cases_Bool (passes x)) [
      | inl pass ↦ first_passes passes n i k x xs pass (rw (positions_pass passes n x xs pass) at e) (λ i e. position_passes passes (n + 1) xs i k e)
      | inr skip ↦ one_later passes n k x xs (position_passes passes (n + 1) xs i k (rw (positions_skip passes n x xs skip) at e))
    ]

passes_position : {A : Type 0} (passes : A → Bool) (n : ℕ) (xs : List A) (j k : ℕ) → k ≡ n + j → PassesAt passes xs j → (i : ℕ) × (slice_get (positions_from passes n xs) i ≡ Some k)
passes_position passes n [] j k place e = absurd cc
passes_position passes n (x ∷ xs) zero k place e =
    let pass : passes x ≡ true = cc in
    let here : n ≡ k = omega arith in
    (0, rw (positions_pass passes n x xs pass) (ap (λ y. Some y) here))
passes_position passes n (x ∷ xs) (suc j) k place e =
    let later = passes_position passes (n + 1) xs j k (omega arith) e in
    elim (cases_Bool (passes x)) [
      | inl pass ↦ (suc later.0, rw (positions_pass passes n x xs pass) later.1)
      | inr skip ↦ (later.0, rw (positions_skip passes n x xs skip) later.1)
    ]

-- ---- only one item passes

only_one : (none several : Refusal) (ordinals : List ℕ) (ordinal : ℕ) → the_one none several ordinals ≡ Ok ordinal → ordinals ≡ ordinal ∷ []
only_one none several [] ordinal e = absurd cc
only_one none several (x ∷ []) ordinal e = let same : x ≡ ordinal = cc in ap (λ y. y ∷ []) same
only_one none several (x ∷ y ∷ more) ordinal e = absurd cc

in_one : (ordinal i k : ℕ) → slice_get (ordinal ∷ []) i ≡ Some k → k ≡ ordinal
in_one ordinal zero k e = cc
in_one ordinal (suc i) k e = absurd cc

pub passes_there : {A : Type 0} (passes : A → Bool) (xs : List A) (i k : ℕ) → slice_get (positions_from passes 0 xs) i ≡ Some k → PassesAt passes xs k
passes_there passes xs i k e =
    let found = position_passes passes 0 xs i k e in
    let there : found.0 ≡ k = let place = found.1 in omega arith in
    subst (PassesAt passes xs) there found.2

none_of : (none several : Refusal) → several ≢ none → (ordinals : List ℕ) → the_one none several ordinals ≡ Err none → ordinals ≡ []
none_of none several apart [] e = refl
none_of none several apart (x ∷ []) e = absurd cc
none_of none several apart (x ∷ y ∷ more) e = let same : several ≡ none = cc in absurd (apart same)

-- items that pass a test are selected where there is one, and else refused: `none` is the refusal where there is none
module _ {A : Type 0} (none several : Refusal) (passes : A → Bool) (xs : List A) where
  alone_passes : (ordinal : ℕ) → the_one none several (positions_from passes 0 xs) ≡ Ok ordinal → (other : ℕ) → (PassesAt passes xs other → other ≡ ordinal) × (other ≡ ordinal → PassesAt passes xs other)
  alone_passes ordinal e other =
      let only = only_one none several (positions_from passes 0 xs) ordinal e in
      let found = position_passes passes 0 xs 0 ordinal (ap (λ ys. slice_get ys 0) only) in
      let there : found.0 ≡ ordinal = let place = found.1 in omega arith in (
        λ pass. let at_position = passes_position passes 0 xs other other (omega arith) pass in in_one ordinal at_position.0 other (rw only at at_position.1),
        λ same. subst (PassesAt passes xs) (there ∙ sym same) found.2,
      )

  the_one_of : (ordinal : ℕ) (ordinals : List ℕ) → positions_from passes 0 xs ≡ ordinals → ((other : ℕ) → PassesAt passes xs other → other ≡ ordinal) → PassesAt passes xs ordinal → the_one none several ordinals ≡ Ok ordinal
  the_one_of ordinal [] e alone pass = absurd (let found = passes_position passes 0 xs ordinal ordinal (omega arith) pass in let nowhere = rw e at found.1 in cc)
  the_one_of ordinal (a ∷ []) e alone pass = ap (λ y. Ok y) (alone a (passes_there passes xs 0 a (ap (λ ys. slice_get ys 0) e)))
  the_one_of ordinal (a ∷ b ∷ more) e alone pass =
      let first = alone a (passes_there passes xs 0 a (ap (λ ys. slice_get ys 0) e)) in
      let second = alone b (passes_there passes xs 1 b (ap (λ ys. slice_get ys 1) e)) in
      let apart = two_apart passes 0 a b xs more e in
      absurd (omega arith)

  no_one_of : (ordinals : List ℕ) → positions_from passes 0 xs ≡ ordinals → ((other : ℕ) → PassesAt passes xs other → ⊥) → the_one none several ordinals ≡ Err none
  no_one_of [] e no_other = refl
  no_one_of (a ∷ more) e no_other = absurd (no_other a (passes_there passes xs 0 a (ap (λ ys. slice_get ys 0) e)))

  -- `Has` says that the item of an ordinal passes
  module _ (Has : ℕ → Type 0) (passing : (at : ℕ) → Has at → PassesAt passes xs at) (having : (at : ℕ) → PassesAt passes xs at → Has at) where
    means_the_one : (ordinal : ℕ) → (the_one none several (positions_from passes 0 xs) ≡ Ok ordinal) ↔ ((other : ℕ) → Has other ↔ (other ≡ ordinal))
    means_the_one ordinal = (
      λ e other. (λ has. (alone_passes ordinal e other).0 (passing other has), λ same. having other ((alone_passes ordinal e other).1 same)),
      λ alone. the_one_of ordinal (positions_from passes 0 xs) refl (λ other pass. (alone other).0 (having other pass)) (passing ordinal ((alone ordinal).1 refl)),
    )

    means_none : several ≢ none → (the_one none several (positions_from passes 0 xs) ≡ Err none) ↔ ((other : ℕ) → ¬ Has other)
    means_none apart = (
      λ e other has. (
          let nowhere = none_of none several apart (positions_from passes 0 xs) e in
          let found = passes_position passes 0 xs other other (omega arith) (passing other has) in
          let absent = rw nowhere at found.1 in
          cc
          ),
      λ no_other. no_one_of (positions_from passes 0 xs) refl (λ other pass. no_other other (having other pass)),
    )

-- ---- names

is_text : (name : List ℕ) (text : Option (List ℕ)) → option_map_or (bytes_eq name) text false ≡ true → text ≡ Some name
is_text name None e = absurd cc
is_text name (Some bytes) e = ap (λ t. Some t) (sym ((bytes_eq-Decides name bytes).0 e))

named_at : (name : List ℕ) (layer : Option Layer) → option_map name_of layer ≡ Some (Some name) → option_map (is_named name) layer ≡ Some true
named_at name None e = absurd cc
named_at name (Some layer) e =
    let text : name_of layer ≡ Some name = cc in
    ap (λ b. Some b) (rw text ((bytes_eq-Decides name name).1 refl))

at_named : (name : List ℕ) (layer : Option Layer) → option_map (is_named name) layer ≡ Some true → option_map name_of layer ≡ Some (Some name)
at_named name None e = absurd cc
at_named name (Some layer) e = let named : is_named name layer ≡ true = cc in ap (λ t. Some t) (is_text name (name_of layer) named)

pub name_means_the_one : NameMeansTheOne
name_means_the_one name document ordinal =
    means_the_one NoLayer AmbiguousLayer (is_named name) (layers document) (λ other. HasName name other document)
    (λ other. named_at name (slice_get (layers document) other)) (λ other. at_named name (slice_get (layers document) other)) ordinal

pub name_means_none : NameMeansNone
name_means_none name document =
    means_none NoLayer AmbiguousLayer (is_named name) (layers document) (λ other. HasName name other document)
    (λ other. named_at name (slice_get (layers document) other)) (λ other. at_named name (slice_get (layers document) other)) (λ same. cc)

-- ---- ids

is_id : (id : ℕ) (found : Option ℕ) → option_map_or (λ n. n == id) found false ≡ true → found ≡ Some id
is_id id None e = absurd cc
is_id id (Some n) e = ap (λ t. Some t) (eqb-true n id e)

id_passes : (id : ℕ) (feature : Option Feature) → option_map id_of feature ≡ Some (Some id) → option_map (has_id id) feature ≡ Some true
id_passes id None e = absurd cc
id_passes id (Some feature) e =
    let found : id_of feature ≡ Some id = cc in
    ap (λ b. Some b) (rw found (eq-eqb id id refl))

passing_id : (id : ℕ) (feature : Option Feature) → option_map (has_id id) feature ≡ Some true → option_map id_of feature ≡ Some (Some id)
passing_id id None e = absurd cc
passing_id id (Some feature) e = let has : has_id id feature ≡ true = cc in ap (λ t. Some t) (is_id id (id_of feature) has)

pub id_means_the_one : IdMeansTheOne
id_means_the_one id layer ordinal =
    means_the_one NoFeature AmbiguousFeature (has_id id) (features layer) (λ other. HasId id other layer)
    (λ other. id_passes id (slice_get (features layer) other)) (λ other. passing_id id (slice_get (features layer) other)) ordinal

pub id_means_none : IdMeansNone
id_means_none id layer =
    means_none NoFeature AmbiguousFeature (has_id id) (features layer) (λ other. HasId id other layer)
    (λ other. id_passes id (slice_get (features layer) other)) (λ other. passing_id id (slice_get (features layer) other)) (λ same. cc)
