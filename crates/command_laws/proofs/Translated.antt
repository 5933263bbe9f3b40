-- A geometry that moves: its integers lead further to its first point, and as before from there on.
use Rattle.std.proofs.Common.{◌≡◌, ℕ, suc, ◌-◌, ◌*◌, ◌^◌, ◌<◌, ◌≤◌, true, ℤ, pos, ◌+ℤ◌, ◌-ℤ◌, List, [], ◌∷◌, ◌++◌, length, map, refl, sym, ap, ◌∙◌, subst, arith}
use Rattle.std.specs.Prelude.{unsigned_abs}
use Rattle.std.proofs.lemmas.Bool.{and_parts, ltb-true}
use Rattle.std.proofs.lemmas.Int.{ints}
use Rattle.std.proofs.lemmas.List.{length-map, map-append}
use Rattle.std.specs.List.{AllByRecursion}
use Rattle.mvt_document.specs.Signed.{unzigzag, zigzag}
use Rattle.mvt_document.proofs.Signed.{unzigzag-zigzag}
use Rattle.mvt_geometry.specs.Checks.{is_delta}
use Rattle.mvt_geometry.specs.Integers.{HasGeometry, IsInRange, IsRepeated, IsDelta, all_points, closing_of, command, integers, last_from, origin, parameters, path, paths, repeats, deltas}
use Rattle.mvt_geometry.specs.Laws.{IsWithin}
use Rattle.mvt_geometry.specs.Shapes.{Geometry, IsGeometry, IsPart, IsPartCount, IsPlaced, least_points}
use Rattle.mvt_geometry.specs.declared.shapes.Kind.{Kind}
use Rattle.mvt_geometry.specs.declared.shapes.Kind.TheVariants.{Areas, Dots, Lines}
use Rattle.mvt_geometry.specs.declared.shapes.Point.{Point}
use Rattle.mvt_geometry.proofs.Parts.{with}
use Rattle.mvt_geometry.proofs.Reach.{integers_reach}
use Rattle.mvt_meaning.specs.Geometries.{can_move_integers, further}
use Rattle.command_laws.specs.GeometryLaws.{moved, moved_point}
use Rattle.command_laws.proofs.Counted.{parts_by}

-- ---- deltas

shifted_delta : (a b d : ℤ) → (a +ℤ d) -ℤ (b +ℤ d) ≡ a -ℤ b
shifted_delta a b d = omega (arith, ints)

first_delta : (d a : ℤ) → (a +ℤ d) -ℤ pos 0 ≡ further d (zigzag (a -ℤ pos 0))
first_delta d a =
    let there : (a +ℤ d) -ℤ pos 0 ≡ (a -ℤ pos 0) +ℤ d = omega (arith, ints) in
    there ∙ ap (λ (delta : ℤ). delta +ℤ d) (sym (unzigzag-zigzag (a -ℤ pos 0)))

-- integers of which the second and the third lead further
abbrev pub led : ℤ → ℤ → List ℕ → List ℕ
led dx dy (command ∷ x ∷ y ∷ more) = command ∷ zigzag (further dx x) ∷ zigzag (further dy y) ∷ more
led dx dy integers = integers

pub length-led : (dx dy : ℤ) (list : List ℕ) → length (led dx dy list) ≡ length list
length-led dx dy [] = refl
length-led dx dy (command ∷ []) = refl
length-led dx dy (command ∷ x ∷ []) = refl
length-led dx dy (command ∷ x ∷ y ∷ more) = refl

-- the deltas to the first point, as its integers hold them, are in range
pub record FirstDeltas (list : List ℕ) : Type 0 where
  pub number : ℕ
  pub x : ℕ
  pub y : ℕ
  pub more : List ℕ
  pub spelled : list ≡ number ∷ x ∷ y ∷ more
  pub along : IsDelta (unzigzag x)
  pub down : IsDelta (unzigzag y)

-- ---- placed points

placed_parts : (most : ℕ) (parts : List (List Point)) → most ≤ 2 ^ 62 → AllByRecursion (AllByRecursion (IsWithin most)) parts → AllByRecursion (AllByRecursion IsPlaced) parts
placed_parts most parts low all =
    parts_by (IsWithin most) IsPlaced (λ point w. record { x = omega (arith, w.x, low); y = omega (arith, w.y, low) }) parts all

module _ (dx dy : ℤ) where
  abbrev further_on : Point → Point
  further_on point = moved_point dx dy point

  -- ---- the deltas between points that move

  moved_deltas : (from : Point) (points : List Point) → deltas (further_on from) (map further_on points) ≡ deltas from points
  moved_deltas from [] = refl
  moved_deltas from (to ∷ points) =
      let more : List ℤ = deltas (further_on to) (map further_on points) in
      ap (λ (delta : ℤ). delta ∷ ((to.y +ℤ dy) -ℤ (from.y +ℤ dy)) ∷ more) (shifted_delta to.x from.x dx)
      ∙ ap (λ (delta : ℤ). (to.x -ℤ from.x) ∷ delta ∷ more) (shifted_delta to.y from.y dy)
      ∙ ap (λ (rest : List ℤ). (to.x -ℤ from.x) ∷ (to.y -ℤ from.y) ∷ rest) (moved_deltas to points)

  moved_parameters : (from : Point) (points : List Point) → parameters (further_on from) (map further_on points) ≡ parameters from points
  moved_parameters from points = ap (map zigzag) (moved_deltas from points)

  moved_last : (from : Point) (points : List Point) → last_from (further_on from) (map further_on points) ≡ further_on (last_from from points)
  moved_last from [] = refl
  moved_last from (to ∷ points) = moved_last to points

  -- what follows the first parameters of a path
  abbrev following : List ℕ → ℕ → List ℕ → List ℕ → List ℕ
  following closing count numbers rest = (command 2 count ∷ (numbers ++ closing)) ++ rest

  moved_path : (closing : List ℕ) (from : Point) (points : List Point) → path closing (further_on from) (map further_on points) ≡ path closing from points
  moved_path closing from [] = refl
  moved_path closing from (first ∷ points) =
      ap (λ (numbers : List ℕ). command 1 1 ∷ (numbers ++ (command 2 (length (map further_on points)) ∷ (parameters (further_on first) (map further_on points) ++ closing)))) (moved_parameters from (first ∷ []))
      ∙ ap (λ (count : ℕ). command 1 1 ∷ (parameters from (first ∷ []) ++ (command 2 count ∷ (parameters (further_on first) (map further_on points) ++ closing)))) (length-map points further_on)
      ∙ ap (λ (numbers : List ℕ). command 1 1 ∷ (parameters from (first ∷ []) ++ (command 2 (length points) ∷ (numbers ++ closing)))) (moved_parameters first points)

  moved_paths : (closing : List ℕ) (from : Point) (parts : List (List Point)) → paths closing (further_on from) (map (map further_on) parts) ≡ paths closing from parts
  moved_paths closing from [] = refl
  moved_paths closing from (part ∷ parts) =
      let more : List (List Point) = map (map further_on) parts in
      ap (λ (first : List ℕ). first ++ paths closing (last_from (further_on from) (map further_on part)) more) (moved_path closing from part)
      ∙ ap (λ (last : Point). path closing from part ++ paths closing last more) (moved_last from part)
      ∙ ap (λ (rest : List ℕ). path closing from part ++ rest) (moved_paths closing (last_from from part) parts)

  moved_points : (parts : List (List Point)) → all_points (map (map further_on) parts) ≡ map further_on (all_points parts)
  moved_points [] = refl
  moved_points (part ∷ parts) =
      ap (λ (rest : List Point). map further_on part ++ rest) (moved_points parts) ∙ sym (map-append further_on part (all_points parts))

  -- ---- the first point

  -- the integers of a geometry begin with a command and the deltas to its first point; where it moves, these are
  -- further, and everything else is the same
  record Begins (g : Geometry) : Type 0 where
    number : ℕ
    first : Point
    more : List ℕ
    spelled : integers g ≡ number ∷ zigzag (first.x -ℤ pos 0) ∷ zigzag (first.y -ℤ pos 0) ∷ more
    again : integers (moved dx dy g) ≡ number ∷ zigzag ((first.x +ℤ dx) -ℤ pos 0) ∷ zigzag ((first.y +ℤ dy) -ℤ pos 0) ∷ more
    along : IsDelta (first.x -ℤ pos 0)
    down : IsDelta (first.y -ℤ pos 0)
    short : IsDelta ((first.x +ℤ dx) -ℤ pos 0) → IsDelta ((first.y +ℤ dy) -ℤ pos 0) → AllByRecursion IsDelta (deltas origin (all_points (moved dx dy g).parts))

  short_again : (first : Point) (points : List Point) (parts : List (List Point)) → AllByRecursion IsDelta (deltas first (points ++ all_points parts)) → AllByRecursion IsDelta (deltas (further_on first) (map further_on points ++ all_points (map (map further_on) parts)))
  short_again first points parts short =
      let joined : map further_on points ++ all_points (map (map further_on) parts) ≡ map further_on (points ++ all_points parts) =
      ap (λ (rest : List Point). map further_on points ++ rest) (moved_points parts) ∙ sym (map-append further_on points (all_points parts)) in
      subst (AllByRecursion IsDelta) (sym (ap (deltas (further_on first)) joined ∙ moved_deltas first (points ++ all_points parts))) short

  dots_begin : (first : Point) (points : List Point) → IsInRange (with Dots ((first ∷ points) ∷ [])) → Begins (with Dots ((first ∷ points) ∷ []))
  dots_begin first points range =
      let x : ℕ = zigzag ((first.x +ℤ dx) -ℤ pos 0) in
      let y : ℕ = zigzag ((first.y +ℤ dy) -ℤ pos 0) in
      let joined : map further_on points ++ [] ≡ map further_on (points ++ []) = sym (map-append further_on points []) in
      record {
        number = command 1 (suc (length (points ++ [])));
        first = first;
        more = parameters first (points ++ []);
        spelled = refl;
        again = ap (λ (list : List Point). command 1 (suc (length list)) ∷ x ∷ y ∷ parameters (further_on first) list) joined
            ∙ ap (λ (count : ℕ). command 1 (suc count) ∷ x ∷ y ∷ parameters (further_on first) (map further_on (points ++ []))) (length-map (points ++ []) further_on)
            ∙ ap (λ (rest : List ℕ). command 1 (suc (length (points ++ []))) ∷ x ∷ y ∷ rest) (moved_parameters first (points ++ []));
        along = range.short.0;
        down = range.short.1.0;
        short = λ along down. (along, (down, short_again first points [] range.short.1.1));
      }

  following_again : (closing : List ℕ) (first : Point) (points : List Point) (parts : List (List Point)) → following closing (length (map further_on points)) (parameters (further_on first) (map further_on points)) (paths closing (last_from (further_on first) (map further_on points)) (map (map further_on) parts)) ≡ following closing (length points) (parameters first points) (paths closing (last_from first points) parts)
  following_again closing first points parts =
      let rest : List ℕ = paths closing (last_from (further_on first) (map further_on points)) (map (map further_on) parts) in
      ap (λ (count : ℕ). following closing count (parameters (further_on first) (map further_on points)) rest) (length-map points further_on)
      ∙ ap (λ (numbers : List ℕ). following closing (length points) numbers rest) (moved_parameters first points)
      ∙ ap (λ (last : Point). following closing (length points) (parameters first points) (paths closing last (map (map further_on) parts))) (moved_last first points)
      ∙ ap (following closing (length points) (parameters first points)) (moved_paths closing (last_from first points) parts)

  lines_begin : (first : Point) (points : List Point) (parts : List (List Point)) → IsInRange (with Lines ((first ∷ points) ∷ parts)) → Begins (with Lines ((first ∷ points) ∷ parts))
  lines_begin first points parts range = record {
    number = command 1 1;
    first = first;
    more = following [] (length points) (parameters first points) (paths [] (last_from first points) parts);
    spelled = refl;
    again = ap (λ (rest : List ℕ). command 1 1 ∷ zigzag ((first.x +ℤ dx) -ℤ pos 0) ∷ zigzag ((first.y +ℤ dy) -ℤ pos 0) ∷ rest) (following_again [] first points parts);
    along = range.short.0;
    down = range.short.1.0;
    short = λ along down. (along, (down, short_again first points parts range.short.1.1));
  }

  areas_begin : (first : Point) (points : List Point) (parts : List (List Point)) → IsInRange (with Areas ((first ∷ points) ∷ parts)) → Begins (with Areas ((first ∷ points) ∷ parts))
  areas_begin first points parts range = record {
    number = command 1 1;
    first = first;
    more = following (closing_of Areas) (length points) (parameters first points) (paths (closing_of Areas) (last_from first points) parts);
    spelled = refl;
    again = ap (λ (rest : List ℕ). command 1 1 ∷ zigzag ((first.x +ℤ dx) -ℤ pos 0) ∷ zigzag ((first.y +ℤ dy) -ℤ pos 0) ∷ rest) (following_again (closing_of Areas) first points parts);
    along = range.short.0;
    down = range.short.1.0;
    short = λ along down. (along, (down, short_again first points parts range.short.1.1));
  }

  begins : (kind : Kind) (parts : List (List Point)) → IsGeometry (with kind parts) → IsInRange (with kind parts) → Begins (with kind parts)
  begins Dots [] valid range = absurd (omega (arith, valid.counted))
  begins Dots ([] ∷ parts) valid range = absurd (omega (arith, valid.parts.0.enough))
  begins Dots ((first ∷ points) ∷ []) valid range = dots_begin first points range
  begins Dots ((first ∷ points) ∷ next ∷ parts) valid range = absurd (omega (arith, valid.counted))
  begins Lines [] valid range = absurd (omega (arith, valid.counted))
  begins Lines ([] ∷ parts) valid range = absurd (omega (arith, valid.parts.0.enough))
  begins Lines ((first ∷ points) ∷ parts) valid range = lines_begin first points parts range
  begins Areas [] valid range = absurd (omega (arith, valid.counted))
  begins Areas ([] ∷ parts) valid range = absurd (omega (arith, valid.parts.0.enough))
  begins Areas ((first ∷ points) ∷ parts) valid range = areas_begin first points parts range

  -- ---- the whole geometry

  repeats_again : (kind : Kind) (points : List Point) → repeats kind (map further_on points) ≡ repeats kind points
  repeats_again Dots points = length-map points further_on
  repeats_again Lines points = ap (λ (n : ℕ). n - 1) (length-map points further_on)
  repeats_again Areas points = ap (λ (n : ℕ). n - 1) (length-map points further_on)

  repeated_again : (kind : Kind) (parts : List (List Point)) → AllByRecursion (IsRepeated kind) parts → AllByRecursion (IsRepeated kind) (map (map further_on) parts)
  repeated_again kind [] all = tt
  repeated_again kind (part ∷ parts) all = (subst (λ (n : ℕ). n < 2 ^ 29) (sym (repeats_again kind part)) all.0, repeated_again kind parts all.1)

  parts_again : (kind : Kind) (parts : List (List Point)) → AllByRecursion (IsPart kind) parts → AllByRecursion (AllByRecursion IsPlaced) (map (map further_on) parts) → AllByRecursion (IsPart kind) (map (map further_on) parts)
  parts_again kind [] all placed = tt
  parts_again kind (part ∷ parts) all placed = (
    record { enough = subst (λ (n : ℕ). least_points kind ≤ n) (sym (length-map part further_on)) all.0.enough; placed = placed.0 },
    parts_again kind parts all.1 placed.1,
  )

  pub first_deltas : (kind : ℕ) (list : List ℕ) (g : Geometry) → HasGeometry kind list g → FirstDeltas list
  first_deltas kind list g h =
      let b = begins g.kind g.parts h.valid h.in_range in
      record {
        number = b.number;
        x = zigzag (b.first.x -ℤ pos 0);
        y = zigzag (b.first.y -ℤ pos 0);
        more = b.more;
        spelled = h.spelled ∙ b.spelled;
        along = subst IsDelta (sym (unzigzag-zigzag (b.first.x -ℤ pos 0))) b.along;
        down = subst IsDelta (sym (unzigzag-zigzag (b.first.y -ℤ pos 0))) b.down;
      }

  -- integers that can lead further have the geometry that is moved that far, where they are few enough
  pub has_moved : (kind : ℕ) (list : List ℕ) (g : Geometry) → HasGeometry kind list g → can_move_integers dx dy list ≡ true → length list * 2 ^ 31 ≤ 2 ^ 62 → HasGeometry kind (led dx dy list) (moved dx dy g)
  has_moved kind list g h can few =
      let b = begins g.kind g.parts h.valid h.in_range in
      let x : ℕ = zigzag (b.first.x -ℤ pos 0) in
      let y : ℕ = zigzag (b.first.y -ℤ pos 0) in
      let begun : list ≡ b.number ∷ x ∷ y ∷ b.more = h.spelled ∙ b.spelled in
      let both = and_parts (is_delta (further dx x)) (is_delta (further dy y)) (ap (can_move_integers dx dy) (sym begun) ∙ can) in
      let along : IsDelta ((b.first.x +ℤ dx) -ℤ pos 0) = subst IsDelta (sym (first_delta dx b.first.x)) (ltb-true (unsigned_abs (further dx x)) (2 ^ 31) both.0) in
      let down : IsDelta ((b.first.y +ℤ dy) -ℤ pos 0) = subst IsDelta (sym (first_delta dy b.first.y)) (ltb-true (unsigned_abs (further dy y)) (2 ^ 31) both.1) in
      let range : IsInRange (moved dx dy g) = record { short = b.short along down; repeated = repeated_again g.kind g.parts h.in_range.repeated } in
      let spelled : integers (moved dx dy g) ≡ led dx dy list =
      b.again
      ∙ ap (λ (delta : ℤ). b.number ∷ zigzag delta ∷ zigzag ((b.first.y +ℤ dy) -ℤ pos 0) ∷ b.more) (first_delta dx b.first.x)
      ∙ ap (λ (delta : ℤ). b.number ∷ zigzag (further dx x) ∷ zigzag delta ∷ b.more) (first_delta dy b.first.y)
      ∙ ap (led dx dy) (sym begun) in
      let most : ℕ = length (integers (moved dx dy g)) * 2 ^ 31 in
      let low : most ≤ 2 ^ 62 = omega (arith, few, ap length spelled, length-led dx dy list) in
      record {
        of_kind = h.of_kind;
        valid = record {
          counted = subst (IsPartCount g.kind) (sym (length-map g.parts (map further_on))) h.valid.counted;
          parts = parts_again g.kind g.parts h.valid.parts (placed_parts most (moved dx dy g).parts low (integers_reach (moved dx dy g) range));
        };
        in_range = range;
        spelled = sym spelled;
      }
