use Rattle.std.proofs.Common.{◌≡◌, ◌≤◌, ℕ, inl, inr, Bool, List, [], ◌∷◌, ◌++◌, length, map, Result, Ok, Err, sym, ap, ◌∙◌, rules, arith}
use Rattle.std.specs.List.{slice_split}
use Rattle.std.proofs.lemmas.List.{map_push, length_push}
use Rattle.std.proofs.lemmas.Iterator.Splits.{YieldsList-from_slice_split}
use Rattle.std.proofs.lemmas.Iterator.Consumers.{YieldsList-turn, YieldsList-end}
use Rattle.mvt_geometry.specs.declared.shapes.Point.{Point}
use Rattle.mvt_geometry.specs.declared.shapes.Part.{Part}
use Rattle.mvt_geometry.specs.Stands.{points_of}
use Rattle.tile_lines.specs.declared.words.Word.{Word}
use Rattle.tile_lines.specs.declared.parse_error.ParseError.{ParseError}
use Rattle.tile_lines.specs.WordStands.{word_of}
use Rattle.tile_arguments.specs.Arguments.{each, part_of, is_bar, parts_of}
use Rattle.tile_arguments.proofs.Each.{onto_next, onto_stops, onto_all, each-map, split-map}
use Rattle.tile_lines.specs.declared.parse_error.ParseError.TheVariants.{BadGeometryText}
use Rattle.tile_arguments.proofs.Judged.{only_refused, parts_only, parts_said}
use Rattle.tile_arguments.proofs.geometries.parts.Goals as goal

abbrev ends : Word → Bool
ends w = is_bar (word_of w)

abbrev groups : List Word → List (List Word)
groups words = slice_split ends words

abbrev read : List Word → Result (List Point) ParseError
read group = part_of (map word_of group)

-- the groups that are read are those of the plain words
plain_groups : (words : List Word) → each part_of (slice_split is_bar (map word_of words)) ≡ each read (groups words)
plain_groups words =
    ap (each part_of) (split-map is_bar word_of words) ∙ each-map part_of (map word_of) (groups words)

not_more : (n m : ℕ) → n ≡ m → m ≤ n
not_more n m e = omega (arith, e)

pub loop-group-preserved : goal.loop-group-preserved
loop-group-preserved c =
    let chain = YieldsList-from_slice_split _ ends c.args.words.now (cc) (cc) (cc) (λ x r q k. search rules) in
    let turn = YieldsList-turn chain c.loop-group.yielded _ c.loop-group.yielded_by _ _ c.in-Some.group c.in-Some.is c.next.ensures.steps in
    let parts : map points_of c.push.new.self.items ≡ map points_of c.loop-group.parts.items ++ points_of c.in_ok-part.field-0 ∷ [] = rw c.in_ok-push.ensures.items (map_push points_of c.loop-group.parts.items c.in_ok-part.field-0) in
    rw (parts, length_push c.loop-group.yielded c.in-Some.group) (onto_next read (groups c.args.words.now) (length c.loop-group.yielded) c.in-Some.group.now (map points_of c.loop-group.parts.items) (points_of c.in_ok-part.field-0) turn.0 (ap read (sym turn.1) ∙ c.in_ok-part.ensures.answer) c.loop-group.invariant)

pub returns-in_err-part-clause-answer : goal.returns-in_err-part-clause-answer
unfolding parts_of
returns-in_err-part-clause-answer c =
    let refused : c.from_residual.result ≡ Err c.in_err-part.field-0.0 = search rules in
    let chain = YieldsList-from_slice_split _ ends c.args.words.now (cc) (cc) (cc) (λ x r q k. search rules) in
    let turn = YieldsList-turn chain c.loop-group.yielded _ c.loop-group.yielded_by _ _ c.in-Some.group c.in-Some.is c.next.ensures.steps in
    rw refused (elim c.in_err-part.ensures.answer [
      | inl short_of_memory ↦ inl short_of_memory
      | inr e ↦ inr (plain_groups c.args.words.now ∙ onto_stops read (groups c.args.words.now) (length c.loop-group.yielded) c.in-Some.group.now (map points_of c.loop-group.parts.items) c.in_err-part.field-0.0 turn.0 (ap read (sym turn.1) ∙ e) c.loop-group.invariant)
    ])

pub returns-clause-answer : goal.returns-clause-answer
unfolding parts_of
returns-clause-answer c =
    let chain = YieldsList-from_slice_split _ ends c.args.words.now (cc) (cc) (cc) (λ x r q k. search rules) in
    let last = YieldsList-end chain c.loop-group.yielded _ c.loop-group.yielded_by _ _ c.in-None.is c.next.ensures.steps in
    plain_groups c.args.words.now
    ∙ onto_all read (groups c.args.words.now) (length c.loop-group.yielded) (map points_of c.loop-group.parts.items) (not_more (length c.loop-group.yielded) (length (groups c.args.words.now)) last.1) c.loop-group.invariant
    ∙ ap (λ (parts : List Part). Ok (map points_of parts)) (sym c.from_vec.ensures.items)

pub returns-then-not-are_points-clause-answer : goal.returns-then-not-are_points-clause-answer
returns-then-not-are_points-clause-answer c =
    inr (only_refused BadGeometryText (parts_of (map word_of c.args.words.now)) (parts_only (map word_of c.args.words.now)) (parts_said c.args.words.now ∙ sym c.are_points.ensures ∙ c.if-not-are_points.true))

pub returns-in_err-part-clause-no_memory : goal.returns-in_err-part-clause-no_memory
returns-in_err-part-clause-no_memory c = λ memory. parts_said c.args.words.now ∙ sym c.are_points.ensures ∙ c.if-not-are_points.false

pub returns-in_err-push-clause-no_memory : goal.returns-in_err-push-clause-no_memory
returns-in_err-push-clause-no_memory c = λ memory. parts_said c.args.words.now ∙ sym c.are_points.ensures ∙ c.if-not-are_points.false
