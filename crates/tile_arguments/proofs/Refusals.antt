-- No argument is refused as out of memory by its definition.
use Rattle.std.proofs.Common.{◌≡◌, ◌≢◌, ℕ, List, [], ◌∷◌, Option, Some, None, Result, Ok, Err, refl, subst}
use Rattle.std.specs.Prelude.{codes, ok_or}
use Rattle.std.specs.List.{find}
use Rattle.std.specs.Str.{bytes_eq}
use Rattle.mvt_geometry.specs.declared.shapes.Point.{Point}
use Rattle.mvt_geometry.specs.declared.shapes.Kind.{Kind}
use Rattle.mvt_meaning.specs.Command.{AtOrdinal, Named, EachLayer, FeatureAtOrdinal, WithId}
use Rattle.tile_lines.specs.Words.{Word, Bare, Quoted}
use Rattle.tile_lines.specs.Answers.{◌>>=◌}
use Rattle.tile_lines.specs.declared.parse_error.ParseError.{ParseError}
use Rattle.tile_lines.specs.declared.parse_error.ParseError.TheVariants as parse
use Rattle.mvt_meaning.proofs.Others.{Other, either}
use Rattle.tile_arguments.proofs.Judged.{only_other, texts_only, parts_only}
use Rattle.tile_arguments.specs.Arguments.{after_mark, is_number, number_of, number_in, delta_of, distance_of, text_in, text_of, texts_of, layer_by, layer_of, is_star, layers_of, feature_by, feature_of, parts_of, kinds, kind_word, kind_of, are_parts, shaped, geometry_of, value_in, value_of}

pub then_other : {A B : Type 0} (r : Result A ParseError) (f : A → Result B ParseError) → Other parse.NoMemory r → ((x : A) → Other parse.NoMemory (f x)) → Other parse.NoMemory (r >>= f)
then_other (Ok x) f first second = second x
then_other (Err e) f first second = first

pub ok_or_other : {A : Type 0} (o : Option A) (refusal : ParseError) → refusal ≢ parse.NoMemory → Other parse.NoMemory (ok_or o refusal)
ok_or_other None refusal other = other
ok_or_other (Some x) refusal other = tt

pub never_memory : {A : Type 0} (r : Result A ParseError) → Other parse.NoMemory r → r ≡ Err parse.NoMemory → ⊥
never_memory r other e = let refused = subst (Other parse.NoMemory) e other in refused refl

pub number_other : (bytes : List ℕ) → Other parse.NoMemory (number_of bytes)
unfolding number_of
number_other bytes = either parse.NoMemory (is_number bytes) _ _ tt (λ e. cc)

pub text_other : (word : Word) → Other parse.NoMemory (text_of word)
unfolding text_of
text_other word = ok_or_other (text_in word) parse.BadArguments (λ e. cc)

layer_by_other : (marked : Option (List ℕ)) (word : Word) → Other parse.NoMemory (layer_by marked word)
layer_by_other (Some digits) word = then_other (number_of digits) (λ n. Ok (AtOrdinal n)) (number_other digits) (λ n. tt)
layer_by_other None word = then_other (text_of word) (λ name. Ok (Named name)) (text_other word) (λ name. tt)

pub layer_other : (word : Word) → Other parse.NoMemory (layer_of word)
unfolding layer_of
layer_other (Quoted text) = layer_by_other None (Quoted text)
layer_other (Bare bytes) = layer_by_other (after_mark (codes "#") bytes) (Bare bytes)

pub layers_other : (word : Word) → Other parse.NoMemory (layers_of word)
unfolding layers_of
layers_other word = either parse.NoMemory (is_star word) (Ok EachLayer) _ tt (then_other (layer_of word) _ (layer_other word) (λ choice. tt))

feature_by_other : (marked : Option (List ℕ)) (bytes : List ℕ) → Other parse.NoMemory (feature_by marked bytes)
feature_by_other (Some digits) bytes = then_other (number_of digits) (λ id. Ok (WithId id)) (number_other digits) (λ id. tt)
feature_by_other None bytes = then_other (number_of bytes) (λ n. Ok (FeatureAtOrdinal n)) (number_other bytes) (λ n. tt)

pub feature_other : (word : Word) → Other parse.NoMemory (feature_of word)
unfolding feature_of
feature_other (Quoted text) = λ e. cc
feature_other (Bare bytes) = feature_by_other (after_mark (codes "@") bytes) bytes

pub number_in_other : (word : Word) → Other parse.NoMemory (number_in word)
unfolding number_in
number_in_other (Bare digits) = number_other digits
number_in_other (Quoted text) = λ e. cc

pub distance_other : (word : Word) → Other parse.NoMemory (distance_of word)
unfolding distance_of
distance_other (Bare bytes) = ok_or_other (delta_of bytes) parse.BadNumber (λ e. cc)
distance_other (Quoted text) = λ e. cc

pub value_other : (name word : Word) → Other parse.NoMemory (value_of name word)
unfolding value_of
value_other (Quoted text) word = λ e. cc
value_other (Bare name) word = ok_or_other (value_in name word) parse.BadValue (λ e. cc)

-- ---- several arguments

pub texts_other : (words : List Word) → Other parse.NoMemory (texts_of words)
texts_other words = only_other parse.BadArguments (texts_of words) (λ e. cc) (texts_only words)

-- ---- geometries

pub kind_other : (name : List ℕ) → Other parse.NoMemory (kind_of name)
unfolding kind_of
kind_other name = ok_or_other (find (λ kind. bytes_eq name (kind_word kind)) kinds) parse.BadGeometryText (λ e. cc)

shaped_other : (kind : Kind) (parts : List (List Point)) → Other parse.NoMemory (shaped kind parts)
unfolding shaped
shaped_other kind parts = either parse.NoMemory (are_parts kind parts) _ _ tt (λ e. cc)

pub geometry_other : (words : List Word) → Other parse.NoMemory (geometry_of words)
unfolding geometry_of
geometry_other [] = λ e. cc
geometry_other (Quoted text ∷ words) = λ e. cc
geometry_other (Bare name ∷ words) =
    then_other (kind_of name) _ (kind_other name) (λ kind. then_other (parts_of words) _ (only_other parse.BadGeometryText (parts_of words) (λ e. cc) (parts_only words)) (λ parts. shaped_other kind parts))
