-- The values of the numbers that are read of a message.
use Rattle.std.proofs.Common.{◌≡◌, ℕ, Option, Some, None, option_map, List, map, refl, sym, ap, ◌∙◌}
use Rattle.std.proofs.lemmas.Simd.{map-map}
use Rattle.mvt_document.specs.Plain.{Number, Field}
use Rattle.mvt_renumber.specs.Laws.{read_numbers}
use Rattle.mvt_messages.specs.Numbers.{Placed, all_good, numbers}
use Rattle.mvt_messages.specs.Attributes.{values_in}

abbrev pub value_list : List Number → List ℕ
value_list list = map (λ (n : Number). n.value) list

values_read : (good : Option (List Placed)) → option_map (map (λ (p : Placed). p.number.value)) good ≡ option_map value_list (option_map (map (λ (p : Placed). p.number)) good)
values_read None = refl
values_read (Some placed) = ap Some (sym (map-map (λ (n : Number). n.value) (λ (p : Placed). p.number) placed))

-- the values are those of the numbers
pub values_of_read : (number : ℕ) (fields : List Field) (list : List Number) → read_numbers number fields ≡ Some list → values_in (numbers number fields) ≡ Some (value_list list)
values_of_read number fields list read = values_read (all_good (numbers number fields)) ∙ ap (option_map value_list) read

-- the numbers whose values these are
pub record NumbersRead (number : ℕ) (fields : List Field) (values : List ℕ) : Type 0 where
  pub list : List Number
  pub read : read_numbers number fields ≡ Some list
  pub are : value_list list ≡ values

mapped_some : (found : Option (List Number)) (values : List ℕ) → option_map value_list found ≡ Some values → (list : List Number) × (found ≡ Some list) × (value_list list ≡ values)
mapped_some None values e = absurd cc
mapped_some (Some list) values e = let same : value_list list ≡ values = cc in (list, refl, same)

pub numbers_of_values : (number : ℕ) (fields : List Field) (values : List ℕ) → values_in (numbers number fields) ≡ Some values → NumbersRead number fields values
numbers_of_values number fields values e =
    let m = mapped_some (read_numbers number fields) values (sym (values_read (all_good (numbers number fields))) ∙ e) in
    record { list = m.0; read = m.1; are = m.2 }
