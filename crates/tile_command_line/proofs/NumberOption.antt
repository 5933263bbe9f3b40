-- What a parse returns for an option that takes a number and has a default.
use Rattle.std.proofs.Common.{zero, suc, ◌≡◌, ◌∙◌, ◌++◌, ◌||◌, ◌==◌, ◌<◌, ◌≤◌, ap, subst, sym, refl, cond, drop, ℕ, Bool, true, false, List, [], ◌∷◌, length, is_some, Option, Some, None, inl, inr, arith, length-append}
use Rattle.std.specs.Borrow.{Bor}
use Rattle.std.specs.List.{All, slice_index_or}
use Rattle.std.specs.Prelude.{find, option_map, slice_get, unwrap_or, pos}
use Rattle.std.specs.Str.{bytes_eq}
use Rattle.std.specs.Str.Parse.{IsNumeral, digits_value, starts_with_minus, without_leading_plus}
use Rattle.std.proofs.lemmas.Int.{ints}
use Rattle.std.proofs.lemmas.Bool.{cases_lt}
use Rattle.std.proofs.lemmas.List.Elements.{All-get_or, All-nil, All-push}
use Rattle.std.proofs.lemmas.Slice.Eq.{bytes_eq-Decides}
use Rattle.std.proofs.Math.Seq.{get_or-append_seam}
use Rattle.std.proofs.lemmas.List.{get_or_append_left}
use Rattle.clap.specs.Built.{AddsArg, IsAuto, IsParsedFrom, IsPlain, IsPlainArg, SameRules}
use Rattle.clap.specs.Facts.{args_of, groups_of, Entry, EntryPasses, HasId, PassesArg, WantsDefault, parser_of, parser_of_value}
use Rattle.clap.specs.Lexer.{without_minus}
use Rattle.clap.specs.Matches.{found_of, matched_of, one_text}
use Rattle.clap.specs.Values.{Accepts, IsSignedIn, read_as, reading_of}
use Rattle.clap.specs.declared.builder.action.ArgAction.TheVariants.{Count, Set}
use Rattle.clap.specs.declared.builder.arg.Arg.{Arg}
use Rattle.clap.specs.declared.builder.command.Command.{Command}
use Rattle.clap.specs.declared.builder.command.Command.TheViews.{out-Command}
use Rattle.clap.specs.declared.builder.value_parser.Reading.{Reading}
use Rattle.clap.specs.declared.builder.value_parser.ValueParser.{ValueParser}
use Rattle.clap.specs.declared.parser.matches.ArgMatches.{ArgMatches}
use Rattle.clap.specs.declared.parser.matches.Found.{Found}
use Rattle.clap.specs.declared.parser.matches.MatchedArg.{MatchedArg}
use Rattle.tile_command_line.specs.Defaulted.{Awaits, IsDefaulted}
use Rattle.clap.proofs.CallerLemmas.{added_plain, default_present, entry_by_id, same_rules_by_id}
use Rattle.clap.proofs.BuiltLemmas.{plain_same}

-- ---- a command on its way to an option

pub awaits_begun : (id : List ℕ) (command : Command) → args_of command ≡ [] → groups_of command ≡ [] → (out-Command command).has_globals ≡ false → Awaits id command
awaits_begun id command args groups local = record {
  plain = (subst (All IsPlainArg) (sym args) (All-nil IsPlainArg), groups);
  local = local;
  free = subst (All (λ (a : Arg). a.id.now ≡ id → ⊥)) (sym args) (All-nil (λ (a : Arg). a.id.now ≡ id → ⊥));
}

no_globals : (old new : Command) (a : Arg) → AddsArg old a new → (out-Command old).has_globals ≡ false → a.global ≡ false → (out-Command new).has_globals ≡ false
no_globals old new a added local of_arg = added.globals ∙ (ap (λ (b : Bool). b || a.global) local ∙ ap (λ (b : Bool). false || b) of_arg)

pub awaits_more : (id : List ℕ) (old new : Command) (a : Arg) → AddsArg old a new → IsPlainArg a → a.global ≡ false → (a.id.now ≡ id → ⊥)
    → Awaits id old → Awaits id new
awaits_more id old new a added plain local other awaits = record {
  plain = added_plain old new a added awaits.plain plain;
  local = no_globals old new a added awaits.local local;
  free = subst (All (λ (x : Arg). x.id.now ≡ id → ⊥)) (sym added.args)
      (All-push (λ (x : Arg). x.id.now ≡ id → ⊥) (args_of old) added.arg awaits.free (λ same. other (sym (ap (λ (b : Bor (List ℕ)). b.now) added.rules.id) ∙ same)));
}

-- ---- an option that takes one value, as the parser says, and has a default

-- the entry of an id
has_entry : (xs : List Entry) (id : List ℕ) (i : ℕ) → i < length xs → ((d : Entry) → bytes_eq (slice_index_or xs i d).0.now id ≡ true)
    → is_some (option_map (λ (e : Entry). e.1) (find (λ (e : Entry). bytes_eq e.0.now id) xs)) ≡ true
has_entry [] id i low at = absurd (omega arith)
has_entry (x ∷ xs) id i low at = by_first (bytes_eq x.0.now id) refl i low at (λ n less same. has_entry xs id n less same)
  where
    by_first : (t : Bool) → bytes_eq x.0.now id ≡ t → (i : ℕ) → i < length (x ∷ xs) → ((d : Entry) → bytes_eq (slice_index_or (x ∷ xs) i d).0.now id ≡ true)
        → ((n : ℕ) → n < length xs → ((d : Entry) → bytes_eq (slice_index_or xs n d).0.now id ≡ true) → is_some (option_map (λ (e : Entry). e.1) (find (λ (e : Entry). bytes_eq e.0.now id) xs)) ≡ true)
        → is_some (option_map (λ (e : Entry). e.1) (find (λ (e : Entry). bytes_eq e.0.now id) (x ∷ xs))) ≡ true
    by_first true is i low at rest = rw is refl
    by_first false is zero low at rest = let yes : bytes_eq x.0.now id ≡ true = at x in absurd cc
    by_first false is (suc n) low at rest = rw is (rest n (omega arith) at)

-- the first of some values, each of which passes
first_of_values : (P : Bor (List ℕ) → Type 0) (how : Reading) (values : List (Bor (List ℕ))) → All P values → 0 < length values
    → (v : Bor (List ℕ)) × (option_map (λ (s : Bor (List ℕ)). read_as how s.now) (slice_get values 0) ≡ Some (read_as how v.now)) × P v
first_of_values P how [] all some = absurd (omega arith)
first_of_values P how (v ∷ values) all some = (v, refl, All-get_or P (v ∷ values) 0 v (omega arith) all)

text_of_entry : (found : Found) (id : List ℕ) (x : MatchedArg) (how : Reading) (text : List ℕ) → matched_of found id ≡ Some x → x.reading ≡ how
    → option_map (λ (s : Bor (List ℕ)). read_as how s.now) (slice_get x.vals.items 0) ≡ Some text → one_text found id ≡ Some text
text_of_entry found id x how text is reading first = rw (is, reading) first

module _ (command : Command) (matches : ArgMatches) (p : IsParsedFrom command matches) (plain : IsPlain command) (local : (out-Command command).has_globals ≡ false)
    (k : ℕ) (option : Arg) (parser : ValueParser) (low : k < length (args_of command)) (at : (d : Arg) → slice_index_or (args_of command) k d ≡ option)
    (only : (j : ℕ) (e : Arg) → j < length (args_of command) → bytes_eq (slice_index_or (args_of command) j e).id.now option.id.now ≡ true → j ≡ k)
    (is : IsDefaulted option parser) where
  -- an argument of the built command with the id is the option
  same_rules : (j : ℕ) (x : Arg) → j < length (args_of p.built) → slice_index_or (args_of p.built) j x ≡ x → bytes_eq x.id.now option.id.now ≡ true → SameRules option x
  same_rules j x high there same =
      subst (λ (a : Arg). SameRules a x) (at option)
      (same_rules_by_id command matches p k option low
      (λ i e less s. only i e less (subst (λ (a : Arg). bytes_eq (slice_index_or (args_of command) i e).id.now a.id.now ≡ true) (at option) s))
      (λ auto. is.own (subst IsAuto (at option) auto)) j x high there
      (subst (λ (a : Arg). bytes_eq x.id.now a.id.now ≡ true) (sym (at option)) same))

  not_group : (e : Entry) → e.0.now ≡ option.id.now → EntryPasses p.built e → e.1.is_group ≡ true → ⊥
  not_group e key passes group =
      let none : groups_of p.built ≡ [] = (p.from.plain plain).1 in
      elim (passes.3 group) [
        | inl empty ↦ is.named (sym key ∙ empty)
        | inr some ↦
            let no : 0 < 0 = rw none at some in
            absurd (omega arith)
      ]

  has_value : (e : Entry) → e.0.now ≡ option.id.now → EntryPasses p.built e → 0 < length e.1.vals.items
  has_value e key passes = elim passes.1 [
    | inl group ↦ absurd (not_group e key passes group.0)
    | inr (inl some) ↦ some
    | inr (inr (inl counted)) ↦
        let any = counted.1 in
        let rules = same_rules any.0 any.1 any.2 any.3 (rw key at any.4.0) in
        let set : any.1.action ≡ Some Set = rules.action Set is.action in
        let no : Set ≡ Count = rw set at any.4.1 in
        absurd cc
    | inr (inr (inr none)) ↦
        let rules = same_rules none.0 none.1 none.2 none.3 (rw key at none.4.0) in
        elim none.4.1 [
          | inl nought ↦
              let one = rules.least is.action is.least in
              absurd (omega arith)
          | inr some ↦
              let no : false ≡ true = rw (rules.val_delim, is.delimiter) at some in
              absurd cc
        ]
  ]

  is_accepted : (e : Entry) → e.0.now ≡ option.id.now → (v : Bor (List ℕ)) → PassesArg p.built e.0.now v.now → Accepts option.ignore_case parser v.now
  is_accepted e key v any =
      let rules = same_rules any.0 any.1 any.2 any.3 (rw key at any.4.0) in
      let is_parser : parser_of any.1 ≡ parser = ap parser_of_value (rules.parser parser is.value) in
      subst (λ (b : Bool). Accepts b parser v.now) rules.ignore_case (subst (λ (q : ValueParser). Accepts any.1.ignore_case q v.now) is_parser any.4.1)

  is_read : (e : Entry) → e.0.now ≡ option.id.now → EntryPasses p.built e → e.1.reading ≡ reading_of parser
  is_read e key passes = elim passes.4 [
    | inl group ↦ absurd (not_group e key passes group)
    | inr any ↦
        let rules = same_rules any.0 any.1 any.2 any.3 (rw key at any.4.0) in
        let is_parser : parser_of any.1 ≡ parser = ap parser_of_value (rules.parser parser is.value) in
        sym any.4.1 ∙ ap reading_of is_parser
  ]

  accepted_values : (e : Entry) → e.0.now ≡ option.id.now → EntryPasses p.built e → All (λ (v : Bor (List ℕ)). Accepts option.ignore_case parser v.now) e.1.vals.items
  accepted_values e key passes = elim passes.0 [
    | inl group ↦ absurd (not_group e key passes group)
    | inr all ↦ λ i d less. is_accepted e key (slice_index_or e.1.vals.items i d) (all i d less)
  ]

  of_entry : (x : MatchedArg) → matched_of (found_of matches) option.id.now ≡ Some x → (e : Entry) → e.1 ≡ x → e.0.now ≡ option.id.now → EntryPasses p.built e
      → (text : List ℕ) × (one_text (found_of matches) option.id.now ≡ Some (read_as (reading_of parser) text)) × Accepts option.ignore_case parser text
  of_entry x matched e same key passes =
      let first = first_of_values (λ (v : Bor (List ℕ)). Accepts option.ignore_case parser v.now) (reading_of parser) e.1.vals.items (accepted_values e key passes) (has_value e key passes) in (
        first.0.now,
        text_of_entry (found_of matches) option.id.now e.1 (reading_of parser) (read_as (reading_of parser) first.0.now) (matched ∙ ap (λ (y : MatchedArg). Some y) (sym same)) (is_read e key passes) first.1,
        first.2,
      )

  -- it has a text, which its parser let through and says how to read
  option_text : (text : List ℕ) × (one_text (found_of matches) option.id.now ≡ Some (read_as (reading_of parser) text)) × Accepts option.ignore_case parser text
  option_text =
      let parsed = p.parsed (p.from.globals ∙ local) in
      let there : HasId (found_of matches) option.id.now =
      subst (λ (a : Arg). HasId (found_of matches) a.id.now) (at option) (default_present command matches p local k option low (subst WantsDefault (sym (at option)) is.default)) in
      by_entry (matched_of (found_of matches) option.id.now) refl (has_entry (found_of matches).entries.items option.id.now there.0 there.1 there.2)
    where
      by_entry : (o : Option MatchedArg) → matched_of (found_of matches) option.id.now ≡ o → is_some (matched_of (found_of matches) option.id.now) ≡ true
          → (text : List ℕ) × (one_text (found_of matches) option.id.now ≡ Some (read_as (reading_of parser) text)) × Accepts option.ignore_case parser text
      by_entry None none some = let no : false ≡ true = rw none at some in absurd cc
      by_entry (Some x) matched some =
          let parsed = p.parsed (p.from.globals ∙ local) in
          let got = entry_by_id (EntryPasses p.built) (found_of matches).entries.items option.id.now x parsed.values matched in
          of_entry x matched got.0 got.1 ((bytes_eq-Decides got.0.0.now option.id.now).0 got.2) got.3

-- ---- the last option of a command

defaulted_too : (a b : Arg) (parser : ValueParser) → SameRules a b → IsDefaulted a parser → IsDefaulted b parser
defaulted_too a b parser same is = record {
  plain = plain_same a b same is.plain;
  local = same.global ∙ is.local;
  default = (same.ifs ∙ is.default.0, rw (same.defaults is.default.1) is.default.1);
  action = same.action Set is.action;
  delimiter = same.val_delim ∙ is.delimiter;
  least = same.least is.action is.least;
  named = λ empty. is.named (sym (ap (λ (id : Bor (List ℕ)). id.now) same.id) ∙ empty);
  own = λ auto. is.own (rw (ap (λ (id : Bor (List ℕ)). id.now) same.id) at auto);
  value = same.parser parser is.value;
}

-- the place after a list is the only one whose argument has an id that none of the list has
only_last : (xs : List Arg) (x : Arg) → All (λ (a : Arg). a.id.now ≡ x.id.now → ⊥) xs
    → (j : ℕ) (e : Arg) → j < length (xs ++ x ∷ []) → bytes_eq (slice_index_or (xs ++ x ∷ []) j e).id.now x.id.now ≡ true → j ≡ length xs
only_last xs x free j e low same = elim (cases_lt j (length xs)) [
  | inl under ↦
      let there : slice_index_or (xs ++ x ∷ []) j e ≡ slice_index_or xs j e = get_or_append_left xs (x ∷ []) e j under in
      absurd (free j e under ((bytes_eq-Decides (slice_index_or xs j e).id.now x.id.now).0 (rw there at same)))
  | inr over ↦ omega (arith, length-append xs (x ∷ []))
]

pub last_option_text : (old new : Command) (a : Arg) (matches : ArgMatches) (parser : ValueParser) → AddsArg old a new → Awaits a.id.now old → IsDefaulted a parser → IsParsedFrom new matches
    → (text : List ℕ) × (one_text (found_of matches) a.id.now ≡ Some (read_as (reading_of parser) text)) × Accepts a.ignore_case parser text
last_option_text old new a matches parser added awaits is p =
    let xs = args_of old in
    let x = added.arg in
    let id : x.id.now ≡ a.id.now = ap (λ (b : Bor (List ℕ)). b.now) added.rules.id in
    let too = defaulted_too a x parser added.rules is in
    let free : All (λ (y : Arg). y.id.now ≡ x.id.now → ⊥) xs = rw id awaits.free in
    let got = option_text new matches p (added_plain old new a added awaits.plain is.plain) (no_globals old new a added awaits.local is.local) (length xs) x parser
    (omega (arith, ap length added.args, length-append xs (x ∷ [])))
    (λ d. ap (λ (l : List Arg). slice_index_or l (length xs) d) added.args ∙ get_or-append_seam xs x [] d)
    (λ j e low same. only_last xs x free j e (subst (λ (l : List Arg). j < length l) added.args low) (subst (λ (l : List Arg). bytes_eq (slice_index_or l j e).id.now x.id.now ≡ true) added.args same))
    too in (
      got.0,
      subst (λ (w : List ℕ). one_text (found_of matches) w ≡ Some (read_as (reading_of parser) got.0)) id got.1,
      subst (λ (b : Bool). Accepts b parser got.0) added.rules.ignore_case got.2,
    )

-- ---- a number that a range of numbers above 0 let through

without_minus_is : (text : List ℕ) → without_minus text ≡ cond (starts_with_minus text) (drop 1 text) text
without_minus_is [] = refl
without_minus_is (x ∷ xs) = by_first (x == 45)
  where
    by_first : (b : Bool) → unwrap_or (cond b (Some xs) None) (x ∷ xs) ≡ cond b xs (x ∷ xs)
    by_first true = refl
    by_first false = refl

pub in_range : (low high : ℕ) (text : List ℕ) → 1 ≤ low → IsSignedIn (pos low) (pos high) text
    → IsNumeral 10 (without_leading_plus (without_minus text)) × (low ≤ digits_value 10 (without_leading_plus (without_minus text))) × (digits_value 10 (without_leading_plus (without_minus text)) ≤ high)
in_range low high text some passed = rw (without_minus_is text) (by_minus (starts_with_minus text) refl)
  where
    by_minus : (b : Bool) → starts_with_minus text ≡ b
        → IsNumeral 10 (without_leading_plus (cond (starts_with_minus text) (drop 1 text) text)) × (low ≤ digits_value 10 (without_leading_plus (cond (starts_with_minus text) (drop 1 text) text))) × (digits_value 10 (without_leading_plus (cond (starts_with_minus text) (drop 1 text) text)) ≤ high)
    by_minus true minus = let above = rw minus at passed.2 in let no : ⊥ = omega (arith, ints) in absurd no
    by_minus false minus =
        let above = rw minus at passed.2 in
        let below = rw minus at passed.3 in
        rw minus (rw minus at passed.0, omega (arith, ints), omega (arith, ints))
