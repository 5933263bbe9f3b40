-- Splices of one list, one after the other: what they make of it, when they fit, and what leads back. `splice_of` is
-- the splice that a step is.
use Rattle.std.specs.Prelude.{◌≡◌, ℕ, ◌+◌, ◌-◌, ◌≤◌, max, List, [], ◌∷◌, length, take, drop, Result, IfOk, OnErr}
use Rattle.std.specs.List.{AllByRecursion, AllZip}
use Rattle.mvt_document.specs.Held.{Held}
use Rattle.mvt_document.specs.Splicing.{part, splice}

-- a splice of a list: how many items from which index are taken out, and the held items that go in their place
pub record Splice (T : Type 0) : Type 0 where
  pub index : ℕ
  pub taken : ℕ
  pub put : Held T

-- the list after a splice
abbrev pub spliced : {T : Type 0} → Splice T → List T → List T
spliced s items = splice s.index s.taken s.put.items items

-- the length of a list of `n` items after a splice
abbrev pub spliced_length : {T : Type 0} → Splice T → ℕ → ℕ
spliced_length s n = n - s.taken + length s.put.items

-- the splice that leads back from what a splice makes of these items; its own list has the items that are taken out
abbrev pub splice_back : {T : Type 0} → Splice T → List T → Splice T
splice_back s items = record { index = s.index; taken = length s.put.items; put = record { items = part s.index s.taken items; room = length s.put.items + s.put.room - s.taken } }

-- the items that are taken out find room where those that are put were, without growing
abbrev pub FindsRoom : {T : Type 0} → Splice T → Type 0
FindsRoom s = s.taken ≤ length s.put.items + s.put.room

-- `t` is the same splice as `s`, with at least as much room
pub record IsRoomier {T : Type 0} (s t : Splice T) : Type 0 where
  pub index : t.index ≡ s.index
  pub taken : t.taken ≡ s.taken
  pub items : t.put.items ≡ s.put.items
  pub room : s.put.room ≤ t.put.room

module _ {S T : Type 0} (splice_of : S → Splice T) where
  -- the list after all steps, one after the other
  abbrev pub after_all : List S → List T → List T
  after_all [] items = items
  after_all (s ∷ steps) items = after_all steps (spliced (splice_of s) items)

  -- each step takes out items that are there, in a list that has `n` items before the first
  abbrev pub FitAll : List S → ℕ → Type 0
  FitAll [] n = Unit {0}
  FitAll (s ∷ steps) n = ((splice_of s).index + (splice_of s).taken ≤ n) × FitAll steps (spliced_length (splice_of s) n)

  -- the greatest length of the list on the way, `n` items before the first step
  abbrev pub longest : List S → ℕ → ℕ
  longest [] n = n
  longest (s ∷ steps) n = max n (longest steps (spliced_length (splice_of s) n))

  -- each step turned into the one that leads back, on the list that it meets, in the same order
  abbrev pub turned_all : (S → List T → S) → List S → List T → List S
  turned_all turned [] items = []
  turned_all turned (s ∷ steps) items = turned s items ∷ turned_all turned steps (spliced (splice_of s) items)

-- ---- steps that begin on one list, and may continue on others; `on` says that a step is on the list

module _ {S : Type 0} (on : S → Type 0) where
  -- for as long as the steps are on the list, each takes out items that are there, in a list that has `n` items before
  -- the first
  abbrev pub FitRun : {T : Type 0} → (S → Splice T) → List S → ℕ → Type 0
  FitRun splice_of [] n = Unit {0}
  FitRun splice_of (s ∷ steps) n = on s → ((splice_of s).index + (splice_of s).taken ≤ n) × FitRun splice_of steps (spliced_length (splice_of s) n)

  -- the first of the steps, if there is one, is not on the list
  abbrev pub StartElsewhere : List S → Type 0
  StartElsewhere [] = Unit {0}
  StartElsewhere (s ∷ steps) = on s → ⊥

-- the steps and the list are the same, with at least as much room
pub record OnlyMakesRoom {S T : Type 0} (roomier : S → S → Type 0) (steps new : List S) (list made : Held T) : Type 0 where
  pub items : made.items ≡ list.items
  pub room : length list.items + list.room ≤ length made.items + made.room
  pub are_roomier : AllZip roomier steps new

module _ {S T : Type 0} (on : S → Type 0) (splice_of : S → Splice T) (turned : S → List T → S) (roomier : S → S → Type 0) where
  -- the first `n` of the steps are carried out on the list, and each is turned: all these are on the list, which has
  -- the room for its greatest length on the way, and each of them had the room for what it takes out; the others are as
  -- they were
  pub record AreCarriedOut (n : ℕ) (steps new : List S) (list made : Held T) : Type 0 where
    pub within : n ≤ length steps
    pub run : AllByRecursion on (take n steps)
    pub items : made.items ≡ after_all splice_of (take n steps) list.items
    pub room : length list.items + list.room ≤ length made.items + made.room
    pub greatest : longest splice_of (take n steps) (length list.items) ≤ length made.items + made.room
    pub are_turned : (roomy : List S) × AllZip roomier (take n steps) roomy × AllByRecursion (λ s. FindsRoom (splice_of s)) roomy × (take n new ≡ turned_all splice_of turned roomy list.items)
    pub left : drop n new ≡ drop n steps

  -- the first steps are carried out, for as long as they are on the list; or memory ran out, and only room has changed
  pub record CarriesOut {E : Type 0} (result : Result ℕ E) (steps new : List S) (list made : Held T) : Type 0 where
    pub first : IfOk result (λ n. AreCarriedOut n steps new list made)
    pub ends : IfOk result (λ n. StartElsewhere on (drop n steps))
    pub refused : OnErr result (OnlyMakesRoom roomier steps new list made)

-- the steps are `first` turned, each on the list that it met, and the list is what `first` made of the items, with the
-- room for the way back
pub record LeadBack {S T : Type 0} (splice_of : S → Splice T) (turned : S → List T → S) (steps : List S) (list : Held T) (first : List S) (items : List T) : Type 0 where
  pub fit : FitAll splice_of first (length items)
  pub find_room : AllByRecursion (λ s. FindsRoom (splice_of s)) first
  pub are_turned : steps ≡ turned_all splice_of turned first items
  pub made : list.items ≡ after_all splice_of first items
  pub greatest : longest splice_of first (length items) ≤ length list.items + list.room
