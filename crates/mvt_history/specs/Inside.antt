-- What contracts see of the fields of a session as a whole.
use Rattle.std.specs.Prelude.{option_map}
use Rattle.mvt_history_steps.specs.Standing.{Standing}
use Rattle.mvt_history_steps.specs.Held.{standing_of, IsHeld}
use Rattle.mvt_history.specs.declared.session.Session.TheInside.{Inside}

-- what contracts see of the fields of a session, taken together
abbrev pub seen_in : Inside → Standing
seen_in session = standing_of session.document session.undo.items session.redo.items session.depth session.marks.items (option_map (λ pending. pending.items) session.pending)

-- what the fields of a session keep (`IsHeld`), taken together
abbrev pub IsHeldIn : Inside → Type 0
IsHeldIn session = IsHeld session.undo.capacity session.redo.capacity (seen_in session)
