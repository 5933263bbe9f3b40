-- A `back` or a `cancel` that was stopped, asked again, leads where it would have led.
use Rattle.std.proofs.Common.{◌≡◌, ℕ, ◌-◌, Some, None, Ok, Err, List, length, take, is_some, if◌then◌else◌, refl, ap, ◌∙◌}
use Rattle.mvt_meaning.specs.Command.{Command}
use Rattle.mvt_history_steps.specs.Marks.{point_of}
use Rattle.mvt_history_steps.specs.History.{History, at_point, with_group, unless_open, gone_to, gone_back, cancelled}
use Rattle.run_laws.specs.HistoryLaws.{StoppedGoesOn}
use Rattle.mvt_history_steps.specs.declared.error.HistoryError.TheVariants.{NoGroup}

goes_to_mark : (name : List ℕ) (point : ℕ) (history : History) → history.group ≡ None → point_of name history.marks ≡ Some point → gone_back name history ≡ Ok (at_point point history)
goes_to_mark name point history alone marks =
    ap (λ group. unless_open group (gone_to (point_of name history.marks) history)) alone ∙ ap (λ found. gone_to found history) marks

leaves_step : (commands : List Command) (history : History) → history.group ≡ Some commands → cancelled history ≡ Ok (with_group None history)
leaves_step commands history is_open = ap (λ group. if is_some group then Ok (with_group None history) else Err NoGroup) is_open

pub stopped_goes_on : StoppedGoesOn
stopped_goes_on = (
  λ name taken history between stops.
      let point = stops.to in (
        at_point point history,
        goes_to_mark name point history stops.is_closed stops.marked,
        ap (gone_back name) stops.stands ∙ goes_to_mark name point (at_point stops.at history) stops.is_closed stops.marked,
      ),
  λ taken history between stops.
      let left = take (length stops.commands - taken) stops.commands in (
        with_group None history,
        leaves_step stops.commands history stops.is_open,
        ap cancelled stops.stands ∙ leaves_step left (with_group (Some left) history) refl,
      ),
)
