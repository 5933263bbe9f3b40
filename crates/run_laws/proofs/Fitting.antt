-- In a run on a document that a file can hold, a file can hold all documents of the history.
use Rattle.std.proofs.Common.{ℕ, ◌-◌, List, length, take, Option, Some, refl, sym, subst}
use Rattle.std.specs.List.{AllByRecursion}
use Rattle.mvt_document.specs.Plain.{Document}
use Rattle.mvt_document.proofs.EachItem.{all_taken}
use Rattle.mvt_meaning.specs.Command.{Command, IsCommand}
use Rattle.mvt_meaning.specs.Requests.{GoBack, Cancel}
use Rattle.mvt_history_steps.specs.History.{History, begun, commands_in}
use Rattle.run_laws.specs.HistoryLaws.{FitsAFile}
use Rattle.run_laws.proofs.Throughout.{IsFrom, with_group_valid, at_point_valid, asked_valid, begun_valid, history_fits}
use Rattle.tile_arguments.specs.Request.{Request, OnHistory}
use Rattle.tile_lines.specs.Lines.{lines_of}
use Rattle.tile_course.specs.Answers.{MayStop}
use Rattle.tile_course.specs.Run.{at_first, ran}
use Rattle.run_laws.specs.RunLaws.{TilesFit, TilesFitOnTheWay}
use Rattle.run_laws.proofs.LineLaws.{runs_are_walks}
use Rattle.run_laws.proofs.LineRequests.{kept_by_walk}

-- a request that was stopped leaves the start as it was, and the commands valid
stopped_valid : (start : Document) (request : Request) (taken : ℕ) (history between : History) → MayStop request history taken between → IsFrom start history → IsFrom start between
stopped_valid start (OnHistory (GoBack name)) taken history between stops valid = subst (IsFrom start) (sym stops.stands) (at_point_valid start stops.at history valid)
stopped_valid start (OnHistory Cancel) taken history between stops valid =
    let left = length stops.commands - taken in
    let commands = subst (λ (group : Option (List Command)). AllByRecursion IsCommand (commands_in group)) stops.is_open valid.commands.group in
    subst (IsFrom start) (sym stops.stands) (with_group_valid start (Some (take left stops.commands)) history (all_taken IsCommand left stops.commands commands) valid)
stopped_valid start request taken history between stops valid = absurd stops

pub tiles_fit_on_the_way : TilesFitOnTheWay
tiles_fit_on_the_way document depth strict lines q fits walk =
    let first : IsFrom document (begun document depth) = record { began = refl; commands = begun_valid document depth } in
    let from = kept_by_walk (IsFrom document) (asked_valid document) (stopped_valid document) strict (at_first document depth) lines q walk first in
    history_fits q.history (subst FitsAFile (sym from.began) fits) from.commands

pub tiles_fit : TilesFit
tiles_fit document options script fits =
    let lines = lines_of script in
    let start = at_first document options.depth in
    tiles_fit_on_the_way document options.depth options.strict lines (ran document options script) fits (runs_are_walks options.strict start lines)
