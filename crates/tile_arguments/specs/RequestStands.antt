-- Which plain request a request of the program stands for.
use Rattle.mvt_meaning.specs.Requests as on
use Rattle.tile_arguments.specs.Request as plain
use Rattle.mvt_meaning.specs.CommandStands.{command_of, layer_choice_of, feature_choice_of}
use Rattle.tile_arguments.specs.declared.request.What.{What}
use Rattle.tile_arguments.specs.declared.request.What.TheVariants as what
use Rattle.tile_arguments.specs.declared.request.Request.{Request}
use Rattle.tile_arguments.specs.declared.request.Request.TheVariants.{Edit, Undo, Redo, Mark, Unmark, Back, Begin, End, Cancel, Marks, History, Size, List}

-- the plain value that what a listing of the program shows stands for
abbrev pub what_of : What → plain.What
what_of what.Whole = plain.Whole
what_of (what.OneLayer layer) = plain.OneLayer (layer_choice_of layer)
what_of (what.OneFeature layer feature) = plain.OneFeature (layer_choice_of layer) (feature_choice_of feature)

-- the plain request that a request of the program stands for
abbrev pub request_of : Request → plain.Request
request_of (Edit command) = plain.OnHistory (on.Edit (command_of command))
request_of Undo = plain.OnHistory on.Undo
request_of Redo = plain.OnHistory on.Redo
request_of (Mark name) = plain.OnHistory (on.SetMark name.items)
request_of (Unmark name) = plain.OnHistory (on.TakeMark name.items)
request_of (Back name) = plain.OnHistory (on.GoBack name.items)
request_of Begin = plain.OnHistory on.Begin
request_of End = plain.OnHistory on.End
request_of Cancel = plain.OnHistory on.Cancel
request_of Marks = plain.ListMarks
request_of History = plain.PrintHistory
request_of Size = plain.Size
request_of (List what) = plain.Lists (what_of what)
