use Rattle.std.proofs.Common.{map}
use Rattle.mvt_document.specs.Stands.{field_of}
use Rattle.mvt_edit_lists.proofs.set_id.identifying.Goals as goal

pub returns : goal.returns
returns c =
    let run = c.in_ok-run.run' in
    rw (← c.fields.ensures) (record { index = run.index; taken = run.take; put = map field_of run.put.items; parts = c.in_feature.ensures; replaces = c.in_ok-run.ensures.puts })
