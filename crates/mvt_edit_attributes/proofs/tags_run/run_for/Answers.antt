use Rattle.std.proofs.Common.{Option, Some, List, map, refl, ap}
use Rattle.mvt_document.specs.Plain.{Field}
use Rattle.mvt_document.specs.Stands.{field_of}
use Rattle.mvt_edit_steps.specs.Fates.{Splice}
use Rattle.mvt_edit_attributes.proofs.Pushed.{one_alone}
use Rattle.mvt_edit_attributes.proofs.tags_run.run_for.Goals.{in-Goes, in-Becomes+in_ok-push-in-Becomes}
use Rattle.mvt_edit_attributes.proofs.tags_run.run_for.Goals as goal

pub returns : goal.returns
returns c =
    let run : List Field → Option (Splice Field) = λ put. Some (record { index = c.args.index; taken = 1; put = put }) in
    elim c.match-fate.branch [
      | in-Goes w ↦ rw (w.in-Goes.is, w.put-is) (ap run (ap (map field_of) c.new-put.ensures.items))
      | in-Becomes+in_ok-push-in-Becomes w ↦ rw (w.in-Becomes.is, w.put-is) (ap run (one_alone field_of _ w.push.new.self.items _ _ c.new-put.ensures.items w.in_ok-push-in-Becomes.ensures.items refl))
    ]
