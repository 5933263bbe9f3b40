use Rattle.std.proofs.Common.{sym, subst}
use Rattle.tileshell.specs.InMemory.{EditsTile, RefusesFile, CutsLongScript, IsRunInMemory, NamesLongScript}
use Rattle.tileshell.proofs.InMemory.{RunsInMemory, from_new, edits_tile, refuses_file, run_in_memory, names_long_script}
use Rattle.tileshell.proofs.LongScripts.{cuts_long_script}
use Rattle.tileshell.proofs.in_memory.edit.Goals as goal

-- the run, over the devices that the function makes
in_memory : (c : goal.After-hand_out)
    → RunsInMemory c.args.options c.args.tile.now c.args.script.now c.run_and_free-outcome.new.replies.bytes.items c.run_and_free-outcome.new.out.bytes.items c.run_and_free-outcome.result
in_memory c = record {
  tile_left = c.run_and_free-outcome.new.tile.rest.now;
  script_left = c.run_and_free-outcome.new.script.rest.now;
  replies_failures = c.run_and_free-outcome.new.replies.counts.failures;
  out_failures = c.run_and_free-outcome.new.out.counts.failures;
  runs = from_new _ _ _ _ _ _ _ _ _ c.new-replies.ensures.bytes c.new-replies.ensures.failures c.new-out.ensures.bytes c.new-out.ensures.failures c.run_and_free-outcome.ensures.course;
}

pub returns-clause-edits : goal.returns-clause-edits
returns-clause-edits c =
    subst (EditsTile c.args.options c.args.tile.now c.args.script.now) (sym c.hand_out.ensures)
    (edits_tile _ _ _ _ _ c.run_and_free-outcome.result (in_memory c))

pub returns-clause-refuses : goal.returns-clause-refuses
returns-clause-refuses c =
    subst (RefusesFile c.args.tile.now) (sym c.hand_out.ensures)
    (refuses_file c.args.options _ c.args.script.now _ _ c.run_and_free-outcome.result (in_memory c))

pub returns-clause-cuts_long_script : goal.returns-clause-cuts_long_script
returns-clause-cuts_long_script c =
    subst (CutsLongScript c.args.options c.args.tile.now c.args.script.now) (sym c.hand_out.ensures)
    (cuts_long_script _ _ _ _ _ c.run_and_free-outcome.result (in_memory c))

pub returns-clause-course : goal.returns-clause-course
returns-clause-course c =
    subst (IsRunInMemory c.args.options c.args.tile.now c.args.script.now) (sym c.hand_out.ensures)
    (run_in_memory _ _ _ _ _ c.run_and_free-outcome.result (in_memory c))

pub returns-clause-names_long_script : goal.returns-clause-names_long_script
returns-clause-names_long_script c =
    subst (NamesLongScript c.args.script.now) (sym c.hand_out.ensures)
    (names_long_script c.args.options c.args.tile.now _ _ _ c.run_and_free-outcome.result (in_memory c))
