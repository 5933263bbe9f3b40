use Rattle.std.proofs.Common.{◌≡◌, Err}
use Rattle.mvt_document.specs.Stands.{document_of}
use Rattle.mvt_meaning.specs.Command.{Named}
use Rattle.mvt_meaning.specs.CommandStands.{layer_choice_of}
use Rattle.mvt_meaning.specs.Selection.{selected}
use Rattle.mvt_select.specs.Found.{IsFoundLayer}
use Rattle.mvt_select.proofs.Selected.{layer_of_name, named_ordinal, no_layer_of_name}
use Rattle.mvt_select.proofs.Named.{err_with, ok_with}
use Rattle.mvt_select.proofs.taken.find_and_taken.Goals as goal

pub returns-in-Ordinal-clause-found : goal.returns-in-Ordinal-clause-found
returns-in-Ordinal-clause-found c = ok_with (IsFoundLayer (layer_choice_of c.args.choice.now) (document_of c.args.document.now)) c.with_taken.result c.find_layer.result c.with_taken.ensures.found c.find_layer.ensures.found

pub returns-in-Ordinal-clause-refused : goal.returns-in-Ordinal-clause-refused
returns-in-Ordinal-clause-refused c = err_with (λ refusal. selected (layer_choice_of c.args.choice.now) (document_of c.args.document.now) ≡ Err refusal) c.with_taken.result c.find_layer.result c.with_taken.ensures.found c.find_layer.ensures.refused

pub returns-in-Ordinal-clause-taken : goal.returns-in-Ordinal-clause-taken
returns-in-Ordinal-clause-taken c = c.with_taken.ensures.taken c.args.name.now (document_of c.args.document.now) (named_ordinal c.args.name.now (document_of c.args.document.now) c.find_named.result c.find_named.ensures)

pub returns-in-Name-clause-found : goal.returns-in-Name-clause-found
returns-in-Name-clause-found c =
    rw c.in-Name.is (ok_with (IsFoundLayer (Named c.in-Name.chosen.items) (document_of c.args.document.now)) c.with_taken-in-Name.result c.named_twice.result.0 c.with_taken-in-Name.ensures.found (layer_of_name c.in-Name.chosen.items (document_of c.args.document.now) c.named_twice.result.0 (rw c.as_slice.ensures at c.named_twice.ensures.one)))

pub returns-in-Name-clause-refused : goal.returns-in-Name-clause-refused
returns-in-Name-clause-refused c =
    rw c.in-Name.is (err_with (λ refusal. selected (Named c.in-Name.chosen.items) (document_of c.args.document.now) ≡ Err refusal) c.with_taken-in-Name.result c.named_twice.result.0 c.with_taken-in-Name.ensures.found (no_layer_of_name c.in-Name.chosen.items (document_of c.args.document.now) c.named_twice.result.0 (rw c.as_slice.ensures at c.named_twice.ensures.one)))

pub returns-in-Name-clause-taken : goal.returns-in-Name-clause-taken
returns-in-Name-clause-taken c = c.with_taken-in-Name.ensures.taken c.args.name.now (document_of c.args.document.now) (named_ordinal c.args.name.now (document_of c.args.document.now) c.named_twice.result.1 c.named_twice.ensures.other)
