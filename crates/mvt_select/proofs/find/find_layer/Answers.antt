use Rattle.mvt_document.specs.Stands.{document_of}
use Rattle.mvt_select.proofs.Selected.{layer_at_ordinal, layer_of_name, no_layer_at_ordinal, no_layer_of_name}
use Rattle.mvt_select.proofs.find.find_layer.Goals as goal

pub returns-in-Ordinal-clause-found : goal.returns-in-Ordinal-clause-found
returns-in-Ordinal-clause-found c = rw (c.ok_or.ensures.value, c.in-Ordinal.is) (layer_at_ordinal (document_of c.args.document.now) c.in-Ordinal.ordinal c.layer.result c.layer.ensures)

pub returns-in-Ordinal-clause-refused : goal.returns-in-Ordinal-clause-refused
returns-in-Ordinal-clause-refused c = rw (c.ok_or.ensures.value, c.in-Ordinal.is) (no_layer_at_ordinal (document_of c.args.document.now) c.in-Ordinal.ordinal c.layer.result c.layer.ensures)

pub returns-in-Name-clause-found : goal.returns-in-Name-clause-found
returns-in-Name-clause-found c = rw c.in-Name.is (layer_of_name c.in-Name.name.items (document_of c.args.document.now) c.find_named.result (rw c.as_slice.ensures at c.find_named.ensures))

pub returns-in-Name-clause-refused : goal.returns-in-Name-clause-refused
returns-in-Name-clause-refused c = rw c.in-Name.is (no_layer_of_name c.in-Name.name.items (document_of c.args.document.now) c.find_named.result (rw c.as_slice.ensures at c.find_named.ensures))
