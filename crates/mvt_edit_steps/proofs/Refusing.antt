-- What is asked for and is not there is refused, and a command that runs out of memory.
use Rattle.std.proofs.Common.{◌≡◌, Option, Some, None, Result, Ok, Err, refl, inl}
use Rattle.std.specs.Option.{ok_or}
use Rattle.std.specs.Prelude.{IsErrAnd}
use Rattle.mvt_document.specs.Plain.{Document}
use Rattle.mvt_document.specs.Stands.{layer_of}
use Rattle.mvt_change.specs.declared.change.Change.{Change}
use Rattle.mvt_layers.specs.declared.found.FoundFeature.{FoundFeature}
use Rattle.mvt_layers.specs.declared.found.FoundLayer.{FoundLayer}
use Rattle.mvt_meaning.specs.Command.{Command, FeatureChoice, LayerChoice}
use Rattle.mvt_meaning.specs.Memory.{AsksForMemory, FindsFeature}
use Rattle.mvt_meaning.specs.declared.refusal.Refusal.{Refusal}
use Rattle.mvt_meaning.specs.declared.refusal.Refusal.TheVariants.{NoMemory}
use Rattle.mvt_meaning.proofs.Asking.{finds_feature}
use Rattle.mvt_select.specs.Found.{IsFoundFeature, IsFoundLayer}
use Rattle.mvt_edit_steps.specs.Prepared.{Prepares}

pub none_refused : {X : Type 0} (o : Option X) (r : Result X Refusal) (refusal e : Refusal) → r ≡ ok_or o refusal → r ≡ Err e → (o ≡ None) × (e ≡ refusal)
none_refused None r refusal e value is = (refl, cc)
none_refused (Some x) r refusal e value is = absurd cc

pub some_found : {X : Type 0} (o : Option X) (r : Result X Refusal) (refusal : Refusal) (x : X) → r ≡ ok_or o refusal → r ≡ Ok x → o ≡ Some x
some_found None r refusal x value is = absurd cc
some_found (Some y) r refusal x value is = cc

pub ran_out : (command : Command) (document : Document) (result : Result Change Refusal) → IsErrAnd result (λ refusal. refusal ≡ NoMemory) → AsksForMemory command document → Prepares command document result
ran_out command document (Ok change) out asks = absurd out
ran_out command document (Err refusal) out asks = inl (out, asks)

-- where a layer and a feature of it were found, a command on them asks for memory
pub both_found : (choice : LayerChoice) (feature : FeatureChoice) (document : Document) (holder : FoundLayer) (found : FoundFeature) → IsFoundLayer choice document holder → IsFoundFeature feature (layer_of holder.layer.now) found → FindsFeature choice feature document
both_found choice feature document holder found is here = finds_feature choice document holder.ordinal holder.position (layer_of holder.layer.now) is.selects is.placed is.there feature found.ordinal here.selects
