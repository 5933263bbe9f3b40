use Rattle.tile_script.proofs.Asking.{asks_alone, asks_by_name, asks_rename_named, asks_rename_ordinal, asks_list_whole, asks_list_layer, asks_list_feature_at, asks_list_feature_with_id}
use Rattle.tile_script.proofs.laws.words_ask_for_requests.Goals as goal

pub returns-clause-alone : goal.returns-clause-alone
returns-clause-alone c = asks_alone

pub returns-clause-by_name : goal.returns-clause-by_name
returns-clause-by_name c = asks_by_name

pub returns-clause-rename_layer : goal.returns-clause-rename_layer
returns-clause-rename_layer c = asks_rename_named

pub returns-clause-rename_layer_at : goal.returns-clause-rename_layer_at
returns-clause-rename_layer_at c = asks_rename_ordinal

pub returns-clause-list : goal.returns-clause-list
returns-clause-list c = asks_list_whole

pub returns-clause-list_layer : goal.returns-clause-list_layer
returns-clause-list_layer c = asks_list_layer

pub returns-clause-list_feature_at : goal.returns-clause-list_feature_at
returns-clause-list_feature_at c = asks_list_feature_at

pub returns-clause-list_feature_with_id : goal.returns-clause-list_feature_with_id
returns-clause-list_feature_with_id c = asks_list_feature_with_id
