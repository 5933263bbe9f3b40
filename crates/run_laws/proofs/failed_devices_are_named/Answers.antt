use Rattle.tile_course.proofs.DeviceLaws.{failed_is_named, worn_out_names}
use Rattle.run_laws.proofs.failed_devices_are_named.Goals as goal

pub returns-clause-failed : goal.returns-clause-failed
returns-clause-failed c = failed_is_named

pub returns-clause-worn_out : goal.returns-clause-worn_out
returns-clause-worn_out c = worn_out_names
