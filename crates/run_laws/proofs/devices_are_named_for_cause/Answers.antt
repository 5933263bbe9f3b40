use Rattle.tile_course.proofs.DeviceLaws.{named_for_cause}
use Rattle.run_laws.proofs.devices_are_named_for_cause.Goals as goal

pub returns : goal.returns
returns c = named_for_cause
