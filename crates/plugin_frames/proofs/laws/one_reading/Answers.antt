use Rattle.plugin_frames.proofs.Readings.{each_list_is_frames, one_reading}
use Rattle.plugin_frames.proofs.laws.one_reading.Goals as goal

pub returns-clause-some : goal.returns-clause-some
returns-clause-some c = each_list_is_frames

pub returns-clause-one : goal.returns-clause-one
returns-clause-one c = one_reading
