use Rattle.plugin_frames.proofs.Readings.{frames_go_on, length_stays, rest_is_unfinished, pieces_do_not_matter}
use Rattle.plugin_frames.proofs.laws.frames_go_on.Goals as goal

pub returns-clause-rest : goal.returns-clause-rest
returns-clause-rest c = frames_go_on

pub returns-clause-length : goal.returns-clause-length
returns-clause-length c = length_stays

pub returns-clause-unfinished : goal.returns-clause-unfinished
returns-clause-unfinished c = rest_is_unfinished

pub returns-clause-pieces : goal.returns-clause-pieces
returns-clause-pieces c = pieces_do_not_matter
