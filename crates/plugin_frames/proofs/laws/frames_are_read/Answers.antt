use Rattle.plugin_frames.proofs.Readings.{no_frames, frame_comes_first, frames_come_first, frames_are_read, frames_alone}
use Rattle.plugin_frames.proofs.laws.frames_are_read.Goals as goal

pub returns-clause-none : goal.returns-clause-none
returns-clause-none c = no_frames

pub returns-clause-first : goal.returns-clause-first
returns-clause-first c = frame_comes_first

pub returns-clause-several : goal.returns-clause-several
returns-clause-several c = frames_come_first

pub returns-clause-only : goal.returns-clause-only
returns-clause-only c = frames_are_read

pub returns-clause-alone : goal.returns-clause-alone
returns-clause-alone c = frames_alone
