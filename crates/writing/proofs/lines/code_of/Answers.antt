-- One arm for each kind.
use mathlib.Core.Path.{sym}
use Rattle.rules.specs.Characters.{ascii}
use Rattle.columns.specs.Types.{four_of}
use Rattle.kinds.specs.Values.{code_of}
use Rattle.writing.proofs.lines.code_of.Goals as goal

pub returns-in-Job : goal.returns-in-Job
unfolding code_of four_of ascii
returns-in-Job c = sym (rw c.in-Job.is)

pub returns-in-Title : goal.returns-in-Title
unfolding code_of four_of ascii
returns-in-Title c = sym (rw c.in-Title.is)

pub returns-in-Continuation : goal.returns-in-Continuation
unfolding code_of four_of ascii
returns-in-Continuation c = sym (rw c.in-Continuation.is)

pub returns-in-Project : goal.returns-in-Project
unfolding code_of four_of ascii
returns-in-Project c = sym (rw c.in-Project.is)

pub returns-in-Occupation : goal.returns-in-Occupation
unfolding code_of four_of ascii
returns-in-Occupation c = sym (rw c.in-Occupation.is)

pub returns-in-Comment : goal.returns-in-Comment
unfolding code_of four_of ascii
returns-in-Comment c = sym (rw c.in-Comment.is)

pub returns-in-Measurement : goal.returns-in-Measurement
unfolding code_of four_of ascii
returns-in-Measurement c = sym (rw c.in-Measurement.is)

pub returns-in-Instrument : goal.returns-in-Instrument
unfolding code_of four_of ascii
returns-in-Instrument c = sym (rw c.in-Instrument.is)

pub returns-in-Antenna : goal.returns-in-Antenna
unfolding code_of four_of ascii
returns-in-Antenna c = sym (rw c.in-Antenna.is)

pub returns-in-Point : goal.returns-in-Point
unfolding code_of four_of ascii
returns-in-Point c = sym (rw c.in-Point.is)

pub returns-in-Heights : goal.returns-in-Heights
unfolding code_of four_of ascii
returns-in-Heights c = sym (rw c.in-Heights.is)

pub returns-in-Network : goal.returns-in-Network
unfolding code_of four_of ascii
returns-in-Network c = sym (rw c.in-Network.is)

pub returns-in-Local : goal.returns-in-Local
unfolding code_of four_of ascii
returns-in-Local c = sym (rw c.in-Local.is)

pub returns-in-Factor : goal.returns-in-Factor
unfolding code_of four_of ascii
returns-in-Factor c = sym (rw c.in-Factor.is)
