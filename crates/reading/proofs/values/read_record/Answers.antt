-- One arm for each kind.
use mathlib.Core.Path.{◌∙◌, ap}
use Rattle.kinds.specs.declared.Record.TheVariants as R
use Rattle.kinds.specs.Values.{kind_index}
use Rattle.reading.proofs.ValueLaws.{job_is, title_is, continuation_is, project_is, occupation_is, comment_is, measurement_is, instrument_is, antenna_is, point_is, heights_is, network_is, local_is, factor_is}
use Rattle.reading.proofs.values.read_record.Goals as goal

pub returns-in-Job : goal.returns-in-Job
unfolding kind_index
returns-in-Job c = rw c.in-Job.is (ap R.Job c.read_job.ensures ∙ job_is c.args.line.now)

pub returns-in-Title : goal.returns-in-Title
unfolding kind_index
returns-in-Title c = rw c.in-Title.is (ap R.Title c.new.ensures ∙ title_is c.args.line.now)

pub returns-in-Continuation : goal.returns-in-Continuation
unfolding kind_index
returns-in-Continuation c = rw c.in-Continuation.is (ap R.Continuation c.new-in-Continuation.ensures ∙ continuation_is c.args.line.now)

pub returns-in-Project : goal.returns-in-Project
unfolding kind_index
returns-in-Project c = rw c.in-Project.is (ap R.Project c.read_project.ensures ∙ project_is c.args.line.now)

pub returns-in-Occupation : goal.returns-in-Occupation
unfolding kind_index
returns-in-Occupation c = rw c.in-Occupation.is (ap R.Occupation c.read_occupation.ensures ∙ occupation_is c.args.line.now)

pub returns-in-Comment : goal.returns-in-Comment
unfolding kind_index
returns-in-Comment c = rw c.in-Comment.is (ap R.Comment c.new-in-Comment.ensures ∙ comment_is c.args.line.now)

pub returns-in-Measurement : goal.returns-in-Measurement
unfolding kind_index
returns-in-Measurement c = rw c.in-Measurement.is (ap R.Measurement c.read_measurement.ensures ∙ measurement_is c.args.line.now)

pub returns-in-Instrument : goal.returns-in-Instrument
unfolding kind_index
returns-in-Instrument c = rw c.in-Instrument.is (ap R.Instrument c.read_instrument.ensures ∙ instrument_is c.args.line.now)

pub returns-in-Antenna : goal.returns-in-Antenna
unfolding kind_index
returns-in-Antenna c = rw c.in-Antenna.is (ap R.Antenna c.read_antenna.ensures ∙ antenna_is c.args.line.now)

pub returns-in-Point : goal.returns-in-Point
unfolding kind_index
returns-in-Point c = rw c.in-Point.is (ap R.Point c.read_point.ensures ∙ point_is c.args.line.now)

pub returns-in-Heights : goal.returns-in-Heights
unfolding kind_index
returns-in-Heights c = rw c.in-Heights.is (ap R.Heights c.read_heights.ensures ∙ heights_is c.args.line.now)

pub returns-in-Network : goal.returns-in-Network
unfolding kind_index
returns-in-Network c = rw c.in-Network.is (ap R.Network c.read_network.ensures ∙ network_is c.args.line.now)

pub returns-in-Local : goal.returns-in-Local
unfolding kind_index
returns-in-Local c = rw c.in-Local.is (ap R.Local c.read_local.ensures ∙ local_is c.args.line.now)

pub returns-in-Factor : goal.returns-in-Factor
unfolding kind_index
returns-in-Factor c = rw c.in-Factor.is (ap R.Factor c.read_factor.ensures ∙ factor_is c.args.line.now)
