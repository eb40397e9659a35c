use Rattle.kinds.specs.Values.{kind_index}
use Rattle.export.proofs.GivenLaws.{given_job, given-title, given_continuation, given-project, given-occupation, given-comment, given-measurement, given-instrument, given-antenna, given-point, given-heights, given-network, given-local, given-factor}
use borrow.Author.Rules.{rules}
use mathlib.Core.Path.{◌≡◌, ap}
use Rattle.export.proofs.given.give_kind.Goals as goal

pub returns-in-Job : goal.returns-in-Job
unfolding kind_index
returns-in-Job c = let k : kind_index c.args.kind ≡ 0 = ap kind_index c.in-Job.is in search (given_job, k, rules)

pub returns-in-Title : goal.returns-in-Title
unfolding kind_index
returns-in-Title c = let k : kind_index c.args.kind ≡ 1 = ap kind_index c.in-Title.is in search (given-title, k, rules)

pub returns-in-Continuation : goal.returns-in-Continuation
unfolding kind_index
returns-in-Continuation c = let k : kind_index c.args.kind ≡ 2 = ap kind_index c.in-Continuation.is in search (given_continuation, k, rules)

pub returns-in-Project : goal.returns-in-Project
unfolding kind_index
returns-in-Project c = let k : kind_index c.args.kind ≡ 3 = ap kind_index c.in-Project.is in search (given-project, k, rules)

pub returns-in-Occupation : goal.returns-in-Occupation
unfolding kind_index
returns-in-Occupation c = let k : kind_index c.args.kind ≡ 4 = ap kind_index c.in-Occupation.is in search (given-occupation, k, rules)

pub returns-in-Comment : goal.returns-in-Comment
unfolding kind_index
returns-in-Comment c = let k : kind_index c.args.kind ≡ 5 = ap kind_index c.in-Comment.is in search (given-comment, k, rules)

pub returns-in-Measurement : goal.returns-in-Measurement
unfolding kind_index
returns-in-Measurement c = let k : kind_index c.args.kind ≡ 6 = ap kind_index c.in-Measurement.is in search (given-measurement, k, rules)

pub returns-in-Instrument : goal.returns-in-Instrument
unfolding kind_index
returns-in-Instrument c = let k : kind_index c.args.kind ≡ 7 = ap kind_index c.in-Instrument.is in search (given-instrument, k, rules)

pub returns-in-Antenna : goal.returns-in-Antenna
unfolding kind_index
returns-in-Antenna c = let k : kind_index c.args.kind ≡ 8 = ap kind_index c.in-Antenna.is in search (given-antenna, k, rules)

pub returns-in-Point : goal.returns-in-Point
unfolding kind_index
returns-in-Point c = let k : kind_index c.args.kind ≡ 9 = ap kind_index c.in-Point.is in search (given-point, k, rules)

pub returns-in-Heights : goal.returns-in-Heights
unfolding kind_index
returns-in-Heights c = let k : kind_index c.args.kind ≡ 10 = ap kind_index c.in-Heights.is in search (given-heights, k, rules)

pub returns-in-Network : goal.returns-in-Network
unfolding kind_index
returns-in-Network c = let k : kind_index c.args.kind ≡ 11 = ap kind_index c.in-Network.is in search (given-network, k, rules)

pub returns-in-Local : goal.returns-in-Local
unfolding kind_index
returns-in-Local c = let k : kind_index c.args.kind ≡ 12 = ap kind_index c.in-Local.is in search (given-local, k, rules)

pub returns-in-Factor : goal.returns-in-Factor
unfolding kind_index
returns-in-Factor c = let k : kind_index c.args.kind ≡ 13 = ap kind_index c.in-Factor.is in search (given-factor, k, rules)
