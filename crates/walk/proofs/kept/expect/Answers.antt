use Rattle.kinds.specs.Values.{kind_index}
use Rattle.walk.proofs.KeptLaws.{expect_27, expect_70, expect_72, expect_86, expect_others}
use borrow.Author.Rules.{rules}
use mathlib.Core.Path.{ap}
use Rattle.walk.proofs.kept.expect.Goals as goal

pub returns-in-Measurement : goal.returns-in-Measurement
unfolding kind_index
returns-in-Measurement c = expect_27 c.args.s (kind_index c.args.kind) (ap kind_index c.in-Measurement.is)

pub returns-in-Instrument : goal.returns-in-Instrument
unfolding kind_index
returns-in-Instrument c = expect_70 c.args.s (kind_index c.args.kind) (ap kind_index c.in-Instrument.is)

pub returns-in-Antenna : goal.returns-in-Antenna
unfolding kind_index
returns-in-Antenna c = expect_72 c.args.s (kind_index c.args.kind) (ap kind_index c.in-Antenna.is)

pub returns-in-Heights : goal.returns-in-Heights
unfolding kind_index
returns-in-Heights c = expect_86 c.args.s (kind_index c.args.kind) (ap kind_index c.in-Heights.is)

pub returns-in_default : goal.returns-in_default
returns-in_default c = search (expect_others, rules)
