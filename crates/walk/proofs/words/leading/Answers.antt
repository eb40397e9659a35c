use Rattle.kinds.specs.Values.{kind_index}
use Rattle.walk.proofs.WordLaws.{lead_25, lead_family, lead_others}
use Rattle.rules.specs.References.{stations, instruments, antennas}
use Rattle.rules.proofs.ReferenceLaws.{stations_in, instruments_in, antennas_in}
use borrow.Author.Rules.{rules}
use mathlib.Core.Path.{ap}
use Rattle.walk.proofs.words.leading.Goals as goal

pub returns-in-Occupation : goal.returns-in-Occupation
unfolding kind_index
returns-in-Occupation c = lead_25 (kind_index c.args.kind) c.args.line.now _ (ap kind_index c.in-Occupation.is) c.number_in.ensures

pub returns-in-Instrument : goal.returns-in-Instrument
unfolding kind_index
returns-in-Instrument c = lead_family instruments instruments_in (kind_index c.args.kind) _ c.args.line.now (ap kind_index c.in-Instrument.is) c.number_in-in-Instrument.ensures

pub returns-in-Antenna : goal.returns-in-Antenna
unfolding kind_index
returns-in-Antenna c = lead_family antennas antennas_in (kind_index c.args.kind) _ c.args.line.now (ap kind_index c.in-Antenna.is) c.number_in-in-Antenna.ensures

pub returns-in-Point : goal.returns-in-Point
unfolding kind_index
returns-in-Point c = lead_family stations stations_in (kind_index c.args.kind) _ c.args.line.now (ap kind_index c.in-Point.is) c.number_in-in-Point.ensures

pub returns-in_default : goal.returns-in_default
returns-in_default c = search (lead_others, rules)
