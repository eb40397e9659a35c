use Rattle.kinds.specs.Values.{kind_index}
use Rattle.walk.proofs.WordLaws.{slot_family, slot_station, slot_others}
use Rattle.rules.specs.References.{instruments, antennas}
use Rattle.rules.proofs.ReferenceLaws.{instruments_in, antennas_in}
use borrow.Author.Rules.{rules}
use mathlib.Core.Path.{ap}
use Rattle.walk.proofs.words.slot.Goals as goal

pub returns-in-Instrument : goal.returns-in-Instrument
unfolding kind_index
returns-in-Instrument c = slot_family instruments instruments_in (kind_index c.args.kind) c.args.number (ap kind_index c.in-Instrument.is)

pub returns-in-Antenna : goal.returns-in-Antenna
unfolding kind_index
returns-in-Antenna c = slot_family antennas antennas_in (kind_index c.args.kind) c.args.number (ap kind_index c.in-Antenna.is)

pub returns-in-Point : goal.returns-in-Point
unfolding kind_index
returns-in-Point c = slot_station (kind_index c.args.kind) c.args.number (ap kind_index c.in-Point.is)

pub returns-in_default : goal.returns-in_default
returns-in_default c = search (slot_others, rules)
