-- One arm for each kind that has a field house style can change.
use borrow.Author.Rules.{rules}
use Rattle.kinds.specs.Values.{kind_index}
use Rattle.styling.proofs.StyleLaws.{rest_stays}
use Rattle.styling.proofs.styles.style_fields.Goals as goal

pub returns-in-Occupation : goal.returns-in-Occupation
unfolding kind_index
returns-in-Occupation c = rw c.in-Occupation.is c.style_occupation.ensures

pub returns-in-Measurement : goal.returns-in-Measurement
unfolding kind_index
returns-in-Measurement c = rw c.in-Measurement.is c.style_measurement.ensures

pub returns-in-Instrument : goal.returns-in-Instrument
unfolding kind_index
returns-in-Instrument c = rw c.in-Instrument.is c.style_instrument.ensures

pub returns-in-Antenna : goal.returns-in-Antenna
unfolding kind_index
returns-in-Antenna c = rw c.in-Antenna.is c.style_antenna.ensures

pub returns-in-Point : goal.returns-in-Point
unfolding kind_index
returns-in-Point c = rw c.in-Point.is c.style_point.ensures

pub returns-in-Heights : goal.returns-in-Heights
unfolding kind_index
returns-in-Heights c = rw c.in-Heights.is c.style_heights.ensures

pub returns-in-Network : goal.returns-in-Network
unfolding kind_index
returns-in-Network c = rw c.in-Network.is c.style_network.ensures

pub returns-in-Local : goal.returns-in-Local
unfolding kind_index
returns-in-Local c = rw c.in-Local.is c.style_local.ensures

pub returns-in-Factor : goal.returns-in-Factor
unfolding kind_index
returns-in-Factor c = rw c.in-Factor.is c.style_factor.ensures

pub returns-in_default : goal.returns-in_default
returns-in_default c = search (rest_stays, rules)
