use borrow.Author.Rules.{rules}
use Rattle.kinds.specs.Values.{kind_index}
use Rattle.quick.proofs.CodeLaws.{kind_rest, text_rest}
use Rattle.quick.proofs.values.has_values.Goals as goal

pub returns-in-Occupation : goal.returns-in-Occupation
unfolding kind_index
returns-in-Occupation c = search (kind_rest, rules)

pub returns-in-Comment : goal.returns-in-Comment
unfolding kind_index
returns-in-Comment c = search (text_rest, rules)

pub returns-in-Measurement : goal.returns-in-Measurement
unfolding kind_index
returns-in-Measurement c = search (kind_rest, rules)

pub returns-in-Instrument : goal.returns-in-Instrument
unfolding kind_index
returns-in-Instrument c = search (kind_rest, rules)

pub returns-in-Antenna : goal.returns-in-Antenna
unfolding kind_index
returns-in-Antenna c = search (kind_rest, rules)

pub returns-in-Point : goal.returns-in-Point
unfolding kind_index
returns-in-Point c = search (kind_rest, rules)

pub returns-in-Heights : goal.returns-in-Heights
unfolding kind_index
returns-in-Heights c = search (kind_rest, rules)

pub returns-in-Network : goal.returns-in-Network
unfolding kind_index
returns-in-Network c = search (kind_rest, rules)

pub returns-in-Local : goal.returns-in-Local
unfolding kind_index
returns-in-Local c = search (kind_rest, rules)
