use borrow.Author.Rules.{rules}
use Rattle.reading.proofs.WidthLaws.{plain_station, plain_name, plain_spacer, plain_state, plain_end, plain_none}
use Rattle.reading.proofs.widths.plain_point_width.Goals as goal

pub returns-then-column-eq-STATION : goal.returns-then-column-eq-STATION
returns-then-column-eq-STATION c = search (plain_station, rules)

pub returns-then-column-eq-NAME : goal.returns-then-column-eq-NAME
returns-then-column-eq-NAME c = search (plain_name, rules)

pub returns-then-column-eq-SPACER : goal.returns-then-column-eq-SPACER
returns-then-column-eq-SPACER c = search (plain_spacer, rules)

pub returns-then-column-eq-STATE : goal.returns-then-column-eq-STATE
returns-then-column-eq-STATE c = search (plain_state, rules)

pub returns-then-column-eq-END : goal.returns-then-column-eq-END
returns-then-column-eq-END c = search (plain_end, rules)

pub returns : goal.returns
returns c = search (plain_none, rules)
