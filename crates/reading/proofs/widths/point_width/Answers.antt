use borrow.Author.Rules.{rules}
use Rattle.reading.proofs.WidthLaws.{at-latitude, at-latitude-letter, at-longitude, at-longitude-letter, elsewhere}
use Rattle.reading.proofs.widths.point_width.Goals as goal

pub returns-then-column-eq-LATITUDE : goal.returns-then-column-eq-LATITUDE
returns-then-column-eq-LATITUDE c = search (at-latitude, rules)

pub returns-then-column-eq-LATITUDE_LETTER : goal.returns-then-column-eq-LATITUDE_LETTER
returns-then-column-eq-LATITUDE_LETTER c = search (at-latitude-letter, rules)

pub returns-then-column-eq-LONGITUDE : goal.returns-then-column-eq-LONGITUDE
returns-then-column-eq-LONGITUDE c = search (at-longitude, rules)

pub returns-then-column-eq-LONGITUDE_LETTER : goal.returns-then-column-eq-LONGITUDE_LETTER
returns-then-column-eq-LONGITUDE_LETTER c = search (at-longitude-letter, rules)

pub returns : goal.returns
returns c = search (elsewhere, rules)
