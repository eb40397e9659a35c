use borrow.Author.Rules.{rules}
use Rattle.reading.proofs.WidthLaws.{width_by_row, width_of_point}
use Rattle.reading.proofs.widths.field_width.Goals as goal

pub returns-in-Point : goal.returns-in-Point
returns-in-Point c = search (width_of_point, rules)

pub returns-in_default : goal.returns-in_default
returns-in_default c = search (width_by_row, rules)
