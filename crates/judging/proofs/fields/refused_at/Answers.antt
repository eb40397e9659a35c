-- What a row asks is a computed test of the table.
use borrow.Author.Rules.{rules}
use Rattle.judging.proofs.RowLaws.{at_requires, refused_row}
use Rattle.judging.proofs.fields.refused_at.Goals as goal

pub refused_in-requires : goal.refused_in-requires
refused_in-requires c =
    at_requires c.args.i c.requires.1 c.requires.0 c.first_at.result c.first_at.ensures c.from-first.result c.from-first.ensures
    c.width_at.result c.width_at.ensures c.from-width.result c.from-width.ensures c.item_at.result c.item_at.ensures

pub returns : goal.returns
returns c = search (refused_row, rules)
