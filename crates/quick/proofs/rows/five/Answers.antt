-- The five columns of a step, as the definition has them.
use Rattle.quick.specs.Rows.{five_at}
use Rattle.quick.proofs.rows.five.Goals as goal

pub returns : goal.returns
unfolding five_at
returns c = rw (c.column-5.ensures, c.column-4.ensures, c.column-3.ensures, c.column-2.ensures, c.column.ensures)
