-- The invariant: no row before i starts at the column, so that the width is that of the rows from i on.
use Rattle.kinds.specs.Values.{kind_index}
use Rattle.reading.proofs.WidthLaws.{Sought}
use Rattle.reading.proofs.widths.row_width.Given as goal

abbrev pub invariant-loop-i : goal.invariant-loop-i
invariant-loop-i l = Sought l.column (kind_index l.fn.kind) l.i-end l.i
