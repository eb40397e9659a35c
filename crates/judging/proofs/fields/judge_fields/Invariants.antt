-- The invariant: the fields before row i are good, so that the first fault is that of the rows from i on.
use Rattle.kinds.specs.Values.{expect_of, kind_index}
use Rattle.judging.proofs.RowLaws.{Walked}
use Rattle.judging.proofs.fields.judge_fields.Given as goal

abbrev pub invariant-loop-i : goal.invariant-loop-i
invariant-loop-i l = Walked (expect_of l.e) l.line (kind_index l.fn.kind) l.i-end l.i
