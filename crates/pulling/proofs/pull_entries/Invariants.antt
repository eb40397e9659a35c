-- The invariant: what stands for the entries so far, with what is still to stand for the rest, is what stands for all.
use Rattle.pulling.proofs.DrawingLaws.{Drawing}
use Rattle.pulling.proofs.pull_entries.Given as goal

abbrev pub invariant-loop-i : goal.invariant-loop-i
invariant-loop-i l = Drawing l.file l.records l.initial.out l.initial.faults l.n l.out l.faults l.i
