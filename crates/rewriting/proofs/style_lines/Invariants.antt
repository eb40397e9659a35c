-- The invariant: what is laid so far, with what is left in house style, is the rewritten file.
use Rattle.rewriting.proofs.LayingLaws.{Laying}
use Rattle.rewriting.proofs.style_lines.Given as goal

abbrev pub invariant-loop-i : goal.invariant-loop-i
invariant-loop-i l = Laying l.file l.first l.initial.out l.n l.out l.i
