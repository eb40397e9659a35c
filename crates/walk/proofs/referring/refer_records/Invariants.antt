-- The invariant: what is left to refer from here is what was to refer at the start.
use Rattle.walk.proofs.ReferLaws.{Referring}
use Rattle.walk.proofs.referring.refer_records.Given as goal

abbrev pub invariant-loop-i : goal.invariant-loop-i
invariant-loop-i l = Referring l.file l.n l.i
