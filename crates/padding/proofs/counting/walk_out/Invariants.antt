-- The invariant: the first k walks have come to their ends, the others stand where they stood.
use mathlib.Core.List.{◌++◌}
use Prim.Native.Nat.{◌≤◌}
use lib.ListN.{take, drop}
use Rattle.padding.specs.Walks.{Passed}
use Rattle.padding.proofs.counting.walk_out.Given as goal

abbrev pub invariant-loop-k : goal.invariant-loop-k
invariant-loop-k l = (l.k ≤ 4) × Passed l.input l.places l.before (take l.k l.ends ++ drop l.k l.places) l.lines
