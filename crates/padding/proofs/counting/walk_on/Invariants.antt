-- The invariant: the walk has passed good lines only.
use mathlib.Core.List.{[], ◌∷◌}
use Prim.Native.Nat.{◌+◌, ◌-◌}
use lib.ListN.{length}
use Rattle.padding.specs.Walks.{Passed}
use Rattle.padding.proofs.counting.walk_on.Given as goal

abbrev pub invariant-loop-place : goal.invariant-loop-place
invariant-loop-place l = Passed l.input (l.from ∷ []) l.before (l.place ∷ []) l.lines

abbrev pub decreases-loop-place : goal.decreases-loop-place
decreases-loop-place l = length l.input + 1 - l.place
