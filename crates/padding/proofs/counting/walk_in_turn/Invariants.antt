-- The invariant: the walks have passed good lines only.
use mathlib.Core.Path.{◌≡◌}
use lib.ListN.{length}
use Rattle.padding.specs.Walks.{Passed}
use Rattle.padding.proofs.counting.walk_in_turn.Given as goal

abbrev pub invariant-loop-lines : goal.invariant-loop-lines
invariant-loop-lines l = (length l.places ≡ 4) × Passed l.input l.initial.places 0 l.places l.lines
