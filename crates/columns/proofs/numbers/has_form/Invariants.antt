-- The invariant: the form from here on, after the column before. Assumes nothing.
use mathlib.Core.Path.{◌≡◌}
use lib.ListN.{drop}
use mathlib.Core.Bool.{◌&&◌}
use Rattle.columns.specs.Leaves.{formed}
use Rattle.columns.proofs.numbers.has_form.Given as goal

abbrev pub invariant-loop-b : goal.invariant-loop-b
invariant-loop-b l = (l.good && formed l.mark l.last (drop l.b-index l.part)) ≡ formed l.mark 32 l.part
