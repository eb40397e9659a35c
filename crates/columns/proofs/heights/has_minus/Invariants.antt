-- The invariant: found already, or nothing but blanks so far and still to be found. Assumes nothing.
use mathlib.Core.Path.{◌≡◌}
use lib.ListN.{drop}
use mathlib.Core.Bool.{◌&&◌, ◌||◌}
use Rattle.rules.specs.Items.{minus}
use Rattle.columns.proofs.heights.has_minus.Given as goal

abbrev pub invariant-loop-b : goal.invariant-loop-b
invariant-loop-b l = (l.found || l.blank && minus (drop l.b-index l.part)) ≡ minus l.part
