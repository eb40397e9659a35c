-- The invariant: the columns before this one are filled, and filling those from it on gives the goal. Assumes nothing.
use mathlib.Core.Path.{◌≡◌}
use mathlib.Core.List.{◌++◌, map}
use lib.ListN.{take, drop}
use Rattle.styling.specs.Styling.{filled}
use Rattle.styling.proofs.styles.fill.Given as goal

abbrev pub invariant-loop-b : goal.invariant-loop-b
invariant-loop-b l = take l.b-index l.part ++ map filled (drop l.b-index l.part) ≡ map filled l.initial.part
