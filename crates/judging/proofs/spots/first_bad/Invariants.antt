-- The invariant: up to column k the field begins like a good one, so that the first column that does not is among those from k on.
use mathlib.Core.Path.{◌≡◌}
use Prim.Native.Nat.{◌-◌}
use lib.ListN.{length, take}
use Rattle.rules.specs.Items.{render, least, spot}
use Rattle.judging.specs.Judging.{item_as}
use Rattle.judging.proofs.SpotLaws.{left}
use Rattle.judging.proofs.spots.first_bad.Given as goal

abbrev pub invariant-loop-k : goal.invariant-loop-k
invariant-loop-k l =
    (l.last ≡ length l.part - 1)
    × (take (length l.part) l.least ≡ render (item_as l.kind (length l.part)) (least (item_as l.kind (length l.part))))
    × (left (item_as l.kind (length l.part)) l.part l.k ≡ spot (item_as l.kind (length l.part)) l.part)
