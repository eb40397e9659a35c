-- The invariant: the first i columns are those of the padded line.
use mathlib.Core.Path.{◌≡◌}
use Prim.Native.Nat.{◌-◌}
use lib.ListN.{take, drop}
use Rattle.padding.specs.Lines.{mask_bytes}
use Rattle.padding.proofs.LineLaws.{Filling}
use Rattle.padding.proofs.laying.lay_columns.Given as goal

abbrev pub invariant-loop-i : goal.invariant-loop-i
invariant-loop-i l = (l.own ≡ take 160 (drop (80 - l.n) mask_bytes)) × Filling l.part l.n l.out l.i
