-- The invariant: where nothing failed so far, the columns of every step so far are of their class.
use mathlib.Core.Path.{◌≡◌}
use mathlib.Core.Bool.{true}
use Prim.Native.Nat.{ℕ, ◌<◌}
use lib.ListN.{length}
use Rattle.quick.specs.Rows.{five_at}
use Rattle.quick.proofs.rows.fits_row.Given as goal

abbrev pub invariant-loop-i : goal.invariant-loop-i
invariant-loop-i l =
    (80 < length l.line) × (l.good ≡ true → (j : ℕ) → j < l.i → five_at l.row l.line j ≡ true)
