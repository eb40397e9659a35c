-- The invariant: where nothing failed so far, the columns of every step so far are printable, and those of the first sixteen of their class.
use mathlib.Core.Path.{◌≡◌}
use mathlib.Core.Bool.{true, ◌&&◌}
use Prim.Native.Nat.{ℕ, ◌<◌}
use lib.ListN.{length}
use Rattle.quick.specs.Rows.{col_at, five_texts}
use Rattle.quick.proofs.rows.fits_texts.Given as goal

abbrev pub invariant-loop-i : goal.invariant-loop-i
invariant-loop-i l =
    (80 < length l.line) × (l.good ≡ true → (j : ℕ) → j < l.i → (col_at l.row l.line j && five_texts l.line j) ≡ true)
