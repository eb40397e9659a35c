-- The invariant: the columns from i on hold the last digits, and those of the rest are still to come. Assumes nothing.
use mathlib.Core.Path.{◌≡◌}
use mathlib.Core.List.{◌++◌}
use lib.ListN.{length, drop}
use Rattle.rules.specs.Digits.{put}
use Rattle.columns.proofs.writers.put_digits.Given as goal

abbrev pub invariant-loop-i : goal.invariant-loop-i
invariant-loop-i l = put (length l.initial.out) l.v ≡ put l.i l.rest ++ drop l.i l.out
