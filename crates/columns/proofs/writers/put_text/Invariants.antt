-- The invariant: the first i columns are those of the text.
use mathlib.Core.Path.{◌≡◌}
use mathlib.Core.List.{◌++◌}
use lib.ListN.{length, take, drop}
use Rattle.columns.proofs.writers.put_text.Given as goal

abbrev pub invariant-loop-i : goal.invariant-loop-i
invariant-loop-i l = (length l.out ≡ length l.text) × (take l.i l.out ++ drop l.i l.text ≡ l.text)
