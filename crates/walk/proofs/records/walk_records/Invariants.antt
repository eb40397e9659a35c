-- The invariant: what is left to walk, count and fill from here is what was to do at the start.
use mathlib.Core.Path.{◌≡◌}
use lib.ListN.{length}
use Rattle.rules.specs.Chapter4.{ordered}
use Rattle.walk.proofs.WalkLaws.{Going}
use Rattle.walk.proofs.records.walk_records.Given as goal

abbrev pub invariant-loop-i : goal.invariant-loop-i
invariant-loop-i l = (length l.words ≡ length l.initial.words) × Going (ordered l.rows l.last) l.file l.n l.initial.words l.words l.s l.counts l.i
