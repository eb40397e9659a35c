use mathlib.Core.Path.{refl}
use Rattle.padding.proofs.WalkLaws.{told_through}
use Rattle.padding.proofs.counting.count_lines.Goals as goal

pub returns : goal.returns
returns c =
    told_through _ _ _ _ _ refl _ _ c.walk_in_turn-lines.ensures.1 _ c.walk_out.ensures
