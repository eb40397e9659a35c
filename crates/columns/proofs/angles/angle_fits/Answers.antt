-- By the sign. Assumes nothing.
use mathlib.Core.Path.{◌≡◌, ◌∙◌}
use mathlib.Core.Bool.{cond}
use lib.IntN.{pos}
use lib.Signed.{lt_z}
use mir.Syntax.{w64}
use mir.Val.{to_z, of_z}
use mir.ValLaws.{to_z-of_z}
use Rattle.columns.proofs.AngleLaws.{agrees, angle-fits_is}
use Rattle.columns.proofs.angles.angle_fits.Goals as goal
use Rattle.columns.proofs.angles.angle_fits.Goals.{then-z-lt0, else-z-lt0}

-- the limit of its side
most : (c : goal.After-unsigned_abs) → c.if-z-lt0.most ≡ cond (lt_z (to_z w64 (of_z w64 c.args.z)) (pos 0)) c.limits_of-l.result.low c.limits_of-l.result.top
most c = elim c.if-z-lt0.branch [ then-z-lt0 w ↦ rw w.if-z-lt0.true w.most-is | else-z-lt0 w ↦ rw w.if-z-lt0.false w.most-is ]

pub returns : goal.returns
returns c = angle-fits_is (agrees c.args.way c.limits_of-l.ensures) c.args.z (to_z-of_z w64 _ c.ranges.z) c.unsigned_abs.ensures.value (most c)
