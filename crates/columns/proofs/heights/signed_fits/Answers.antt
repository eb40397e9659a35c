-- By the width and the sign. Assumes nothing.
use mathlib.Core.Path.{◌≡◌, ◌∙◌}
use mathlib.Core.Bool.{cond}
use Prim.Native.Nat.{◌-◌}
use lib.IntN.{pos}
use lib.Signed.{lt_z}
use mir.Syntax.{w64}
use mir.Val.{to_z, of_z}
use mir.ValLaws.{to_z-of_z}
use Rattle.columns.proofs.ValueLaws.{signed_none, signed_is}
use Rattle.columns.proofs.heights.signed_fits.Goals as goal
use Rattle.columns.proofs.heights.signed_fits.Goals.{then-z-lt0, else-z-lt0}

pub returns-then-width-lt1 : goal.returns-then-width-lt1
returns-then-width-lt1 c = signed_none _ _ _ c.args.z c.if-width-lt1.true

-- the columns that are left for the digits
room : (c : goal.After-is_between) → c.if-z-lt0.room ≡ cond (lt_z (to_z w64 (of_z w64 c.args.z)) (pos 0)) (c.args.width - 1) c.args.width
room c = elim c.if-z-lt0.branch [ then-z-lt0 w ↦ rw w.if-z-lt0.true w.room-is | else-z-lt0 w ↦ rw w.if-z-lt0.false w.room-is ]

pub returns : goal.returns
returns c = signed_is _ _ _ c.args.z c.if-width-lt1.false (to_z-of_z w64 _ c.ranges.z) c.unsigned_abs-size.ensures.value (room c) c.has_room.ensures c.is_between.ensures
