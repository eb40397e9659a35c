-- By the sign, and by whether there is a column. Assumes nothing.
use lib.ListN.{length}
use mir.Syntax.{w64}
use mir.ValLaws.{to_z-of_z}
use Rattle.columns.proofs.WriteLaws.{signed_digits, signed_minus, signed_nothing}
use Rattle.columns.proofs.heights.put_signed.Goals as goal

pub returns-then-z-ge0 : goal.returns-then-z-ge0
returns-then-z-ge0 c = signed_digits (to_z-of_z w64 _ c.ranges.z) c.unsigned_abs-size.ensures.value (length c.args.out.now) c.if-z-ge0.true c.put_digits.ensures

pub returns-then-out-gt0 : goal.returns-then-out-gt0
returns-then-out-gt0 c = signed_minus (to_z-of_z w64 _ c.ranges.z) c.unsigned_abs-size.ensures.value c.args.out.now _ c.if-z-ge0.false c.if-out-gt0.true c.put_digits-then-out-gt0.ensures

pub returns-else-out-gt0 : goal.returns-else-out-gt0
returns-else-out-gt0 c = signed_nothing c.args.out.now c.args.z c.if-out-gt0.false
