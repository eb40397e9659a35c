-- Sixteen bytes make less than 2 ^ 63. Assumes nothing.
use mathlib.Core.Path.{sym, ◌∙◌}
use native.Mathlib.Omega.{arith}
use lib.ListN.{length}
use mir.Syntax.{w64}
use mir.ValLaws.{to_z-of_z}
use Rattle.rules.proofs.Truth.{of≤, of>}
use Rattle.columns.proofs.Loops.{pow_most}
use Rattle.columns.proofs.ValueLaws.{signed_value}
use Rattle.columns.proofs.heights.read_signed.Goals as goal

pub returns-then-part-gt16 : goal.returns-then-part-gt16
returns-then-part-gt16 c = sym (rw (of> c.if-part-gt16.true))

pub with_sign-requires : goal.with_sign-requires
with_sign-requires c = omega (arith, c.sum.ensures.small, pow_most (length c.args.part.now) 16 (omega arith))

pub returns : goal.returns
returns c =
    sym (rw (of≤ c.if-part-gt16.false)
    (sym (signed_value c.args.part.now c.has_minus-negative.ensures c.sum.ensures.is (to_z-of_z w64 _ (record { sfits = c.with_sign.type_inv }) ∙ c.with_sign.ensures))))
