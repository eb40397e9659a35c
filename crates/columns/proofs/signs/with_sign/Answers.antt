-- Negated and not, by the laws of Signed for 64 bits. Assumes nothing.
use mir.Syntax.{w64}
use mir.ValLaws.{to_z_pos}
use Rattle.rules.specs.Items.{signed}
use Rattle.columns.proofs.Signed.{minus-fits, minus_back}
use Rattle.columns.proofs.signs.with_sign.Goals as goal

pub overflow_sub-result : goal.overflow_sub-result
overflow_sub-result c = minus-fits w64 _ c.requires

pub returns-then-negative : goal.returns-then-negative
unfolding signed
returns-then-negative c = rw c.if-negative.true (minus_back w64 _ c.requires)

pub returns-else-negative : goal.returns-else-negative
unfolding signed
returns-else-negative c = rw c.if-negative.false (to_z_pos w64 _ c.requires)
