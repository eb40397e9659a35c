-- The tests are those of the definition. Assumes nothing.
use mathlib.Core.Path.{sym}
use Rattle.rules.specs.Tests.{◌&◌}
use Rattle.rules.proofs.Truth.{of≤, of>}
use Rattle.columns.proofs.AngleLaws.{digits-good}
use Rattle.columns.proofs.angles.good_digits.Goals as goal

pub returns-then-ds-gt16 : goal.returns-then-ds-gt16
unfolding ◌&◌
returns-then-ds-gt16 c = sym (rw (of> c.if-ds-gt16.true))

pub returns : goal.returns
unfolding ◌&◌
returns c =
    let a = c.args in
    sym (rw (of≤ c.if-ds-gt16.false) (sym (digits-good a.top a.ds.now c.all_within.ensures c.sum-v.ensures.is c.angle_of.ensures)))
