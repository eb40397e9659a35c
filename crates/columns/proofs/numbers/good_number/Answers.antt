-- In a field that has its form the last column tells a blank one, and the value fits the width. Assumes nothing.
use mathlib.Core.Path.{sym}
use Rattle.rules.specs.Tests.{◌&◌}
use Rattle.rules.proofs.Truth.{of≤, of>}
use Rattle.columns.proofs.NumberLaws.{number-good}
use Rattle.columns.proofs.numbers.good_number.Goals as goal

pub returns-then-part-gt16 : goal.returns-then-part-gt16
unfolding ◌&◌
returns-then-part-gt16 c = sym (rw (of> c.if-part-gt16.true))

pub returns : goal.returns
unfolding ◌&◌
returns c =
    let a = c.args in
    sym (rw (of≤ c.if-part-gt16.false)
    (sym (number-good a.lo a.hi a.may a.part.now c.has_form.ensures c.last_of-blank.ensures c.sum-v.ensures.is c.from.ensures c.from-2.ensures)))
