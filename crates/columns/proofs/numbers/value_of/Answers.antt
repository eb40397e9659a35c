-- By the length. Assumes nothing.
use mathlib.Core.Path.{sym, ◌∙◌}
use Rattle.rules.proofs.Truth.{of≤, of>}
use Rattle.columns.proofs.numbers.value_of.Goals as goal

pub returns-then-part-gt16 : goal.returns-then-part-gt16
returns-then-part-gt16 c = sym (rw (of> c.if-part-gt16.true))

pub returns : goal.returns
returns c = c.sum.ensures.is ∙ sym (rw (of≤ c.if-part-gt16.false))
