-- Twenty digits are more than any number here has. Assumes nothing.
use mathlib.Core.Path.{sym}
use native.Mathlib.Omega.{arith}
use Rattle.rules.specs.Tests.{◌≤?◌}
use Rattle.rules.proofs.Truth.{of≤}
use Rattle.columns.proofs.Loops.{pow_most}
use Rattle.columns.proofs.numbers.has_room.Goals as goal

pub returns-then-w-gt19 : goal.returns-then-w-gt19
returns-then-w-gt19 c = sym (of≤ (omega (arith, pow_most 20 c.args.w (omega arith))))

pub returns : goal.returns
unfolding ◌≤?◌
returns c = rw c.pow.ensures
