use Rattle.std.proofs.Common.{arith}
use Rattle.std.proofs.lemmas.Grind.{common_steps}
use Rattle.rules.specs.Tests.{◌≤?◌}
use Rattle.styling.specs.Styling.{filled}
use Rattle.styling.proofs.styles.zero_before_digits.Goals as goal

pub returns : goal.returns
unfolding filled ◌≤?◌
returns c = grind (arith, common_steps)
