-- The code's connectives are those of the tests. Assumes nothing.
use mathlib.Core.Path.{◌≡◌, ap}
use mathlib.Core.Bool.{◌&&◌, ◌||◌}
use Prim.Native.Nat.{ℕ}
use lib.Dec.{leb}
use Rattle.rules.specs.Tests.{within, ◌&◌, ◌≤?◌}
use Rattle.rules.specs.Characters.{is_digit, is_letter, letter, digit, ◌or◌, member}
use Rattle.rules.proofs.Truth.{or-cond}
use Rattle.columns.proofs.Loops.{&_is}
use Rattle.kinds.proofs.Job.is_code.Goals as goal

spelled : (a b : ℕ) → ((leb 65 a && leb a 90) && ((leb 65 b && leb b 90) || (leb 48 b && leb b 57))) ≡ is_letter a & member (letter or digit) b
unfolding is_letter is_digit member within ◌≤?◌
spelled a b = simp &_is (ap (λ t. (leb 65 a && leb a 90) && t) (or-cond (leb 65 b && leb b 90) (leb 48 b && leb b 57)))

pub returns : goal.returns
returns c = spelled c.args.first c.args.second
