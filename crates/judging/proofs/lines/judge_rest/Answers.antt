use borrow.Author.Rules.{rules}
use native.Mathlib.Omega.{arith}
use Rattle.judging.proofs.LineLaws.{rest_bad, rest_good, spot_few}
use Rattle.judging.proofs.lines.judge_rest.Goals as goal

pub returns-then-has_number : goal.returns-then-has_number
returns-then-has_number c = search (rest_good, rules)

pub overflow_add-spot_number : goal.overflow_add-spot_number
overflow_add-spot_number c = omega (arith, spot_few c.args.line.now c.spot_number.result c.spot_number.ensures)

pub returns : goal.returns
returns c = search (rest_bad, rules)
