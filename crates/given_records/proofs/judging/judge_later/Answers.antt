-- The month by its own promise, then the order of the two.
use Rattle.rules.specs.Tests.{◌≤?◌}
use Rattle.kinds.proofs.ValueLaws.{past}
use Rattle.given_records.proofs.judging.judge_later.Goals as goal

pub returns : goal.returns
unfolding ◌≤?◌
returns c = past _ _ c.judge_month.ensures c.in_ok-judge_month.was c.judge_test.ensures
