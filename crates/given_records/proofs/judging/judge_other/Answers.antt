-- The number by its own promise, then that it is another.
use Rattle.rules.specs.Tests.{◌=?◌}
use Rattle.kinds.proofs.ValueLaws.{past}
use Rattle.given_records.proofs.judging.judge_other.Goals as goal

pub returns : goal.returns
unfolding ◌=?◌
returns c = past _ _ c.judge_count.ensures c.in_ok-judge_count.was c.judge_test.ensures
