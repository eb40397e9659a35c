-- The character by its own promise, then its tie.
use mathlib.Core.Path.{◌∙◌}
use Rattle.rules.specs.Fields.{is_missing}
use Rattle.columns.specs.Types.{height_value}
use Rattle.kinds.proofs.ValueLaws.{past}
use Rattle.given_records.proofs.JudgeLaws.{tie_test}
use Rattle.given_records.proofs.judging.judge_tied.Goals as goal

pub returns : goal.returns
returns c =
    let a = c.args in
    past _ _ c.judge_one.ensures c.in_ok-judge_one.was (c.judge_test.ensures ∙ rw (c.is_missing-missing.ensures, tie_test (is_missing (height_value a.h)) a.t))
