-- The code, then the text.
use Rattle.kinds.proofs.ValueLaws.{stop, past}
use Rattle.given_records.proofs.GivenLaws.{job_is}
use Rattle.given_records.proofs.records.judge_job.Goals as goal

pub returns-in_err-judge_test : goal.returns-in_err-judge_test
returns-in_err-judge_test c = let a = c.args in job_is a.k a.a.now c.is_code.ensures (stop _ _ c.judge_test.ensures c.in_err-judge_test.was c.from_residual.ensures.1)

pub returns : goal.returns
returns c = let a = c.args in job_is a.k a.a.now c.is_code.ensures (past _ _ c.judge_test.ensures c.in_ok-judge_test.was c.judge_printable.ensures)
