-- The sequence number, then the record.
use Rattle.kinds.proofs.ValueLaws.{stop, past}
use Rattle.given_records.proofs.GivenLaws.{sequence_fits, given_is}
use Rattle.given_records.proofs.records.judge_given.Goals as goal

pub returns-in_err-judge_test : goal.returns-in_err-judge_test
returns-in_err-judge_test c =
    let a = c.args in
    given_is a.what _ a.a.now a.b.now a.c.now (sequence_fits _ c.count_fits-ok.ensures)
    (stop _ _ c.judge_test.ensures c.in_err-judge_test.was c.from_residual.ensures.1)

pub returns : goal.returns
returns c =
    let a = c.args in
    given_is a.what _ a.a.now a.b.now a.c.now (sequence_fits _ c.count_fits-ok.ensures)
    (past _ _ c.judge_test.ensures c.in_ok-judge_test.was c.judge_record.ensures)
