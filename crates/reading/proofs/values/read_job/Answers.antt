use borrow.Author.Rules.{rules}
use Rattle.reading.proofs.ValueLaws.{job_given}
use Rattle.reading.proofs.values.read_job.Goals as goal

pub returns : goal.returns
returns c = search (job_given, rules)
