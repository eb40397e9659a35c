use Rattle.export.proofs.WordLaws.{job_laid}
use borrow.Author.Rules.{rules}
use Rattle.export.proofs.readings.put_job.Goals as goal

pub returns : goal.returns
returns c = search (job_laid, rules)
