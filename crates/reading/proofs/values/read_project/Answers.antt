use borrow.Author.Rules.{rules}
use Rattle.reading.proofs.ValueLaws.{project-given}
use Rattle.reading.proofs.values.read_project.Goals as goal

pub returns : goal.returns
returns c = search (project-given, rules)
