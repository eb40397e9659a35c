use Rattle.export.proofs.WordLaws.{project-laid}
use borrow.Author.Rules.{rules}
use Rattle.export.proofs.readings.put_project.Goals as goal

pub returns : goal.returns
returns c = search (project-laid, rules)
