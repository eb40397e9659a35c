use Rattle.export.proofs.GivenLaws.{project-given}
use borrow.Author.Rules.{rules}
use Rattle.export.proofs.given.give_project.Goals as goal

pub returns : goal.returns
returns c = search (project-given, rules)
