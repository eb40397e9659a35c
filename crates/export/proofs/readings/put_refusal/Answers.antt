use Rattle.export.proofs.WordLaws.{refusal-laid}
use borrow.Author.Rules.{rules}
use Rattle.export.proofs.readings.put_refusal.Goals as goal

pub returns : goal.returns
returns c = search (refusal-laid, rules)
