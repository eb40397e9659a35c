use borrow.Author.Rules.{rules}
use Rattle.judging.proofs.LineLaws.{clean-good}
use Rattle.judging.proofs.lines.judge_bytes.Goals as goal

pub returns-then-is_clean : goal.returns-then-is_clean
returns-then-is_clean c = search (clean-good, rules)
