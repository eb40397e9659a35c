use borrow.Author.Rules.{rules}
use Rattle.padding.proofs.TextLaws.{text-all, text_none, text_return, text_whole}
use Rattle.padding.proofs.lines.text_length.Goals as goal

pub returns-then-part-n : goal.returns-then-part-n
returns-then-part-n c = search (text-all, rules)

pub returns-then-n-eq0 : goal.returns-then-n-eq0
returns-then-n-eq0 c = search (text_none, rules)

pub returns-then-byte_at-eq13 : goal.returns-then-byte_at-eq13
returns-then-byte_at-eq13 c = search (text_return, rules)

pub returns : goal.returns
returns c = search (text_whole, rules)
