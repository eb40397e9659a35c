use borrow.Author.Rules.{rules}
use Rattle.kinds.specs.Values.{kind_in, kind_index}
use Rattle.judging.proofs.CodeLaws.{is_data, is_job, is_none}
use Rattle.judging.proofs.codes.kind_between.Goals as goal

pub returns-then-is_data : goal.returns-then-is_data
returns-then-is_data c = search (is_data, rules)

pub returns-then-is_code : goal.returns-then-is_code
unfolding kind_in kind_index
returns-then-is_code c = search (is_job, rules)

pub returns : goal.returns
unfolding kind_in
returns c = search (is_none, rules)
