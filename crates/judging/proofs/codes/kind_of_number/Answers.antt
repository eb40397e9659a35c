-- One case for each code, and one for none of them.
use borrow.Author.Rules.{rules}
use Rattle.rules.specs.Tests.{◌=?◌}
use Rattle.rules.specs.Kinds.{data_codes, kind_from}
use Rattle.kinds.specs.Values.{kind_in, kind_index}
use Rattle.judging.proofs.CodeLaws.{no_code}
use Rattle.judging.proofs.codes.kind_of_number.Goals as goal

pub returns-in-10 : goal.returns-in-10
unfolding kind_from data_codes ◌=?◌ kind_in kind_index
returns-in-10 c = rw c.in-10.is

pub returns-in-11 : goal.returns-in-11
unfolding kind_from data_codes ◌=?◌ kind_in kind_index
returns-in-11 c = rw c.in-11.is

pub returns-in-12 : goal.returns-in-12
unfolding kind_from data_codes ◌=?◌ kind_in kind_index
returns-in-12 c = rw c.in-12.is

pub returns-in-25 : goal.returns-in-25
unfolding kind_from data_codes ◌=?◌ kind_in kind_index
returns-in-25 c = rw c.in-25.is

pub returns-in-26 : goal.returns-in-26
unfolding kind_from data_codes ◌=?◌ kind_in kind_index
returns-in-26 c = rw c.in-26.is

pub returns-in-27 : goal.returns-in-27
unfolding kind_from data_codes ◌=?◌ kind_in kind_index
returns-in-27 c = rw c.in-27.is

pub returns-in-70 : goal.returns-in-70
unfolding kind_from data_codes ◌=?◌ kind_in kind_index
returns-in-70 c = rw c.in-70.is

pub returns-in-72 : goal.returns-in-72
unfolding kind_from data_codes ◌=?◌ kind_in kind_index
returns-in-72 c = rw c.in-72.is

pub returns-in-80 : goal.returns-in-80
unfolding kind_from data_codes ◌=?◌ kind_in kind_index
returns-in-80 c = rw c.in-80.is

pub returns-in-86 : goal.returns-in-86
unfolding kind_from data_codes ◌=?◌ kind_in kind_index
returns-in-86 c = rw c.in-86.is

pub returns-in-91 : goal.returns-in-91
unfolding kind_from data_codes ◌=?◌ kind_in kind_index
returns-in-91 c = rw c.in-91.is

pub returns-in-92 : goal.returns-in-92
unfolding kind_from data_codes ◌=?◌ kind_in kind_index
returns-in-92 c = rw c.in-92.is

pub returns-in-93 : goal.returns-in-93
unfolding kind_from data_codes ◌=?◌ kind_in kind_index
returns-in-93 c = rw c.in-93.is

pub returns-in_default : goal.returns-in_default
unfolding kind_from data_codes ◌=?◌ kind_in kind_index
returns-in_default c = search (no_code, rules)
