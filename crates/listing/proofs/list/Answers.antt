use Rattle.listing.proofs.SheetLaws.{short_answer, short_table, short_output, large_answer, large_table, large_output, found_answer, found_table, found_output}
use borrow.Author.Rules.{rules}
use Rattle.listing.proofs.list.Goals as goal

pub returns-then-out-lt-ROOM : goal.returns-then-out-lt-ROOM
returns-then-out-lt-ROOM c = search (short_answer, short_table, short_output, rules)

pub returns-then-n-gt-MOST : goal.returns-then-n-gt-MOST
returns-then-n-gt-MOST c = search (large_answer, large_table, large_output, rules)

pub returns : goal.returns
returns c = search (found_answer, found_table, found_output, rules)
