-- By cases. Assumes nothing.
use lib.ListN.{length}
use Rattle.columns.proofs.WriteLaws.{count_blanks, count_digits}
use Rattle.columns.proofs.numbers.put_count.Goals as goal

pub returns-in-None : goal.returns-in-None
returns-in-None c = count_blanks (length c.args.out.now) c.in-None.is c.put_blank.ensures

pub returns-in-Some : goal.returns-in-Some
returns-in-Some c = count_digits (length c.args.out.now) c.in-Some.is (rw c.from.ensures at c.put_digits.ensures)
