use Rattle.export.proofs.AnswerLaws.{checked_words_lem, counts_fourteen}
use borrow.Author.Rules.{rules}
use Rattle.export.proofs.counts.put_checked.Goals as goal

pub put_fault-requires : goal.put_fault-requires
put_fault-requires c = (search rules, rw c.fault_in.ensures c.requires.1.small)

pub put_counts-requires : goal.put_counts-requires
put_counts-requires c = (search rules, counts_fourteen c.args.v c.requires.1.fourteen _ c.unwrap_or-counts.ensures)

pub returns : goal.returns
returns c =
    let a = c.args in
    checked_words_lem a.out.now _ _ a.v c.requires.0 _ c.fault_in.ensures c.put_fault.ensures _ c.unwrap_or-counts.ensures c.put_counts.ensures c.requires.1.fourteen
