-- As many records as have begun.
use Rattle.reading.proofs.CallLaws.{there_is}
use Rattle.reading.proofs.is_there.Goals as goal

pub returns : goal.returns
returns c = rw c.count_begun.ensures (there_is _ _)
