use Rattle.rules.proofs.Truth.{of≡, of≢}
use Rattle.padding.specs.Lines.{nearer_of}
use Rattle.padding.proofs.lines.nearer.Goals as goal

pub returns-then-b-eq10 : goal.returns-then-b-eq10
unfolding nearer_of
returns-then-b-eq10 c = rw (of≡ c.if-b-eq10.true)

pub returns-else-b-eq10 : goal.returns-else-b-eq10
unfolding nearer_of
returns-else-b-eq10 c = rw (of≢ c.if-b-eq10.false)
