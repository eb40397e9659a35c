-- A law for each way out.
use mathlib.Core.Path.{sym}
use borrow.Author.Tests.{le-leb, lt-leb}
use Rattle.rules.specs.Tests.{◌&◌, ◌≤?◌}
use Rattle.styling.specs.Laying.{roomy}
use Rattle.styling.proofs.laying.has_room.Goals as goal

pub returns-then-column-lt1 : goal.returns-then-column-lt1
unfolding roomy ◌&◌ ◌≤?◌
returns-then-column-lt1 c = sym (rw (lt-leb _ _ c.if-column-lt1.true))

pub returns-then-n-column : goal.returns-then-n-column
unfolding roomy ◌&◌ ◌≤?◌
returns-then-n-column c = sym (rw (le-leb _ _ c.if-column-lt1.false, lt-leb _ _ c.if-n-column.true))

pub returns : goal.returns
unfolding roomy ◌&◌ ◌≤?◌
returns c = sym (rw (le-leb _ _ c.if-column-lt1.false, le-leb _ _ c.if-n-column.false))
