-- The test as the definition has it.
use Rattle.rules.proofs.Truth.{of≤, of>, of≡, of≢}
use Rattle.styling.specs.Styling.{rise_stands}
use Rattle.styling.proofs.styles.rise_stands.Goals as goal

pub returns-then-first-ge48 : goal.returns-then-first-ge48
unfolding rise_stands
returns-then-first-ge48 c = rw (← c.byte_at-first.ensures, of≤ c.if-first-ge48.true)

pub returns-then-first-eq45 : goal.returns-then-first-eq45
unfolding rise_stands
returns-then-first-eq45 c = rw (← c.byte_at-first.ensures, of> c.if-first-ge48.false, of≡ c.if-first-eq45.true, c.value_of.ensures)

pub returns : goal.returns
unfolding rise_stands
returns c = rw (← c.byte_at-first.ensures, of> c.if-first-ge48.false, of≢ c.if-first-eq45.false)
