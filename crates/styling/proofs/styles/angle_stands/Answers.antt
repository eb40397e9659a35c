-- The test as the definition has it.
use Rattle.rules.proofs.Truth.{of≡, of≢}
use Rattle.styling.specs.Styling.{angle_stands}
use Rattle.styling.proofs.styles.angle_stands.Goals as goal

pub returns-then-byte_at-plus : goal.returns-then-byte_at-plus
unfolding angle_stands
returns-then-byte_at-plus c = rw (← c.byte_at.ensures, of≡ c.if-byte_at-plus.true)

pub returns : goal.returns
unfolding angle_stands
returns c = rw (← c.byte_at.ensures, of≢ c.if-byte_at-plus.false, c.is_sided.ensures, c.middle.ensures)
