-- The height is read and written.
use Rattle.styling.specs.Styling.{height_anew}
use Rattle.styling.proofs.styles.write_height.Goals as goal

pub returns-then-minus-value : goal.returns-then-minus-value
unfolding height_anew
returns-then-minus-value c = rw (← c.has_minus-minus.ensures, ← c.value_of-value.ensures, c.if-minus-value.true, c.fill.ensures)

pub returns-else-minus-value : goal.returns-else-minus-value
unfolding height_anew
returns-else-minus-value c = rw (← c.has_minus-minus.ensures, ← c.value_of-value.ensures, c.if-minus-value.false, c.fill.ensures)
