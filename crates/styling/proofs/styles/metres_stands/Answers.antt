-- The test as the definition has it.
use Rattle.styling.specs.Styling.{metres_stands}
use Rattle.styling.proofs.styles.metres_stands.Goals as goal

pub returns-then-rise_stands : goal.returns-then-rise_stands
unfolding metres_stands
returns-then-rise_stands c = rw (← c.rise_stands.ensures, c.if-rise_stands.true)

pub returns : goal.returns
unfolding metres_stands
returns c = rw (← c.rise_stands.ensures, c.if-rise_stands.false, c.all_blank.ensures)
