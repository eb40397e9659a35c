-- Field after field: each changes its own columns only.
use Rattle.kinds.specs.Tables.{field_of}
use Rattle.styling.specs.Styling.{change_field, change_rows}
use Rattle.styling.proofs.styles.style_network.Goals as goal

pub returns : goal.returns
unfolding change_rows change_field field_of
returns c = rw (c.style_accuracy.ensures, c.style_number.ensures)
