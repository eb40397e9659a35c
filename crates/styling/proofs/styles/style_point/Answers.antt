-- Field after field: each changes its own columns only.
use Rattle.rules.specs.Items.{columns, plus}
use Rattle.columns.specs.Types.{way_of}
use Rattle.kinds.specs.Tables.{field_of}
use Rattle.styling.specs.Styling.{change_field, change_rows}
use Rattle.styling.proofs.styles.style_point.Goals as goal

pub returns : goal.returns
unfolding change_rows change_field field_of columns plus way_of
returns c = rw (c.style_angle-2.ensures, c.style_angle.ensures, c.style_number.ensures)
