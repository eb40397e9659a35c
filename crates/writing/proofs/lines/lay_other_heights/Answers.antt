-- Field after field: each is laid over what those before it have left.
use mathlib.Core.Path.{ap, ◌∙◌}
use lib.ListN.{length}
use Rattle.styling.proofs.LayLaws.{fields_length}
use Rattle.rules.specs.Items.{render, on_number, on_text, on_gap}
use Rattle.columns.specs.Leaves.{height_columns}
use Rattle.kinds.specs.Values.{values_of}
use Rattle.styling.specs.Laying.{lay_fields}
use Rattle.writing.proofs.lines.lay_other_heights.Goals as goal

pub returns : goal.returns
unfolding lay_fields height_columns values_of render on_number on_text on_gap
returns c =
    rw (c.lay_text.ensures, c.lay_one-3.ensures, c.lay_blank-2.ensures, c.lay_one-2.ensures, c.lay_height-2.ensures, c.lay_blank.ensures, c.lay_one.ensures, c.lay_height.ensures)

pub shape_of-line : goal.shape_of-line
shape_of-line c = ap length (returns c) ∙ fields_length _ _ _
