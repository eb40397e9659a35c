-- Field after field: each is laid over what those before it have left.
use Rattle.rules.specs.Items.{render, on_number, on_text, on_gap}
use Rattle.kinds.specs.Values.{values_of}
use Rattle.styling.specs.Laying.{lay_fields}
use Rattle.writing.proofs.lines.lay_factor.Goals as goal

pub returns : goal.returns
unfolding lay_fields values_of render on_number on_text on_gap
returns c =
    rw (c.lay_text.ensures, c.lay_number-2.ensures, c.lay_number.ensures)
