-- Field after field: each is laid over what those before it have left.
use Rattle.kinds.specs.Values.{values_of}
use Rattle.styling.specs.Laying.{lay_fields}
use Rattle.writing.proofs.lines.lay_heights.Goals as goal

pub returns : goal.returns
unfolding lay_fields values_of
returns c =
    rw (c.lay_other_heights.ensures, c.lay_orthometric.ensures)
