-- Field after field: each is laid over what those before it have left.
use mathlib.Core.Path.{ap, ◌∙◌}
use Prim.Native.Nat.{◌+◌}
use mir.Syntax.{w64}
use mir.ValLaws.{to_z-of_z}
use Rattle.rules.specs.Items.{render, on_number, on_text, on_gap}
use Rattle.columns.specs.Types.{height_value}
use Rattle.columns.specs.Leaves.{height_columns}
use Rattle.kinds.specs.Tables.{field_of}
use Rattle.styling.specs.Laying.{lay, lay_fields}
use Rattle.writing.proofs.lines.lay_accuracy.Goals as goal
use Rattle.columns.specs.declared.Height.{Height}

pub returns : goal.returns
unfolding lay_fields field_of height_columns height_value render on_number on_text on_gap
returns c =
    let a = c.args in
    rw (c.lay_one.ensures, c.lay_blank.ensures, c.lay_long-3.ensures, c.lay_signed.ensures ∙ ap (λ z. lay (a.first + 20) (height_columns 10 (Height.Mm z)) c.lay_long-2.new.line) (to_z-of_z w64 _ c.ranges.correlation), c.lay_long-2.ensures, c.lay_long.ensures)
