-- Field after field: each is laid over what those before it have left.
use mathlib.Core.Path.{◌≡◌, ap, ◌∙◌}
use borrow.Author.Rules.{rules}
use Rattle.rules.specs.Items.{render, on_number, on_text, on_gap}
use Rattle.columns.specs.Types.{height_value}
use Rattle.columns.specs.Leaves.{height_columns}
use Rattle.kinds.specs.Values.{values_of}
use Rattle.styling.specs.Laying.{lay, lay_fields}
use mathlib.Core.Bool.{false}
use mir.Syntax.{w32}
use mir.Val.{to_z, of_z}
use Rattle.rules.specs.Items.{height, num}
use Rattle.writing.proofs.lines.lay_measurement.Goals as goal

pub returns : goal.returns
unfolding lay_fields height_columns height_value values_of render on_number on_text on_gap
returns c =
    let a = c.args in
    let height_back : to_z w32 (of_z w32 a.m.height) ≡ a.m.height = search rules in
    rw (c.lay_blank-2.ensures, c.lay_height.ensures ∙ ap (λ z. lay 56 (render (height 5 9_999 99_999 false) (num z)) c.lay_blank.new.line) height_back, c.lay_blank.ensures, c.lay_number-3.ensures, c.lay_number-2.ensures, c.lay_number.ensures)
