-- Field after field: each is laid over what those before it have left.
use mathlib.Core.Path.{◌≡◌, refl, ap, ◌∙◌}
use borrow.Author.Rules.{rules}
use lib.ListN.{length}
use Rattle.styling.proofs.LayLaws.{fields_length}
use Rattle.rules.specs.Items.{render, on_number, on_text, on_gap}
use Rattle.columns.specs.Types.{way_of}
use Rattle.kinds.specs.Values.{values_of}
use Rattle.styling.specs.Laying.{lay, lay_fields}
use Rattle.rules.specs.Items.{width, columns, angle, fits, num, latitude, longitude}
use mir.Syntax.{w64}
use mir.Val.{to_z, of_z}
use Rattle.writing.proofs.lines.lay_point.Goals as goal

pub lay_angle-requires : goal.lay_angle-requires
unfolding width columns way_of
lay_angle-requires c =
    let a = c.args in
    let latitude-back : to_z w64 (of_z w64 a.p.latitude) ≡ a.p.latitude = search rules in
    (refl, ap (λ z. fits (angle latitude) (num z)) latitude-back ∙ c.requires.0)

pub lay_angle-requires-2 : goal.lay_angle-requires-2
unfolding width columns way_of
lay_angle-requires-2 c =
    let a = c.args in
    let longitude-back : to_z w64 (of_z w64 a.p.longitude) ≡ a.p.longitude = search rules in
    (refl, ap (λ z. fits (angle longitude) (num z)) longitude-back ∙ c.requires.1)

pub returns : goal.returns
unfolding lay_fields way_of values_of render on_number on_text on_gap
returns c =
    let a = c.args in
    let latitude-back : to_z w64 (of_z w64 a.p.latitude) ≡ a.p.latitude = search rules in
    let longitude-back : to_z w64 (of_z w64 a.p.longitude) ≡ a.p.longitude = search rules in
    rw (c.lay_blank-2.ensures, c.lay_two.ensures, c.lay_blank.ensures, c.lay_angle-2.ensures ∙ ap (λ z. lay 57 (render (angle longitude) (num z)) c.lay_angle.new.line) longitude-back, c.lay_angle.ensures ∙ ap (λ z. lay 45 (render (angle latitude) (num z)) c.lay_text.new.line) latitude-back, c.lay_text.ensures, c.lay_number.ensures)

pub shape_of-line : goal.shape_of-line
shape_of-line c = ap length (returns c) ∙ fields_length _ _ _
