-- Each value from its own columns; a signed one comes back from its word.
use mathlib.Core.Path.{◌∙◌}
use mir.Facts.{to_z-of_z}
use mir.Syntax.{w64}
use Rattle.reading.proofs.ValueLaws.{point-given}
use Rattle.reading.proofs.values.read_point.Goals as goal

pub returns : goal.returns
returns c =
    let l = c.args.line.now in
    point-given l c.number_in.result c.number_in.ensures c.middle.result.now c.middle.ensures c.read_angle.result c.read_angle.ensures
    c.middle-2.result.now c.middle-2.ensures c.read_angle-2.result c.read_angle-2.ensures c.two_in.result c.two_in.ensures
    (c.new.ensures ∙ rw (to_z-of_z {w = w64} {z = c.read_angle.result} record { sfits = c.read_angle.type_inv }, to_z-of_z {w = w64} {z = c.read_angle-2.result} record { sfits = c.read_angle-2.type_inv }))
