-- Each value from its own columns; a signed one comes back from its word.
use mathlib.Core.Path.{◌∙◌, ap}
use mir.Facts.{to_z-of_z}
use mir.Syntax.{w32}
use Rattle.reading.proofs.ValueLaws.{measurement-given}
use Rattle.reading.proofs.values.read_measurement.Goals as goal

pub returns : goal.returns
returns c =
    let l = c.args.line.now in
    measurement-given l c.number_in.result c.number_in.ensures c.number_in-2.result c.number_in-2.ensures c.number_in-3.result c.number_in-3.ensures
    c.rise_in.result c.rise_in.ensures
    (c.new.ensures ∙ ap (λ z. record { station = c.number_in.result; date = c.number_in-2.result; time = c.number_in-3.result; height = z }) (to_z-of_z {w = w32} {z = c.rise_in.result} record { sfits = c.rise_in.type_inv }))
