-- Each value from its own columns; a signed one comes back from its word.
use mathlib.Core.Path.{◌∙◌, ap}
use mir.Facts.{to_z-of_z}
use mir.Syntax.{w64}
use Rattle.reading.proofs.ValueLaws.{network-given}
use Rattle.reading.proofs.values.read_network.Goals as goal

pub returns : goal.returns
returns c =
    let l = c.args.line.now in
    network-given l c.number_in.result c.number_in.ensures c.deviation_in.result c.deviation_in.ensures c.deviation_in-2.result c.deviation_in-2.ensures c.correlation_in.result c.correlation_in.ensures c.deviation_in-3.result c.deviation_in-3.ensures
    c.char_in.result c.char_in.ensures
    (c.new.ensures ∙ ap (λ z. record { station = c.number_in.result; north = c.deviation_in.result; east = c.deviation_in-2.result; correlation = z; ellipsoid = c.deviation_in-3.result; scaled = c.char_in.result }) (to_z-of_z {w = w64} {z = c.correlation_in.result} record { sfits = c.correlation_in.type_inv }))
