-- Each value from its own word; a signed one comes back from its word.
use mathlib.Core.Path.{◌∙◌, ap}
use mir.Facts.{to_z-of_z}
use mir.Syntax.{w64}
use Rattle.export.proofs.GivenLaws.{local-given}
use Rattle.export.proofs.given.give_local.Goals as goal

pub returns : goal.returns
returns c =
    let ws = c.args.values.now in
    local-given ws c.number_at.result c.number_at-2.result c.deviation_at.result c.deviation_at-2.result c.correlation_at.result c.deviation_at-3.result c.character_at.result _
    c.number_at.ensures c.number_at-2.ensures c.deviation_at.ensures c.deviation_at-2.ensures c.correlation_at.ensures c.deviation_at-3.ensures c.character_at.ensures
    (c.new.ensures ∙ ap (λ x. record { standpoint = c.number_at.result; forepoint = c.number_at-2.result; north = c.deviation_at.result; east = c.deviation_at-2.result; correlation = x; ellipsoid = c.deviation_at-3.result; scaled = c.character_at.result }) (to_z-of_z {w = w64} {z = c.correlation_at.result} record { sfits = c.correlation_at.type_inv }))
