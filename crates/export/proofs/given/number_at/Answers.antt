use Rattle.std.proofs.Common.{ap, ◌∙◌}
use mir.Facts.{to_z-of_z}
use mir.Syntax.{w64}
use Rattle.answers.specs.Given.{number_of}
use Rattle.export.proofs.GivenLaws.{number_tried}
use Rattle.export.proofs.given.number_at.Goals as goal

pub returns : goal.returns
returns c =
    let whole = to_z-of_z {w = w64} {z = c.word_at.result} record { sfits = c.word_at.type_inv } in
    c.unwrap_or.ensures ∙ number_tried c.try_from.result _ c.try_from.ensures ∙ ap number_of (whole ∙ c.word_at.ensures)
