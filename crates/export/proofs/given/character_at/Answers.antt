use Rattle.std.proofs.Common.{ap, ◌∙◌}
use mir.Facts.{to_z-of_z}
use mir.Syntax.{w64}
use Rattle.answers.specs.Given.{character_of}
use Rattle.export.proofs.GivenLaws.{character_tried}
use Rattle.export.proofs.given.character_at.Goals as goal

pub returns : goal.returns
returns c =
    let whole = to_z-of_z {w = w64} {z = c.word_at.result} record { sfits = c.word_at.type_inv } in
    c.unwrap_or.ensures ∙ character_tried c.try_from.result _ c.try_from.ensures ∙ ap character_of (whole ∙ c.word_at.ensures)
