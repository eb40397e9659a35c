use Rattle.std.proofs.Common.{ap, ◌∙◌}
use Prim.Native.Nat.{min}
use mir.Facts.{to_z-of_z}
use mir.Syntax.{w64}
use Rattle.answers.specs.Given.{digit_of}
use Rattle.export.proofs.GivenLaws.{digit_tried}
use Rattle.export.proofs.given.digit_at.Goals as goal

pub returns : goal.returns
returns c =
    let whole = to_z-of_z {w = w64} {z = c.word_at.result} record { sfits = c.word_at.type_inv } in
    c.min.ensures ∙ ap (λ n. min n 10) c.unwrap_or.ensures ∙ digit_tried c.try_from.result _ c.try_from.ensures ∙ ap digit_of (whole ∙ c.word_at.ensures)
