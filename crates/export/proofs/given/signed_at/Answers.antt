use Rattle.std.proofs.Common.{ap, ◌∙◌, arith}
use mir.Facts.{to_z-of_z}
use mir.Syntax.{w64}
use Rattle.answers.specs.Given.{signed_of}
use Rattle.export.proofs.GivenLaws.{near_0, far_from_0}
use Rattle.export.proofs.given.signed_at.Goals as goal

pub returns-then-unsigned_abs-le99999999 : goal.returns-then-unsigned_abs-le99999999
returns-then-unsigned_abs-le99999999 c =
    let whole = to_z-of_z {w = w64} {z = c.word_at-word.result} record { sfits = c.word_at-word.type_inv } in
    near_0 _ (omega (arith, c.unsigned_abs.ensures.value, c.if-unsigned_abs-le99999999.true)) ∙ ap signed_of (whole ∙ c.word_at-word.ensures)

pub returns-else-unsigned_abs-le99999999 : goal.returns-else-unsigned_abs-le99999999
returns-else-unsigned_abs-le99999999 c =
    let whole = to_z-of_z {w = w64} {z = c.word_at-word.result} record { sfits = c.word_at-word.type_inv } in
    far_from_0 _ (omega (arith, c.unsigned_abs.ensures.value, c.if-unsigned_abs-le99999999.false)) ∙ ap signed_of (whole ∙ c.word_at-word.ensures)
