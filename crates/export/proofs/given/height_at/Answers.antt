use Rattle.std.proofs.Common.{ap, sym, ◌∙◌}
use mir.Facts.{to_z-of_z}
use mir.Syntax.{w32}
use Rattle.answers.specs.Given.{height_of, signed_of}
use Rattle.export.proofs.GivenLaws.{height_none, height-some}
use Rattle.export.proofs.given.height_at.Goals as goal
use Rattle.columns.specs.declared.Height.{Height}

pub returns-then-word_at : goal.returns-then-word_at
returns-then-word_at c = height_none c.word_at.result record { sfits = c.word_at.type_inv } c.if-word_at.true ∙ ap height_of c.word_at.ensures

pub returns : goal.returns
returns c =
    let whole = to_z-of_z {w = w32} {z = c.signed_at.result} record { sfits = c.signed_at.type_inv } in
    ap Height.Mm (whole ∙ c.signed_at.ensures ∙ ap signed_of (sym c.word_at.ensures)) ∙ height-some c.word_at.result record { sfits = c.word_at.type_inv } c.if-word_at.false ∙ ap height_of c.word_at.ensures
