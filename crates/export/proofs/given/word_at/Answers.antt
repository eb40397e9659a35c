use Rattle.std.proofs.Common.{ap, ◌∙◌}
use Rattle.std.specs.Option.{unwrap_or}
use lib.IntN.{pos}
use mir.Facts.{to_z-of_z}
use mir.Syntax.{w64}
use Rattle.export.proofs.GivenLaws.{word_found}
use Rattle.export.proofs.given.word_at.Goals as goal

pub returns : goal.returns
returns c =
    to_z-of_z {w = w64} {z = c.unwrap_or.result} record { sfits = c.unwrap_or.type_inv } ∙ c.unwrap_or.ensures
    ∙ ap (λ r. unwrap_or r (pos 9_223_372_036_854_775_807)) c.copied.ensures ∙ word_found c.args.values.now c.args.i c.get.result c.get.ensures.lookup
