use Rattle.std.proofs.Common.{ap, sym, ◌∙◌}
use Rattle.answers.specs.Given.{sequence_of, number_of}
use Rattle.export.proofs.GivenLaws.{sequence_none, sequence_some}
use Rattle.export.proofs.given.give_sequence.Goals as goal
use Rattle.std.specs.Prelude.{Some}

pub returns-then-word_at-eq18446744073709551615 : goal.returns-then-word_at-eq18446744073709551615
returns-then-word_at-eq18446744073709551615 c = sequence_none c.word_at.result record { sfits = c.word_at.type_inv } c.if-word_at-eq18446744073709551615.true ∙ ap sequence_of c.word_at.ensures

pub returns : goal.returns
returns c =
    ap Some (c.number_at.ensures ∙ ap number_of (sym c.word_at.ensures)) ∙ sequence_some c.word_at.result record { sfits = c.word_at.type_inv } c.if-word_at-eq18446744073709551615.false ∙ ap sequence_of c.word_at.ensures
