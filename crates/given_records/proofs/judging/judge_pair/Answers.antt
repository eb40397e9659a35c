-- The field's test by its own promise, after the verdict so far.
use mathlib.Core.Path.{◌∙◌}
use mathlib.Core.List.{◌∷◌, []}
use Rattle.given_records.proofs.JudgeLaws.{word_good}
use Rattle.rules.specs.Tests.{◌&◌, ◌=?◌}
use Rattle.rules.specs.Items.{or_blank, fits, on_text}
use Rattle.columns.specs.Types.{set_of}
use Rattle.kinds.specs.Values.{two_text}
use Rattle.given_records.proofs.judging.judge_pair.Goals as goal

pub returns : goal.returns
unfolding two_text fits on_text ◌&◌ ◌=?◌
returns c = c.judge_test.ensures ∙ rw (c.good_word_or_blank.ensures ∙ word_good (or_blank (set_of c.args.s)) (c.args.t.0 ∷ c.args.t.1 ∷ []))
