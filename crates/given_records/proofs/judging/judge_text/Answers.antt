-- The field's test by its own promise, after the verdict so far.
use mathlib.Core.Path.{◌∙◌}
use Rattle.given_records.proofs.JudgeLaws.{word_fits}
use Rattle.rules.specs.Items.{each}
use Rattle.columns.specs.Types.{set_of}
use Rattle.given_records.proofs.judging.judge_text.Goals as goal

pub returns : goal.returns
returns c = let a = c.args in c.judge_test.ensures ∙ rw (word_fits a.w (each (set_of a.s)) a.t.now c.good_word.ensures)
