use Rattle.walk.proofs.StepLaws.{step_fault, step_next}
use borrow.Author.Rules.{rules}
use mathlib.Core.Path.{◌∙◌}
use Rattle.kinds.proofs.ValueLaws.{handed_on}
use Rattle.walk.proofs.records.step.Goals as goal

pub returns-in_err-judge_quickly : goal.returns-in_err-judge_quickly
returns-in_err-judge_quickly c =
    let a = c.args in
    let j = c.judge_quickly in
    handed_on c.from_residual.ensures.1 ∙ step_fault a.rows.now a.s a.r a.line.now j.result j.ensures _ c.in_err-judge_quickly.was

pub returns : goal.returns
returns c =
    let a = c.args in
    let j = c.judge_quickly in
    search (step_next a.rows.now a.s a.r a.line.now j.result j.ensures c.in_ok-judge_quickly.was a.kind c.requires.0 c.look_up-next.result c.look_up-next.ensures, rules)
