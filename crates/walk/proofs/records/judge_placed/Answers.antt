use Rattle.walk.proofs.StepLaws.{placed_late, placed_bytes, placed_long, placed_order, placed_foreign, placed_rest}
use borrow.Author.Rules.{rules}
use mathlib.Core.Path.{◌∙◌}
use Rattle.kinds.proofs.ValueLaws.{handed_on}
use Rattle.walk.proofs.records.judge_placed.Goals as goal

pub returns-then-r-gt99999 : goal.returns-then-r-gt99999
returns-then-r-gt99999 c = search (placed_late, rules)

pub returns-in_err-judge_bytes : goal.returns-in_err-judge_bytes
returns-in_err-judge_bytes c =
    let a = c.args in
    let b = c.judge_bytes in
    handed_on c.from_residual.ensures.1 ∙ placed_bytes a.rows.now a.s a.r a.line.now c.if-r-gt99999.false b.result b.ensures _ c.in_err-judge_bytes.was

pub returns-then-look_up-eq0 : goal.returns-then-look_up-eq0
returns-then-look_up-eq0 c = search (placed_order, rules)

pub returns-then-is_foreign : goal.returns-then-is_foreign
returns-then-is_foreign c = search (placed_foreign, rules)

pub judge_rest-requires : goal.judge_rest-requires
judge_rest-requires c = search (placed_long, rules)

pub returns : goal.returns
returns c =
    let a = c.args in
    let b = c.judge_bytes in
    search (placed_rest a.rows.now a.s a.r a.line.now a.kind c.requires.0 c.if-r-gt99999.false b.result b.ensures c.in_ok-judge_bytes.was c.look_up.result c.look_up.ensures c.if-look_up-eq0.false, rules)
