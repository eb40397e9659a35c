use native.Mathlib.Omega.{arith}
use Rattle.kinds.proofs.ValueLaws.{handed_on}
use Rattle.padding.proofs.PadLaws.{faulty, good-lines, count, narrow, before, laid}
use Rattle.padding.proofs.pad.Goals as goal

pub judge-requires : goal.judge-requires
judge-requires c = c.count_halves-halves.ensures.told

pub returns-in_err-lines : goal.returns-in_err-lines
returns-in_err-lines c = let a = c.args in rw (handed_on c.from_residual.ensures.1) (faulty a.input.now a.out.now c.judge.result c.judge.ensures _ c.in_err-lines.was)

pub returns-then-out-lines : goal.returns-then-out-lines
returns-then-out-lines c = let a = c.args in narrow a.input.now a.out.now c.judge.result c.judge.ensures _ c.in_ok-lines.was c.if-out-lines.true c.new.ensures

pub lay_lines-requires : goal.lay_lines-requires
lay_lines-requires c =
    let a = c.args in
    let v = c.judge.result in
    let halves = c.count_halves-halves.ensures in
    let k = count a.input.now a.out.now v c.judge.ensures _ c.in_ok-lines.was in
    (good-lines a.input.now a.out.now v c.judge.ensures _ c.in_ok-lines.was, k, before a.input.now a.out.now v c.judge.ensures _ c.in_ok-lines.was _ halves.within, halves.behind, omega arith)

pub returns : goal.returns
returns c = let a = c.args in laid a.input.now a.out.now c.judge.result c.judge.ensures _ c.in_ok-lines.was c.if-out-lines.false _ c.lay_lines.ensures
