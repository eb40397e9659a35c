use mathlib.Core.Path.{◌≡◌, sym, ◌∙◌}
use native.Mathlib.Omega.{arith}
use lib.ListN.{length}
use Rattle.columns.proofs.Loops.{val_turn, val_end, pow_next, pow_most}
use Rattle.columns.proofs.numbers.sum.Goals as goal

pub overflow_mul-v : goal.overflow_mul-v
overflow_mul-v c = omega (arith, pow_most c.loop-b.b-index 15 (omega arith))

pub overflow_add-v : goal.overflow_add-v
overflow_add-v c = omega (arith, pow_most c.loop-b.b-index 15 (omega arith), c.digit.ensures)

pub loop-b-preserved : goal.loop-b-preserved
loop-b-preserved c =
    let s = c.loop-b in
    (omega arith, omega (arith, pow_next s.b-index, c.digit.ensures), val_turn c.args.part.now s.b-index s.v _ c.digit.ensures c.loop-b-test.true ∙ s.invariant.2)

pub returns : goal.returns
returns c =
    let s = c.loop-b in
    let f = c.args.part.now in
    let e : s.b-index ≡ length f = omega arith in
    record { is = sym (val_end f s.b-index s.v c.loop-b-test.false) ∙ s.invariant.2; small = rw (← e) s.invariant.1 }
