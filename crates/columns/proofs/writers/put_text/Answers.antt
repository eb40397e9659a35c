use mathlib.Core.Path.{refl, sym, ◌∙◌}
use native.Mathlib.Omega.{arith}
use lib.ListN.{length-set}
use borrow.Author.Tests.{eq-eqb, ne_eqb}
use Rattle.rules.specs.Tests.{◌=?◌}
use Rattle.columns.proofs.Loops.{fill_turn, fill_end}
use Rattle.columns.proofs.writers.put_text.Goals as goal

pub loop-i-preserved : goal.loop-i-preserved
loop-i-preserved c =
    let s = c.loop-i in (
      simp length-set (omega arith),
      fill_turn _ s.out s.i (omega arith) _ refl (omega arith) ∙ s.invariant.1,
    )

pub returns-after-loop-i : goal.returns-after-loop-i
unfolding ◌=?◌
returns-after-loop-i c =
    let s = c.loop-i in
    sym (rw (eq-eqb _ _ c.if-text-out.true) (sym s.invariant.1 ∙ fill_end _ s.out s.i (omega arith) (omega arith)))

pub returns-else-text-out : goal.returns-else-text-out
unfolding ◌=?◌
returns-else-text-out c = sym (rw (ne_eqb _ _ c.if-text-out.false))
