-- Too wide or narrow, unfit, or written. Assumes nothing.
use mathlib.Core.Path.{sym, ◌∙◌}
use lib.IntN.{pos}
use Rattle.rules.specs.Items.{month, num}
use Rattle.columns.proofs.WriteLaws.{kept-wide, kept_unfit, now_written, month-wide, month-put}
use Rattle.columns.proofs.numbers.put_month.Goals as goal

pub returns-then-out-ne6 : goal.returns-then-out-ne6
returns-then-out-ne6 c = let a = c.args in kept-wide month (num (pos a.n)) a.out.now (λ e. c.if-out-ne6.true (e ∙ month-wide))

pub returns-then-not-month_fits : goal.returns-then-not-month_fits
returns-then-not-month_fits c = let a = c.args in kept_unfit month (num (pos a.n)) a.out.now (sym c.month_fits.ensures ∙ c.if-not-month_fits.true)

pub returns : goal.returns
returns c =
    let a = c.args in
    now_written month (num (pos a.n)) a.out.now (c.if-out-ne6.false ∙ sym month-wide)
    (sym c.month_fits.ensures ∙ c.if-not-month_fits.false)
    (month-put a.n c.if-out-ne6.false (rw c.from.ensures at c.put_digits.ensures))
