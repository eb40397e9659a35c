use mathlib.Core.Bool.{◌&&◌}
use native.Mathlib.Omega.{arith}
use Rattle.quick.specs.Rows.{col_at, five_texts}
use Rattle.quick.proofs.CodeLaws.{five_turn, texts_from}
use Rattle.quick.proofs.rows.fits_texts.Goals as goal

pub loop-i-preserved : goal.loop-i-preserved
loop-i-preserved c =
    let a = c.args in
    (c.loop-i.invariant.0, five_turn (λ j. col_at a.row.now a.line.now j && five_texts a.line.now j) c.loop-i.good (c.column.result && c.five_texts.result) c.loop-i.i c.loop-i.invariant.1 (rw (c.column.ensures, c.five_texts.ensures)))

pub returns : goal.returns
returns c =
    let a = c.args in
    λ q. texts_from a.row.now a.line.now (λ j h. c.loop-i.invariant.1 q j (omega (arith, h)))
