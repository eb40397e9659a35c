use native.Mathlib.Omega.{arith}
use Rattle.quick.proofs.CodeLaws.{five_columns}
use Rattle.quick.proofs.rows.fits_row.Goals as goal

pub returns : goal.returns
returns c =
    let a = c.args in
    λ q. five_columns a.row.now a.line.now (λ j h. c.loop-i.invariant.1 q j (omega (arith, h)))
