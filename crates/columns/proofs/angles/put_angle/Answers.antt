-- Too wide or narrow, unfit, or written with the letter of its side. Assumes nothing.
use mathlib.Core.Path.{◌≡◌, sym, ap, ◌∙◌}
use native.Mathlib.Omega.{arith}
use mathlib.Core.Bool.{Bool, true, cond}
use mathlib.Core.List.{◌++◌, ◌∷◌, []}
use Prim.Native.Nat.{◌-◌}
use lib.ListN.{length}
use lib.IntN.{ℤ, pos}
use lib.Signed.{lt_z}
use mir.Syntax.{w64}
use mir.Val.{SFits, to_z, of_z}
use mir.ValLaws.{to_z-of_z}
use Rattle.rules.specs.Digits.{put}
use Rattle.rules.specs.Items.{angle, num, fits, dms, columns}
use Rattle.columns.specs.Types.{way_of}
use Rattle.columns.specs.declared.Way.{Way}
use Rattle.columns.proofs.WriteLaws.{kept-wide, kept_unfit, now_written}
use Rattle.columns.proofs.AngleLaws.{agrees, angle-wide_is, angle_size, angle-render}
use Rattle.columns.proofs.angles.put_angle.Goals as goal
use Rattle.columns.proofs.angles.put_angle.Goals.{then-z-lt0, else-z-lt0}

-- z comes to a call and back as it is
fitting : (way : Way) {z : ℤ} {b : Bool} → SFits w64 z → b ≡ fits (angle (way_of way)) (num (to_z w64 (of_z w64 z))) → b ≡ fits (angle (way_of way)) (num z)
fitting way k e = e ∙ ap (λ z. fits (angle (way_of way)) (num z)) (to_z-of_z w64 _ k)

pub returns-then-out-l : goal.returns-then-out-l
returns-then-out-l c = let a = c.args in kept-wide (angle (way_of a.way)) (num a.z) a.out.now (λ e. c.if-out-l.true (e ∙ angle-wide_is (agrees c.args.way c.limits_of-l.ensures)))

pub returns-then-not-angle_fits : goal.returns-then-not-angle_fits
returns-then-not-angle_fits c = let a = c.args in kept_unfit (angle (way_of a.way)) (num a.z) a.out.now (sym (fitting c.args.way c.ranges.z c.angle_fits.ensures) ∙ c.if-not-angle_fits.true)

pub put_size-requires : goal.put_size-requires
put_size-requires c =
    let a = c.args in
    (omega (arith, c.if-out-l.false), angle_size (way_of a.way) a.z (sym (fitting c.args.way c.ranges.z c.angle_fits.ensures) ∙ c.if-not-angle_fits.false) (to_z-of_z w64 _ c.ranges.z) c.unsigned_abs.ensures.value)

pub returns : goal.returns
returns c =
    let a = c.args in
    let g = agrees c.args.way c.limits_of-l.ensures in
    let e : length a.out.now - 1 ≡ columns (way_of a.way) = omega (arith, c.if-out-l.false, g.wide) in
    now_written (angle (way_of a.way)) (num a.z) a.out.now (c.if-out-l.false ∙ sym (angle-wide_is g)) (sym (fitting c.args.way c.ranges.z c.angle_fits.ensures) ∙ c.if-not-angle_fits.false)
    (c.put_size.ensures
    ∙ ap (λ k. put k (dms c.unsigned_abs.result) ++ c.if-z-lt0.letter ∷ []) e
    ∙ angle-render g a.z (to_z-of_z w64 _ c.ranges.z) c.unsigned_abs.ensures.value
    (elim c.if-z-lt0.branch [ then-z-lt0 w ↦ rw w.if-z-lt0.true w.letter-is | else-z-lt0 w ↦ rw w.if-z-lt0.false w.letter-is ]))
