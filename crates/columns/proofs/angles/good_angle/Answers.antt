-- A sign does not take an angle out of its range, so the digits and the letter are all that is judged. Assumes nothing.
use mathlib.Core.Path.{◌≡◌, refl, ap, ◌∙◌}
use native.Mathlib.Omega.{arith}
use Prim.Native.Nat.{◌-◌}
use lib.ListN.{length, take}
use Rattle.rules.specs.Tests.{◌&◌, ◌≤?◌}
use Rattle.columns.specs.Leaves.{digits_up_to}
use Rattle.columns.proofs.AngleLaws.{agrees, angle-wide, angle-good}
use Rattle.columns.proofs.angles.good_angle.Goals as goal

pub returns-then-part-n : goal.returns-then-part-n
returns-then-part-n c = angle-wide (agrees c.args.way c.limits_of-l.ensures) c.args.part.now c.if-part-n.true

pub returns : goal.returns
returns c =
    let f = c.args.part.now in
    let m = c.limits_of-l.result in
    let e : m.columns - 0 ≡ m.columns = omega arith in
    angle-good (agrees c.args.way c.limits_of-l.ensures) f c.if-part-n.false
    (c.good_digits.ensures ∙ ap (λ k. length (take k f) ≤? 16 & digits_up_to m.top (take k f)) e) refl
