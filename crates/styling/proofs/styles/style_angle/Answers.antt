-- What stands in house style already stays; the rest is written anew, in the field's own columns.
use Prim.Native.Nat.{◌+◌}
use lib.ListN.{set, length-set}
use Rattle.styling.specs.Styling.{angle_stands}
use Rattle.styling.proofs.StyleLaws.{part_left, part_anew}
use Rattle.styling.proofs.styles.style_angle.Goals as goal

pub returns-then-angle_stands : goal.returns-then-angle_stands
returns-then-angle_stands c =
    let a = c.args in
    part_left a.line.now a.first (a.n + 1) c.requires.0 c.requires.1 c.requires.2 (angle_stands a.n a.plus) (λ bs. set bs a.n a.plus) c.angle_stands.ensures c.if-angle_stands.true

pub returns : goal.returns
returns c =
    let a = c.args in
    part_anew a.line.now a.first (a.n + 1) c.requires.0 c.requires.1 c.requires.2 (angle_stands a.n a.plus) (λ bs. set bs a.n a.plus) c.angle_stands.ensures (λ bs. length-set bs a.n a.plus) c.if-angle_stands.false c.put_letter.ensures
