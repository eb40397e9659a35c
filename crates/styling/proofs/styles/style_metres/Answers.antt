-- What stands in house style already stays; the rest is written anew, in the field's own columns.
use Rattle.styling.specs.Styling.{metres_stands, height_anew}
use Rattle.styling.proofs.StandLaws.{height_same}
use Rattle.styling.proofs.StyleLaws.{part_left, part_anew}
use Rattle.styling.proofs.styles.style_metres.Goals as goal

pub returns-then-metres_stands : goal.returns-then-metres_stands
returns-then-metres_stands c =
    let a = c.args in
    part_left a.line.now a.first a.w c.requires.0 c.requires.1 c.requires.2 metres_stands height_anew c.metres_stands.ensures c.if-metres_stands.true

pub returns : goal.returns
returns c =
    let a = c.args in
    part_anew a.line.now a.first a.w c.requires.0 c.requires.1 c.requires.2 metres_stands height_anew c.metres_stands.ensures height_same c.if-metres_stands.false c.write_height.ensures
