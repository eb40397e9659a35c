-- What stands in house style already stays; the rest is written anew, in the field's own columns.
use Rattle.styling.specs.Styling.{rise_stands, height_anew}
use Rattle.styling.proofs.StandLaws.{height_same}
use Rattle.styling.proofs.StyleLaws.{part_left, part_anew}
use Rattle.styling.proofs.styles.style_rise.Goals as goal

pub returns-then-rise_stands : goal.returns-then-rise_stands
returns-then-rise_stands c =
    let a = c.args in
    part_left a.line.now a.first a.w c.requires.0 c.requires.1 c.requires.2 rise_stands height_anew c.rise_stands.ensures c.if-rise_stands.true

pub returns : goal.returns
returns c =
    let a = c.args in
    part_anew a.line.now a.first a.w c.requires.0 c.requires.1 c.requires.2 rise_stands height_anew c.rise_stands.ensures height_same c.if-rise_stands.false c.write_height.ensures
