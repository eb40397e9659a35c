-- What stands in house style already stays; the rest is written anew, in the field's own columns.
use mathlib.Core.List.{map}
use lib.ListN.{length-map}
use Rattle.styling.specs.Styling.{filled}
use Rattle.styling.proofs.StyleLaws.{part-changed}
use Rattle.styling.proofs.styles.style_number.Goals as goal

pub returns : goal.returns
returns c =
    let a = c.args in
    part-changed a.line.now a.first a.w c.requires.0 c.requires.1 c.requires.2 (map filled) (λ bs. length-map bs filled) c.fill.ensures
