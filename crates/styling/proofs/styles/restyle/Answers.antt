-- A copy of the line, its fields in house style, its number, its line feed.
use mathlib.Core.Path.{sym, ◌∙◌}
use Rattle.kinds.specs.Values.{kind_index}
use Rattle.kinds.proofs.KindLaws.{index_small}
use Rattle.styling.proofs.LayLaws.{text_is}
use Rattle.styling.proofs.StyleLaws.{line_styled}
use Rattle.styling.proofs.styles.restyle.Goals as goal

pub returns : goal.returns
returns c =
    let a = c.args in
    let h = c.requires in
    rw (c.lay_one.ensures, c.style_fields.ensures, c.lay_number.ensures, c.put_text.ensures, text_is a.line.now a.out.now (h.1 ∙ sym h.0))
    (line_styled a.line.now (kind_index a.kind) (index_small a.kind) h.2 h.3 a.number h.0 h.4 h.5)
