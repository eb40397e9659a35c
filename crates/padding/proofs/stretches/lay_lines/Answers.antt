use mathlib.Core.Path.{◌∙◌}
use borrow.Author.Rules.{rules}
use Rattle.padding.proofs.StretchLaws.{turned_done, ready_near, ready_far, apart_halves, halves_laid}
use Rattle.padding.proofs.stretches.lay_lines.Goals as goal

pub lay_in_turn-left-requires : goal.lay_in_turn-left-requires
lay_in_turn-left-requires c = (search (ready_near, rules), search (ready_far, rules), search (apart_halves, rules))

pub returns : goal.returns
returns c =
    turned_done _ _ _ _ _ _ _ c.lay_in_turn-left.ensures _ c.lay_stretch.ensures _ c.lay_stretch-2.ensures
    ∙ halves_laid _ _ c.args.start c.args.near c.args.lines c.requires.0 c.requires.1 c.requires.2 c.requires.3 c.requires.4
