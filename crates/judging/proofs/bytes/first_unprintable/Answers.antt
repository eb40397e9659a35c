use Rattle.std.proofs.Common.{rules, ◌∙◌, not}
use Rattle.std.proofs.lemmas.Iterator.{YieldsList-from_slice}
use Rattle.std.proofs.lemmas.Iterator.Adapters.{position_from-zero}
use Rattle.std.proofs.lemmas.Iterator.Search.{position_from_yields_List}
use Rattle.rules.specs.Characters.{is_printable}
use Rattle.judging.proofs.ByteLaws.{outside}
use Rattle.judging.proofs.bytes.first_unprintable.Goals as goal

pub returns : goal.returns
returns c =
    position_from_yields_List (λ b. not (is_printable b)) _ _ c.position.result c.position.ensures.ran (YieldsList-from_slice c.args.columns.now c.iter.ensures.rest) (λ x b q k. search (outside, rules))
    ∙ position_from-zero _ c.args.columns.now
