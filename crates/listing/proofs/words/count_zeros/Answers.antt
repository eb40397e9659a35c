use Rattle.std.proofs.Common.{rules, tests}
use Rattle.std.proofs.lemmas.Iterator.{YieldsList-from_slice}
use Rattle.std.proofs.lemmas.Iterator.Search.{position_from_yields_List}
use Rattle.listing.proofs.LayLaws.{is_other, zeros_first}
use Rattle.listing.proofs.words.count_zeros.Goals as goal

pub returns : goal.returns
returns c =
    let found = position_from_yields_List is_other _ _ c.position.result c.position.ensures.ran (YieldsList-from_slice _ c.iter.ensures.rest) (λ x b q k. search (rules, tests)) in
    search (zeros_first, found, rules)
