use Rattle.walk.proofs.ReferLaws.{occupied_station, occupied_instrument, occupied_antenna, occupied_good}
use borrow.Author.Rules.{rules}
use Rattle.walk.proofs.referring.judge_occupation.Goals as goal

pub returns-then-is_undefined : goal.returns-then-is_undefined
returns-then-is_undefined c = search (occupied_station, rules)

pub returns-then-is_undefined-2 : goal.returns-then-is_undefined-2
returns-then-is_undefined-2 c = search (occupied_instrument, rules)

pub returns-then-is_undefined-3 : goal.returns-then-is_undefined-3
returns-then-is_undefined-3 c = search (occupied_antenna, rules)

pub returns : goal.returns
returns c = search (occupied_good, rules)
