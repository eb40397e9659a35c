use Rattle.kinds.specs.Values.{kind_index}
use Rattle.walk.proofs.ReferLaws.{refs_80, refs_25, refs_91, refs_92, refs_others}
use borrow.Author.Rules.{rules}
use mathlib.Core.Path.{ap}
use Rattle.walk.proofs.referring.judge_references.Goals as goal

pub returns-in-Occupation : goal.returns-in-Occupation
unfolding kind_index
returns-in-Occupation c = let a = c.args in refs_25 a.words.now a.r (kind_index a.kind) a.line.now (ap kind_index c.in-Occupation.is) c.judge_occupation.ensures

pub returns-in-Point : goal.returns-in-Point
unfolding kind_index
returns-in-Point c = let a = c.args in refs_80 a.words.now a.r (kind_index a.kind) a.line.now (ap kind_index c.in-Point.is) c.judge_first.ensures

pub returns-in-Network : goal.returns-in-Network
unfolding kind_index
returns-in-Network c = let a = c.args in refs_91 a.words.now a.r (kind_index a.kind) a.line.now (ap kind_index c.in-Network.is) c.judge_network.ensures

pub returns-in-Local : goal.returns-in-Local
unfolding kind_index
returns-in-Local c = let a = c.args in refs_92 a.words.now a.r (kind_index a.kind) a.line.now (ap kind_index c.in-Local.is) c.judge_local.ensures

pub returns-in_default : goal.returns-in_default
returns-in_default c = search (refs_others, rules)
