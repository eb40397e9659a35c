use Rattle.walk.proofs.KeptLaws.{foreign_kind}
use Rattle.walk.proofs.kept.is_foreign.Goals as goal

pub returns : goal.returns
returns c = let a = c.args in foreign_kind a.s a.kind a.first a.second c.eq.result c.eq.ensures
