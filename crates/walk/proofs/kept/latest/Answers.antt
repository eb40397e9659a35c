use Rattle.walk.proofs.KeptLaws.{latest_same, latest_other}
use Rattle.walk.proofs.kept.latest.Goals as goal

pub returns-then-eq : goal.returns-then-eq
returns-then-eq c = let a = c.args in latest_same a.kind a.asked a.lead a.old c.eq.result c.eq.ensures c.if-eq.true

pub returns : goal.returns
returns c = let a = c.args in latest_other a.kind a.asked a.lead a.old c.eq.result c.eq.ensures c.if-eq.false
