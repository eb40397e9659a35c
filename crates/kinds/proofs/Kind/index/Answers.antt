use mathlib.Core.Path.{sym}
use Prim.Native.Nat.{◌<◌}
use Rattle.std.proofs.Common.{subst}
use Rattle.kinds.proofs.KindLaws.{tag_is, index_small}
use Rattle.kinds.proofs.Kind.index.Goals as goal

pub returns-clause-value : goal.returns-clause-value
returns-clause-value c = tag_is c.args.self

pub returns-clause-small : goal.returns-clause-small
returns-clause-small c = subst (λ n. n < 14) (sym (tag_is c.args.self)) (index_small c.args.self)
