use mathlib.Core.Bool.{false}
use mathlib.Core.Path.{◌≡◌, refl}
use Rattle.rules.specs.Fields.{is_missing}
use Rattle.columns.specs.Types.{height_value}
use Rattle.columns.specs.declared.Height.{Height}
use Rattle.given_records.proofs.judging.is_missing.Goals as goal

pub returns-in-Missing : goal.returns-in-Missing
unfolding is_missing height_value
returns-in-Missing c = rw c.in-Missing.is

-- every height but the missing one
given : (h : Height) → (h ≡ Height.Missing → ⊥) → false ≡ is_missing (height_value h)
unfolding is_missing height_value
given Height.Missing f = absurd (f refl)
given (Height.Mm z) f = refl

pub returns-in_default : goal.returns-in_default
returns-in_default c = given c.args.h c.in_default.not-Missing
