-- The promises one after another; no angle of 64 bits leaves its type. Assumes nothing.
use mathlib.Core.Path.{ap, ◌∙◌}
use mathlib.Core.Bool.{cond}
use lib.ListN.{length}
use mir.Syntax.{w64}
use mir.ValLaws.{to_z-of_z}
use Rattle.rules.specs.Tests.{◌≤?◌}
use Rattle.rules.specs.Digits.{val}
use Rattle.columns.specs.Types.{way_of}
use Rattle.columns.proofs.AngleLaws.{Agrees, agrees, angle-read, angle_small}
use Rattle.columns.proofs.angles.read_angle.Goals as goal

known : (c : goal.After-with_sign) → Agrees c.limits_of-l.result (way_of c.args.way)
known c = agrees c.args.way c.limits_of-l.ensures

pub with_sign-requires : goal.with_sign-requires
with_sign-requires c = rw c.angle_of-m.ensures (angle_small c.value_of.result c.value_of.type_inv)

pub returns : goal.returns
returns c =
    to_z-of_z w64 _ (record { sfits = c.with_sign.type_inv })
    ∙ angle-read (known c) c.args.part.now
    (c.value_of.ensures ∙ ap (λ d. cond (length d ≤? 16) (val 0 d) 0) c.middle.ensures)
    c.angle_of-m.ensures c.byte_at-letter.ensures c.with_sign.ensures
