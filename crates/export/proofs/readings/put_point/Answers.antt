-- The words of the record one after the other; a signed number comes back from its word.
use mir.ValLaws.{to_z-of_z}
use mathlib.Core.Path.{◌≡◌}
use mir.Syntax.{w64}
use mir.Val.{to_z, of_z}
use Rattle.export.proofs.WordLaws.{point-laid}
use borrow.Author.Rules.{rules}
use Rattle.export.proofs.readings.put_point.Goals as goal

pub returns : goal.returns
returns c =
    let r = c.args.r in
    let a : to_z w64 (of_z w64 r.latitude) ≡ r.latitude = to_z-of_z w64 r.latitude record { sfits = search rules } in
    let b : to_z w64 (of_z w64 r.longitude) ≡ r.longitude = to_z-of_z w64 r.longitude record { sfits = search rules } in
    point-laid _ _ _ r _ _ c.put_number.ensures (rw a at c.put_signed.ensures) (rw b at c.put_signed-2.ensures) c.put_two.ensures
