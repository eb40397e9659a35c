-- The words of the record one after the other; a signed number comes back from its word.
use mir.ValLaws.{to_z-of_z}
use mathlib.Core.Path.{◌≡◌}
use mir.Syntax.{w64}
use mir.Val.{to_z, of_z}
use Rattle.export.proofs.WordLaws.{local-laid}
use borrow.Author.Rules.{rules}
use Rattle.export.proofs.readings.put_local.Goals as goal

pub returns : goal.returns
returns c =
    let r = c.args.r in
    let back : to_z w64 (of_z w64 r.correlation) ≡ r.correlation = to_z-of_z w64 r.correlation record { sfits = search rules } in
    local-laid _ _ _ r _ _ _ _ _ c.put_number.ensures c.put_number-2.ensures c.put_deviation.ensures c.put_deviation-2.ensures (rw back at c.put_signed.ensures) c.put_deviation-3.ensures c.put_character.ensures
