-- The words of the record one after the other; a signed number comes back from its word.
use mir.Syntax.{w32}
use mir.ValLaws.{to_z-of_z}
use Rattle.export.proofs.WordLaws.{measurement-laid}
use borrow.Author.Rules.{rules}
use Rattle.export.proofs.readings.put_measurement.Goals as goal

pub returns : goal.returns
returns c =
    measurement-laid _ _ _ c.args.r _ _ _ c.put_number.ensures c.put_number-2.ensures c.put_number-3.ensures c.put_height.ensures (to_z-of_z w32 c.args.r.height record { sfits = search rules })
