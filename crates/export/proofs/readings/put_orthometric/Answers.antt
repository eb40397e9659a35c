-- The words of the record one after the other; a signed number comes back from its word.
use Rattle.export.proofs.WordLaws.{orthometric_laid}
use Rattle.export.proofs.readings.put_orthometric.Goals as goal

pub returns : goal.returns
returns c =
    orthometric_laid _ _ _ _ _ _ _ _ c.put_number.ensures c.put_height.ensures c.put_character.ensures c.put_two.ensures c.put_character-2.ensures c.put_two-2.ensures
