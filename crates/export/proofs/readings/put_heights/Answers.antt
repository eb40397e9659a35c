-- The words of the record one after the other; a signed number comes back from its word.
use Rattle.export.proofs.WordLaws.{heights-laid}
use Rattle.export.proofs.readings.put_heights.Goals as goal

pub returns : goal.returns
returns c =
    heights-laid _ _ _ _ _ _ _ _ c.put_orthometric.ensures c.put_height.ensures c.put_character.ensures c.put_height-2.ensures c.put_character-2.ensures c.put_character-3.ensures
