-- The parts of the media identifier, a word after the other.
use Rattle.export.proofs.WordLaws.{media-laid}
use Rattle.export.proofs.words.put_media.Goals as goal

pub returns : goal.returns
returns c =
    media-laid _ _ _ _ _ _ _ _ c.put_character.ensures c.put_number.ensures c.put_character-2.ensures c.put_character-3.ensures c.put_four.ensures
