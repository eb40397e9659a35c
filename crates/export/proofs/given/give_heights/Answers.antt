-- Field after field, each from its own word; a height comes back from a word of 64 bits.
use Rattle.export.proofs.GivenLaws.{heights-given}
use Rattle.export.proofs.given.give_heights.Goals as goal

pub returns : goal.returns
returns c =
    heights-given _ _ _ _ _ _ _ _ _ _ _ _ _ c.number_at.ensures c.height_at.ensures c.character_at.ensures c.two_at.ensures c.character_at-2.ensures c.two_at-2.ensures c.height_at-2.ensures c.character_at-3.ensures c.height_at-3.ensures c.character_at-4.ensures c.character_at-5.ensures c.new.ensures
