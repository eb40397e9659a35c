-- One arm for each kind, by the promise of what it calls.
use Rattle.judging.proofs.SpotLaws.{sized-number, sized-height, good_narrow, media_long}
use Rattle.judging.proofs.spots.is_good.Goals as goal

pub is_media-requires : goal.is_media-requires
is_media-requires c =
    media_long c.args.part.now c.in-Media.is c.requires

pub returns-in-Number : goal.returns-in-Number
returns-in-Number c = good_narrow _ c.args.part.now (sized-number _ _ _ _) c.in-Number.is c.requires c.good_number.ensures

pub returns-in-Height : goal.returns-in-Height
returns-in-Height c = good_narrow _ c.args.part.now (sized-height _ _ _ _) c.in-Height.is c.requires c.good_height.ensures
