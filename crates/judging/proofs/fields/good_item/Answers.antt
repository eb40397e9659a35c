-- One arm for each item, by the promise of what it calls.
use Rattle.kinds.specs.declared.tables.Item.TheVariants as I
use Rattle.judging.proofs.SpotLaws.{sized-number, sized-height}
use Rattle.judging.proofs.FieldLaws.{stands_narrow}
use Rattle.judging.proofs.fields.good_item.Goals as goal

pub returns-in-Station : goal.returns-in-Station
returns-in-Station c = stands_narrow I.Station c.args.part.now c.requires c.in-Station.is c.good_number.ensures (sized-number _ _ _ _)

pub returns-in-Equipment : goal.returns-in-Equipment
returns-in-Equipment c = stands_narrow I.Equipment c.args.part.now c.requires c.in-Equipment.is c.good_number-in-Equipment.ensures (sized-number _ _ _ _)

pub returns-in-Date : goal.returns-in-Date
returns-in-Date c = stands_narrow I.Date c.args.part.now c.requires c.in-Date.is c.good_number-in-Date.ensures (sized-number _ _ _ _)

pub returns-in-Time : goal.returns-in-Time
returns-in-Time c = stands_narrow I.Time c.args.part.now c.requires c.in-Time.is c.good_number-in-Time.ensures (sized-number _ _ _ _)

pub returns-in-Rise : goal.returns-in-Rise
returns-in-Rise c = stands_narrow I.Rise c.args.part.now c.requires c.in-Rise.is c.good_height.ensures (sized-height _ _ _ _)

pub returns-in-Metres : goal.returns-in-Metres
returns-in-Metres c = stands_narrow I.Metres c.args.part.now c.requires c.in-Metres.is c.good_height-in-Metres.ensures (sized-height _ _ _ _)

pub returns-in-Deviation : goal.returns-in-Deviation
returns-in-Deviation c = stands_narrow I.Deviation c.args.part.now c.requires c.in-Deviation.is c.good_number-in-Deviation.ensures (sized-number _ _ _ _)

pub returns-in-Correlation : goal.returns-in-Correlation
returns-in-Correlation c = stands_narrow I.Correlation c.args.part.now c.requires c.in-Correlation.is c.good_height-in-Correlation.ensures (sized-height _ _ _ _)

pub returns-in-Variance : goal.returns-in-Variance
returns-in-Variance c = stands_narrow I.Variance c.args.part.now c.requires c.in-Variance.is c.good_number-in-Variance.ensures (sized-number _ _ _ _)
