-- The part as the code cuts it is the field's columns.
use native.Mathlib.Omega.{arith}
use Rattle.judging.proofs.FieldLaws.{spot_small, refused_is}
use Rattle.judging.proofs.fields.refused_in.Goals as goal

pub overflow_add-result : goal.overflow_add-result
overflow_add-result c =
    let p = c.requires in
    omega (arith, spot_small c.args.line.now c.args.first c.args.width p.0 p.1 p.2 c.args.item p.3 c.spot_item.result c.spot_item.ensures)

pub returns : goal.returns
returns c =
    let p = c.requires in
    refused_is c.args.line.now c.args.first c.args.width p.0 p.1 p.2 c.args.item p.3 c.spot_item.result c.spot_item.ensures
