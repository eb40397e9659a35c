-- The part as the code cuts it is the field's columns; then 9 before 10.
use Rattle.kinds.specs.Values.{expect_of}
use Rattle.judging.proofs.FieldLaws.{cut_sized, row_good, row_odd, row_bad}
use Rattle.judging.proofs.fields.judge_row.Goals as goal

pub good_item-requires : goal.good_item-requires
good_item-requires c =
    let p = c.requires in
    cut_sized c.args.line.now c.args.first c.args.width p.0 p.1 p.2 c.args.item p.3

pub returns-then-agrees_item : goal.returns-then-agrees_item
returns-then-agrees_item c =
    let p = c.requires in
    row_good c.args.line.now c.args.first c.args.width p.0 p.1 p.2 (expect_of c.args.e) c.args.item c.args.bond
    c.good_item.result c.good_item.ensures c.if-good_item.true c.agrees_item.result c.agrees_item.ensures c.if-agrees_item.true

pub returns-then-good_item : goal.returns-then-good_item
returns-then-good_item c =
    let p = c.requires in
    row_odd c.args.line.now c.args.first c.args.width p.0 p.1 p.2 (expect_of c.args.e) c.args.item c.args.bond
    c.good_item.result c.good_item.ensures c.if-good_item.true c.agrees_item.result c.agrees_item.ensures c.if-agrees_item.false c.new.ensures

pub returns : goal.returns
returns c =
    let p = c.requires in
    row_bad c.args.line.now c.args.first c.args.width p.0 p.1 p.2 (expect_of c.args.e) c.args.item c.args.bond
    c.good_item.result c.good_item.ensures c.if-good_item.false c.new-2.ensures
