use borrow.Author.Rules.{rules}
use mathlib.Core.Path.{◌∙◌}
use Rattle.kinds.proofs.ValueLaws.{handed_on, mapped_ok, mapped_err}
use Rattle.reading.proofs.CallLaws.{kind_known, line_refused, line_values}
use Rattle.reading.proofs.read_line.Goals as goal

pub returns-in_err-map_err : goal.returns-in_err-map_err
returns-in_err-map_err c =
    let j = c.judge_alone in
    let m = mapped_err j.result _ c.map_err.ensures.cases c.in_err-map_err.was in
    handed_on c.from_residual.ensures.1 ∙ line_refused c.args.line.now c.args.«record» j.result j.ensures m.0 m.1 (search (m.2, rules))

pub unwrap-kind-requires : goal.unwrap-kind-requires
unwrap-kind-requires c = let j = c.judge_alone in kind_known c.args.line.now j.result j.ensures (mapped_ok j.result _ c.map_err.ensures.cases c.in_ok-map_err.was) c.kind_at.result c.kind_at.ensures

pub returns : goal.returns
returns c =
    let j = c.judge_alone in
    line_values c.args.line.now c.args.«record» j.result j.ensures (mapped_ok j.result _ c.map_err.ensures.cases c.in_ok-map_err.was)
    c.kind_at.result c.kind_at.ensures _ c.unwrap-kind.ensures _ c.read_sequence.ensures _ c.read_record.ensures
