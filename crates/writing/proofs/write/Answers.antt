-- Room, then the judge, then the line.
use borrow.Author.Rules.{rules}
use mathlib.Core.Path.{◌∙◌, ap}
use lib.Seq.{length-take-le}
use Rattle.std.specs.Prelude.{Err}
use Rattle.kinds.proofs.ValueLaws.{handed_on, mapped_ok, mapped_err}
use Rattle.writing.proofs.LineLaws.{judged_good, write_short, write_bad, write_good}
use Rattle.writing.proofs.write.Goals as goal

pub returns-then-out-lt81 : goal.returns-then-out-lt81
returns-then-out-lt81 c = let a = c.args in write_short a.sequence a.what a.first.now a.second.now a.third.now a.out.now c.if-out-lt81.true c.new.ensures

pub lay_line-requires : goal.lay_line-requires
lay_line-requires c =
    let a = c.args in
    let j = c.judge_given in
    (length-take-le 81 a.out.now c.if-out-lt81.false, judged_good _ j.ensures (mapped_ok j.result _ c.map_err.ensures.cases c.in_ok-map_err.was))

pub returns-in_err-map_err : goal.returns-in_err-map_err
returns-in_err-map_err c =
    let a = c.args in
    let j = c.judge_given in
    let m = mapped_err j.result _ c.map_err.ensures.cases c.in_err-map_err.was in
    write_bad a.sequence a.what a.first.now a.second.now a.third.now a.out.now c.if-out-lt81.false j.ensures m.0 m.1
    (handed_on c.from_residual.ensures.1 ∙ ap Err (search (m.2, rules)))

pub returns : goal.returns
returns c =
    let a = c.args in
    let j = c.judge_given in
    write_good a.sequence a.what a.first.now a.second.now a.third.now a.out.now c.if-out-lt81.false j.ensures
    (mapped_ok j.result _ c.map_err.ensures.cases c.in_ok-map_err.was) c.lay_line.ensures
