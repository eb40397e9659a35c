-- Bytes, code, fields, a law for each way out; good bytes make the line long enough.
use native.Mathlib.Omega.{arith}
use mathlib.Core.Path.{sym, ◌∙◌, ap}
use Rattle.std.specs.Prelude.{Err}
use Rattle.kinds.proofs.KindLaws.{ok_or_some, ok_or_none}
use Rattle.kinds.proofs.ValueLaws.{handed_on}
use Rattle.judging.proofs.LineLaws.{alone_bytes, alone_long, alone_code, alone_fields}
use Rattle.judging.proofs.lines.judge_alone.Goals as goal

pub returns-in_err-judge_bytes : goal.returns-in_err-judge_bytes
returns-in_err-judge_bytes c =
    let j = c.judge_bytes in
    handed_on c.from_residual.ensures.1 ∙ alone_bytes c.args.line.now j.result j.ensures _ c.in_err-judge_bytes.was

pub returns-in_err-kind : goal.returns-in_err-kind
returns-in_err-kind c =
    let j = c.judge_bytes in
    let k = c.kind_at in
    let was = ok_or_none k.result _ (sym c.ok_or.ensures.value ∙ c.in_err-kind.was) in
    let none = alone_code c.args.line.now j.result j.ensures c.in_ok-judge_bytes.was k.result k.ensures was.0 in
    handed_on c.from_residual-in_err-kind.ensures.1 ∙ ap Err (was.1 ∙ c.new.ensures) ∙ sym none

pub judge_rest-requires : goal.judge_rest-requires
judge_rest-requires c =
    let j = c.judge_bytes in
    omega (arith, alone_long c.args.line.now j.result j.ensures c.in_ok-judge_bytes.was)

pub returns : goal.returns
returns c =
    let j = c.judge_bytes in
    let k = c.kind_at in
    let some = ok_or_some k.result _ (sym c.ok_or.ensures.value ∙ c.in_ok-kind.was) in
    alone_fields c.args.line.now j.result j.ensures c.in_ok-judge_bytes.was k.result k.ensures _ some c.judge_rest.ensures
