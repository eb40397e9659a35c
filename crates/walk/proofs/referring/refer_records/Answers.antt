use borrow.Author.Rules.{rules}
use mathlib.Core.Path.{◌≡◌, ◌∙◌}
use Prim.Native.Nat.{◌+◌}
use Rattle.kinds.proofs.ValueLaws.{handed_on, mapped_ok, mapped_err}
use Rattle.walk.proofs.ReferLaws.{refer_from, refer_fault, refer_on, refer_done, refer_known}
use Rattle.kinds.proofs.KindLaws.{some_kind}
use Rattle.walk.proofs.referring.refer_records.Goals as goal

pub loop-i-init : goal.loop-i-init
loop-i-init c = search (refer_from, rules)

pub unwrap-kind-requires : goal.unwrap-kind-requires
unwrap-kind-requires c = search (refer_known, rules)

pub returns-in_err-map_err : goal.returns-in_err-map_err
returns-in_err-map_err c =
    let k = some_kind c.kind_at.result c.unwrap-kind.result _ c.kind_at.ensures c.unwrap-kind.ensures in
    let m = mapped_err c.judge_references.result _ c.map_err.ensures.cases c.in_err-map_err.was in
    let x : c.in_err-map_err.field-0.0 ≡ record { number = m.0.number; «record» = c.loop-i.i + 1; column = m.0.column } = search (m.2, rules) in
    handed_on c.from_residual.ensures.1 ∙ search (refer_fault, k, m.1, x, rules)

pub loop-i-preserved : goal.loop-i-preserved
loop-i-preserved c =
    let k = some_kind c.kind_at.result c.unwrap-kind.result _ c.kind_at.ensures c.unwrap-kind.ensures in
    search (refer_on, k, mapped_ok c.judge_references.result _ c.map_err.ensures.cases c.in_ok-map_err.was, rules)

pub returns : goal.returns
returns c = search (refer_done, rules)
