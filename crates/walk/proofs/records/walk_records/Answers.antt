use mathlib.Core.Path.{◌≡◌, ◌∙◌, ap}
use Prim.Native.Nat.{◌+◌}
use Rattle.std.specs.Prelude.{Err}
use borrow.Author.Rules.{rules}
use native.Mathlib.Omega.{arith}
use Rattle.kinds.proofs.ValueLaws.{handed_on, mapped_ok, mapped_err}
use Rattle.walk.proofs.WalkLaws.{no_longer, go_from, go_fault, go_counted, go_short, go_good, go_unknown}
use Rattle.kinds.proofs.KindLaws.{some_kind}
use Rattle.walk.proofs.records.walk_records.Goals as goal

pub loop-i-init : goal.loop-i-init
loop-i-init c = search (go_from, rules)

pub returns-in_default : goal.returns-in_default
returns-in_default c = search (go_unknown, rules)

pub step-requires : goal.step-requires
step-requires c = (some_kind c.kind_at.result c.in-Some.kind _ c.kind_at.ensures c.in-Some.is, search rules)

pub returns-in_err-s : goal.returns-in_err-s
returns-in_err-s c =
    let m = mapped_err c.step.result _ c.map_err.ensures.cases c.in_err-s.was in
    let x : c.in_err-s.field-0.0 ≡ record { number = m.0.number; «record» = c.loop-i.i + 1; column = m.0.column } = search (m.2, rules) in
    let e = handed_on c.from_residual.ensures.1 ∙ ap Err x in
    search (go_fault, m.1, e, rules)

pub overflow_add-counts : goal.overflow_add-counts
overflow_add-counts c = let g = c.loop-i.invariant.1 in omega (arith, g.few, g.below c.index.result)

pub mark_record-requires : goal.mark_record-requires
mark_record-requires c = search (no_longer, rules)

pub loop-i-preserved : goal.loop-i-preserved
loop-i-preserved c =
    let k = some_kind c.kind_at.result c.in-Some.kind _ c.kind_at.ensures c.in-Some.is in
    (search rules, search (go_counted, k, mapped_ok c.step.result _ c.map_err.ensures.cases c.in_ok-s.was, rules))

pub returns-then-s-last : goal.returns-then-s-last
returns-then-s-last c = search (go_short, rules)

pub returns : goal.returns
returns c = search (go_good, rules)
