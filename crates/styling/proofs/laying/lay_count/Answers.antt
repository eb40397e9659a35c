-- What is laid is what the field renders; without room nothing changes.
use native.Mathlib.Omega.{arith}
use mathlib.Core.Bool.{true}
use Rattle.styling.proofs.LayLaws.{room_of, lent_put, lent_not, count_wide}
use Rattle.rules.specs.Items.{number, render}
use Rattle.columns.specs.Types.{count_value}
use Rattle.styling.proofs.laying.lay_count.Goals as goal

pub overflow_sub-at : goal.overflow_sub-at
overflow_sub-at c = let r = room_of _ _ _ c.has_room.ensures c.if-has_room.true in omega (arith, r)

pub overflow_add-at : goal.overflow_add-at
overflow_add-at c = let r = room_of _ _ _ c.has_room.ensures c.if-has_room.true in omega (arith, r)

pub slice_bounds-put_count-end : goal.slice_bounds-put_count-end
slice_bounds-put_count-end c = let r = room_of _ _ _ c.has_room.ensures c.if-has_room.true in omega (arith, r)

pub returns-then-has_room : goal.returns-then-has_room
returns-then-has_room c = let a = c.args in lent_put (λ k. render (number k 0 0 true) (count_value a.c)) (λ k. count_wide k a.c) a.column a.w a.line.now c.has_room.ensures c.if-has_room.true c.put_count.ensures

pub returns-else-has_room : goal.returns-else-has_room
returns-else-has_room c = let a = c.args in lent_not (λ k. render (number k 0 0 true) (count_value a.c)) (λ k. count_wide k a.c) a.column a.w a.line.now c.has_room.ensures c.if-has_room.false
