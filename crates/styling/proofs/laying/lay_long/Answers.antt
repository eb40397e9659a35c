-- What is laid is what the field renders; without room nothing changes.
use native.Mathlib.Omega.{arith}
use Rattle.styling.proofs.LayLaws.{room_of, lent_put, lent_not}
use Rattle.rules.specs.Digits.{put}
use Rattle.rules.proofs.DigitLaws.{length-put}
use Rattle.styling.proofs.laying.lay_long.Goals as goal

pub overflow_sub-at : goal.overflow_sub-at
overflow_sub-at c = let r = room_of _ _ _ c.has_room.ensures c.if-has_room.true in omega (arith, r)

pub overflow_add-at : goal.overflow_add-at
overflow_add-at c = let r = room_of _ _ _ c.has_room.ensures c.if-has_room.true in omega (arith, r)

pub slice_bounds-put_digits-end : goal.slice_bounds-put_digits-end
slice_bounds-put_digits-end c = let r = room_of _ _ _ c.has_room.ensures c.if-has_room.true in omega (arith, r)

pub returns-then-has_room : goal.returns-then-has_room
returns-then-has_room c = let a = c.args in lent_put (λ k. put k a.n) (λ k. length-put k a.n) a.column a.w a.line.now c.has_room.ensures c.if-has_room.true c.put_digits.ensures

pub returns-else-has_room : goal.returns-else-has_room
returns-else-has_room c = let a = c.args in lent_not (λ k. put k a.n) (λ k. length-put k a.n) a.column a.w a.line.now c.has_room.ensures c.if-has_room.false
