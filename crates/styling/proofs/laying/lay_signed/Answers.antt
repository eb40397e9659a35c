-- What is laid is what the field renders; without room nothing changes.
use mathlib.Core.Path.{ap, ◌∙◌}
use native.Mathlib.Omega.{arith}
use Prim.Native.Nat.{◌+◌, ◌-◌}
use lib.ListN.{length}
use Rattle.styling.proofs.LayLaws.{room_of, lent_put, lent_not, height-wide}
use borrow.Rule.Slice.PartMut.{mid_of}
use mir.Syntax.{w64}
use mir.ValLaws.{to_z-of_z}
use Rattle.columns.specs.Leaves.{height_columns}
use Rattle.styling.proofs.laying.lay_signed.Goals as goal
use Rattle.columns.specs.declared.Height.{Height}

pub overflow_sub-at : goal.overflow_sub-at
overflow_sub-at c = let r = room_of _ _ _ c.has_room.ensures c.if-has_room.true in omega (arith, r)

pub overflow_add-at : goal.overflow_add-at
overflow_add-at c = let r = room_of _ _ _ c.has_room.ensures c.if-has_room.true in omega (arith, r)

pub slice_bounds-put_signed-end : goal.slice_bounds-put_signed-end
slice_bounds-put_signed-end c = let r = room_of _ _ _ c.has_room.ensures c.if-has_room.true in omega (arith, r)

pub returns-then-has_room : goal.returns-then-has_room
returns-then-has_room c = let a = c.args in lent_put (λ k. height_columns k (Height.Mm a.z)) (λ k. height-wide k (Height.Mm a.z)) a.column a.w a.line.now c.has_room.ensures c.if-has_room.true (c.put_signed.ensures ∙ ap (λ z. height_columns (length (mid_of (a.column - 1) (a.column - 1 + a.w - (a.column - 1)) a.line.now)) (Height.Mm z)) (to_z-of_z w64 _ c.ranges.z))

pub returns-else-has_room : goal.returns-else-has_room
returns-else-has_room c = let a = c.args in lent_not (λ k. height_columns k (Height.Mm a.z)) (λ k. height-wide k (Height.Mm a.z)) a.column a.w a.line.now c.has_room.ensures c.if-has_room.false
