-- What is laid is what the field renders; without room nothing changes.
use mathlib.Core.Path.{refl, sym, ◌∙◌}
use native.Mathlib.Omega.{arith}
use Prim.Native.Nat.{◌+◌, ◌-◌}
use lib.ListN.{length}
use borrow.Rule.Slice.PartMut.{mid_of}
use Rattle.styling.proofs.LayLaws.{room_of, lent_wide, lay-put, lay-not, text_is}
use Rattle.styling.proofs.laying.lay_text.Goals as goal

pub overflow_sub-at : goal.overflow_sub-at
overflow_sub-at c = let r = room_of _ _ _ c.has_room.ensures c.if-has_room.true in omega (arith, r)

pub overflow_add-at : goal.overflow_add-at
overflow_add-at c = let r = room_of _ _ _ c.has_room.ensures c.if-has_room.true in omega (arith, r)

pub slice_bounds-put_text-end : goal.slice_bounds-put_text-end
slice_bounds-put_text-end c = let r = room_of _ _ _ c.has_room.ensures c.if-has_room.true in omega (arith, r)

pub returns-then-has_room : goal.returns-then-has_room
returns-then-has_room c =
    let a = c.args in
    let h = sym c.has_room.ensures ∙ c.if-has_room.true in
    lay-put a.column (length a.t.now) a.line.now h (c.put_text.ensures ∙ text_is a.t.now (mid_of (a.column - 1) (a.column - 1 + length a.t.now - (a.column - 1)) a.line.now) (lent_wide a.column (length a.t.now) a.line.now h)) (refl)

pub returns-else-has_room : goal.returns-else-has_room
returns-else-has_room c = let a = c.args in lay-not a.column (length a.t.now) a.line.now _ (sym c.has_room.ensures ∙ c.if-has_room.false) (refl)
