-- What is laid is what the field renders; without room nothing changes.
use mathlib.Core.Path.{sym, ap, ◌∙◌}
use native.Mathlib.Omega.{arith}
use Prim.Native.Nat.{◌+◌, ◌-◌}
use mir.Syntax.{w64}
use mir.ValLaws.{to_z-of_z}
use borrow.Rule.Slice.PartMut.{mid_of}
use Rattle.styling.proofs.LayLaws.{room_of, lent_wide, lay-put, lay-not, written_is}
use Rattle.rules.specs.Items.{angle, num}
use Rattle.rules.proofs.Lawful.{lawful}
use Rattle.columns.specs.Types.{way_of}
use Rattle.columns.specs.Leaves.{written}
use Rattle.styling.proofs.laying.lay_angle.Goals as goal

pub overflow_sub-at : goal.overflow_sub-at
overflow_sub-at c = let r = room_of _ _ _ c.has_room.ensures c.if-has_room.true in omega (arith, r)

pub overflow_add-at : goal.overflow_add-at
overflow_add-at c = let r = room_of _ _ _ c.has_room.ensures c.if-has_room.true in omega (arith, r)

pub slice_bounds-put_angle-end : goal.slice_bounds-put_angle-end
slice_bounds-put_angle-end c = let r = room_of _ _ _ c.has_room.ensures c.if-has_room.true in omega (arith, r)

pub returns-then-has_room : goal.returns-then-has_room
returns-then-has_room c =
    let a = c.args in
    let h = sym c.has_room.ensures ∙ c.if-has_room.true in
    lay-put a.column a.w a.line.now h (c.put_angle.ensures ∙ ap (λ z. written (angle (way_of a.way)) (num z) (mid_of (a.column - 1) (a.column - 1 + a.w - (a.column - 1)) a.line.now)) (to_z-of_z w64 _ c.ranges.z) ∙ written_is (angle (way_of a.way)) (num a.z) _ (lent_wide a.column a.w a.line.now h ∙ c.requires.0) c.requires.1) ((lawful (angle (way_of a.way)) (num a.z) c.requires.1).sized ∙ sym c.requires.0)

pub returns-else-has_room : goal.returns-else-has_room
returns-else-has_room c = let a = c.args in lay-not a.column a.w a.line.now _ (sym c.has_room.ensures ∙ c.if-has_room.false) ((lawful (angle (way_of a.way)) (num a.z) c.requires.1).sized ∙ sym c.requires.0)
