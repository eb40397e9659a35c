-- What is laid is what the field renders; without room nothing changes.
use mathlib.Core.Path.{sym, ◌∙◌}
use native.Mathlib.Omega.{arith}
use Rattle.styling.proofs.LayLaws.{room_of, lent_wide, lay-put, lay-not, written_is, media-wide, media-columns}
use Rattle.rules.specs.Items.{media}
use Rattle.columns.specs.Types.{media_value}
use Rattle.styling.proofs.laying.lay_media.Goals as goal

pub overflow_sub-at : goal.overflow_sub-at
overflow_sub-at c = let r = room_of _ _ _ c.has_room.ensures c.if-has_room.true in omega (arith, r)

pub overflow_add-at : goal.overflow_add-at
overflow_add-at c = let r = room_of _ _ _ c.has_room.ensures c.if-has_room.true in omega (arith, r)

pub slice_bounds-put_media-end : goal.slice_bounds-put_media-end
slice_bounds-put_media-end c = let r = room_of _ _ _ c.has_room.ensures c.if-has_room.true in omega (arith, r)

pub returns-then-has_room : goal.returns-then-has_room
returns-then-has_room c =
    let a = c.args in
    let h = sym c.has_room.ensures ∙ c.if-has_room.true in
    lay-put a.column (10) a.line.now h (c.put_media.ensures ∙ written_is media (media_value a.m) _ (lent_wide a.column (10) a.line.now h ∙ sym media-columns) c.requires) (media-wide (media_value a.m) c.requires)

pub returns-else-has_room : goal.returns-else-has_room
returns-else-has_room c = let a = c.args in lay-not a.column (10) a.line.now _ (sym c.has_room.ensures ∙ c.if-has_room.false) (media-wide (media_value a.m) c.requires)
