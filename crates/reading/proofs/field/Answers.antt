-- A field that is there lies inside the file, and the part starts where the definition says.
use borrow.Author.Rules.{rules}
use mathlib.Core.Path.{refl, ◌∙◌, ap}
use Prim.Native.Nat.{◌+◌, ◌-◌, ◌*◌, ◌≤◌}
use native.Mathlib.Nat.{add_comm, add-sub_cancel_left}
use native.Mathlib.Omega.{arith}
use lib.ListN.{length}
use Rattle.reading.proofs.CallLaws.{room, empty_contents, empty_offset, some_offset, some_contents}
use Rattle.reading.proofs.field.Goals as goal

-- a field that is there lies inside the file
fits : (c : goal.Else-w-eq0) → let s = c.args in let w = c.width_asked-w.result in
    (1 ≤ s.«record») × (11 ≤ s.column) × (s.column ≤ 80) × (81 * (s.«record» - 1) + (s.column - 1) + w ≤ length s.file.now)
fits c = let s = c.args in room s.file.now s.«record» s.column c.width_asked-w.result c.width_asked-w.ensures c.if-w-eq0.false

pub returns-then-w-eq0 : goal.returns-then-w-eq0
returns-then-w-eq0 c =
    let s = c.args in
    let e = empty_offset s.file.now s.«record» s.column c.width_asked-w.result c.width_asked-w.ensures c.if-w-eq0.true in
    record {
      contents = empty_contents s.file.now s.«record» s.column c.width_asked-w.result c.width_asked-w.ensures c.if-w-eq0.true;
      same_block = refl;
      offset = add_comm 0 s.file.ref_ptr.1 ∙ ap (λ n. s.file.ref_ptr.1 + n) e;
    }

pub overflow_sub-at : goal.overflow_sub-at
overflow_sub-at c = (fits c).0

pub overflow_mul-at : goal.overflow_mul-at
overflow_mul-at c = let k = fits c in omega arith

pub overflow_sub-at-2 : goal.overflow_sub-at-2
overflow_sub-at-2 c = let k = fits c in omega arith

pub overflow_add-at : goal.overflow_add-at
overflow_add-at c = let k = fits c in omega arith

pub overflow_add-end : goal.overflow_add-end
overflow_add-end c = let k = fits c in omega arith

pub slice_bounds-result-end-2 : goal.slice_bounds-result-end-2
slice_bounds-result-end-2 c = let k = fits c in search rules

pub returns : goal.returns
returns c =
    let s = c.args in
    let o = 81 * (s.«record» - 1) + (s.column - 1) in
    let w = c.width_asked-w.result in
    record {
      contents = some_contents s.file.now s.«record» s.column w c.width_asked-w.ensures c.if-w-eq0.false (o + w - o) (add-sub_cancel_left o w);
      same_block = refl;
      offset = add_comm o s.file.ref_ptr.1 ∙ ap (λ n. s.file.ref_ptr.1 + n) (some_offset s.file.now s.«record» s.column w c.width_asked-w.ensures c.if-w-eq0.false);
    }
