-- A copy of a good line, changed in place row by row, is the line in house style. What a row leaves is what the rules lay, and the columns behind it still are the line's. Assumes nothing.
use mathlib.Core.Path.{◌≡◌, refl, sym, ap, ◌∙◌}
use mathlib.Core.Bool.{Bool, true, false, not, false≢true}
use mathlib.Core.List.{List, [], ◌∷◌, ◌++◌, map, append_assoc}
use Prim.Native.Nat.{ℕ, suc, ◌+◌, ◌-◌, ◌≤◌, ◌<◌}
use native.Mathlib.Nat.{add-sub_cancel_left}
use native.Mathlib.Omega.{arith}
use lib.Dec.{lit≤}
use lib.IntN.{pos}
use lib.ListN.{length, get_or, take, drop, take-append-drop, length-drop, length-append}
use lib.Seq.{length-take-le, drop-drop, drop_at}
use borrow.Rule.Slice.PartMut.{put_mid}
use Rattle.rules.specs.Tests.{◌&◌, ◌≤?◌, all}
use Rattle.rules.specs.Digits.{put}
use Rattle.rules.specs.Items.{num, Item, blank, constant, number, height, angle, month, media, word, on_number, columns, plus, width, value_of, fits, render, good}
use Rattle.rules.specs.Fields.{read, values, columns_of, is_formed, formed, covers}
use Rattle.rules.specs.Records.{sequence, code_at, entries, formed_line, meaning, line_of}
use Rattle.rules.specs.Kinds.{kind_of}
use Rattle.rules.specs.Layouts.{kept, layouts, layout}
use Rattle.rules.specs.Chapter4.{chapter4}
use Rattle.rules.proofs.Truth.{both, and, to≤, of≤, to≡, of_within}
use Rattle.rules.proofs.Lawful.{lawful, good-fits}
use Rattle.rules.proofs.RecordLaws.{line_meant}
use Rattle.rules.proofs.DigitLaws.{length-put}
use Rattle.rules.proofs.FieldLaws.{covers_end}
use Rattle.rules.proofs.Chapter4Laws.{layout-covers}
use Rattle.kinds.specs.declared.Kind.{Kind}
use Rattle.kinds.specs.declared.Kind.TheVariants as K
use Rattle.kinds.specs.Values.{kind_index}
use Rattle.kinds.specs.Tables.{Row, row_lists, item_of, field_of}
use Rattle.kinds.proofs.TableLaws.{rows_are_layouts, each_kind}
use Rattle.styling.specs.Laying.{roomy, lay, lay_fields}
use Rattle.styling.specs.Styling.{style_of, good_row, style_row, good_rows, style_rows, filled, settled, height_style, angle_style, changed, change_field, change_rows}
use Rattle.styling.proofs.LayLaws.{line_laid, lay-length, lay-put, fits_room}
use Rattle.styling.proofs.StandLaws.{kept_as_is, style_same, number_done, rise_done, metres_done, angle_done}

-- ---- bytes laid into a line
lay-after : (c n w : ℕ) (ys l : List ℕ) → c ≡ n + 1 → length ys ≡ w → n < length l → n + w ≤ length l → drop (n + w) (lay c ys l) ≡ drop (n + w) l
unfolding lay
lay-after c n w ys l e d p q =
    let k : c - 1 ≡ n = omega arith in
    let t : length (take n l) ≡ n = length-take-le n l (omega arith) in
    let r : roomy (length l) c (length ys) ≡ true = fits_room (length l) c (length ys) (omega arith) (omega arith) (omega arith) in
    rw (r, k, ← append_assoc (take n l) ys (drop (n + length ys) l))
    (drop_at (take n l ++ ys) (drop (n + length ys) l) (n + w) (rw (length-append (take n l) ys, t, d)) ∙ ap (λ m. drop (n + m) l) d)

lay_there : (c n w : ℕ) (l : List ℕ) → c ≡ n + 1 → n < length l → n + w ≤ length l → lay c (take w (drop n l)) l ≡ l
unfolding lay
lay_there c n w l e p q =
    let k : c - 1 ≡ n = omega arith in
    let t : length (take w (drop n l)) ≡ w = length-take-le w (drop n l) (rw length-drop (omega arith)) in
    let r : roomy (length l) c w ≡ true = fits_room (length l) c w (omega arith) (omega arith) (omega arith) in
    rw (t, r, k)
    (ap (λ x. take n l ++ (take w (drop n l) ++ x)) (sym (drop-drop w n l))
    ∙ ap (λ x. take n l ++ x) (take-append-drop w (drop n l))
    ∙ take-append-drop n l)

-- ---- some columns of a line, changed
module _ (l : List ℕ) (c w : ℕ) (long : length l ≡ 81) (low : 1 ≤ c) (high : c + w ≤ 81) where
  lent : take (c - 1 + w - (c - 1)) (drop (c - 1) l) ≡ take w (drop (c - 1) l)
  lent = rw (add-sub_cancel_left (c - 1) w)

  -- the part that was lent came back as f makes it
  pub part-changed : (f : List ℕ → List ℕ) → ((bs : List ℕ) → length (f bs) ≡ length bs) → {new : List ℕ} → new ≡ f (take (c - 1 + w - (c - 1)) (drop (c - 1) l))
      → put_mid (c - 1) (c - 1 + w - (c - 1)) l new ≡ changed f c w l
  unfolding changed
  part-changed f same q =
      let room : roomy (length l) c w ≡ true = fits_room (length l) c w low (omega arith) (omega arith) in
      let there : w ≤ length (drop (c - 1) l) = rw length-drop (omega arith) in
      lay-put c w l room (q ∙ ap f lent) (same (take w (drop (c - 1) l)) ∙ length-take-le w (drop (c - 1) l) there)

  module _ (stands : List ℕ → Bool) (anew : List ℕ → List ℕ) {t : Bool} (e : t ≡ stands (take (c - 1 + w - (c - 1)) (drop (c - 1) l))) where
    -- a part that stands is not touched
    pub part_left : t ≡ true → l ≡ changed (settled stands anew) c w l
    unfolding changed settled
    part_left h =
        let s : stands (take w (drop (c - 1) l)) ≡ true = ap stands (sym lent) ∙ sym e ∙ h in
        rw s (sym (lay_there c (c - 1) w l (omega arith) (omega arith) (omega arith)))

    pub part_anew : ((bs : List ℕ) → length (anew bs) ≡ length bs) → t ≡ false → {new : List ℕ} → new ≡ anew (take (c - 1 + w - (c - 1)) (drop (c - 1) l))
        → put_mid (c - 1) (c - 1 + w - (c - 1)) l new ≡ changed (settled stands anew) c w l
    unfolding changed settled
    part_anew same h q =
        let s : stands (take w (drop (c - 1) l)) ≡ false = ap stands (sym lent) ∙ sym e ∙ h in
        rw s (unfold changed in part-changed anew same q)

-- ---- one field
-- numbers that may not be missing, heights of at most sixteen columns
unfoldable narrow : Item → Bool
narrow (blank w) = true
narrow (constant c) = true
narrow (number w lo hi may) = not may
narrow (height w lo hi may) = w ≤? 16
narrow (angle way) = true
narrow month = true
narrow media = true
narrow (word w t) = true

module _ (c k : ℕ) (out : List ℕ) (from : c ≡ k + 1) where
  field_stays : (i : Item) (bs : List ℕ) → kept_as_is i ≡ true → good i bs ≡ true → bs ≡ take (width i) (drop k out) → k < length out → k + width i ≤ length out → out ≡ lay c (style_of i bs) out
  field_stays i bs t g e p q = sym (ap (λ ys. lay c ys out) (style_same i bs t g ∙ e) ∙ lay_there c k (width i) out from p q)

  field_changed : (f : List ℕ → List ℕ) (w : ℕ) (bs ys : List ℕ) → bs ≡ take w (drop k out) → f bs ≡ ys → changed f c w out ≡ lay c ys out
  unfolding changed
  field_changed f w bs ys e q =
      let at : c - 1 ≡ k = omega arith in
      ap (λ l. lay c l out) (ap f (ap (λ n. take w (drop n out)) at ∙ sym e) ∙ q)

  field_done : (i : Item) (bs : List ℕ) → narrow i ≡ true → good i bs ≡ true → bs ≡ take (width i) (drop k out) → k < length out → k + width i ≤ length out → change_field i c out ≡ lay c (style_of i bs) out
  unfolding change_field narrow width
  field_done (blank w) bs n g e p q = unfold width in field_stays (blank w) bs refl g e p q
  field_done (constant b) bs n g e p q = unfold width in field_stays (constant b) bs refl g e p q
  field_done (number w lo hi true) bs n g e p q = absurd (false≢true n)
  field_done (number w lo hi false) bs n g e p q = field_changed (map filled) w bs (style_of (number w lo hi false) bs) e (number_done w lo hi bs g)
  field_done (height w lo hi false) bs n g e p q = field_changed (height_style false) w bs (style_of (height w lo hi false) bs) e (rise_done w lo hi bs (to≤ n) g)
  field_done (height w lo hi true) bs n g e p q = field_changed (height_style true) w bs (style_of (height w lo hi true) bs) e (metres_done w lo hi bs (to≤ n) g)
  field_done (angle way) bs n g e p q = field_changed (angle_style (columns way) (plus way)) (suc (columns way)) bs (style_of (angle way) bs) e (angle_done way bs g)
  field_done month bs n g e p q = unfold width in field_stays month bs refl g e p q
  field_done media bs n g e p q = unfold width in field_stays media bs refl g e p q
  field_done (word w t) bs n g e p q = unfold width in field_stays (word w t) bs refl g e p q

-- ---- the rows of a kind
styled_long : (i : Item) (bs : List ℕ) → good i bs ≡ true → length (style_of i bs) ≡ width i
unfolding style_of
styled_long i bs h = (lawful i (value_of i bs) (good-fits i bs h)).sized

row_is : (line : List ℕ) (r : Row) (out : List ℕ) → style_row line r out ≡ lay r.first (style_of (field_of r).item (columns_of (field_of r) line)) out
unfolding style_row
row_is line r out = refl

row_length : (line : List ℕ) (r : Row) (out : List ℕ) → length (style_row line r out) ≡ length out
row_length line r out = ap length (row_is line r out) ∙ lay-length r.first (style_of (field_of r).item (columns_of (field_of r) line)) out

columns-at : (r : Row) (line : List ℕ) (k : ℕ) → r.first - 1 ≡ k → columns_of (field_of r) line ≡ take (width (field_of r).item) (drop k line)
unfolding columns_of field_of
columns-at r line k e = ap (λ n. take (width (item_of r.item r.width)) (drop n line)) e

abbrev narrow_row : Row → Bool
narrow_row r = narrow (field_of r).item

in_place : (line : List ℕ) (rs : List Row) (k : ℕ) (out : List ℕ) → covers (k + 1) (map field_of rs) ≡ true → all narrow_row rs ≡ true → good_rows line rs ≡ true
    → length out ≡ 81 → drop k out ≡ drop k line → change_rows rs out ≡ style_rows line rs out
unfolding change_rows style_rows good_rows all covers
in_place line [] k out h n g wide s = refl
in_place line (r ∷ rs) k out h n g wide s =
    let i = (field_of r).item in
    let w = width i in
    let bs = columns_of (field_of r) line in
    let fine : good i bs ≡ true = unfold good_row in (both g).0 in
    let from : r.first ≡ k + 1 = unfold field_of in to≡ (both (both h).0).0 in
    let some : 1 ≤ w = to≤ (both (both h).0).1 in
    let end : k + 1 + w ≤ 81 = covers_end (k + 1 + w) (map field_of rs) (both h).1 in
    let next : k + 1 + w ≡ k + w + 1 = omega arith in
    let at : r.first - 1 ≡ k = omega arith in
    let on : covers (k + w + 1) (map field_of rs) ≡ true = rw next at (both h).1 in
    let here : bs ≡ take w (drop k out) = columns-at r line k at ∙ ap (take w) (sym s) in
    let p : k < length out = omega arith in
    let q : k + w ≤ length out = omega arith in
    let is : change_field i r.first out ≡ style_row line r out = field_done r.first k out from i bs (both n).0 fine here p q ∙ sym (row_is line r out) in
    let after : drop (k + w) (style_row line r out) ≡ drop (k + w) out = ap (drop (k + w)) (row_is line r out) ∙ lay-after r.first k w (style_of i bs) out from (styled_long i bs fine) p q in
    let rest : drop (k + w) out ≡ drop (k + w) line = sym (drop-drop w k out) ∙ ap (drop w) s ∙ drop-drop w k line in
    ap (change_rows rs) is ∙ in_place line rs (k + w) (style_row line r out) on (both n).1 (both g).1 (row_length line r out ∙ wide) (after ∙ rest)

rows_narrow : (k : ℕ) → k < 14 → all narrow_row (get_or row_lists k []) ≡ true
unfolding all narrow field_of ◌&◌ ◌≤?◌
rows_narrow = each_kind (λ k. all narrow_row (get_or row_lists k []) ≡ true) refl refl refl refl refl refl refl refl refl refl refl refl refl refl

-- a kind without numbers, heights and angles
pub rest_stays : (l : List ℕ) (k : Kind) → (k ≡ K.Occupation → ⊥) → (k ≡ K.Measurement → ⊥) → (k ≡ K.Instrument → ⊥) → (k ≡ K.Antenna → ⊥) → (k ≡ K.Point → ⊥) → (k ≡ K.Heights → ⊥) → (k ≡ K.Network → ⊥) → (k ≡ K.Local → ⊥) → (k ≡ K.Factor → ⊥) → l ≡ change_rows (get_or row_lists (kind_index k) []) l
unfolding change_rows change_field field_of kind_index
rest_stays l K.Job a b c d e f g h i = refl
rest_stays l K.Title a b c d e f g h i = refl
rest_stays l K.Continuation a b c d e f g h i = refl
rest_stays l K.Project a b c d e f g h i = refl
rest_stays l K.Occupation a b c d e f g h i = absurd (a refl)
rest_stays l K.Comment a b c d e f g h i = refl
rest_stays l K.Measurement a b c d e f g h i = absurd (b refl)
rest_stays l K.Instrument a b c d e f g h i = absurd (c refl)
rest_stays l K.Antenna a b c d e f g h i = absurd (d refl)
rest_stays l K.Point a b c d e f g h i = absurd (e refl)
rest_stays l K.Heights a b c d e f g h i = absurd (f refl)
rest_stays l K.Network a b c d e f g h i = absurd (g refl)
rest_stays l K.Local a b c d e f g h i = absurd (h refl)
rest_stays l K.Factor a b c d e f g h i = absurd (i refl)

-- ---- the whole line
rows-laid : (line : List ℕ) (rs : List Row) (out : List ℕ) → style_rows line rs out ≡ lay_fields (map field_of rs) (values (map field_of rs) line) out
unfolding style_rows style_row style_of lay_fields values field_of
rows-laid line [] out = refl
rows-laid line (r ∷ rs) out = rows-laid line rs _

rows-good : (line : List ℕ) (rs : List Row) → formed (map (read line) (map field_of rs)) ≡ true → good_rows line rs ≡ true
unfolding formed all is_formed read good_rows good_row
rows-good line [] h = refl
rows-good line (r ∷ rs) h = and (both h).0 (rows-good line rs (both h).1)

kind_rows : (k : ℕ) → k < 14 → map field_of (get_or row_lists k []) ≡ get_or layouts k kept
kind_rows k h = rw (← rows_are_layouts) (each_kind (λ k. map field_of (get_or row_lists k []) ≡ get_or (map (map field_of) row_lists) k kept) refl refl refl refl refl refl refl refl refl refl refl refl refl refl k h)

written_six : (n : ℕ) → put 6 n ≡ render sequence (num (pos n))
unfolding render sequence on_number
written_six n = refl

number_fits : (n : ℕ) → 1 ≤ n → n ≤ 999_999 → fits sequence (num (pos n)) ≡ true
unfolding sequence fits on_number
number_fits n p q = and (and (of≤ (lit≤ tt)) (of≤ (omega arith))) (of_within p q)

code_is : (line : List ℕ) → code_at line ≡ take 4 (drop 6 line)
unfolding code_at
code_is line = refl

module _ (line : List ℕ) (kind : ℕ) (lt : kind < 14) (ek : kind ≡ kind_of (code_at line)) (g : formed_line chapter4 line ≡ true) where
  rows-layout : map field_of (get_or row_lists kind []) ≡ layout (code_at line)
  unfolding layout
  rows-layout = kind_rows kind lt ∙ rw ek

  line_good : good_rows line (get_or row_lists kind []) ≡ true
  unfolding formed_line entries
  line_good = rows-good line (get_or row_lists kind []) (rw rows-layout (both g).1)

  line_covered : covers 11 (map field_of (get_or row_lists kind [])) ≡ true
  line_covered = ap (covers 11) rows-layout ∙ layout-covers (code_at line)

  pub line_styled : (n : ℕ) → length line ≡ 81 → 1 ≤ n → n ≤ 999_999
      → lay 81 (10 ∷ []) (change_rows (get_or row_lists kind []) (lay 1 (put 6 n) line)) ≡ line_of chapter4 (num (pos n)) (meaning chapter4 line)
  line_styled n e p q =
      let out = lay 1 (put 6 n) line in
      let d : drop 6 out ≡ drop 6 line = lay-after 1 0 6 (put 6 n) line refl (length-put 6 n) (omega arith) (omega arith) in
      let wide : length out ≡ 81 = lay-length 1 (put 6 n) line ∙ e in
      let same : drop 10 out ≡ drop 10 line = sym (drop-drop 4 6 out) ∙ ap (drop 4) d ∙ drop-drop 4 6 line in
      let four : code_at line ≡ take 4 (drop 6 out) = code_is line ∙ ap (take 4) (sym d) in
      let code : lay 7 (code_at line) out ≡ out = ap (λ ys. lay 7 ys out) four ∙ lay_there 7 6 4 out refl (omega arith) (omega arith) in
      rw (in_place line (get_or row_lists kind []) 10 out line_covered (rows_narrow kind lt) line_good wide same, ← code, rows-laid line (get_or row_lists kind []), rows-layout)
      (unfold meaning in (ap (λ l. lay 81 (10 ∷ []) (lay_fields (layout (code_at line)) (values (layout (code_at line)) line) (lay 7 (code_at line) (lay 1 l line)))) (written_six n)
      ∙ line_laid (num (pos n)) (meaning chapter4 line) line e (number_fits n p q) (line_meant chapter4 line g)))
