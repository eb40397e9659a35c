-- Fields laid into a line. Assumes nothing.
use mathlib.Core.Path.{◌≡◌, refl, sym, ap, ◌∙◌}
use mathlib.Core.Bool.{Bool, true, false, cond}
use mathlib.Core.List.{List, [], ◌∷◌, ◌++◌, append_assoc, append-nil}
use Prim.Native.Nat.{ℕ, zero, suc, ◌+◌, ◌-◌, ◌≤◌, ◌<◌}
use native.Mathlib.Nat.{add-sub_cancel_left}
use native.Mathlib.Omega.{arith}
use lib.IntN.{pos, negsuc}
use lib.ListN.{length, take, drop, length-append, length-drop, length-replicate}
use lib.Seq.{length-take-le, take_at, take_all, drop-drop}
use borrow.Rule.Slice.PartMut.{mid_of, put_mid}
use Rattle.rules.specs.Tests.{◌=?◌, all}
use Rattle.rules.specs.Items.{Item, number, media, Value, on_number, width, fits, render}
use Rattle.rules.specs.Fields.{Field, given, entries_of, is_formed, formed, renders, covers}
use Rattle.rules.specs.Records.{Meaning, sequence, told, meant, line_of}
use Rattle.rules.specs.Layouts.{layout}
use Rattle.rules.specs.Chapter4.{chapter4}
use Rattle.rules.proofs.Truth.{both, and, to≤, of≤, to≡, of≡, cases}
use Rattle.rules.proofs.Chapter4Laws.{layout-covers, sound}
use Rattle.rules.proofs.DigitLaws.{length-put}
use Rattle.rules.proofs.Lawful.{lawful}
use Rattle.rules.proofs.FieldLaws.{covers_end}
use Rattle.columns.specs.Types.{count_value, height_value}
use Rattle.columns.specs.Leaves.{written, height_columns}
use Rattle.columns.proofs.Loops.{suc_less_one}
use Rattle.styling.specs.Laying.{roomy, lay, lay_fields}
use Rattle.std.specs.Prelude.{Option, Some, None}
use Rattle.columns.specs.declared.Height.{Height}

-- ---- one field
pub room_fits : (n c w : ℕ) → roomy n c w ≡ true → (1 ≤ c) × (c - 1 + w ≤ n)
unfolding roomy
room_fits n c w h =
    let p : 1 ≤ c = to≤ (both (both h).0).0 in
    let q : c ≤ n = to≤ (both (both h).0).1 in
    let r : w ≤ n - (c - 1) = to≤ (both h).1 in
    (p, omega arith)

-- the same of the code's own test
pub room_of : (n c w : ℕ) {t : Bool} → t ≡ roomy n c w → t ≡ true → (1 ≤ c) × (c - 1 + w ≤ n)
room_of n c w e h = room_fits n c w (sym e ∙ h)

pub fits_room : (n c w : ℕ) → 1 ≤ c → c ≤ n → c - 1 + w ≤ n → roomy n c w ≡ true
unfolding roomy
fits_room n c w p q r = let s : w ≤ n - (c - 1) = omega arith in and (and (of≤ p) (of≤ q)) (of≤ s)

module _ (c w : ℕ) (l : List ℕ) where
  -- the part that is lent has the field's width
  pub lent_wide : roomy (length l) c w ≡ true → length (mid_of (c - 1) (c - 1 + w - (c - 1)) l) ≡ w
  lent_wide h =
      let r = room_fits (length l) c w h in
      let k : c - 1 + w - (c - 1) ≡ w = add-sub_cancel_left (c - 1) w in
      let m : w ≤ length (drop (c - 1) l) = rw length-drop (omega arith) in
      rw k (length-take-le w (drop (c - 1) l) m)

  pub lay-put : {last ys : List ℕ} → roomy (length l) c w ≡ true → last ≡ ys → length ys ≡ w → put_mid (c - 1) (c - 1 + w - (c - 1)) l last ≡ lay c ys l
  unfolding lay
  lay-put h q e = rw (q, add-sub_cancel_left (c - 1) w, e, h, drop-drop)

  pub lay-not : (ys : List ℕ) → roomy (length l) c w ≡ false → length ys ≡ w → l ≡ lay c ys l
  unfolding lay
  lay-not ys h e = rw (e, h)

-- what a function of the width alone leaves in a part that is lent where there is room
module _ (f : ℕ → List ℕ) (wide : (k : ℕ) → length (f k) ≡ k) (c w : ℕ) (l : List ℕ) {t : Bool} (e : t ≡ roomy (length l) c w) where
  pub lent_put : t ≡ true → {last : List ℕ} → last ≡ f (length (mid_of (c - 1) (c - 1 + w - (c - 1)) l)) → put_mid (c - 1) (c - 1 + w - (c - 1)) l last ≡ lay c (f w) l
  lent_put h q = let r = sym e ∙ h in lay-put c w l r (q ∙ ap f (lent_wide c w l r)) (wide w)

  pub lent_not : t ≡ false → l ≡ lay c (f w) l
  lent_not h = lay-not c w l (f w) (sym e ∙ h) (wide w)

pub written_is : (i : Item) (v : Value) (old : List ℕ) → length old ≡ width i → fits i v ≡ true → written i v old ≡ render i v
unfolding written
written_is i v old e h = rw (and (of≡ e) h)

-- ---- widths
pub count_wide : (w : ℕ) (x : Option ℕ) → length (render (number w 0 0 true) (count_value x)) ≡ w
unfolding render on_number count_value
count_wide w None = length-replicate {A = ℕ} w 32
count_wide w (Some n) = length-put w n

pub height-wide : (w : ℕ) (h : Height) → length (height_columns w h) ≡ w
unfolding height_columns render on_number height_value
height-wide zero h = refl
height-wide (suc w) Height.Missing = length-replicate {A = ℕ} (suc w) 32
height-wide (suc w) (Height.Mm (pos n)) = length-put (suc w) n
height-wide (suc w) (Height.Mm (negsuc n)) = ap suc (length-put (suc w - 1) (suc n) ∙ suc_less_one w)

pub media-columns : width media ≡ 10
unfolding width
media-columns = refl

pub media-wide : (v : Value) → fits media v ≡ true → length (render media v) ≡ 10
media-wide v h = (lawful media v h).sized ∙ media-columns

pub text_is : (t old : List ℕ) → length old ≡ length t → cond (length t =? length old) t old ≡ t
text_is t old e = rw (of≡ (sym e))

-- ---- a line keeps its length
pub lay-length : (c : ℕ) (ys l : List ℕ) → length (lay c ys l) ≡ length l
unfolding lay
lay-length c ys l =
    cases (roomy (length l) c (length ys))
    (λ h.
    let r = room_fits (length l) c (length ys) h in
    let t : length (take (c - 1) l) ≡ c - 1 = length-take-le (c - 1) l (omega arith) in
    rw h (simp (length-append, t, length-drop) (omega arith)))
    (λ h. rw h)

pub fields_length : (fs : List Field) (vs : List Value) (l : List ℕ) → length (lay_fields fs vs l) ≡ length l
unfolding lay_fields
fields_length [] vs l = refl
fields_length (f ∷ fs) [] l = refl
fields_length (f ∷ fs) (v ∷ vs) l = fields_length fs vs (lay f.from (render f.item v) l) ∙ lay-length f.from (render f.item v) l

-- ---- a line of 81 bytes whose first n are P
pub record Laid (P : List ℕ) (n : ℕ) (l : List ℕ) : Type 0 where
  pub is : take n l ≡ P
  pub whole : length l ≡ 81

pub laid_none : (l : List ℕ) → length l ≡ 81 → Laid [] 0 l
laid_none l e = record { is = refl; whole = e }

-- the next bytes
lay-take : (c n w : ℕ) (ys l : List ℕ) → c ≡ n + 1 → length ys ≡ w → n < length l → n + w ≤ length l → take (n + w) (lay c ys l) ≡ take n l ++ ys
unfolding lay
lay-take c n w ys l e d p q =
    let k : c - 1 ≡ n = omega arith in
    let t : length (take n l) ≡ n = length-take-le n l (omega arith) in
    let r : roomy (length l) c (length ys) ≡ true = fits_room (length l) c (length ys) (omega arith) (omega arith) (omega arith) in
    rw (r, k, ← append_assoc (take n l) ys (drop (n + length ys) l))
    (take_at (take n l ++ ys) (drop (n + length ys) l) (n + w) (rw (length-append (take n l) ys, t, d)))

pub laid_on : {P l : List ℕ} {n : ℕ} (ys : List ℕ) (c w : ℕ) → Laid P n l → c ≡ n + 1 → length ys ≡ w → n < 81 → n + w ≤ 81 → Laid (P ++ ys) (n + w) (lay c ys l)
laid_on {P} {l} {n} ys c w v e d p q =
    let s : n < length l = omega (arith, v.whole) in
    let t : n + w ≤ length l = omega (arith, v.whole) in
    record { is = lay-take c n w ys l e d s t ∙ rw v.is; whole = lay-length c ys l ∙ v.whole }

-- the fields from the next column on
pub laid_fields : {P l : List ℕ} (n : ℕ) (fs : List Field) (vs : List Value) → Laid P n l → covers (n + 1) fs ≡ true → length vs ≡ length fs
    → formed (entries_of fs vs) ≡ true → Laid (P ++ renders fs vs) 80 (lay_fields fs vs l)
unfolding covers renders lay_fields entries_of formed all is_formed given
laid_fields {P} {l} n [] [] v h d k = let e : n ≡ 80 = omega (arith, to≡ h) in rw (append-nil, ← e) v
laid_fields n [] (x ∷ xs) v h d k = absurd (omega arith)
laid_fields n (f ∷ fs) [] v h d k = absurd (omega arith)
laid_fields {P} {l} n (f ∷ fs) (x ∷ xs) v h d k =
    let w = width f.item in
    let from : f.from ≡ n + 1 = to≡ (both (both h).0).0 in
    let some : 1 ≤ w = to≤ (both (both h).0).1 in
    let end : n + 1 + w ≤ 81 = covers_end (n + 1 + w) fs (both h).1 in
    let next : n + 1 + w ≡ n + w + 1 = omega arith in
    let fit : length (render f.item x) ≡ w = (lawful f.item x (both k).0).sized in
    rw (← append_assoc P (render f.item x) (renders fs xs))
    (laid_fields {P = P ++ render f.item x} (n + w) fs xs (laid_on (render f.item x) f.from w v from fit (omega arith) (omega arith)) (rw next at (both h).1) (omega arith) (both k).1)

-- a whole line: sequence number, code, fields, line feed
pub line_laid : (q : Value) (m : Meaning) (l : List ℕ) → length l ≡ 81 → fits sequence q ≡ true → meant chapter4 m ≡ true
    → lay 81 (10 ∷ []) (lay_fields (layout m.code) m.values (lay 7 m.code (lay 1 (render sequence q) l))) ≡ line_of chapter4 q m
unfolding line_of meant told
line_laid q m l e n h =
    let known = (both h).0 in
    let six : length (render sequence q) ≡ 6 = (lawful sequence q n).sized ∙ sequence_wide in
    let four : length m.code ≡ 4 = (sound.four m.code known).0 in
    let a = laid_on (render sequence q) 1 6 (laid_none l e) refl six (omega arith) (omega arith) in
    let b = laid_on m.code 7 4 a refl four (omega arith) (omega arith) in
    let c = laid_fields 10 (layout m.code) m.values b (layout-covers m.code) (to≡ (both (both h).1).0) (both (both h).1).1 in
    let d = laid_on (10 ∷ []) 81 1 c refl refl (omega arith) (omega arith) in
    sym (take_all 81 _ (omega (arith, d.whole))) ∙ d.is ∙ simp append_assoc
  where
    sequence_wide : width sequence ≡ 6
    sequence_wide = unfold sequence width in refl
