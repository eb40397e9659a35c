-- The kinds: one computed test of every row of the tables says what the laws ask, and a line which fits has no fault.
use mathlib.Core.Path.{◌≡◌, refl, sym, ap, ◌∙◌, subst}
use mathlib.Core.Bool.{Bool, true, ◌&&◌, ◌||◌, false≢true}
use mathlib.Core.List.{List, [], ◌∷◌}
use Prim.Native.Nat.{ℕ, ◌≤◌, ◌<◌}
use native.Mathlib.Omega.{arith}
use lib.Dec.{leb, eqb}
use lib.ListN.{length, get_or, take, replicate}
use lib.Seq.{length-take-le}
use borrow.Author.Tests.{leb-true, eqb-true}
use Rattle.rules.specs.Tests.{◌&◌, ◌≤?◌, ◌=?◌, within, all}
use Rattle.rules.specs.Characters.{is_digit, is_printable}
use Rattle.rules.specs.Fields.{Expect, is_ok}
use Rattle.rules.proofs.Truth.{both, and, to≤, to≡, of_within, all-at, map_at, both_true}
use Rattle.rules.proofs.Conforming.{bytes_of}
use Rattle.kinds.specs.Tables.{Row, row_lists}
use Rattle.judging.proofs.RowLaws.{rows-judge}
use Rattle.quick.specs.Rows.{Class, in_class, row_ok, run, texts, layout_row, lead_row, kind_row, spelled, class_table, col_at, Columns}
use Rattle.quick.specs.Rest.{sequence_rest, rest_from, Fit}
use Rattle.quick.proofs.ClassLaws.{one_true, admits, in-class, row_split, columns_row, same_row, same_class}
use Rattle.quick.proofs.NumberLaws.{even, sequence_ok}
use Rattle.quick.proofs.RecordLaws.{asked, height, counted, bound, laid, rows_ok}

-- ---- a class of printable characters
unfoldable fair : Class → Bool
fair k = 32 ≤? k.low & k.high ≤? 126 & within 32 126 k.other & within 32 126 k.also

fair_printable : (k : Class) (b : ℕ) → fair k ≡ true → in_class k b ≡ true → is_printable b ≡ true
unfolding fair in_class is_printable
fair_printable k b f h =
    let x = both f in
    let y = both x.0 in
    let z = both y.0 in
    one_true (leb k.low b && leb b k.high || eqb b k.other) (eqb b k.also) h
    (λ u. one_true (leb k.low b && leb b k.high) (eqb b k.other) u
    (λ v. let p = both_true (leb k.low b) (leb b k.high) v in
    of_within (omega (arith, to≤ z.0, leb-true k.low b p.0)) (omega (arith, to≤ z.1, leb-true b k.high p.1)))
    (λ v. rw (eqb-true b k.other v) y.1))
    (λ u. rw (eqb-true b k.also u) x.1)

fair_row : (ks : List Class) (l : List ℕ) → all fair ks ≡ true → row_ok ks l ≡ true → all is_printable (take (length ks) l) ≡ true
unfolding all row_ok
fair_row [] l f h = refl
fair_row (k ∷ ks) [] f h = absurd (false≢true h)
fair_row (k ∷ ks) (b ∷ bs) f h = and (fair_printable k b (both f).0 (in-class k b (get_or bs 0 0) (both h).0)) (fair_row ks bs (both f).1 (both h).1)

-- ---- the table: one computed test of every kind
unfoldable tidy : List Row → Bool
tidy rs = length (kind_row rs) =? 80 & all fair (kind_row rs) & laid (kind_row rs) 10 rs

all_tidy : all tidy row_lists ≡ true
unfolding tidy all fair laid asked bound height counted same_row same_class admits even in_class is_digit within ◌&◌ ◌≤?◌ ◌=?◌
all_tidy = refl

-- the row of a kind
abbrev row_for : ℕ → List Class
row_for k = kind_row (get_or row_lists k [])

record Kind (k : ℕ) : Type 0 where
  size : length (row_for k) ≡ 80
  fair_is : all fair (row_for k) ≡ true
  lies : laid (row_for k) 10 (get_or row_lists k []) ≡ true

kind_is : (k : ℕ) → k < 14 → Kind k
unfolding tidy
kind_is k h =
    let t = both (all-at tidy row_lists [] k all_tidy h) in
    let u = both t.0 in
    record { size = to≡ u.0; fair_is = u.1; lies = t.1 }

-- ---- a line of a kind
pub fits_ok : (e : Expect) (l : List ℕ) (k : ℕ) → 1 ≤ k → k < 14 → 80 < length l → get_or l 80 0 ≡ 10 → row_ok (row_for k) l ≡ true → sequence_rest l ≡ true
    → rest_from true e l (get_or row_lists k []) ≡ true → Fit l k e
fits_ok e l k low high long end h s t =
    let K = kind_is k high in
    let rs = get_or row_lists k [] in
    let two = both (sym (row_split lead_row (layout_row rs) l) ∙ h) in
    let six = (both (sym (row_split (run 32 32 6) (replicate 4 texts) l) ∙ two.0)).0 in
    let r = rows_ok e (row_for k) l (omega arith) h rs 10 true K.lies two.1 t in
    record {
      low = low;
      high = omega arith;
      fine = bytes_of 80 1 l long (subst (λ n. all is_printable (take n l) ≡ true) K.size (fair_row (row_for k) l K.fair_is h)) end;
      number = sequence_ok l (length-take-le 6 l (omega arith)) six s;
      fields = sym (ap is_ok (rows-judge e l k high)) ∙ r.here;
    }

-- ---- the columns one by one, as the code tries them
pub row_from : (l : List ℕ) (k : ℕ) → k < 14 → 80 < length l → Columns (get_or class_table k []) l → row_ok (row_for k) l ≡ true
row_from l k high long c =
    let K = kind_is k high in
    columns_row (row_for k) l (rw K.size (omega arith))
    (λ j i. subst (λ row. col_at row l j ≡ true) (map_at (λ rs. spelled (kind_row rs)) row_lists [] [] k high) (c.at j (rw K.size at i)))
