-- Judging row by row is the judge of `rules`, for every kind; and the facts of the tables that the loop needs.
use mathlib.Core.Path.{◌≡◌, refl, sym, ◌∙◌, ap}
use mathlib.Core.Bool.{Bool, true, false, false≢true}
use mathlib.Core.List.{List, [], ◌∷◌, map}
use Prim.Native.Nat.{ℕ, ◌+◌, ◌≤◌, ◌<◌}
use native.Mathlib.Omega.{arith}
use lib.Dec.{lit≤}
use lib.Seq.{slice, slice_empty}
use lib.ListN.{length, take, drop, get_or}
use Rattle.std.specs.Prelude.{Result, Ok, Err}
use Rattle.rules.specs.Tests.{all, ◌&◌, ◌≤?◌, ◌=?◌}
use Rattle.rules.specs.Characters.{is_blank, letter, digit, space, only, ◌or◌}
use Rattle.rules.specs.Digits.{val}
use Rattle.rules.specs.Items.{Test, each, number, height, month, word, columns, width, value_of, good, spot}
use Rattle.rules.specs.Fields.{Expect, Verdict, ok, fault, is_ok, check, ◌⨾◌, columns_of, read, value_at, num_of, is_missing, agrees_with, agrees, judge_each, judge}
use Rattle.rules.specs.Layouts.{kept, layouts}
use Rattle.rules.proofs.Truth.{both, to≤, of≤, of≡, of≢, cases}
use Rattle.rules.proofs.FieldLaws.{⨾_assoc}
use Rattle.rules.proofs.FileLaws.{length-take_most}
use Rattle.kinds.specs.declared.tables.Item.{Item}
use Rattle.kinds.specs.declared.tables.Item.TheVariants as I
use Rattle.columns.specs.Types.{way_of, set_of}
use Rattle.columns.proofs.ValueLaws.{blank-val}
use Rattle.kinds.specs.declared.tables.Bond.{Bond}
use Rattle.kinds.specs.declared.tables.Bond.TheVariants as B
use Rattle.kinds.specs.Tables.{item_of, Row, row_lists, rows, starts, items, bonds, firsts, widths}
use Rattle.kinds.specs.declared.Flaw.{Flaw}
use Rattle.kinds.specs.declared.Kind.{Kind}
use Rattle.kinds.specs.Values.{judged_of, kind_index}
use Rattle.kinds.proofs.KindLaws.{index_small}
use Rattle.kinds.proofs.TableLaws.{each_kind, begins, item_is, bond_is, first_is, width_is, row_passes, rows_from}
use Rattle.kinds.proofs.ValueLaws.{flaw, good_is, bad_is}
use Rattle.judging.specs.Judging.{part, number_in, agrees_in, judge_row, judge_rows, judge_field, judge_field_at, refused, refused_at, pointed, sized, spans}

-- ---- verdicts one after the other
then_on : (u v : Verdict) {w x : Verdict} → w ≡ x → (u ⨾ v) ⨾ w ≡ u ⨾ (v ⨾ x)
then_on u v {w} e = ⨾_assoc u v w ∙ ap (λ y. u ⨾ (v ⨾ y)) e

-- naming a 9 elsewhere leaves the fault the first
pointed_then : (p n c : ℕ) (v : Verdict) → pointed p (fault n c) ⨾ v ≡ pointed p (fault n c)
unfolding pointed ◌⨾◌
pointed_then p n c v = cases (n =? 9) (λ e. rw e) (λ e. rw e)

pub ok_good : (u : Verdict) → is_ok u ≡ true → Ok tt ≡ judged_of u
unfolding judged_of is_ok
ok_good ok h = refl
ok_good (fault n c) h = absurd (false≢true h)

-- ---- what is compared: the columns tell the values
few : (n : ℕ) (l : List ℕ) → n ≤ 16 → length (take n l) ≤? 16 ≡ true
few n l h = of≤ (omega (arith, length-take_most n l))

number_in_lem : (n : ℕ) (l : List ℕ) → n ≤ 16 → number_in (take n l) ≡ val 0 (take n l)
number_in_lem n l h = rw (few n l h)

number_tells : (w lo hi : ℕ) (may : Bool) (bs : List ℕ) → num_of (value_of (number w lo hi may) bs) ≡ val 0 bs
unfolding value_of num_of
number_tells w lo hi may bs = cases (all is_blank bs) (λ e. rw e (sym (blank-val bs e))) (λ e. rw e)

month_tells : (bs : List ℕ) → num_of (value_of month bs) ≡ val 0 bs
unfolding value_of num_of
month_tells bs = refl

height_tells : (w lo hi : ℕ) (may : Bool) (bs : List ℕ) → is_missing (value_of (height w lo hi may) bs) ≡ all is_blank bs
unfolding value_of is_missing
height_tells w lo hi may bs = cases (all is_blank bs) (λ e. rw e) (λ e. rw e)

word_tells : (w : ℕ) (t : Test) (bs : List ℕ) → is_missing (value_of (word w t) bs) ≡ all is_blank bs
unfolding value_of is_missing
word_tells w t bs = refl

-- ---- row by row is field by field
-- with the two tests of a row apart, and the values compared
unfoldable apart : Expect → List ℕ → List Row → Verdict
apart e l [] = ok
apart e l (r ∷ rs) =
    let bs = part r.first r.width l in
    let rest = apart e l rs in
    check (good (item_of r.item r.width) bs) 9 (r.first + spot (item_of r.item r.width) bs)
    ⨾ check (agrees_in e l r.bond bs) 10 r.first
    ⨾ rest

apart_is : (e : Expect) (l : List ℕ) (rs : List Row) → judge_rows e l rs ≡ apart e l rs
unfolding judge_rows judge_row apart
apart_is e l [] = refl
apart_is e l (r ∷ rs) = then_on _ _ (apart_is e l rs)

abbrev Alike : Expect → List ℕ → ℕ → Type 0
Alike e l k = apart e l (get_or row_lists k []) ≡ judge e (map (read l) (get_or layouts k kept))

apart_judge : (e : Expect) (l : List ℕ) (k : ℕ) → k < 14 → Alike e l k
unfolding apart agrees_in way_of set_of judge judge_each agrees agrees_with value_at read columns_of width columns layouts check ◌⨾◌ ◌=?◌
apart_judge e l = each_kind (Alike e l) refl refl refl
    (rw (number_in_lem 6 (drop 10 l) (lit≤ tt), number_in_lem 6 (drop 16 l) (lit≤ tt), month_tells (take 6 (drop 10 l)), month_tells (take 6 (drop 16 l))))
    refl refl
    (rw (number_in_lem 4 (drop 10 l) (lit≤ tt), number_tells 4 1 9_999 false (take 4 (drop 10 l))))
    (rw (number_in_lem 3 (drop 10 l) (lit≤ tt), number_tells 3 1 999 false (take 3 (drop 10 l))))
    (rw (number_in_lem 3 (drop 10 l) (lit≤ tt), number_tells 3 1 999 false (take 3 (drop 10 l))))
    refl
    (rw (
      number_in_lem 4 (drop 10 l) (lit≤ tt),
      number_tells 4 1 9_999 false (take 4 (drop 10 l)),
      height_tells 7 999_999 9_999_999 true (take 7 (drop 16 l)),
      height_tells 7 999_999 9_999_999 true (take 7 (drop 35 l)),
      height_tells 7 999_999 9_999_999 true (take 7 (drop 45 l)),
      word_tells 1 (each (letter or space)) (take 1 (drop 23 l)),
      word_tells 1 (each (only 89 or only 78 or space)) (take 1 (drop 26 l)),
      word_tells 1 (each (letter or digit or space)) (take 1 (drop 42 l)),
      word_tells 1 (each (letter or space)) (take 1 (drop 52 l)),
    ))
    refl
    (rw (
      number_in_lem 4 (drop 10 l) (lit≤ tt),
      number_in_lem 4 (drop 16 l) (lit≤ tt),
      number_tells 4 1 9_999 false (take 4 (drop 10 l)),
      number_tells 4 1 9_999 false (take 4 (drop 16 l)),
    ))
    refl

pub rows-judge : (e : Expect) (l : List ℕ) (k : ℕ) → k < 14 → judge_rows e l (get_or row_lists k []) ≡ judge e (map (read l) (get_or layouts k kept))
rows-judge e l k h = apart_is e l (get_or row_lists k []) ∙ apart_judge e l k h

-- ---- each row lies inside a line and is as wide as its field, and a number is not too wide: one computed test
unfoldable inside : Row → Bool
inside r = 1 ≤? r.first & r.first + r.width ≤? 81 & spans (item_of r.item r.width) r.width

rows_inside : all inside rows ≡ true
unfolding all inside spans sized width columns way_of ◌&◌ ◌≤?◌ ◌=?◌
rows_inside = refl

pub record Inside (i : Item) (c w : ℕ) : Type 0 where
  pub first : 1 ≤ c
  pub last : c + w ≤ 81
  pub spanned : spans (item_of i w) w ≡ true

pub row_inside : (i : ℕ) → i < 87 → Inside (get_or items i I.Blank) (get_or firsts i 0) (get_or widths i 0)
unfolding inside
row_inside i h =
    let t = row_passes inside rows_inside i h in
    rw (item_is i, first_is i, width_is i) record { first = to≤ (both (both t).0).0; last = to≤ (both (both t).0).1; spanned = (both t).1 }

-- the tables' answers put together
pub at_requires : (i : ℕ) → i < 87 → {n : ℕ} → 80 ≤ n → (f : ℕ) → f ≡ get_or firsts i 0 → (c : ℕ) → c ≡ f → (v : ℕ) → v ≡ get_or widths i 0 → (w : ℕ) → w ≡ v → (it : Item) → it ≡ get_or items i I.Blank
    → (80 ≤ n) × (1 ≤ c) × (c + w ≤ 81) × (spans (item_of it w) w ≡ true)
at_requires i h long f p c q v p' w q' it t =
    let r = row_inside i h in
    (long, rw (q, p) r.first, rw (q, p, q', p') r.last, rw (t, q', p') r.spanned)

pub at_is : (e : Expect) (l : List ℕ) (i : ℕ) → (f : ℕ) → f ≡ get_or firsts i 0 → (c : ℕ) → c ≡ f → (v : ℕ) → v ≡ get_or widths i 0 → (w : ℕ) → w ≡ v → (it : Item) → it ≡ get_or items i I.Blank
    → (b : Bond) → b ≡ get_or bonds i B.Free → {r : Result (Unit {0}) Flaw} → r ≡ judged_of (judge_field e l it b c w) → r ≡ judged_of (judge_field_at e l i)
unfolding judge_field_at
at_is e l i f p c q v p' w q' it t b u z = z ∙ rw (t, u, q, p, q', p')

pub refused_row : (l : List ℕ) (i : ℕ) → (f : ℕ) → f ≡ get_or firsts i 0 → (c : ℕ) → c ≡ f → (v : ℕ) → v ≡ get_or widths i 0 → (w : ℕ) → w ≡ v → (it : Item) → it ≡ get_or items i I.Blank
    → {r : ℕ} → r ≡ refused l it c w → r ≡ refused_at l i
unfolding refused_at
refused_row l i f p c q v p' w q' it t z = z ∙ rw (t, q, p, q', p')

pub pointed_is : (l : List ℕ) (i n c : ℕ) → n ≡ 9 → (p : ℕ) → p ≡ refused_at l i → {w : Flaw} → w ≡ flaw 9 p → Err w ≡ judged_of (pointed (refused_at l i) (fault n c))
unfolding pointed judged_of
pointed_is l i n c e p z y = rw (y, of≡ e, z)

pub pointed-not : (l : List ℕ) (i : ℕ) (w : Flaw) → (w.number ≡ 9 → ⊥) → Err w ≡ judged_of (pointed (refused_at l i) (fault w.number w.column))
unfolding pointed judged_of
pointed-not l i w e = rw (of≢ e)

-- a row's 9 may be named at once or afterwards
named-after : (g a : Bool) (c p : ℕ) → check g 9 p ⨾ check a 10 c ≡ pointed p (check g 9 c ⨾ check a 10 c)
unfolding pointed check ◌⨾◌ ◌=?◌
named-after true true c p = refl
named-after true false c p = refl
named-after false a c p = refl

row_pointed : (e : Expect) (l : List ℕ) (i : Item) (b : Bond) (c w : ℕ) → judge_row e l i b c w ≡ pointed (refused l i c w) (judge_field e l i b c w)
unfolding judge_row judge_field refused
row_pointed e l i b c w = named-after _ _ _ _

-- ---- the loop: the rows from i on are what was to judge at the start
pub record Walked (e : Expect) (l : List ℕ) (kind end i : ℕ) : Type 0 where
  pub low : i ≤ end
  pub high : end ≤ 87
  pub same : judge_rows e l (slice i end rows) ≡ judge e (map (read l) (get_or layouts kind kept))

pub walk_from : (e : Expect) (l : List ℕ) (k : Kind) (end : ℕ) → end ≡ get_or starts (kind_index k + 1) 0 → (i : ℕ) → i ≡ get_or starts (kind_index k) 0 → Walked e l (kind_index k) end i
walk_from e l k end p i q =
    let h = index_small k in
    let b = begins (kind_index k) h in
    rw (p, q) record { low = b.low; high = b.high; same = rw b.whole (rows-judge e l (kind_index k) h) }

module _ {e : Expect} {l : List ℕ} {kind end i : ℕ} (v : Walked e l kind end i) (h : i < end) where
  pub below : i < 87
  below = omega (arith, v.high)

  step : judge_rows e l (slice i end rows) ≡ pointed (refused_at l i) (judge_field_at e l i) ⨾ judge_rows e l (slice (i + 1) end rows)
  unfolding judge_rows judge_field_at refused_at
  step =
      ap (judge_rows e l) (rows_from i end h v.high)
      ∙ rw (item_is i, bond_is i, first_is i, width_is i) (ap (λ u. u ⨾ judge_rows e l (slice (i + 1) end rows)) (row_pointed e l _ _ _ _))

  pub walk_stop : (j : Result (Unit {0}) Flaw) → j ≡ judged_of (judge_field_at e l i) → (w : Flaw) → j ≡ Err w → {r : Result (Unit {0}) Flaw} → r ≡ judged_of (pointed (refused_at l i) (fault w.number w.column)) → r ≡ judged_of (judge e (map (read l) (get_or layouts kind kept)))
  walk_stop j p w q z =
      let bad : judge_field_at e l i ≡ fault w.number w.column = bad_is (judge_field_at e l i) w (sym p ∙ q) in
      z ∙ ap judged_of (sym (sym v.same ∙ step ∙ ap (λ u. pointed (refused_at l i) u ⨾ judge_rows e l (slice (i + 1) end rows)) bad ∙ pointed_then (refused_at l i) w.number w.column _))

  pub walk_on : (j : Result (Unit {0}) Flaw) → j ≡ judged_of (judge_field_at e l i) → j ≡ Ok tt → Walked e l kind end (i + 1)
  unfolding pointed ◌⨾◌
  walk_on j p q =
      let on : judge_rows e l (slice i end rows) ≡ judge_rows e l (slice (i + 1) end rows) = step ∙ ap (λ u. pointed (refused_at l i) u ⨾ judge_rows e l (slice (i + 1) end rows)) (good_is (judge_field_at e l i) (sym p ∙ q)) in
      record { low = omega arith; high = v.high; same = sym on ∙ v.same }

pub walk_done : {e : Expect} {l : List ℕ} {kind end i : ℕ} → Walked e l kind end i → end ≤ i → Ok tt ≡ judged_of (judge e (map (read l) (get_or layouts kind kept)))
unfolding judge_rows judged_of
walk_done {e} {l} {kind} {end} {i} v h =
    let z : i ≡ end = omega (arith, v.low) in
    sym (ap judged_of (sym v.same ∙ ap (λ k. judge_rows e l (slice k end rows)) z ∙ ap (judge_rows e l) (slice_empty end rows)))
