-- A record: a line that its kind's row fits, and that passes what the row leaves, has no fault. One law for each item and for each agreement; kinds are a table.
use mathlib.Core.Path.{◌≡◌, refl, sym, ap, ◌∙◌, subst}
use mathlib.Core.Bool.{Bool, true, false, not, ◌&&◌, false≢true}
use mathlib.Core.List.{List, [], ◌∷◌}
use Prim.Native.Nat.{ℕ, zero, suc, ◌+◌, ◌-◌, ◌^◌, ◌≤◌}
use native.Mathlib.Omega.{arith}
use lib.Dec.{eqb}
use lib.ListN.{length, get_or, take, drop, length-drop}
use lib.Seq.{length-take-le, drop-drop, get_or-drop}
use Rattle.rules.specs.Tests.{◌&◌, ◌≤?◌, ◌=?◌, within, all}
use Rattle.rules.specs.Characters.{is_blank}
use Rattle.rules.specs.Items.{number, good}
use Rattle.rules.specs.Fields.{Expect, is_ok, same_truth, meets, check, ◌⨾◌}
use Rattle.rules.proofs.Truth.{both, and, to≤, of≤, to≡, to_within, and_true, both_true}
use Rattle.rules.proofs.FieldLaws.{is_ok_⨾}
use Rattle.columns.specs.Types.{set_of}
use Rattle.kinds.specs.declared.tables.Item.{Item}
use Rattle.kinds.specs.declared.tables.Item.TheVariants as I
use Rattle.kinds.specs.declared.tables.Bond.{Bond}
use Rattle.kinds.specs.declared.tables.Bond.TheVariants as B
use Rattle.kinds.specs.Tables.{item_of, Row}
use Rattle.judging.specs.Judging.{part, number_in, agrees_in, judge_row, judge_rows}
use Rattle.quick.specs.Rows.{Class, run, row_ok, row_of, layout_row}
use Rattle.quick.specs.Rest.{low_val, some, between, not_zero, media_rest, zeros, latitude_rest, longitude_rest, alike, datum_rest, correlation_rest, item_rest, bond_rest, rest_from}
use Rattle.quick.proofs.ClassLaws.{admits, all-columns, row_split, row_part, same_row, same_row_lem}
use Rattle.quick.proofs.NumberLaws.{even, number_even, number_ok, nought_ok, some-val, low-val, metres_ok, metres_tell, rise_ok, correlation_ok}
use Rattle.quick.proofs.WordLaws.{blank_ok, letters_ok, spaced_ok, yes_or_no_ok, yes_no_ok, texts_ok, one_ok, pair_ok, datum_ok, media_ok}
use Rattle.quick.proofs.AngleLaws.{latitude_ok, longitude_ok}

-- ---- the widths that rows are made for: one computed test
unfoldable pub asked : Item → ℕ → Bool
asked I.Blank w = true
asked I.Method w = true
asked I.Station w = w =? 4
asked I.Equipment w = w =? 3
asked I.Date w = w =? 6
asked I.Time w = w =? 4
asked I.Rise w = w =? 5
asked I.Metres w = w =? 7
asked I.Deviation w = w =? 10
asked I.Correlation w = w =? 10
asked I.Variance w = true
asked I.Month w = true
asked I.Media w = w =? 10
asked I.Latitude w = w =? 12
asked I.Longitude w = w =? 13
asked I.Letter w = true
asked I.LetterOrSpace w = true
asked I.LetterOrDigitOrSpace w = w =? 1
asked I.YesNo w = true
asked I.YesNoOrSpace w = true
asked I.Pair w = w =? 2
asked I.Datum w = w =? 2
asked I.Title w = true
asked I.Name w = true
asked I.Printable w = true

-- ---- what is left, from the columns' first on
at_0 : (l : List ℕ) (a : ℕ) → get_or (drop a l) 0 0 ≡ get_or l a 0
at_0 l a = get_or-drop a l 0 0 ∙ ap (λ n. get_or l n 0) (omega arith)

alike-drop : (l : List ℕ) (a : ℕ) → alike l a (a + 1) ≡ true → alike (drop a l) 0 1 ≡ true
unfolding alike
alike-drop l a h = rw (at_0 l a, get_or-drop a l 1 0) h

datum_drop : (l : List ℕ) (a : ℕ) → datum_rest l a ≡ true → datum_rest (drop a l) 0 ≡ true
unfolding datum_rest alike
datum_drop l a h = rw (at_0 l a, get_or-drop a l 1 0) h

media-drop : (l : List ℕ) (a : ℕ) → media_rest l a ≡ true → media_rest (drop a l) 0 ≡ true
unfolding media_rest
media-drop l a h = rw (drop-drop 1 a l, get_or-drop a l 5 0) h

latitude-drop : (l : List ℕ) (a : ℕ) → latitude_rest l a ≡ true → latitude_rest (drop a l) 0 ≡ true
unfolding latitude_rest zeros
latitude-drop l a h = rw (at_0 l a, drop-drop 1 a l) h

longitude-drop : (l : List ℕ) (a : ℕ) → longitude_rest l a ≡ true → longitude_rest (drop a l) 0 ≡ true
unfolding longitude_rest zeros
longitude-drop l a h = rw (at_0 l a, get_or-drop a l 1 0, drop-drop 2 a l) h

correlation-drop : (l : List ℕ) (a : ℕ) → correlation_rest l a ≡ true → correlation_rest (drop a l) 0 ≡ true
unfolding correlation_rest
correlation-drop l a h = rw (at_0 l a, get_or-drop a l 1 0, get_or-drop a l 2 0, get_or-drop a l 3 0) h

-- ---- one item: the row, and what it leaves
pub record Both (g h : Bool) : Type 0 where
  pub before : g ≡ true
  pub here : h ≡ true

-- a number of v + 1 columns
number-any : (v hi : ℕ) → hi + 1 ≡ 10 ^ suc v → (w : ℕ) → w ≡ suc v → (l : List ℕ) (a : ℕ) → length (take w (drop a l)) ≡ w → row_ok (run 32 48 w) (drop a l) ≡ true
    → good (number w 0 hi false) (take w (drop a l)) ≡ true
number-any v hi z w e l a n h = rw e (number_ok v (drop a l) (rw e at n) 0 hi z (rw e at h) (omega arith))

number-some : (v hi : ℕ) → hi + 1 ≡ 10 ^ suc v → (w : ℕ) → w ≡ suc v → (l : List ℕ) (a : ℕ) (g : Bool) → length (take w (drop a l)) ≡ w → row_ok (run 32 48 w) (drop a l) ≡ true
    → (g && some false (take w (drop a l))) ≡ true → Both g (good (number w 1 hi false) (take w (drop a l)))
number-some v hi z w e l a g n h t =
    let m : length (take (suc v) (drop a l)) ≡ suc v = rw e at n in
    let k : row_ok (run 32 48 (suc v)) (drop a l) ≡ true = rw e at h in
    let p = both_true g (some false (take (suc v) (drop a l))) (rw e at t) in
    record { before = p.0; here = rw e (number_ok v (drop a l) m 1 hi z k (some-val 0 false (take (suc v) (drop a l)) (λ x. absurd (false≢true x)) (number_even v (drop a l) m k) p.1)) }

item_ok : (i : Item) (w : ℕ) (l : List ℕ) (a : ℕ) (g : Bool) → asked i w ≡ true → length (take w (drop a l)) ≡ w → row_ok (row_of i w) (drop a l) ≡ true → item_rest g i a w l ≡ true
    → Both g (good (item_of i w) (take w (drop a l)))
unfolding asked item_rest not_zero set_of
item_ok I.Blank w l a g q n h t = record { before = t; here = blank_ok w (drop a l) n h }
item_ok I.Method w l a g q n h t = absurd (false≢true t)
item_ok I.Month w l a g q n h t = absurd (false≢true t)
item_ok I.Title w l a g q n h t = absurd (false≢true t)
item_ok I.Variance w l a g q n h t = absurd (false≢true t)
item_ok I.Name w l a g q n h t = absurd (false≢true t)
item_ok I.Printable w l a g q n h t = record { before = t; here = texts_ok w (drop a l) n h }
item_ok I.Letter w l a g q n h t = record { before = t; here = letters_ok w (drop a l) n h }
item_ok I.LetterOrSpace w l a g q n h t = record { before = t; here = spaced_ok w (drop a l) n h }
item_ok I.YesNo w l a g q n h t = record { before = t; here = yes_or_no_ok w (drop a l) n h }
item_ok I.YesNoOrSpace w l a g q n h t = record { before = t; here = yes_no_ok w (drop a l) n h }
item_ok I.Station w l a g q n h t = number-some 3 9_999 refl w (to≡ q) l a g n h t
item_ok I.Equipment w l a g q n h t = number-some 2 999 refl w (to≡ q) l a g n h t
item_ok I.Date w l a g q n h t = record { before = t; here = number-any 5 999_999 refl w (to≡ q) l a n h }
item_ok I.Time w l a g q n h t = record { before = t; here = number-any 3 9_999 refl w (to≡ q) l a n h }
item_ok I.Rise w l a g q n h t = let e : w ≡ 5 = to≡ q in record { before = t; here = rw e (rise_ok 4 (drop a l) (rw e at n) 9_999 99_999 refl refl (rw e at h)) }
item_ok I.Metres w l a g q n h t = let e : w ≡ 7 = to≡ q in record { before = t; here = rw e (metres_ok 6 (drop a l) (rw e at n) 999_999 9_999_999 refl refl (rw e at h)) }
item_ok I.Deviation w l a g q n h t = let e : w ≡ 10 = to≡ q in record { before = t; here = rw e (nought_ok 8 999_999_999 refl (drop a l) (rw e at n) (rw e at h)) }
item_ok I.Correlation w l a g q n h t = let e : w ≡ 10 = to≡ q in let p = both_true g (correlation_rest l a) t in record { before = p.0; here = rw e (correlation_ok (drop a l) (rw e at n) (rw e at h) (correlation-drop l a p.1)) }
item_ok I.Media w l a g q n h t = let e : w ≡ 10 = to≡ q in let p = both_true g (media_rest l a) t in record { before = p.0; here = rw e (media_ok (drop a l) h (media-drop l a p.1)) }
item_ok I.Latitude w l a g q n h t = let e : w ≡ 12 = to≡ q in let p = both_true g (latitude_rest l a) t in record { before = p.0; here = rw e (latitude_ok (drop a l) h (latitude-drop l a p.1)) }
item_ok I.Longitude w l a g q n h t = let e : w ≡ 13 = to≡ q in let p = both_true g (longitude_rest l a) t in record { before = p.0; here = rw e (longitude_ok (drop a l) h (longitude-drop l a p.1)) }
item_ok I.LetterOrDigitOrSpace w l a g q n h t = let e : w ≡ 1 = to≡ q in let p = both_true g (not (between (get_or l a 0))) t in record { before = p.0; here = rw e (one_ok (drop a l) (rw e at h) (rw (at_0 l a) p.1)) }
item_ok I.Pair w l a g q n h t = let e : w ≡ 2 = to≡ q in let p = both_true g (alike l a (a + 1)) t in record { before = p.0; here = rw e (pair_ok (drop a l) (rw e at h) (alike-drop l a p.1)) }
item_ok I.Datum w l a g q n h t = let e : w ≡ 2 = to≡ q in let p = both_true g (datum_rest l a) t in record { before = p.0; here = rw e (datum_ok (drop a l) (rw e at h) (datum_drop l a p.1)) }

-- ---- agreement
-- a height stands in v columns from column c on of a record with the row ks
unfoldable pub height : List Class → ℕ → ℕ → Bool
height ks c v = within 1 80 c & 1 ≤? v & c + v ≤? 81 & same_row (take v (drop (c - 1) ks)) (run 45 32 v)

-- a number that is not missing stands there
unfoldable pub counted : List Class → ℕ → ℕ → Bool
counted ks c v = within 1 80 c & within 1 16 v & c + v ≤? 81 & same_row (take v (drop (c - 1) ks)) (run 32 48 v)

-- what is compared as a number is read alike by the last four bits; what goes with a height has one column
unfoldable pub bound : List Class → Bond → Item → ℕ → Bool
bound ks B.Free i w = true
bound ks B.Expected i w = all (admits even) (row_of i w) & w ≤? 16
bound ks (B.NotBefore c v) i w = true
bound ks (B.GoesWith c v) i w = height ks c v & w =? 1
bound ks (B.Differs c v) i w = counted ks c v & (all (admits even) (row_of i w) & w ≤? 16)

-- a height tells by its last column whether it is missing
height_tells : (ks : List Class) (l : List ℕ) (c v : ℕ) → 80 ≤ length l → row_ok ks l ≡ true → height ks c v ≡ true → all is_blank (part c v l) ≡ eqb (get_or l (c + v - 2) 0) 32
unfolding height
height_tells ks l c zero long h q = absurd (omega (arith, to≤ (both (both (both q).0).0).1))
height_tells ks l c (suc v) long h q =
    let t = both (both (both q).0).0 in
    let n : length (take (suc v) (drop (c - 1) l)) ≡ suc v = length-take-le (suc v) (drop (c - 1) l) (rw length-drop (omega (arith, to_within t.0, to≤ (both (both q).0).1))) in
    let last : c - 1 + v ≡ c + suc v - 2 = omega (arith, to_within t.0) in
    metres_tell v (drop (c - 1) l) n (same_row_lem _ _ (both q).1 (drop (c - 1) l) (row_part (c - 1) (suc v) ks l h)) ∙ ap (λ b. eqb b 32) (get_or-drop (c - 1) l v 0 ∙ ap (λ i. get_or l i 0) last)

one_blank : (l : List ℕ) (a w : ℕ) → w ≡ 1 → length (take w (drop a l)) ≡ w → all is_blank (take w (drop a l)) ≡ eqb (get_or l a 0) 32
one_blank l a w e n = rw e (blank_one (drop a l) (rw e at n) ∙ ap (λ b. eqb b 32) (at_0 l a))
  where
    blank_one : (bs : List ℕ) → length (take 1 bs) ≡ 1 → all is_blank (take 1 bs) ≡ eqb (get_or bs 0 0) 32
    blank_one [] n = absurd (omega arith)
    blank_one (b ∷ bs) n = unfold all is_blank ◌=?◌ in and_true (eqb b 32)

-- a height and the field that goes with it
alike_is : (g : Bool) (l : List ℕ) (h a w : ℕ) (t : Bool) → t ≡ eqb (get_or l h 0) 32 → w ≡ 1 → length (take w (drop a l)) ≡ w → (g && alike l h a) ≡ true
    → Both g (same_truth t (all is_blank (take w (drop a l))))
unfolding alike
alike_is g l h a w t p e n k =
    let b = both_true g (same_truth (eqb (get_or l h 0) 32) (eqb (get_or l a 0) 32)) k in
    record { before = b.0; here = rw (p, one_blank l a w e n) b.1 }

number_is : (l : List ℕ) (a w : ℕ) (i : Item) → all (admits even) (row_of i w) & w ≤? 16 ≡ true → length (row_of i w) ≡ w → length (take w (drop a l)) ≡ w → row_ok (row_of i w) (drop a l) ≡ true
    → low_val 0 (take w (drop a l)) ≡ number_in (take w (drop a l))
number_is l a w i q m n h =
    let B = take w (drop a l) in
    let same : all even B ≡ true = subst (λ k. all even (take k (drop a l)) ≡ true) m (all-columns even (row_of i w) (both q).0 (drop a l) h) in
    let few : length B ≤? 16 ≡ true = rw n (both q).1 in
    low-val 0 B same ∙ sym (rw few)

-- an earlier number, by the last four bits
number-before : (ks : List Class) (l : List ℕ) (c v : ℕ) → 80 ≤ length l → row_ok ks l ≡ true → counted ks c v ≡ true → low_val 0 (part c v l) ≡ number_in (part c v l)
unfolding counted
number-before ks l c zero long h q = absurd (omega (arith, to_within (both (both (both q).0).0).1))
number-before ks l c (suc v) long h q =
    let t = both (both (both q).0).0 in
    let wide = to_within t.1 in
    let n : length (take (suc v) (drop (c - 1) l)) ≡ suc v = length-take-le (suc v) (drop (c - 1) l) (rw length-drop (omega (arith, to_within t.0, to≤ (both (both q).0).1))) in
    let few : length (part c (suc v) l) ≤? 16 ≡ true = of≤ (omega (arith, n, wide)) in
    low-val 0 (part c (suc v) l) (number_even v (drop (c - 1) l) n (same_row_lem _ _ (both q).1 (drop (c - 1) l) (row_part (c - 1) (suc v) ks l h))) ∙ sym (rw few)

apart_is : {a b c d : ℕ} → a ≡ b → c ≡ d → not (eqb a c) ≡ true → not (b =? d) ≡ true
unfolding ◌=?◌
apart_is p q h = rw (p, q) at h

bond_ok : (e : Expect) (ks : List Class) (l : List ℕ) → 80 ≤ length l → row_ok ks l ≡ true → (b : Bond) (i : Item) (w a : ℕ) (g : Bool) → bound ks b i w ≡ true → length (row_of i w) ≡ w
    → length (take w (drop a l)) ≡ w → row_ok (row_of i w) (drop a l) ≡ true → bond_rest g e b a w l ≡ true → Both g (agrees_in e l b (take w (drop a l)))
unfolding bound bond_rest agrees_in
bond_ok e ks l long o B.Free i w a g q m n h t = record { before = t; here = refl }
bond_ok e ks l long o B.Expected i w a g q m n h t =
    let p = both_true g (meets e (low_val 0 (take w (drop a l)))) t in
    record { before = p.0; here = sym (ap (meets e) (number_is l a w i q m n h)) ∙ p.1 }
bond_ok e ks l long o (B.NotBefore c v) i w a g q m n h t = absurd (false≢true t)
bond_ok e ks l long o (B.GoesWith c v) i w a g q m n h t = alike_is g l (c + v - 2) a w (all is_blank (part c v l)) (height_tells ks l c v long o (both q).0) (to≡ (both q).1) n t
bond_ok e ks l long o (B.Differs c v) i w a g q m n h t =
    let p = both_true g (not (eqb (low_val 0 (take v (drop (c - 1) l))) (low_val 0 (take w (drop a l))))) t in
    record { before = p.0; here = apart_is (number-before ks l c v long o (both q).0) (number_is l a w i (both q).1 m n h) p.1 }

-- ---- all rows of a record with the row ks
unfoldable pub laid : List Class → ℕ → List Row → Bool
laid ks a [] = true
laid ks a (r ∷ rs) =
    r.first =? a + 1 & a + r.width ≤? 80 & asked r.item r.width & bound ks r.bond r.item r.width & length (row_of r.item r.width) =? r.width
    & laid ks (a + r.width) rs

row_good : (e : Expect) (l : List ℕ) (i : Item) (b : Bond) (c w : ℕ) → good (item_of i w) (part c w l) ≡ true → agrees_in e l b (part c w l) ≡ true → is_ok (judge_row e l i b c w) ≡ true
unfolding judge_row check ◌⨾◌ is_ok
row_good e l i b c w h k = rw (h, k)

pub rows_ok : (e : Expect) (ks : List Class) (l : List ℕ) → 80 ≤ length l → row_ok ks l ≡ true → (rs : List Row) (a : ℕ) (g : Bool) → laid ks a rs ≡ true → row_ok (layout_row rs) (drop a l) ≡ true
    → rest_from g e l rs ≡ true → Both g (is_ok (judge_rows e l rs))
unfolding laid rest_from judge_rows is_ok
rows_ok e ks l long o [] a g q h t = record { before = t; here = refl }
rows_ok e ks l long o (r ∷ rs) a g q h t =
    let w = r.width in
    let i = r.item in
    let q1 = both q in
    let q2 = both q1.0 in
    let q3 = both q2.0 in
    let q4 = both q3.0 in
    let q5 = both q4.0 in
    let c : r.first - 1 ≡ a = omega (arith, to≡ q5.0) in
    let m : length (row_of i w) ≡ w = to≡ q2.1 in
    let n : length (take w (drop a l)) ≡ w = length-take-le w (drop a l) (rw length-drop (omega (arith, to≤ q5.1))) in
    let s = both (sym (row_split (row_of i w) (layout_row rs) (drop a l)) ∙ h) in
    let rest : row_ok (layout_row rs) (drop (a + w) l) ≡ true = subst (λ x. row_ok (layout_row rs) x ≡ true) (ap (λ k. drop k (drop a l)) m ∙ drop-drop w a l) s.1 in
    let next = rows_ok e ks l long o rs (a + w) (bond_rest (item_rest g i (r.first - 1) w l) e r.bond (r.first - 1) w l) q1.1 rest t in
    let b = bond_ok e ks l long o r.bond i w a (item_rest g i a w l) q3.1 m n s.0 (rw c at next.before) in
    let f = item_ok i w l a g q4.1 n s.0 b.before in
    let p : part r.first w l ≡ take w (drop a l) = ap (λ k. take w (drop k l)) c in
    record { before = f.before; here = is_ok_⨾ _ _ ∙ and (row_good e l i r.bond r.first w (rw p f.here) (rw p b.here)) next.here }
