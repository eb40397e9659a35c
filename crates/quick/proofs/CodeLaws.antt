-- One law for each way through the functions, over plain values.
use mathlib.Core.Path.{◌≡◌, refl, sym, ap, ◌∙◌, subst}
use mathlib.Core.Bool.{Bool, true, false, not, ◌&&◌, ◌||◌}
use mathlib.Core.List.{List, [], ◌∷◌}
use Prim.Native.Nat.{ℕ, suc, ◌+◌, ◌-◌, ◌*◌, ◌%◌, ◌≤◌, ◌<◌}
use native.Mathlib.Omega.{arith}
use lib.Dec.{leb, eqb}
use lib.ListN.{length, get_or, take, drop, replicate, get_or-replicate}
use lib.Seq.{get_or-drop}
use borrow.Author.Tests.{eqb-true, eqb-false}
use Rattle.rules.specs.Tests.{◌≤?◌, ◌=?◌, all}
use Rattle.rules.specs.Fields.{Expect, meets}
use Rattle.rules.proofs.Truth.{to≤, no≤, cases, above_0, both_true}
use denote.Enum.Bare.{sameb}
use Rattle.kinds.specs.contracts.Kind.{the_type}
use Rattle.kinds.specs.declared.Kind.{Kind}
use Rattle.kinds.specs.declared.Kind.TheVariants as K
use Rattle.kinds.specs.Values.{kind_index, kind_in}
use Rattle.std.specs.Prelude.{Option, Some}
use Rattle.kinds.specs.Tables.{row_lists}
use Rattle.kinds.proofs.KindLaws.{index_small, same_index}
use Rattle.quick.specs.Rows.{class_table, col_at, five_at, Columns, text_at, five_texts, Texts, is_text}
use Rattle.quick.specs.Rest.{low_val, some, between, not_zero, media_rest, zeros, alike, datum_rest, latitude_rest, longitude_rest, correlation_rest, sequence_rest, item_rest, bond_rest, rest_from, Fit}
use Rattle.quick.proofs.ClassLaws.{spread, spread_is}
use Rattle.quick.proofs.KindLaws.{fits_ok, row_from}

-- ---- the row: sixteen turns of five columns
pub five_turn : (F : ℕ → Bool) (good r : Bool) (i : ℕ) → (good ≡ true → (j : ℕ) → j < i → F j ≡ true) → r ≡ F i → (good && r) ≡ true → (j : ℕ) → j < i + 1 → F j ≡ true
five_turn F good r i f e h j k =
    let b = both_true good r h in
    cases (suc j ≤? i) (λ t. f b.0 j (to≤ t)) (λ t. subst (λ n. F n ≡ true) (same t) (sym e ∙ b.1))
  where
    same : suc j ≤? i ≡ false → i ≡ j
    same t = omega (arith, no≤ t)

-- eighty columns as sixteen times five, for any test of a column
module _ (F : ℕ → Bool) (f : (i : ℕ) → i < 16 → (F i && F (16 + i) && F (32 + i) && F (48 + i) && F (64 + i)) ≡ true) where
  four : (i : ℕ) → i < 16 → ((F i && F (16 + i) && F (32 + i) && F (48 + i)) ≡ true) × (F (64 + i) ≡ true)
  four i h = both_true (F i && F (16 + i) && F (32 + i) && F (48 + i)) (F (64 + i)) (f i h)

  three : (i : ℕ) → i < 16 → ((F i && F (16 + i) && F (32 + i)) ≡ true) × (F (48 + i) ≡ true)
  three i h = both_true (F i && F (16 + i) && F (32 + i)) (F (48 + i)) (four i h).0

  two : (i : ℕ) → i < 16 → ((F i && F (16 + i)) ≡ true) × (F (32 + i) ≡ true)
  two i h = both_true (F i && F (16 + i)) (F (32 + i)) (three i h).0

  one : (i : ℕ) → i < 16 → (F i ≡ true) × (F (16 + i) ≡ true)
  one i h = both_true (F i) (F (16 + i)) (two i h).0

  back : (n j : ℕ) → n ≤ j → F (n + (j - n)) ≡ true → F j ≡ true
  back n j h k = subst (λ m. F m ≡ true) (omega arith) k

  eighty : (j : ℕ) → j < 80 → F j ≡ true
  eighty j h =
      cases (suc j ≤? 16) (λ a. (one j (to≤ a)).0)
      (λ a. cases (suc j ≤? 32) (λ b. back 16 j (omega (arith, no≤ a)) (one (j - 16) (omega (arith, no≤ a, to≤ b))).1)
      (λ b. cases (suc j ≤? 48) (λ c. back 32 j (omega (arith, no≤ b)) (two (j - 32) (omega (arith, no≤ b, to≤ c))).1)
      (λ c. cases (suc j ≤? 64) (λ d. back 48 j (omega (arith, no≤ c)) (three (j - 48) (omega (arith, no≤ c, to≤ d))).1)
      (λ d. back 64 j (omega (arith, no≤ d)) (four (j - 64) (omega (arith, no≤ d, h))).1))))

pub five_columns : (row : List (List ℕ)) (l : List ℕ) → ((j : ℕ) → j < 16 → five_at row l j ≡ true) → Columns row l
unfolding five_at
five_columns row l f = record { at = eighty (col_at row l) f }

-- ---- text
five_texts_lem : (l : List ℕ) → ((j : ℕ) → j < 16 → five_texts l j ≡ true) → (j : ℕ) → j < 80 → text_at l j ≡ true
unfolding five_texts
five_texts_lem l f = eighty (text_at l) f

pub texts_from : (row : List (List ℕ)) (l : List ℕ) → ((j : ℕ) → j < 16 → (col_at row l j && five_texts l j) ≡ true) → Texts row l
texts_from row l f = record {
  first = λ j h. (both_true (col_at row l j) (five_texts l j) (f j h)).0;
  all = five_texts_lem l (λ j h. (both_true (col_at row l j) (five_texts l j) (f j h)).1);
}

-- a row that asks for text from column 17 on
record TextFrom17 (row : List (List ℕ)) : Type 0 where
  low : drop 16 (get_or row 0 []) ≡ replicate 64 32
  high : drop 16 (get_or row 1 []) ≡ replicate 64 126
  free : drop 16 (get_or row 4 []) ≡ replicate 64 126

same_at : (xs : List ℕ) (x j : ℕ) → drop 16 xs ≡ replicate 64 x → 16 ≤ j → j < 80 → get_or xs j 0 ≡ x
same_at xs x j e h k = ap (λ n. get_or xs n 0) back ∙ sym (get_or-drop 16 xs (j - 16) 0) ∙ ap (λ t. get_or t (j - 16) 0) e ∙ get_or-replicate 64 (j - 16) x 0 (omega arith)
  where
    back : j ≡ 16 + (j - 16)
    back = omega arith

texts-columns : (row : List (List ℕ)) (l : List ℕ) → TextFrom17 row → Texts row l → Columns row l
texts-columns row l s t = record { at = each }
  where
    text : (j : ℕ) → j < 80 → (leb 32 (get_or l j 0) ≡ true) × (leb (get_or l j 0) 126 ≡ true)
    text j h = both_true (leb 32 (get_or l j 0)) (leb (get_or l j 0) 126) (unfold text_at in t.all j h)

    each : (j : ℕ) → j < 80 → col_at row l j ≡ true
    each j h =
        cases (suc j ≤? 16) (λ a. t.first j (to≤ a))
        (λ a. let k : 16 ≤ j = omega (arith, no≤ a) in
        rw (same_at (get_or row 0 []) 32 j s.low k h, same_at (get_or row 1 []) 126 j s.high k h, same_at (get_or row 4 []) 126 j s.free k h, (text j h).0, (text j h).1))

-- ---- values
module _ (l : List ℕ) (at : ℕ) where
  three_list : at + 3 ≤ length l → take 3 (drop at l) ≡ get_or l at 0 ∷ get_or l (at + 1) 0 ∷ get_or l (at + 2) 0 ∷ []
  unfolding spread
  three_list h = spread_is 3 at l h ∙ ap (λ n. get_or l at 0 ∷ get_or l (at + 1) 0 ∷ get_or l n 0 ∷ []) two
    where
      two : at + 1 + 1 ≡ at + 2
      two = omega arith

  four_list : at + 4 ≤ length l → take 4 (drop at l) ≡ get_or l at 0 ∷ get_or l (at + 1) 0 ∷ get_or l (at + 2) 0 ∷ get_or l (at + 3) 0 ∷ []
  unfolding spread
  four_list h = spread_is 4 at l h ∙ ap (λ n. get_or l at 0 ∷ get_or l (at + 1) 0 ∷ get_or l n 0 ∷ get_or l (n + 1) 0 ∷ []) two ∙ ap (λ n. get_or l at 0 ∷ get_or l (at + 1) 0 ∷ get_or l (at + 2) 0 ∷ get_or l n 0 ∷ []) three
    where
      two : at + 1 + 1 ≡ at + 2
      two = omega arith

      three : at + 2 + 1 ≡ at + 3
      three = omega arith

  pub three_is : at + 3 ≤ length l → {a b c : ℕ} → a ≡ get_or l at 0 % 16 → b ≡ get_or l (at + 1) 0 % 16 → c ≡ get_or l (at + 2) 0 % 16 → (a * 10 + b) * 10 + c ≡ low_val 0 (take 3 (drop at l))
  three_is h p q r = rw (three_list h, p, q, r) (unfold low_val in omega arith)

  pub four_is : at + 4 ≤ length l → {a b c d : ℕ} → a ≡ get_or l at 0 % 16 → b ≡ get_or l (at + 1) 0 % 16 → c ≡ get_or l (at + 2) 0 % 16 → d ≡ get_or l (at + 3) 0 % 16
      → ((a * 10 + b) * 10 + c) * 10 + d ≡ low_val 0 (take 4 (drop at l))
  four_is h p q r s = rw (four_list h, p, q, r, s) (unfold low_val in omega arith)

  pub three-not-zero : at + 3 ≤ length l → (not (eqb (get_or l at 0 % 16) 0) || not (eqb (get_or l (at + 1) 0 % 16) 0) || not (eqb (get_or l (at + 2) 0 % 16) 0)) ≡ not_zero l at 3
  three-not-zero h = unfold not_zero in rw (three_list h) (unfold some in refl)

  pub four-not-zero : at + 4 ≤ length l
      → (not (eqb (get_or l at 0 % 16) 0) || not (eqb (get_or l (at + 1) 0 % 16) 0) || not (eqb (get_or l (at + 2) 0 % 16) 0) || not (eqb (get_or l (at + 3) 0 % 16) 0)) ≡ not_zero l at 4
  four-not-zero h = unfold not_zero in rw (four_list h) (unfold some in refl)

  pub zeros_is : {r : Bool} → r ≡ all (λ b. b =? 48) (take (at + 10 - at) (drop at l)) → r ≡ zeros l at
  zeros_is e = unfold zeros in e ∙ ap (λ n. all (λ b. b =? 48) (take n (drop at l))) ten
    where
      ten : at + 10 - at ≡ 10
      ten = omega arith

  pub day_is : (d : ℕ) → d ≡ low_val 0 (take 3 (drop (at + 1) l)) → {b : Bool} → b ≡ between (get_or l (at + 5) 0) → (leb 1 d && leb d 366 && not b) ≡ media_rest l at
  unfolding media_rest
  day_is d e f = rw (e, f)

  pub correlation_is : (leb (get_or l (at + 2) 0) 56 || leb (get_or l (at + 3) 0) 56 || not (eqb (get_or l at 0) 45) && not (eqb (get_or l (at + 1) 0) 45)) ≡ correlation_rest l at
  unfolding correlation_rest
  correlation_is = refl

  pub datum_is : {a b c : Bool} → a ≡ alike l at (at + 1) → b ≡ between (get_or l at 0) → c ≡ between (get_or l (at + 1) 0) → (a && not b && not c) ≡ datum_rest l at
  unfolding datum_rest
  datum_is p q r = rw (p, q, r)

pub sequence_is : (l : List ℕ) → 80 < length l
    → (not (eqb (get_or l 0 0 % 16) 0) || not (eqb (get_or l 1 0 % 16) 0) || not (eqb (get_or l 2 0 % 16) 0) || not (eqb (get_or l 3 0 % 16) 0) || not (eqb (get_or l 4 0 % 16) 0) || not (eqb (get_or l 5 0 % 16) 0) || eqb (get_or l 5 0) 32)
    ≡ sequence_rest l
unfolding sequence_rest not_zero some spread
sequence_is l h = sym (ap (λ t. some false t || eqb (get_or l 5 0) 32) (spread_is 6 0 l (omega arith)))

-- ---- kinds
module _ (e : Expect) (l : List ℕ) where
  pub occupation_is : {a b c d : Bool} → a ≡ not_zero l 10 4 → b ≡ media_rest l 14 → c ≡ not_zero l 27 3 → d ≡ not_zero l 32 3 → (a && b && c && d) ≡ rest_from true e l (get_or row_lists 4 [])
  unfolding rest_from item_rest bond_rest
  occupation_is p q r s = rw (p, q, r, s)

  pub measurement_is : {a b : Bool} {n : ℕ} → a ≡ not_zero l 10 4 → n ≡ low_val 0 (take 4 (drop 10 l)) → b ≡ meets e n → (a && b) ≡ rest_from true e l (get_or row_lists 6 [])
  unfolding rest_from item_rest bond_rest
  measurement_is p q r = rw (p, r, q)

  pub instrument_is : {a b c : Bool} {n : ℕ} → a ≡ not_zero l 10 3 → n ≡ low_val 0 (take 3 (drop 10 l)) → b ≡ meets e n → c ≡ not_zero l 13 3 → (a && b && c) ≡ rest_from true e l (get_or row_lists 7 [])
  unfolding rest_from item_rest bond_rest
  instrument_is p q r s = rw (p, r, q, s)

  pub antenna_is : {a b : Bool} {n : ℕ} → a ≡ not_zero l 10 3 → n ≡ low_val 0 (take 3 (drop 10 l)) → b ≡ meets e n → (a && b) ≡ rest_from true e l (get_or row_lists 8 [])
  unfolding rest_from item_rest bond_rest
  antenna_is p q r = rw (p, r, q)

  pub point_is : {a b c : Bool} → a ≡ not_zero l 10 4 → b ≡ latitude_rest l 44 → c ≡ longitude_rest l 56 → (a && b && c) ≡ rest_from true e l (get_or row_lists 9 [])
  unfolding rest_from item_rest bond_rest
  point_is p q r = rw (p, q, r)

  pub heights_is : {a b c d f g h i j : Bool} {n : ℕ} → a ≡ not_zero l 10 4 → n ≡ low_val 0 (take 4 (drop 10 l)) → b ≡ meets e n → c ≡ alike l 22 23 → d ≡ alike l 24 25 → f ≡ alike l 22 26
      → g ≡ datum_rest l 27 → h ≡ between (get_or l 42 0) → i ≡ alike l 41 42 → j ≡ alike l 51 52 → (a && b && c && d && f && g && not h && i && j) ≡ rest_from true e l (get_or row_lists 10 [])
  unfolding rest_from item_rest bond_rest
  heights_is p q r s t u v w x y = rw (p, r, q, s, t, u, v, w, x, y)

  pub network_is : {a b : Bool} → a ≡ not_zero l 10 4 → b ≡ correlation_rest l 40 → (a && b) ≡ rest_from true e l (get_or row_lists 11 [])
  unfolding rest_from item_rest bond_rest
  network_is p q = rw (p, q)

  pub local_is : {a b c : Bool} {m n : ℕ} → a ≡ not_zero l 10 4 → b ≡ not_zero l 16 4 → m ≡ low_val 0 (take 4 (drop 10 l)) → n ≡ low_val 0 (take 4 (drop 16 l)) → c ≡ correlation_rest l 42
      → (a && b && not (eqb m n) && c) ≡ rest_from true e l (get_or row_lists 12 [])
  unfolding rest_from item_rest bond_rest
  local_is p q r s t = rw (p, q, r, s, t)

  pub kind_rest : (k j : Kind) → k ≡ j → (t : Bool) → t ≡ rest_from true e l (get_or row_lists (kind_index j) []) → t ≡ true → rest_from true e l (get_or row_lists (kind_index k) []) ≡ true
  kind_rest kind j z t h k = rw z (sym h ∙ k)

-- ---- the kind that is all text, *26*
pub text_rest : (e : Expect) (l : List ℕ) (kind : Kind) → kind ≡ K.Comment → true ≡ true → rest_from true e l (get_or row_lists (kind_index kind) []) ≡ true
unfolding rest_from item_rest bond_rest kind_index
text_rest e l kind z t = rw z

text_kind : (k : ℕ) → is_text k ≡ true → TextFrom17 (get_or class_table k [])
unfolding is_text
text_kind k h = rw (eqb-true k 5 h) record { low = refl; high = refl; free = refl }

-- ---- the columns, and the whole
module _ (l : List ℕ) (kind : Kind) (k : ℕ) (i : k ≡ kind_index kind) (t : List (List (List ℕ))) (c : t ≡ class_table) where
  pub columns_fit : (a : Bool) → (a ≡ true → Columns (get_or t k []) l) → a ≡ true → Columns (get_or class_table (kind_index kind) []) l
  columns_fit a f q = rw (c, i) at (f q)

  pub texts_fit : (b : Bool) → b ≡ is_text (kind_index kind) → b ≡ true → (a : Bool) → (a ≡ true → Texts (get_or t k []) l) → a ≡ true → Columns (get_or class_table (kind_index kind) []) l
  texts_fit b p z a f q = texts-columns (get_or class_table (kind_index kind) []) l (text_kind (kind_index kind) (sym p ∙ z)) (rw (c, i) at (f q))

pub no_job : (k : Kind) (b : Bool) → b ≡ sameb the_type k K.Job → b ≡ false → kind_index k ≡ 0 → ⊥
unfolding kind_index
no_job k b e h z = eqb-false (kind_index k) 0 (sym (e ∙ same_index k K.Job) ∙ h) z

pub fits_whole : (e : Expect) (l : List ℕ) (o : Option Kind) (kind : Kind) → o ≡ Some kind → (kind_index kind ≡ 0 → ⊥) → 80 < length l → (a : Bool) → (a ≡ true → Columns (get_or class_table (kind_index kind) []) l) → (b : Bool) → b ≡ sequence_rest l
    → (d : Bool) → (d ≡ true → rest_from true e l (get_or row_lists (kind_index kind) []) ≡ true) → (a && b && eqb (get_or l 80 0) 10 && d) ≡ true → Fit l (kind_in o) e
unfolding kind_in
fits_whole e l o kind known low long a f b s d g h =
    let k = kind_index kind in
    let high = index_small kind in
    let x = both_true (a && b && eqb (get_or l 80 0) 10) d h in
    let y = both_true (a && b) (eqb (get_or l 80 0) 10) x.0 in
    let z = both_true a b y.0 in
    rw known (fits_ok e l k (above_0 k low) high long (eqb-true (get_or l 80 0) 10 y.1) (row_from l k high long (f z.0)) (sym s ∙ z.1) (g x.1))
