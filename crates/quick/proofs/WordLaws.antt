-- Blanks, words and media identifiers by their rows: each set by its class, and what one range cannot part, by the test that the row leaves.
use mathlib.Core.Path.{◌≡◌, refl, sym, ap, ◌∙◌, subst}
use mathlib.Core.Bool.{Bool, true, false, not, ◌&&◌, ◌||◌, or-true, false≢true}
use mathlib.Core.List.{List, [], ◌∷◌}
use Prim.Native.Nat.{ℕ, ◌≤◌, ◌<◌}
use native.Mathlib.Omega.{arith}
use lib.Dec.{leb, eqb, lit≤}
use lib.ListN.{length, get_or, take, drop, replicate, length-replicate}
use borrow.Author.Tests.{leb-true}
use Rattle.rules.specs.Tests.{◌&◌, ◌≤?◌, ◌=?◌, within, all}
use Rattle.rules.specs.Characters.{Set, letter, digit, space, printable, only, ◌or◌, is_blank, is_digit, is_letter, is_printable, member}
use Rattle.rules.specs.Digits.{val}
use Rattle.rules.specs.Items.{blank, word, each, or_blank, media, is_media, on_label, width, shape, value_of, fits, good}
use Rattle.rules.specs.Fields.{same_truth}
use Rattle.rules.proofs.Truth.{and, of≤, of≡, of_within, to_within, all_replicate, both_true}
use Rattle.columns.proofs.ItemLaws.{good-blank, good-each, good-or-blank}
use Rattle.kinds.specs.declared.tables.Item.TheVariants as I
use Rattle.quick.specs.Rows.{Class, blanks, texts, letters, spaced, wide_spaced, pairs, yes_no, answers, in_class, row_ok, row_of}
use Rattle.quick.specs.Rest.{low_val, between, media_rest, alike, datum_rest}
use Rattle.quick.proofs.ClassLaws.{one_true, admits, all-columns, column_is, row_within, spread, spread_is}
use Rattle.quick.proofs.NumberLaws.{even, low-val}

-- ---- every column of one class
same_all : (p : ℕ → Bool) (k : Class) → admits p k ≡ true → (w : ℕ) (bs : List ℕ) → row_ok (replicate w k) bs ≡ true → all p (take w bs) ≡ true
same_all p k a w bs h =
    subst (λ n. all p (take n bs) ≡ true) (length-replicate {A = Class} w k) (all-columns p (replicate w k) (all_replicate (admits p) k a w) bs h)

module _ (w : ℕ) (bs : List ℕ) (n : length (take w bs) ≡ w) where
  pub blank_ok : row_ok (replicate w blanks) bs ≡ true → good (blank w) (take w bs) ≡ true
  blank_ok h =
      subst (λ k. good (blank k) (take w bs) ≡ true) n (sym (good-blank (take w bs)) ∙ same_all is_blank blanks (unfold admits in_class all is_blank ◌&◌ ◌≤?◌ ◌=?◌ in refl) w bs h)

  each_ok : (s : Set) (k : Class) → admits (member s) k ≡ true → row_ok (replicate w k) bs ≡ true → good (word w (each s)) (take w bs) ≡ true
  each_ok s k a h = subst (λ k. good (word k (each s)) (take w bs) ≡ true) n (sym (good-each s (take w bs)) ∙ same_all (member s) k a w bs h)

  pub letters_ok : row_ok (replicate w letters) bs ≡ true → good (word w (each letter)) (take w bs) ≡ true
  unfolding admits in_class all member is_letter within ◌&◌ ◌≤?◌ ◌=?◌
  letters_ok = each_ok letter letters refl

  pub spaced_ok : row_ok (replicate w spaced) bs ≡ true → good (word w (each (letter or space))) (take w bs) ≡ true
  unfolding admits in_class all member is_letter is_blank within ◌&◌ ◌≤?◌ ◌=?◌
  spaced_ok = each_ok (letter or space) spaced refl

  pub yes_or_no_ok : row_ok (replicate w yes_no) bs ≡ true → good (word w (each (only 89 or only 78))) (take w bs) ≡ true
  unfolding admits in_class all member is_printable within ◌&◌ ◌≤?◌ ◌=?◌
  yes_or_no_ok = each_ok (only 89 or only 78) yes_no refl

  pub yes_no_ok : row_ok (replicate w answers) bs ≡ true → good (word w (each (only 89 or only 78 or space))) (take w bs) ≡ true
  unfolding admits in_class all member is_blank is_printable within ◌&◌ ◌≤?◌ ◌=?◌
  yes_no_ok = each_ok (only 89 or only 78 or space) answers refl

  pub texts_ok : row_ok (replicate w texts) bs ≡ true → good (word w (each printable)) (take w bs) ≡ true
  unfolding admits in_class all member is_printable within ◌&◌ ◌≤?◌ ◌=?◌
  texts_ok = each_ok printable texts refl

-- one column, two columns
first_one : (bs : List ℕ) → 1 ≤ length bs → take 1 bs ≡ get_or bs 0 0 ∷ []
unfolding spread
first_one bs h = spread_is 1 0 bs h

first_two : (bs : List ℕ) → 2 ≤ length bs → take 2 bs ≡ get_or bs 0 0 ∷ get_or bs 1 0 ∷ []
unfolding spread
first_two bs h = spread_is 2 0 bs h

all_one : (p : ℕ → Bool) (a : ℕ) → p a ≡ true → all p (a ∷ []) ≡ true
unfolding all
all_one p a h = and h refl

all_two : (p : ℕ → Bool) (a b : ℕ) → p a ≡ true → p b ≡ true → all p (a ∷ b ∷ []) ≡ true
unfolding all
all_two p a b h k = and h (and k refl)

-- ---- without the seven characters between
unfoldable near : (ℕ → Bool) → ℕ → Bool
near p b = between b || p b

not_near : (p : ℕ → Bool) (b : ℕ) → near p b ≡ true → not (between b) ≡ true → p b ≡ true
unfolding near
not_near p b h k = one_true (between b) (p b) h (λ e. absurd (false≢true (rw e at k))) (λ e. e)

pub one_ok : (bs : List ℕ) → row_ok (replicate 1 wide_spaced) bs ≡ true → not (between (get_or bs 0 0)) ≡ true → good (word 1 (each (letter or digit or space))) (take 1 bs) ≡ true
one_ok bs h k =
    let p = member (letter or digit or space) in
    let m : near p (get_or bs 0 0) ≡ true = column_is (near p) (replicate 1 wide_spaced) 0 blanks (unfold near between admits in_class all member is_letter is_digit is_blank within ◌&◌ ◌≤?◌ ◌=?◌ in refl) (lit≤ tt) bs h in
    rw (first_one bs (row_within (replicate 1 wide_spaced) bs h))
    (sym (good-each (letter or digit or space) (get_or bs 0 0 ∷ [])) ∙ all_one p (get_or bs 0 0) (not_near p (get_or bs 0 0) m k))

-- ---- two columns, both blank or neither
unfoldable blank_or : Set → ℕ → Bool
blank_or s b = is_blank b || member s b

two_ok : (s : Set) (a b : ℕ) → blank_or s a ≡ true → blank_or s b ≡ true → same_truth (eqb a 32) (eqb b 32) ≡ true → good (word 2 (or_blank s)) (a ∷ b ∷ []) ≡ true
two_ok s a b h k t = sym (good-or-blank s (a ∷ b ∷ []) refl refl) ∙ by (is_blank a) (is_blank b) refl refl
  where
    same : same_truth (is_blank a) (is_blank b) ≡ true
    same = unfold is_blank ◌=?◌ in t

    by : (x y : Bool) → is_blank a ≡ x → is_blank b ≡ y → (all is_blank (a ∷ b ∷ []) || all (member s) (a ∷ b ∷ [])) ≡ true
    by true true e f = rw (all_two is_blank a b e f)
    by true false e f = absurd (false≢true (unfold same_truth in (rw (e, f) at same)))
    by false true e f = absurd (false≢true (unfold same_truth in (rw (e, f) at same)))
    by false false e f =
        let p : member s a ≡ true = unfold blank_or in (rw e at h) in
        let q : member s b ≡ true = unfold blank_or in (rw f at k) in
        rw (all_two (member s) a b p q) (or-true (all is_blank (a ∷ b ∷ [])))

pub pair_ok : (bs : List ℕ) → row_ok (replicate 2 pairs) bs ≡ true → alike bs 0 1 ≡ true → good (word 2 (or_blank digit)) (take 2 bs) ≡ true
unfolding alike
pair_ok bs h t =
    rw (first_two bs (row_within (replicate 2 pairs) bs h))
    (two_ok digit (get_or bs 0 0) (get_or bs 1 0)
    (column_is (blank_or digit) (replicate 2 pairs) 0 blanks (unfold blank_or admits in_class all member is_digit is_blank within ◌&◌ ◌≤?◌ ◌=?◌ in refl) (lit≤ tt) bs h)
    (column_is (blank_or digit) (replicate 2 pairs) 1 blanks (unfold blank_or admits in_class all member is_digit is_blank within ◌&◌ ◌≤?◌ ◌=?◌ in refl) (lit≤ tt) bs h) t)

pub datum_ok : (bs : List ℕ) → row_ok (replicate 2 wide_spaced) bs ≡ true → datum_rest bs 0 ≡ true → good (word 2 (or_blank (letter or digit))) (take 2 bs) ≡ true
unfolding alike datum_rest
datum_ok bs h t =
    let p = blank_or (letter or digit) in
    let u = both_true (same_truth (eqb (get_or bs 0 0) 32) (eqb (get_or bs 1 0) 32) && not (between (get_or bs 0 0))) (not (between (get_or bs 1 0))) t in
    let v = both_true (same_truth (eqb (get_or bs 0 0) 32) (eqb (get_or bs 1 0) 32)) (not (between (get_or bs 0 0))) u.0 in
    let x : near p (get_or bs 0 0) ≡ true = column_is (near p) (replicate 2 wide_spaced) 0 blanks (unfold near between blank_or admits in_class all member is_letter is_digit is_blank within ◌&◌ ◌≤?◌ ◌=?◌ in refl) (lit≤ tt) bs h in
    let y : near p (get_or bs 1 0) ≡ true = column_is (near p) (replicate 2 wide_spaced) 1 blanks (unfold near between blank_or admits in_class all member is_letter is_digit is_blank within ◌&◌ ◌≤?◌ ◌=?◌ in refl) (lit≤ tt) bs h in
    rw (first_two bs (row_within (replicate 2 wide_spaced) bs h))
    (two_ok (letter or digit) (get_or bs 0 0) (get_or bs 1 0) (not_near p (get_or bs 0 0) x v.1) (not_near p (get_or bs 1 0) y u.1) v.0)

-- ---- media identifiers
made : (a b c d e f g i j k : ℕ) → is_letter a ≡ true → all is_digit (b ∷ c ∷ d ∷ e ∷ []) ≡ true → within 1 366 (val 0 (b ∷ c ∷ d ∷ [])) ≡ true → val 0 (e ∷ []) ≤? 9 ≡ true
    → member (letter or digit) f ≡ true → all is_printable (g ∷ i ∷ j ∷ k ∷ []) ≡ true → good media (a ∷ b ∷ c ∷ d ∷ e ∷ f ∷ g ∷ i ∷ j ∷ k ∷ []) ≡ true
unfolding good width shape value_of fits on_label is_media
made a b c d e f g i j k l ds day year session mark = and (and ten ds) (and (and (and (and l day) year) session) (and four mark))
  where
    ten : 10 =? 10 ≡ true
    ten = of≡ {m = 10} refl

    four : 4 =? 4 ≡ true
    four = of≡ {m = 4} refl

module _ (bs : List ℕ) (h : row_ok (row_of I.Media 10) bs ≡ true) where
  media-letter : is_letter (get_or bs 0 0) ≡ true
  media-letter = column_is is_letter (row_of I.Media 10) 0 blanks (unfold admits in_class all is_letter within ◌&◌ ◌≤?◌ ◌=?◌ in refl) (lit≤ tt) bs h

  media-digit : (j : ℕ) → admits is_digit (get_or (row_of I.Media 10) j blanks) ≡ true → j < 10 → is_digit (get_or bs j 0) ≡ true
  media-digit j a k = column_is is_digit (row_of I.Media 10) j blanks a k bs h

  media_even : (j : ℕ) → admits even (get_or (row_of I.Media 10) j blanks) ≡ true → j < 10 → even (get_or bs j 0) ≡ true
  media_even j a k = column_is even (row_of I.Media 10) j blanks a k bs h

  media-text : (j : ℕ) → admits is_printable (get_or (row_of I.Media 10) j blanks) ≡ true → j < 10 → is_printable (get_or bs j 0) ≡ true
  media-text j a k = column_is is_printable (row_of I.Media 10) j blanks a k bs h

  media_session : not (between (get_or bs 5 0)) ≡ true → member (letter or digit) (get_or bs 5 0) ≡ true
  media_session t =
      not_near (member (letter or digit)) (get_or bs 5 0)
      (column_is (near (member (letter or digit))) (row_of I.Media 10) 5 blanks (unfold near between admits in_class all member is_letter is_digit within ◌&◌ ◌≤?◌ ◌=?◌ in refl) (lit≤ tt) bs h) t

  -- the day
  media_day : take 3 (drop 1 bs) ≡ get_or bs 1 0 ∷ get_or bs 2 0 ∷ get_or bs 3 0 ∷ []
  unfolding spread
  media_day = spread_is 3 1 bs (omega (arith, row_within (row_of I.Media 10) bs h))

  media-all : take 10 bs ≡ get_or bs 0 0 ∷ get_or bs 1 0 ∷ get_or bs 2 0 ∷ get_or bs 3 0 ∷ get_or bs 4 0 ∷ get_or bs 5 0 ∷ get_or bs 6 0 ∷ get_or bs 7 0 ∷ get_or bs 8 0 ∷ get_or bs 9 0 ∷ []
  unfolding spread
  media-all = spread_is 10 0 bs (row_within (row_of I.Media 10) bs h)

  day_even : all even (get_or bs 1 0 ∷ get_or bs 2 0 ∷ get_or bs 3 0 ∷ []) ≡ true
  unfolding all admits in_class even ◌&◌ ◌≤?◌ ◌=?◌
  day_even = and (media_even 1 refl (lit≤ tt)) (and (media_even 2 refl (lit≤ tt)) (and (media_even 3 refl (lit≤ tt)) refl))

  day_val : low_val 0 (take 3 (drop 1 bs)) ≡ val 0 (get_or bs 1 0 ∷ get_or bs 2 0 ∷ get_or bs 3 0 ∷ [])
  day_val = ap (low_val 0) media_day ∙ low-val 0 _ day_even

  four-digits : all is_digit (get_or bs 1 0 ∷ get_or bs 2 0 ∷ get_or bs 3 0 ∷ get_or bs 4 0 ∷ []) ≡ true
  unfolding all admits in_class is_digit within ◌&◌ ◌≤?◌ ◌=?◌
  four-digits = and (media-digit 1 refl (lit≤ tt)) (and (media-digit 2 refl (lit≤ tt)) (and (media-digit 3 refl (lit≤ tt)) (and (media-digit 4 refl (lit≤ tt)) refl)))

  four-texts : all is_printable (get_or bs 6 0 ∷ get_or bs 7 0 ∷ get_or bs 8 0 ∷ get_or bs 9 0 ∷ []) ≡ true
  unfolding all admits in_class is_printable within ◌&◌ ◌≤?◌ ◌=?◌
  four-texts = and (media-text 6 refl (lit≤ tt)) (and (media-text 7 refl (lit≤ tt)) (and (media-text 8 refl (lit≤ tt)) (and (media-text 9 refl (lit≤ tt)) refl)))

  year_small : val 0 (get_or bs 4 0 ∷ []) ≤ 9
  unfolding val
  year_small = omega (arith, top)
    where
      top : get_or bs 4 0 ≤ 57
      top = unfold is_digit in (to_within (media-digit 4 (unfold admits in_class all is_digit within ◌&◌ ◌≤?◌ ◌=?◌ in refl) (lit≤ tt))).1

  pub media_ok : media_rest bs 0 ≡ true → good media (take 10 bs) ≡ true
  unfolding media_rest
  media_ok t =
      let D = low_val 0 (take 3 (drop 1 bs)) in
      let u = both_true (leb 1 D && leb D 366) (not (between (get_or bs 5 0))) t in
      let v = both_true (leb 1 D) (leb D 366) u.0 in
      let x : 1 ≤ val 0 (get_or bs 1 0 ∷ get_or bs 2 0 ∷ get_or bs 3 0 ∷ []) = rw (← day_val) (leb-true 1 D v.0) in
      let y : val 0 (get_or bs 1 0 ∷ get_or bs 2 0 ∷ get_or bs 3 0 ∷ []) ≤ 366 = rw (← day_val) (leb-true D 366 v.1) in
      rw media-all (made (get_or bs 0 0) (get_or bs 1 0) (get_or bs 2 0) (get_or bs 3 0) (get_or bs 4 0) (get_or bs 5 0) (get_or bs 6 0) (get_or bs 7 0) (get_or bs 8 0) (get_or bs 9 0) media-letter four-digits (of_within x y) (of≤ year_small) (media_session u.1) four-texts)
