-- 02, T-02: whatever begins a good field begins one that ends like its kind's least value, in zeros or in blanks; so the function names the column of the sentence.
use mathlib.Core.Path.{◌≡◌, refl, sym, ◌∙◌, ap, ap₂, subst}
use mathlib.Core.Logic.{◌⊎◌, inl, inr, ◌↔◌}
use mathlib.Core.Bool.{Bool, true, false, cond, false≢true}
use mathlib.Core.List.{List, [], ◌∷◌, ◌++◌, append_assoc, append-nil}
use Prim.Native.Nat.{ℕ, zero, suc, ◌+◌, ◌-◌, ◌*◌, ◌^◌, ◌≤◌, ◌<◌}
use native.Mathlib.Nat.{mul_assoc, pow-le-pow_right}
use native.Mathlib.Omega.{arith}
use lib.ListN.{length, length-append, length-drop, replicate, length-replicate, take, drop, get_or, take-append-drop, drop_of_length-le}
use lib.Seq.{take_at, get_or_at, take_all, take-take, take-append_seam, take-append-add, drop-append-le, length-take-le}
use lib.IntN.{pos}
use Rattle.rules.specs.Tests.{all, within, ◌&◌, ◌≤?◌, ◌=?◌}
use Rattle.rules.specs.Characters.{ascii, is_printable, is_blank, is_digit, is_letter, any_of, title_characters, name_characters, Set, letter, digit, space, printable, title, name, only, ◌or◌, member, one_of}
use Rattle.rules.specs.Digits.{val, put}
use Rattle.rules.specs.Items.{missing, num, Way, latitude, longitude, each, or_blank, Item, blank, constant, number, height, angle, month, media, word}
use Rattle.rules.specs.Items.{set_in, num_form, height_form, minus, signed, passes, render, angle_of, dms, dms_form, columns, top, low, plus, angle_value, is_month, is_media, on_gap, on_number, on_text, on_label, width, shape, value_of, fits, good, least, ends, goes_on, begins, first_bad, spot}
use Rattle.rules.specs.Forms.{Between}
use Rattle.rules.specs.Beginnings.{Begins, Names}
use Rattle.rules.proofs.Truth.{both, and, to≤, of≤, no≤, to≡, of≡, not_both, to_within, of_within, cases, choice, all_append, all-parts, all_take, all_drop, all_weaken, all_replicate}
use Rattle.rules.proofs.DigitLaws.{length-put, digits-put, val_put, val_cut, val-zeros, put-zeros, not_above9, val_lt}
use Rattle.rules.proofs.Lawful.{blanks, digits-not-blank, blanks-num_form, digits-num_form, blanks-height_form, digits-height_form, degrees, minutes, seconds, east, plus-letter}
use Rattle.rules.proofs.FormLaws.{digit_low, digits_lt, value_blank, in-range, fits_room, fits_range, height-blank, height-between, height-formed}
use Rattle.rules.proofs.SpellLaws.{sized, shaped, fitting, goodly, put-behind, angle_most, spelled_iff}

-- ---- a beginning with an end behind it
module _ (i : Item) (p : List ℕ) where
  by_least : good i (p ++ drop (length p) (render i (least i))) ≡ true → begins i p ≡ true
  unfolding begins ends goes_on
  by_least h = rw h

  by_zeros : good i (p ++ drop (length p) (replicate (width i) 48)) ≡ true → begins i p ≡ true
  unfolding begins ends goes_on
  by_zeros h = cases (good i (p ++ drop (length p) (render i (least i)))) (λ e. rw e) (λ e. rw (e, h))

  by_blanks : good i (p ++ drop (length p) (replicate (width i) 32)) ≡ true → begins i p ≡ true
  unfolding begins ends goes_on
  by_blanks h =
      cases (good i (p ++ drop (length p) (render i (least i))))
      (λ e. rw e)
      (λ e. cases (good i (p ++ drop (length p) (replicate (width i) 48))) (λ k. rw (e, k)) (λ k. rw (e, k, h)))

module _ (p rest e : List ℕ) where
  ended : {w : ℕ} → length (p ++ rest) ≡ w → length e ≡ w → length (p ++ drop (length p) e) ≡ w
  ended s k = length-append p (drop (length p) e) ∙ omega (arith, length-drop (length p) e, length-append p rest)

  all_ended : (t : ℕ → Bool) → all t (p ++ rest) ≡ true → all t e ≡ true → all t (p ++ drop (length p) e) ≡ true
  all_ended t h k = all_append t p (drop (length p) e) (all-parts t p rest h).0 (all-parts t (take (length p) e) (drop (length p) e) (rw take-append-drop k)).1

-- ---- blanks, constants and words
module _ (p rest : List ℕ) where
  blank_goes : (w : ℕ) → good (blank w) (p ++ rest) ≡ true → begins (blank w) p ≡ true
  unfolding width shape value_of fits on_gap
  blank_goes w h =
      by_blanks (blank w) p
      (goodly (blank w) _ (ended p rest _ (sized (blank w) _ h) (length-replicate w 32)) (all_ended p rest _ is_blank (shaped (blank w) _ h) (blanks w)) refl refl).0

  constant_goes : (c : ℕ) → good (constant c) (p ++ rest) ≡ true → begins (constant c) p ≡ true
  unfolding width shape value_of fits on_gap all render least
  constant_goes c h =
      by_least (constant c) p
      (goodly (constant c) _ (ended p rest _ (sized (constant c) _ h) refl) (all_ended p rest _ (λ b. b =? c) (shaped (constant c) _ h) (and (of≡ {m = c} refl) refl)) refl (fitting (constant c) _ h)).0

-- a set that has a member has this one
one_only : (c b : ℕ) → member (only c) b ≡ true → member (only c) (one_of (only c)) ≡ true
unfolding member one_of
one_only c b h = and (rw (to≡ (both h).1) at (both h).0) (of≡ {m = c} refl)

module _ (s t : Set) where
  one_left : member s (one_of s) ≡ true → member (s or t) (one_of (s or t)) ≡ true
  unfolding member one_of
  one_left e = rw e (rw e)

  one_right : member t (one_of t) ≡ true → member (s or t) (one_of (s or t)) ≡ true
  one_right e = cases (member s (one_of s)) one_left (λ k. unfold member one_of in rw k (cases (member s (one_of t)) (λ f. rw f) (λ f. rw (f, e))))

one_member : (s : Set) (b : ℕ) → member s b ≡ true → member s (one_of s) ≡ true
one_member letter b h = unfold member one_of is_letter within ◌≤?◌ ◌&◌ in refl
one_member digit b h = unfold member one_of is_digit within ◌≤?◌ ◌&◌ in refl
one_member space b h = unfold member one_of is_blank ◌=?◌ in refl
one_member printable b h = unfold member one_of is_printable within ◌≤?◌ ◌&◌ in refl
one_member title b h = unfold member one_of any_of title_characters ascii ◌=?◌ in refl
one_member name b h = unfold member one_of any_of name_characters ascii ◌=?◌ in refl
one_member (only c) b h = one_only c b h
one_member (s or t) b h =
    choice (member s b) (member t b) (unfold member in h) _ (λ e. one_left s t (one_member s b e)) (λ e. one_right s t (one_member t b e))

ones : (s : Set) (bs : List ℕ) → all (member s) bs ≡ true → all (member s) (replicate (length bs) (one_of s)) ≡ true
unfolding all
ones s [] h = refl
ones s (b ∷ bs) h = all_replicate (member s) (one_of s) (one_member s b (both h).0) (suc (length bs))

module _ (w : ℕ) (s : Set) (p rest : List ℕ) where
  -- with a character of the set in each column that follows
  filled : length (p ++ rest) ≡ w → all (member s) (p ++ rest) ≡ true → all (member s) (p ++ drop (length p) (replicate w (one_of s))) ≡ true
  filled e h = all_ended p rest _ (member s) h (subst (λ n. all (member s) (replicate n (one_of s)) ≡ true) e (ones s (p ++ rest) h))

  each_goes : good (word w (each s)) (p ++ rest) ≡ true → begins (word w (each s)) p ≡ true
  unfolding width shape value_of fits on_text render least passes set_in
  each_goes h =
      let size : length (p ++ rest) ≡ w = sized (word w (each s)) _ h in
      let long = ended p rest (replicate w (one_of s)) size (length-replicate w (one_of s)) in
      let held = filled size (shaped (word w (each s)) _ h) in
      by_least (word w (each s)) p (goodly (word w (each s)) _ long held refl (and (of≡ long) held)).0

  blank-or_goes : good (word w (or_blank s)) (p ++ rest) ≡ true → begins (word w (or_blank s)) p ≡ true
  unfolding width shape value_of fits on_text render least passes set_in
  blank-or_goes h =
      let size : length (p ++ rest) ≡ w = sized (word w (or_blank s)) _ h in
      let long = ended p rest (replicate w (one_of s)) size (length-replicate w (one_of s)) in
      let none = ended p rest (replicate w 32) size (length-replicate w 32) in
      choice (all is_blank (p ++ rest)) (all (member s) (p ++ rest)) (shaped (word w (or_blank s)) _ h) _
      (λ e. let held : cond (all is_blank (p ++ drop (length p) (replicate w 32))) true (all (member s) (p ++ drop (length p) (replicate w 32))) ≡ true = rw (all_ended p rest _ is_blank e (blanks w)) in
      by_blanks (word w (or_blank s)) p (goodly (word w (or_blank s)) _ none held refl (and (of≡ none) held)).0)
      (λ e. let held : cond (all is_blank (p ++ drop (length p) (replicate w (one_of s)))) true (all (member s) (p ++ drop (length p) (replicate w (one_of s)))) ≡ true = either_way (all is_blank (p ++ drop (length p) (replicate w (one_of s)))) (filled size e) in
      by_least (word w (or_blank s)) p (goodly (word w (or_blank s)) _ long held refl (and (of≡ long) held)).0)
    where
      either_way : (t : Bool) {u : Bool} → u ≡ true → cond t true u ≡ true
      either_way true e = refl
      either_way false e = e

-- ---- digits behind a beginning: numbers and heights
-- what is not blank stays so
still_some : (p rest ds : List ℕ) → all is_blank (p ++ rest) ≡ false → all is_digit ds ≡ true → length ds ≡ length rest → all is_blank (p ++ ds) ≡ false
unfolding all ◌&◌
still_some [] rest ds h k e = digits-not-blank ds k (omega (arith, e, some rest h))
  where
    some : (bs : List ℕ) → all is_blank bs ≡ false → 1 ≤ length bs
    some [] z = absurd (false≢true (sym z))
    some (b ∷ bs) z = omega arith
still_some (b ∷ p) rest ds h k e =
    cases (is_blank b) (λ t. rw t (still_some p rest ds (rw t at h) k e)) (λ t. rw t)

number_on : (p rest ds : List ℕ) → num_form (p ++ rest) ≡ true → all is_digit ds ≡ true → num_form (p ++ ds) ≡ true
unfolding num_form
number_on [] rest ds h k = digits-num_form ds k
number_on (b ∷ p) rest ds h k =
    cases (is_blank b)
    (λ e. rw e (number_on p rest ds (rw e at h) k))
    (λ e. rw e (all_append is_digit (b ∷ p) ds (all-parts is_digit (b ∷ p) rest (rw e at h)).0 k))

height_on : (p rest ds : List ℕ) → height_form (p ++ rest) ≡ true → all is_digit ds ≡ true → length ds ≡ length rest → height_form (p ++ ds) ≡ true
unfolding height_form
height_on [] rest ds h k l = digits-height_form ds k
height_on (b ∷ p) rest ds h k l =
    cases (is_blank b)
    (λ e. rw e (height_on p rest ds (rw e at h) k l))
    (λ e. cases (b =? 45)
    (λ m. let z : 1 ≤? length (p ++ rest) & all is_digit (p ++ rest) ≡ true = rw (e, m) at h in
    rw (e, m) (and (of≤ (omega (arith, to≤ (both z).0, length-append p rest, length-append p ds))) (all_append is_digit p ds (all-parts is_digit p rest (both z).1).0 k)))
    (λ m. rw (e, m) (all_append is_digit (b ∷ p) ds (all-parts is_digit (b ∷ p) rest (rw (e, m) at h)).0 k)))

number-low : (bs : List ℕ) → num_form bs ≡ true → all not_above9 bs ≡ true
unfolding num_form all
number-low [] h = refl
number-low (b ∷ bs) h =
    cases (is_blank b)
    (λ e. and (unfold not_above9 is_blank in of≤ (omega (arith, to≡ e))) (number-low bs (rw e at h)))
    (λ e. let d : is_digit b & all is_digit bs ≡ true = rw e at h in and (digit_low b (both d).0) (all-low bs (both d).1))
  where
    all-low : (ds : List ℕ) → all is_digit ds ≡ true → all not_above9 ds ≡ true
    all-low ds k = all_weaken is_digit not_above9 digit_low ds k

zero-digit : (b : ℕ) → b =? 48 ≡ true → is_digit b ≡ true
unfolding is_digit
zero-digit b e = of_within (omega (arith, to≡ e)) (omega (arith, to≡ e))

-- zeros in the columns that follow
zeros-behind : (w : ℕ) (p rest : List ℕ) → length (p ++ rest) ≡ w → (length (drop (length p) (replicate {A = ℕ} w 48)) ≡ length rest) × (all (λ b. b =? 48) (drop (length p) (replicate w 48)) ≡ true)
zeros-behind w p rest e = (
  length-drop (length p) (replicate w 48) ∙ omega (arith, length-replicate {A = ℕ} w 48, e, length-append p rest),
  all_drop (λ b. b =? 48) (length p) (replicate w 48) (all_replicate (λ b. b =? 48) 48 (of≡ {m = 48} refl) w),
)

-- ---- numbers
module _ (w lo hi : ℕ) (may : Bool) (p rest : List ℕ) (h : good (number w lo hi may) (p ++ rest) ≡ true) where
  abbrev this : Item
  this = number w lo hi may

  wide : length p + length rest ≡ w
  wide = sym (length-append p rest) ∙ (unfold width in sized this (p ++ rest) h)

  form : num_form (p ++ rest) ≡ true
  form = unfold shape in shaped this (p ++ rest) h

  number-blank : all is_blank (p ++ rest) ≡ true → begins this p ≡ true
  unfolding width shape
  number-blank e =
      let fit : fits this missing ≡ true = subst (λ v. fits this v ≡ true) (value_blank w lo hi may (p ++ rest) e) (fitting this (p ++ rest) h) in
      let none = all_ended p rest (replicate w 32) is_blank e (blanks w) in
      by_blanks this p (goodly this _ (ended p rest _ (sized this _ h) (length-replicate w 32)) (blanks-num_form _ none) (value_blank w lo hi may _ none) fit).0

  module _ (some : all is_blank (p ++ rest) ≡ false) where
    value_some : (bs : List ℕ) → all is_blank bs ≡ false → value_of this bs ≡ num (pos (val 0 bs))
    unfolding value_of
    value_some bs e = rw e

    fit : fits this (num (pos (val 0 (p ++ rest)))) ≡ true
    fit = subst (λ v. fits this v ≡ true) (value_some (p ++ rest) some) (fitting this (p ++ rest) h)

    -- any digits that keep the number from lo up to what it was
    digits_go : (ds : List ℕ) → all is_digit ds ≡ true → length ds ≡ length rest → lo ≤ val 0 (p ++ ds) → val 0 (p ++ ds) ≤ val 0 (p ++ rest) → good this (p ++ ds) ≡ true
    unfolding width shape
    digits_go ds k e a b =
        let room = fits_room w lo hi may (val 0 (p ++ rest)) fit in
        let range = in-range w lo hi may (val 0 (p ++ rest)) fit in
        (goodly this (p ++ ds) (length-append p ds ∙ omega (arith, wide)) (number_on p rest ds form k) (value_some (p ++ ds) (still_some p rest ds some k e))
        (fits_range w lo hi may (val 0 (p ++ ds)) room.0 (omega (arith, room.1)) a (omega (arith, range.1)))).0

    abbrev shifted : ℕ
    shifted = val 0 p * 10 ^ length rest

    reads : (ds : List ℕ) → length ds ≡ length rest → val 0 (p ++ ds) ≡ shifted + val 0 ds
    reads ds e = val_cut (length rest) p ds e

    small : val 0 rest < 10 ^ length rest
    small = omega (arith, val_lt 0 rest (all-parts not_above9 p rest (number-low (p ++ rest) form)).1)

    -- zeros, where they make it no less than lo
    zeros_go : lo ≤ shifted → begins this p ≡ true
    unfolding width
    zeros_go k =
        let ds : List ℕ = drop (length p) (replicate w 48) in
        let (long, zeros) = zeros-behind w p rest (length-append p rest ∙ wide) in
        let none : val 0 ds ≡ 0 = val-zeros 0 ds zeros ∙ omega arith in
        let e = reads ds long in
        by_zeros this p (digits_go ds (all_weaken (λ b. b =? 48) is_digit zero-digit ds zeros) long (omega arith) (omega (arith, reads rest refl)))

    -- else lo's own digits
    least_go : shifted < lo → begins this p ≡ true
    unfolding render least on_number
    least_go k =
        let r = length rest in
        let b = lo - shifted in
        let low = in-range w lo hi may (val 0 (p ++ rest)) fit in
        let less : b < 10 ^ r = omega (arith, low.0, reads rest refl, small) in
        let whole : lo ≡ shifted + b = omega arith in
        let same : drop (length p) (put w lo) ≡ put r b = ap₂ (λ n k. drop (length p) (put n k)) (sym wide) whole ∙ put-behind (length p) r (val 0 p) b less in
        let value = reads (put r b) (length-put r b) ∙ ap (λ x. shifted + x) (val_put r b less) in
        by_least this p (rw same (digits_go (put r b) (digits-put r b) (length-put r b) (omega arith) (omega (arith, low.0))))

  number_goes : begins this p ≡ true
  number_goes = cases (all is_blank (p ++ rest)) number-blank (λ some. cases (lo ≤? val 0 p * 10 ^ length rest) (λ e. zeros_go some (to≤ e)) (λ e. least_go some (no≤ e)))

-- ---- heights and angles: with zeros behind a beginning no number in it grows
unfoldable lower : List ℕ → List ℕ → Bool
lower [] [] = true
lower [] (b ∷ bs) = false
lower (a ∷ cs) [] = false
lower (a ∷ cs) (b ∷ bs) = a ≤? b & lower cs bs

val_lower : (a b : ℕ) (cs bs : List ℕ) → a ≤ b → lower cs bs ≡ true → val a cs ≤ val b bs
unfolding lower val
val_lower a b [] [] h k = h
val_lower a b [] (y ∷ bs) h k = absurd (false≢true k)
val_lower a b (x ∷ cs) [] h k = absurd (false≢true k)
val_lower a b (x ∷ cs) (y ∷ bs) h k = val_lower (a * 10 + (x - 48)) (b * 10 + (y - 48)) cs bs (omega (arith, to≤ (both k).0)) (both k).1

parts_lower : (n : ℕ) (cs bs : List ℕ) → lower cs bs ≡ true → (lower (take n cs) (take n bs) ≡ true) × (lower (drop n cs) (drop n bs) ≡ true)
unfolding lower
parts_lower zero cs bs h = (refl, h)
parts_lower (suc n) [] [] h = (refl, refl)
parts_lower (suc n) [] (y ∷ bs) h = absurd (false≢true h)
parts_lower (suc n) (x ∷ cs) [] h = absurd (false≢true h)
parts_lower (suc n) (x ∷ cs) (y ∷ bs) h = let t = parts_lower n cs bs (both h).1 in (and (both h).0 t.0, t.1)

digit_from : (b : ℕ) → is_digit b ≡ true → 48 ≤ b
unfolding is_digit
digit_from b h = (to_within h).0

zeros_lower : (p zs ds : List ℕ) → all (λ b. b =? 48) zs ≡ true → all is_digit ds ≡ true → length zs ≡ length ds → lower (p ++ zs) (p ++ ds) ≡ true
unfolding lower all
zeros_lower [] [] [] h k e = refl
zeros_lower [] [] (y ∷ ds) h k e = absurd (omega arith)
zeros_lower [] (x ∷ zs) [] h k e = absurd (omega arith)
zeros_lower [] (x ∷ zs) (y ∷ ds) h k e =
    and (of≤ (omega (arith, to≡ (both h).0, digit_from y (both k).0))) (zeros_lower [] zs ds (both h).1 (both k).1 (omega arith))
zeros_lower (b ∷ p) zs ds h k e = and (of≤ {m = b} (omega arith)) (zeros_lower p zs ds h k e)

-- ---- heights
-- zeros in the place of what a signed number ends in leave its sign, or it becomes 0
sign_on : (p rest ds : List ℕ) → all (λ b. b =? 48) ds ≡ true → (minus (p ++ ds) ≡ minus (p ++ rest)) ⊎ (val 0 (p ++ ds) ≡ 0)
unfolding minus val
sign_on [] rest ds k = inr (val-zeros 0 ds k ∙ omega arith)
sign_on (b ∷ p) rest ds k =
    cases (is_blank b)
    (λ e. let none : b ≡ 32 = unfold is_blank in to≡ e in rw (e, none) (sign_on p rest ds k))
    (λ e. inl (rw e))

-- and leave it no further from 0
nearer_0 : (p rest ds : List ℕ) → all (λ b. b =? 48) ds ≡ true → length ds ≡ length rest → val 0 (p ++ ds) ≤ val 0 (p ++ rest)
nearer_0 p rest ds k l = omega (arith, val_cut (length rest) p ds l, val_cut (length rest) p rest refl, val-zeros 0 ds k)

-- a range holds 0, and with a number all that are nearer to 0 on its side
module _ (lo hi : ℕ) where
  zero-between : (sign : Bool) → Between lo hi (signed sign 0)
  unfolding Between signed
  zero-between true = omega arith
  zero-between false = omega arith

  side_between : (sign : Bool) (m n : ℕ) → m ≤ n → Between lo hi (signed sign n) → Between lo hi (signed sign m)
  unfolding Between signed
  side_between false m n k b = omega arith
  side_between true zero n k b = omega arith
  side_between true (suc m) zero k b = absurd (omega arith)
  side_between true (suc m) (suc n) k b = omega arith

  still_between : (s t : Bool) (m n : ℕ) → m ≤ n → (s ≡ t) ⊎ (m ≡ 0) → Between lo hi (signed t n) → Between lo hi (signed s m)
  still_between s t m n k (inl e) b = rw e (side_between t m n k b)
  still_between s t m n k (inr e) b = rw e (zero-between s)

module _ (w lo hi : ℕ) (may : Bool) (p rest : List ℕ) (h : good (height w lo hi may) (p ++ rest) ≡ true) where
  abbrev its_item : Item
  its_item = height w lo hi may

  height_goes : begins its_item p ≡ true
  unfolding width shape
  height_goes =
      let size : length (p ++ rest) ≡ w = sized its_item _ h in
      cases (all is_blank (p ++ rest))
      (λ e. let none = all_ended p rest (replicate w 32) is_blank e (blanks w) in
      let fit : fits its_item missing ≡ true = subst (λ v. fits its_item v ≡ true) (height-blank w lo hi may (p ++ rest) e) (fitting its_item _ h) in
      by_blanks its_item p (goodly its_item _ (ended p rest _ size (length-replicate w 32)) (blanks-height_form _ none) (height-blank w lo hi may _ none) fit).0)
      (λ e. let ds : List ℕ = drop (length p) (replicate w 48) in
      let (long, zeros) = zeros-behind w p rest size in
      let digits = all_weaken (λ b. b =? 48) is_digit zero-digit ds zeros in
      by_zeros its_item p
      (height-formed w lo hi may (p ++ ds) (ended p rest _ size (length-replicate w 48)) (height_on p rest ds (shaped its_item _ h) digits long) (still_some p rest ds e digits long)
      (still_between lo hi (minus (p ++ ds)) (minus (p ++ rest)) _ _ (nearer_0 p rest ds zeros long) (sign_on p rest ds zeros) (was e))))
    where
      was : all is_blank (p ++ rest) ≡ false → Between lo hi (signed (minus (p ++ rest)) (val 0 (p ++ rest)))
      was e =
          let v : value_of its_item (p ++ rest) ≡ num (signed (minus (p ++ rest)) (val 0 (p ++ rest))) = unfold value_of in rw e in
          height-between w lo hi may _ (subst (λ x. fits its_item x ≡ true) v (fitting its_item _ h))

-- degrees of n columns, two of minutes, seven of seconds and decimals
module _ (n : ℕ) where
  degrees_in : List ℕ → ℕ
  degrees_in xs = val 0 (take n xs)

  minutes_in : List ℕ → ℕ
  minutes_in xs = val 0 (take 2 (drop n xs))

  seconds_in : List ℕ → ℕ
  seconds_in xs = val 0 (drop 2 (drop n xs))

  module _ (xs : List ℕ) (size : length xs ≡ n + 9) (h : all is_digit xs ≡ true) where
    behind : length (drop n xs) ≡ 9
    behind = length-drop n xs ∙ omega (arith, size)

    last_seven : length (drop 2 (drop n xs)) ≡ 7
    last_seven = length-drop 2 (drop n xs) ∙ omega (arith, behind)

    minutes_lt : minutes_in xs < 100
    unfolding minutes_in
    minutes_lt = digits_lt 2 _ (all_take is_digit 2 (drop n xs) (all_drop is_digit n xs h)) (omega (arith, length-take-le 2 (drop n xs) (omega (arith, behind))))

    seconds_lt : seconds_in xs < 10_000_000
    unfolding seconds_in
    seconds_lt = digits_lt 7 _ (all_drop is_digit 2 (drop n xs) (all_drop is_digit n xs h)) (omega (arith, last_seven))

    cut : (k m : ℕ) (ys : List ℕ) → length (drop k ys) ≡ m → val 0 ys ≡ val 0 (take k ys) * 10 ^ m + val 0 (drop k ys)
    cut k m ys e = ap (val 0) (sym (take-append-drop k ys)) ∙ val_cut m (take k ys) (drop k ys) e

    parted : val 0 xs ≡ degrees_in xs * 1_000_000_000 + minutes_in xs * 10_000_000 + seconds_in xs
    unfolding degrees_in minutes_in seconds_in
    parted = cut n 9 xs behind ∙ omega (arith, cut 2 7 (drop n xs) last_seven)

    form_is : dms_form (val 0 xs) ≡ (minutes_in xs ≤? 59 & seconds_in xs ≤? 5_999_999)
    unfolding dms_form
    form_is = rw (parted, minutes (degrees_in xs) (minutes_in xs) (seconds_in xs) minutes_lt seconds_lt, seconds (degrees_in xs) (minutes_in xs) (seconds_in xs) seconds_lt)

    size_is : angle_of (val 0 xs) ≡ degrees_in xs * 360_000_000 + minutes_in xs * 6_000_000 + seconds_in xs
    unfolding angle_of
    size_is = rw (parted, degrees (degrees_in xs) (minutes_in xs) (seconds_in xs) minutes_lt seconds_lt, minutes (degrees_in xs) (minutes_in xs) (seconds_in xs) minutes_lt seconds_lt, seconds (degrees_in xs) (minutes_in xs) (seconds_in xs) seconds_lt)

  module _ (cs bs : List ℕ) (p : length cs ≡ n + 9) (q : length bs ≡ n + 9) (h : all is_digit cs ≡ true) (k : all is_digit bs ≡ true) (l : lower cs bs ≡ true) where
    fewer_degrees : degrees_in cs ≤ degrees_in bs
    unfolding degrees_in
    fewer_degrees = val_lower 0 0 _ _ (omega arith) (parts_lower n cs bs l).0

    fewer_minutes : minutes_in cs ≤ minutes_in bs
    unfolding minutes_in
    fewer_minutes = val_lower 0 0 _ _ (omega arith) (parts_lower 2 _ _ (parts_lower n cs bs l).1).0

    fewer_seconds : seconds_in cs ≤ seconds_in bs
    unfolding seconds_in
    fewer_seconds = val_lower 0 0 _ _ (omega arith) (parts_lower 2 _ _ (parts_lower n cs bs l).1).1

    lower_form : dms_form (val 0 bs) ≡ true → dms_form (val 0 cs) ≡ true
    lower_form f =
        let t : minutes_in bs ≤? 59 & seconds_in bs ≤? 5_999_999 ≡ true = sym (form_is bs q k) ∙ f in
        form_is cs p h ∙ and (of≤ (omega (arith, to≤ (both t).0, fewer_minutes))) (of≤ (omega (arith, to≤ (both t).1, fewer_seconds)))

    lower_size : angle_of (val 0 cs) ≤ angle_of (val 0 bs)
    lower_size = rw (size_is cs p h, size_is bs q k) (omega (arith, fewer_degrees, fewer_minutes, fewer_seconds))

-- a beginning that is the whole field
whole : (i : Item) (p rest : List ℕ) → width i ≤ length p → good i (p ++ rest) ≡ true → begins i p ≡ true
whole i p rest k h =
    let end : List ℕ = replicate (width i) 32 in
    let none : drop (length p) end ≡ [] = drop_of_length-le end {i = length p} (omega (arith, length-replicate {A = ℕ} (width i) 32)) in
    let size = length-append p rest in
    by_blanks i p (ap (λ (x : List ℕ). good i (p ++ x)) (none ∙ sym (empty rest (omega (arith, sized i (p ++ rest) h)))) ∙ h)
  where
    empty : (xs : List ℕ) → length xs ≡ 0 → xs ≡ []
    empty [] e = refl
    empty (x ∷ xs) e = absurd (omega arith)

nine_more : (way : Way) → columns way ≡ columns way - 9 + 9
unfolding columns
nine_more latitude = refl
nine_more longitude = refl

module _ (way : Way) (p rest : List ℕ) (h : good (angle way) (p ++ rest) ≡ true) where
  abbrev cols : ℕ
  cols = columns way

  -- the digits behind it, and zeros in their place
  abbrev digits_on : List ℕ
  digits_on = take (cols - length p) rest

  abbrev zeros_on : List ℕ
  zeros_on = drop (length p) (put cols 0)

  module _ (k : length p ≤ cols) where
    digits_long : length digits_on ≡ cols - length p
    unfolding width
    digits_long = length-take-le (cols - length p) rest (omega (arith, length-append p rest, sized (angle way) (p ++ rest) h))

    zeros_long : length zeros_on ≡ cols - length p
    zeros_long = length-drop (length p) (put cols 0) ∙ omega (arith, length-put cols 0)

    front : take cols (p ++ rest) ≡ p ++ digits_on
    front = let up : length p + (cols - length p) ≡ cols = omega arith in ap (λ j. take j (p ++ rest)) (sym up) ∙ take-append-add p rest (cols - length p)

    angle_form : all is_digit (p ++ digits_on) & dms_form (val 0 (p ++ digits_on)) ≡ true
    unfolding shape
    angle_form = rw front at (both (shaped (angle way) (p ++ rest) h)).0

    zeros : all (λ b. b =? 48) zeros_on ≡ true
    zeros = all_drop (λ b. b =? 48) (length p) (put cols 0) (put-zeros cols)

    digits_held : all is_digit (p ++ zeros_on) ≡ true
    digits_held = all_append is_digit p zeros_on (all-parts is_digit p digits_on (both angle_form).0).0 (all_drop is_digit (length p) (put cols 0) (digits-put cols 0))

    zeros-wide : length (p ++ zeros_on) ≡ cols - 9 + 9
    zeros-wide = length-append p zeros_on ∙ omega (arith, zeros_long, nine_more way)

    digits-wide : length (p ++ digits_on) ≡ cols - 9 + 9
    digits-wide = length-append p digits_on ∙ omega (arith, digits_long, nine_more way)

    less : lower (p ++ zeros_on) (p ++ digits_on) ≡ true
    less = zeros_lower p zeros_on digits_on zeros (all-parts is_digit p digits_on (both angle_form).0).1 (zeros_long ∙ sym digits_long)

    -- at most 90, at most 180 degrees, as it was
    most : angle_of (val 0 (p ++ zeros_on)) ≤ top way
    most = omega (arith, lower_size (cols - 9) (p ++ zeros_on) (p ++ digits_on) zeros-wide digits-wide digits_held (both angle_form).0 less, angle_most way (p ++ rest) h, ap (λ (x : List ℕ). angle_of (val 0 x)) front)

    -- the letter behind the zeros
    abbrev lettered : List ℕ
    lettered = (p ++ zeros_on) ++ plus way ∷ []

    end_is : p ++ drop (length p) (render (angle way) (least (angle way))) ≡ lettered
    unfolding render least on_number dms
    end_is =
        ap (λ (x : List ℕ). p ++ x) (drop-append-le (length p) (put cols 0) (plus way ∷ []) (omega (arith, length-put cols 0)))
        ∙ sym (append_assoc p zeros_on (plus way ∷ []))

    narrow : length (p ++ zeros_on) ≡ cols
    narrow = zeros-wide ∙ sym (nine_more way)

    lettered_front : take cols lettered ≡ p ++ zeros_on
    lettered_front = take_at (p ++ zeros_on) (plus way ∷ []) cols narrow

    lettered_last : get_or lettered cols 0 ≡ plus way
    lettered_last = get_or_at (p ++ zeros_on) (plus way) [] 0 cols narrow

    lettered_good : good (angle way) lettered ≡ true
    unfolding width shape value_of fits on_number
    lettered_good =
        (goodly (angle way) lettered (length-append (p ++ zeros_on) (plus way ∷ []) ∙ omega (arith, narrow))
        (and (and (rw lettered_front digits_held) (rw lettered_front (lower_form (cols - 9) (p ++ zeros_on) (p ++ digits_on) zeros-wide digits-wide digits_held (both angle_form).0 less (both angle_form).1))) (rw lettered_last (plus-letter way)))
        (ap₂ (λ (x : List ℕ) l. num (angle_value way (angle_of (val 0 x)) l)) lettered_front lettered_last ∙ ap num (east way (angle_of (val 0 (p ++ zeros_on))))) (of≤ most)).0

    angle-part : begins (angle way) p ≡ true
    angle-part = by_least (angle way) p (rw end_is lettered_good)

  angle_goes : begins (angle way) p ≡ true
  angle_goes = cases (length p ≤? cols) (λ e. angle-part (to≤ e)) (λ e. whole (angle way) p rest (unfold width in no≤ e) h)

-- ---- YYYYMM: January of the year 1 behind a beginning
module _ (v x : ℕ) where
  -- within the year
  year_on : is_month (v * 1_000 + x) ≡ true → is_month (v * 1_000 + 101) ≡ true
  unfolding is_month
  year_on m = let y = to_within (both m).0 in and (of_within (omega arith) (omega arith)) (of_within (omega arith) (omega arith))

  -- behind the year
  months_on : x < 100 → is_month (v * 100 + x) ≡ true → is_month (v * 100 + 1) ≡ true
  unfolding is_month
  months_on k m = let y = to_within (both m).0 in and (of_within (omega arith) (omega arith)) (of_within (omega arith) (omega arith))

  -- within the month
  month_on : x < 10 → is_month (v * 10 + x) ≡ true → is_month (v * 10 + 1) ≡ true
  unfolding is_month
  month_on k m = let y = to_within (both m).0 in let z = to_within (both m).1 in and (of_within (omega arith) (omega arith)) (of_within (omega arith) (omega arith))

module _ (p rest : List ℕ) (h : good month (p ++ rest) ≡ true) where
  month_size : length p + length rest ≡ 6
  month_size = sym (length-append p rest) ∙ (unfold width in sized month (p ++ rest) h)

  month-digits : (all is_digit p ≡ true) × (all is_digit rest ≡ true)
  month-digits = all-parts is_digit p rest (unfold shape in shaped month (p ++ rest) h)

  month_rest : val 0 rest < 10 ^ length rest
  month_rest = digits_lt (length rest) rest month-digits.1 (omega arith)

  month_was : is_month (val 0 p * 10 ^ length rest + val 0 rest) ≡ true
  month_was = subst (λ n. is_month n ≡ true) (val_cut (length rest) p rest refl) (unfold fits on_number value_of in fitting month (p ++ rest) h)

  -- b is what 000101 has in the columns to come
  month_by : (a b : ℕ) → 101 ≡ a * 10 ^ length rest + b → b < 10 ^ length rest → is_month (val 0 p * 10 ^ length rest + b) ≡ true → begins month p ≡ true
  unfolding render least on_number width shape value_of
  month_by a b e l m =
      let r = length rest in
      let same : drop (length p) (put 6 101) ≡ put r b = ap₂ (λ n k. drop (length p) (put n k)) (sym month_size) e ∙ put-behind (length p) r a b l in
      let value : val 0 (p ++ put r b) ≡ val 0 p * 10 ^ r + b = val_cut r p (put r b) (length-put r b) ∙ ap (λ n. val 0 p * 10 ^ r + n) (val_put r b l) in
      by_least month p
      (rw same
      (goodly month (p ++ put r b) (length-append p (put r b) ∙ omega (arith, month_size, length-put r b)) (all_append is_digit p (put r b) month-digits.0 (digits-put r b))
      (ap (λ n. num (pos n)) value) (unfold fits on_number in m)).0)

month_goes : (p rest : List ℕ) → good month (p ++ rest) ≡ true → begins month p ≡ true
month_goes p [] h = whole month p [] (unfold width in omega (arith, month_size p [] h)) h
month_goes p (c ∷ []) h = month_by p (c ∷ []) h 10 1 refl (omega arith) (month_on (val 0 p) _ (month_rest p (c ∷ []) h) (month_was p (c ∷ []) h))
month_goes p (c ∷ d ∷ []) h = month_by p (c ∷ d ∷ []) h 1 1 refl (omega arith) (months_on (val 0 p) _ (month_rest p (c ∷ d ∷ []) h) (month_was p (c ∷ d ∷ []) h))
month_goes p (c ∷ d ∷ e ∷ t) h =
    let s = length t in
    let far : val 0 p * 10 ^ suc (suc (suc s)) ≡ val 0 p * 10 ^ s * 1_000 = ap (λ k. val 0 p * k) thousand ∙ sym (mul_assoc (val 0 p) (10 ^ s) 1_000) in
    month_by p (c ∷ d ∷ e ∷ t) h 0 101 (omega arith) (omega (arith, pow-le-pow_right {n = 10} (omega arith) {i = 3} {j = suc (suc (suc s))} (omega arith))) (rw far (year_on (val 0 p * 10 ^ s) _ (rw far at (month_was p (c ∷ d ∷ e ∷ t) h))))
  where
    thousand : 10 ^ suc (suc (suc (length t))) ≡ 10 ^ length t * 1_000
    thousand = omega arith

-- ---- media identifier
record Labelled (a b c d e g : ℕ) (t : List ℕ) : Type 0 where
  maker : is_letter a ≡ true
  digits : all is_digit (b ∷ c ∷ d ∷ e ∷ []) ≡ true
  day : within 1 366 (val 0 (b ∷ c ∷ d ∷ [])) ≡ true
  session : member (letter or digit) g ≡ true
  four : length t ≡ 4
  printed : all is_printable t ≡ true

labelled : {a b c d e g : ℕ} {t : List ℕ} → Labelled a b c d e g t → good media (a ∷ b ∷ c ∷ d ∷ e ∷ g ∷ t) ≡ true
unfolding width shape value_of fits on_label is_media all
labelled {a} {b} {c} {d} {e} {g} {t} m =
    let long : length (a ∷ b ∷ c ∷ d ∷ e ∷ g ∷ t) ≡ 10 = omega (arith, m.four) in
    (goodly media (a ∷ b ∷ c ∷ d ∷ e ∷ g ∷ t) long m.digits refl
    (and (and (and (and m.maker m.day) (of≤ (one_digit e (both (both (both (both m.digits).1).1).1).0))) m.session) (and (of≡ m.four) m.printed))).0
  where
    one_digit : (b : ℕ) → is_digit b ≡ true → val 0 (b ∷ []) ≤ 9
    one_digit b h = unfold val not_above9 in omega (arith, to≤ (digit_low b h))

-- the least one, A001, year 0, session 0, no mark
least-label : Labelled 65 48 48 49 48 48 (32 ∷ 32 ∷ 32 ∷ 32 ∷ [])
unfolding all is_letter is_digit is_printable member within val ◌≤?◌ ◌&◌
least-label = record { maker = refl; digits = refl; day = refl; session = refl; four = refl; printed = refl }

module _ (a : ℕ) (bs : List ℕ) (h : good media (a ∷ bs) ≡ true) where
  nine_left : length bs ≡ 9
  unfolding width
  nine_left = omega (arith, sized media (a ∷ bs) h)

  its_digits : all is_digit (take 4 bs) ≡ true
  unfolding shape
  its_digits = shaped media (a ∷ bs) h

  its_parts : is_media a (val 0 (take 3 bs)) (val 0 (take 1 (drop 3 bs))) (get_or bs 4 0) (drop 5 bs) ≡ true
  unfolding value_of fits on_label
  its_parts = fitting media (a ∷ bs) h

  its_maker : is_letter a ≡ true
  unfolding is_media
  its_maker = (both (both (both (both its_parts).0).0).0).0

  its_day : within 1 366 (val 0 (take 3 bs)) ≡ true
  unfolding is_media
  its_day = (both (both (both (both its_parts).0).0).0).1

  its_session : member (letter or digit) (get_or bs 4 0) ≡ true
  unfolding is_media
  its_session = (both (both its_parts).0).1

  its_mark : (length (drop 5 bs) ≡ 4) × (all is_printable (drop 5 bs) ≡ true)
  unfolding is_media
  its_mark = (to≡ (both (both its_parts).1).0, (both (both its_parts).1).1)

-- day 001 of year 0
abbrev first_day : List ℕ
first_day = 48 ∷ 48 ∷ 49 ∷ 48 ∷ []

-- day 1 behind its first digits
day_on : (ds rest : List ℕ) (r : ℕ) → suc r ≤ length rest → within 1 366 (val 0 (ds ++ take (suc r) rest)) ≡ true → within 1 366 (val 0 (ds ++ put (suc r) 1)) ≡ true
day_on ds rest r l h =
    let tens : val 0 ds * 10 ^ suc r ≡ val 0 ds * 10 ^ r * 10 = ap (λ k. val 0 ds * k) ten ∙ sym (mul_assoc (val 0 ds) (10 ^ r) 10) in
    let was = val_cut (suc r) ds (take (suc r) rest) (length-take-le (suc r) rest l) in
    let is = val_cut (suc r) ds (put (suc r) 1) (length-put (suc r) 1) in
    of_within (omega (arith, is, val_put (suc r) 1 one)) (omega (arith, is, was, tens, val_put (suc r) 1 one, (to_within h).1))
  where
    ten : 10 ^ suc r ≡ 10 ^ r * 10
    ten = omega arith

    one : 1 < 10 ^ suc r
    one = omega (arith, pow-le-pow_right {n = 10} (omega arith) {i = 1} {j = suc r} (omega arith))

module _ (rest : List ℕ) where
  media_goes : (p : List ℕ) → good media (p ++ rest) ≡ true → begins media p ≡ true
  unfolding render least on_label put all
  media_goes [] h = by_least media [] (labelled least-label)
  media_goes (a ∷ []) h = by_least media (a ∷ []) (labelled record { maker = its_maker a rest h; digits = least-label.digits; day = least-label.day; session = least-label.session; four = refl; printed = least-label.printed })
  media_goes (a ∷ b ∷ []) h =
      by_least media (a ∷ b ∷ []) (labelled record { maker = its_maker a (b ∷ rest) h; digits = all_ended (b ∷ []) (take 3 rest) first_day is_digit (its_digits a (b ∷ rest) h) least-label.digits; day = day_on (b ∷ []) rest 1 (omega (arith, nine_left a (b ∷ rest) h)) (its_day a (b ∷ rest) h); session = least-label.session; four = refl; printed = least-label.printed })
  media_goes (a ∷ b ∷ c ∷ []) h =
      let bs = b ∷ c ∷ rest in
      by_least media (a ∷ b ∷ c ∷ []) (labelled record { maker = its_maker a bs h; digits = all_ended (b ∷ c ∷ []) (take 2 rest) first_day is_digit (its_digits a bs h) least-label.digits; day = day_on (b ∷ c ∷ []) rest 0 (omega (arith, nine_left a bs h)) (its_day a bs h); session = least-label.session; four = refl; printed = least-label.printed })
  media_goes (a ∷ b ∷ c ∷ d ∷ []) h =
      let bs = b ∷ c ∷ d ∷ rest in
      by_least media (a ∷ b ∷ c ∷ d ∷ []) (labelled record { maker = its_maker a bs h; digits = all_ended (b ∷ c ∷ d ∷ []) (take 1 rest) first_day is_digit (its_digits a bs h) least-label.digits; day = its_day a bs h; session = least-label.session; four = refl; printed = least-label.printed })
  media_goes (a ∷ b ∷ c ∷ d ∷ e ∷ []) h =
      let bs = b ∷ c ∷ d ∷ e ∷ rest in
      by_least media (a ∷ b ∷ c ∷ d ∷ e ∷ []) (labelled record { maker = its_maker a bs h; digits = its_digits a bs h; day = its_day a bs h; session = least-label.session; four = refl; printed = least-label.printed })
  media_goes (a ∷ b ∷ c ∷ d ∷ e ∷ g ∷ t) h =
      let bs = b ∷ c ∷ d ∷ e ∷ g ∷ (t ++ rest) in
      by_least media (a ∷ b ∷ c ∷ d ∷ e ∷ g ∷ t) (labelled record { maker = its_maker a bs h; digits = its_digits a bs h; day = its_day a bs h; session = its_session a bs h; four = ended t rest (32 ∷ 32 ∷ 32 ∷ 32 ∷ []) (its_mark a bs h).0 refl; printed = all_ended t rest (32 ∷ 32 ∷ 32 ∷ 32 ∷ []) is_printable (its_mark a bs h).1 least-label.printed })

-- ---- every kind of field
goes : (i : Item) (p rest : List ℕ) → good i (p ++ rest) ≡ true → begins i p ≡ true
goes (blank w) p rest h = blank_goes p rest w h
goes (constant c) p rest h = constant_goes p rest c h
goes (number w lo hi may) p rest h = number_goes w lo hi may p rest h
goes (height w lo hi may) p rest h = height_goes w lo hi may p rest h
goes (angle way) p rest h = angle_goes way p rest h
goes month p rest h = month_goes p rest h
goes media p rest h = media_goes rest p h
goes (word w (each s)) p rest h = each_goes w s p rest h
goes (word w (or_blank s)) p rest h = blank-or_goes w s p rest h

-- the test of a beginning is what the paper says of it
module _ (i : Item) (p : List ℕ) where
  begun_by : (es : List (List ℕ)) → goes_on i p es ≡ true → Begins i p
  unfolding goes_on
  begun_by [] h = absurd (false≢true h)
  begun_by (e ∷ es) h = choice (good i (p ++ drop (length p) e)) (goes_on i p es) h _ (λ k. found k) (λ k. begun_by es k)
    where
      found : good i (p ++ drop (length p) e) ≡ true → Begins i p
      found k = unfold Begins in (p ++ drop (length p) e, (sized i _ k, value_of i _, (spelled_iff i _ _).0 (k, refl)), take-append_seam p (drop (length p) e))

  pub begins_iff : Begins i p ↔ (begins i p ≡ true)
  begins_iff = (forth, λ h. begun_by (ends i) (unfold begins in h))
    where
      forth : Begins i p → begins i p ≡ true
      forth = unfold Begins in λ (field, a, e).
          let same : p ++ drop (length p) field ≡ field = ap (λ (x : List ℕ). x ++ drop (length p) field) (sym e) ∙ take-append-drop (length p) field in
          goes i p (drop (length p) field) (rw same ((spelled_iff i field a.1).1 a.2).0)

-- ---- the column that is named
pub least-sized : (i : Item) → length (render i (least i)) ≡ width i
unfolding render least width on_gap on_number on_text on_label
least-sized (blank w) = length-replicate w 32
least-sized (constant c) = refl
least-sized (number w lo hi may) = length-put w lo
least-sized (height w lo hi may) = length-put w 0
least-sized (angle way) = length-append (put (columns way) (dms 0)) (plus way ∷ []) ∙ omega (arith, length-put (columns way) (dms 0))
least-sized month = length-put 6 101
least-sized media = ap suc (length-append (put 3 1) (48 ∷ 48 ∷ 32 ∷ 32 ∷ 32 ∷ 32 ∷ [])) ∙ omega (arith, length-put 3 1)
least-sized (word w t) = length-replicate w (one_of (set_in t))

module _ (i : Item) (bs : List ℕ) (size : length bs ≡ width i) (bad : good i bs ≡ false) where
  -- no end is behind a whole field
  whole_bad : (e : List ℕ) → length e ≡ width i → good i (bs ++ drop (length bs) e) ≡ false
  whole_bad e k = ap (λ (x : List ℕ). good i (bs ++ x)) (drop_of_length-le e {i = length bs} (omega arith)) ∙ ap (good i) (append-nil bs) ∙ bad

  not-begun : begins i bs ≡ false
  unfolding begins ends goes_on
  not-begun =
      rw (whole_bad (render i (least i)) (least-sized i), whole_bad (replicate (width i) 48) (length-replicate (width i) 48), whole_bad (replicate (width i) 32) (length-replicate (width i) 32))

  record Found (m : ℕ) : Type 0 where
    inside : m < width i
    before : (j : ℕ) → j < m → begins i (take (j + 1) bs) ≡ true
    here : begins i (take (m + 1) bs) ≡ false

  found : (n k : ℕ) → k + n + 1 ≡ width i → ((j : ℕ) → j < k → begins i (take (j + 1) bs) ≡ true) → Found (first_bad i bs n k)
  unfolding first_bad
  found zero k e f = record { inside = omega arith; before = f; here = ap (begins i) (take_all (k + 1) bs (omega arith)) ∙ not-begun }
  found (suc n) k e f =
      cases (begins i (take (k + 1) bs))
      (λ t. rw t (found n (k + 1) (omega arith) (further t)))
      (λ t. rw t record { inside = omega arith; before = f; here = t })
    where
      further : begins i (take (k + 1) bs) ≡ true → (j : ℕ) → j < k + 1 → begins i (take (j + 1) bs) ≡ true
      further t j l = cases (suc j ≤? k) (λ u. f j (to≤ u)) (λ u. let same : j ≡ k = omega (arith, no≤ u) in rw same t)

  -- 02, T-02: the function names the column of the sentence, in every field of every kind that is not good
  pub spot-named : 1 ≤ width i → Names i bs (spot i bs)
  unfolding spot
  spot-named w =
      let s = found (width i - 1) 0 (omega arith) (λ j l. absurd (omega arith)) in
      record { inside = s.inside; before = λ j l. (begins_iff i _).1 (s.before j l); here = λ b. not_both ((begins_iff i _).0 b) s.here }

module _ (i : Item) where
  -- what begins a beginning begins the same field
  pub begins_less : (p : List ℕ) (n : ℕ) → Begins i p → Begins i (take n p)
  unfolding Begins
  begins_less p n (field, a, e) = (field, a, sym (take-take (length (take n p)) (length p) field few) ∙ ap (take (length (take n p))) e ∙ front)
    where
      few : length (take n p) ≤ length p
      few = omega (arith, ap length (take-append-drop n p), length-append (take n p) (drop n p))

      front : take (length (take n p)) p ≡ take n p
      front = ap (take (length (take n p))) (sym (take-append-drop n p)) ∙ take-append_seam (take n p) (drop n p)

  -- one column at the most
  pub one_column : (bs : List ℕ) (j k : ℕ) → Names i bs j → Names i bs k → j ≡ k
  one_column bs j k a b = cases (suc j ≤? k) (λ e. absurd (a.here (b.before j (to≤ e)))) (λ e. cases (suc k ≤? j) (λ f. absurd (b.here (a.before k (to≤ f)))) (λ f. omega (arith, no≤ e, no≤ f)))

  -- what begins a good field
  acceptable-begins : (bs : List ℕ) (k : ℕ) → good i bs ≡ true → length (take k bs) ≡ k → Begins i (take k bs)
  unfolding Begins
  acceptable-begins bs k h e = (bs, (sized i bs h, value_of i bs, (spelled_iff i bs (value_of i bs)).0 (h, refl)), ap (λ j. take j bs) e)

  -- a good field has none
  pub none_named : (bs : List ℕ) (k : ℕ) → good i bs ≡ true → Names i bs k → ⊥
  none_named bs k h n =
      let long : k + 1 ≤ length bs = omega (arith, sized i bs h, n.inside) in
      n.here (acceptable-begins bs (k + 1) h (length-take-le (k + 1) bs long))

  -- the characters up to the column named decide which it is
  pub same_column : (cs bs : List ℕ) (k : ℕ) → take (k + 1) cs ≡ take (k + 1) bs → Names i cs k → Names i bs k
  same_column cs bs k e n = record { inside = n.inside; before = λ j l. rw (← shorter j l) (n.before j l); here = rw (← e) n.here }
    where
      shorter : (j : ℕ) → j < k → take (j + 1) cs ≡ take (j + 1) bs
      shorter j l = sym (take-take (j + 1) (k + 1) cs (omega arith)) ∙ ap (take (j + 1)) e ∙ take-take (j + 1) (k + 1) bs (omega arith)

  -- and no acceptable field begins with more characters either
  pub none_behind : (bs : List ℕ) (k j : ℕ) → Names i bs k → k ≤ j → Begins i (take (j + 1) bs) → ⊥
  none_behind bs k j n l b = n.here (rw (take-take (k + 1) (j + 1) bs (omega arith)) at (begins_less (take (j + 1) bs) (k + 1) b))
