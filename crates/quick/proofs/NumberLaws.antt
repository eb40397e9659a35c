-- Numbers and heights: what is free before a digit only makes the row the form, and the value by the last four bits is the value.
use mathlib.Core.Path.{◌≡◌, refl, sym, ap, ◌∙◌, subst}
use mathlib.Core.Logic.{◌⊎◌, inl, inr}
use mathlib.Core.Bool.{Bool, true, false, not, ◌&&◌, ◌||◌, or-true, or-false, false≢true}
use mathlib.Core.List.{List, [], ◌∷◌}
use Prim.Native.Nat.{ℕ, zero, suc, ◌+◌, ◌-◌, ◌*◌, ◌%◌, ◌^◌, ◌≤◌, ◌<◌}
use native.Mathlib.Omega.{arith}
use lib.Dec.{leb, eqb}
use lib.ListN.{length, get_or, take}
use lib.Seq.{get_or-take}
use borrow.Author.Tests.{leb-true, eqb-true, le-leb, ne_eqb}
use Rattle.rules.specs.Tests.{◌&◌, ◌≤?◌, ◌=?◌, within, all}
use Rattle.rules.specs.Characters.{is_blank, is_digit}
use Rattle.rules.specs.Digits.{val}
use Rattle.rules.specs.Items.{number, height, minus, good}
use Rattle.rules.proofs.Truth.{both, and, to≤, of≤, no≤, to≡, of≡, of≢, cases, to_within, not_both, not_true, both_true}
use Rattle.rules.proofs.DigitLaws.{not_above9, val_lt}
use Rattle.columns.specs.Leaves.{formed, last_of, between}
use Rattle.columns.proofs.NumberLaws.{digit_no, number-good, height-good, last_tells, form_low, form_lt, form_between}
use Rattle.quick.specs.Rows.{class, span, nought, blanks, in_class, col, row_ok, run}
use Rattle.rules.specs.Records.{sequence}
use Rattle.quick.specs.Rest.{low_val, some, not_zero, correlation_rest, sequence_rest}
use Rattle.quick.proofs.ClassLaws.{one_true, admits, admitted, in-class, all-columns, column_is}

-- ---- the form
unfoldable runs : ℕ → ℕ → Bool
runs m b = is_digit b || (b =? 32 || b =? m)

unfoldable ends : ℕ → Bool
ends b = is_digit b || b =? 32

-- the blank is the lowest character of a run
lowest : (m b : ℕ) → 32 ≤ m → runs m b ≡ true → b ≤ 32 → b ≡ 32
unfolding runs is_digit
lowest m b l h k =
    one_true (is_digit b) (b =? 32 || b =? m) h (λ d. absurd (omega (arith, (to_within d).0)))
    (λ d. one_true (b =? 32) (b =? m) d (λ e. to≡ e) (λ e. omega (arith, to≡ e)))

next_column : (m b c : ℕ) → 32 ≤ m → runs m b ≡ true → col (class 48 57 m 32 32) b c ≡ true → (b ≡ 32) ⊎ (48 ≤ c)
unfolding col
next_column m b c l r h =
    one_true (leb b 32) (leb 48 c) (both_true (in_class (class 48 57 m 32 32) b) (leb b 32 || leb 48 c) h).1 (λ e. inl (lowest m b l r (leb-true b 32 e))) (λ e. inr (leb-true 48 c e))

placed : (m p b : ℕ) → m ≤ 45 → (p ≡ 32) ⊎ (48 ≤ b) → runs m b ≡ true → (is_digit b || (b =? 32 || b =? m) && p =? 32) ≡ true
unfolding runs
placed m p b l (inl e) h = rw (of≡ {m = p} {n = 32} e) (one_true (is_digit b) (b =? 32 || b =? m) h (λ d. rw d) (λ d. rw d (or-true (is_digit b))))
placed m p b l (inr k) h =
    one_true (is_digit b) (b =? 32 || b =? m) h (λ d. rw d)
    (λ d. absurd (one_true (b =? 32) (b =? m) d (λ e. omega (arith, to≡ e)) (λ e. omega (arith, to≡ e))))

ended : (m b : ℕ) → ends b ≡ true → runs m b ≡ true
unfolding ends runs
ended m b h = one_true (is_digit b) (b =? 32) h (λ d. rw d) (λ d. rw d (or-true (is_digit b)))

no_minus : (b : ℕ) → ends b ≡ true → not (b =? 45) ≡ true
unfolding ends
no_minus b h =
    one_true (is_digit b) (b =? 32) h (λ d. rw (digit_no b 45 (omega arith) d)) (λ d. rw (of≢ {m = b} {n = 45} (λ e. omega (arith, to≡ d))))

-- m is the mark of a run, t what its last column may be besides a digit
module _ (m t : ℕ) (k : 32 ≤ m) (l : m ≤ 45) (M : admits (runs m) (class 48 57 m 32 32) ≡ true) (T : admits ends (span 48 57 48 t) ≡ true) where
  run_from : (w p : ℕ) (bs : List ℕ) → (p ≡ 32) ⊎ (48 ≤ get_or bs 0 0) → row_ok (run m t (suc w)) bs ≡ true → formed m p (take (suc w) bs) ≡ true
  unfolding row_ok formed
  run_from zero p [] o h = absurd (false≢true h)
  run_from zero p (b ∷ bs) o h =
      let e = admitted ends (span 48 57 48 t) T b (in-class (span 48 57 48 t) b (get_or bs 0 0) (both h).0) in
      and (placed m p b l o (ended m b e)) (no_minus b e)
  run_from (suc w) p [] o h = absurd (false≢true h)
  run_from (suc w) p (b ∷ bs) o h =
      let q = both h in
      let r = admitted (runs m) (class 48 57 m 32 32) M b (in-class (class 48 57 m 32 32) b (get_or bs 0 0) q.0) in
      and (placed m p b l o r) (run_from w b bs (next_column m b (get_or bs 0 0) k r q.0) q.1)

  run-formed : (w : ℕ) (bs : List ℕ) → row_ok (run m t (suc w)) bs ≡ true → formed m 32 (take (suc w) bs) ≡ true
  run-formed w bs h = run_from w 32 bs (inl refl) h

-- the four runs that there are
number-formed : (w : ℕ) (bs : List ℕ) → row_ok (run 32 48 (suc w)) bs ≡ true → formed 32 32 (take (suc w) bs) ≡ true
unfolding admits runs ends in_class all is_digit within ◌&◌ ◌≤?◌ ◌=?◌
number-formed = run-formed 32 48 (omega arith) (omega arith) refl refl

blank-formed : (w : ℕ) (bs : List ℕ) → row_ok (run 32 32 (suc w)) bs ≡ true → formed 32 32 (take (suc w) bs) ≡ true
unfolding admits runs ends in_class all is_digit within ◌&◌ ◌≤?◌ ◌=?◌
blank-formed = run-formed 32 32 (omega arith) (omega arith) refl refl

rise_formed : (w : ℕ) (bs : List ℕ) → row_ok (run 45 48 (suc w)) bs ≡ true → formed 45 32 (take (suc w) bs) ≡ true
unfolding admits runs ends in_class all is_digit within ◌&◌ ◌≤?◌ ◌=?◌
rise_formed = run-formed 45 48 (omega arith) (omega arith) refl refl

metres-formed : (w : ℕ) (bs : List ℕ) → row_ok (run 45 32 (suc w)) bs ≡ true → formed 45 32 (take (suc w) bs) ≡ true
unfolding admits runs ends in_class all is_digit within ◌&◌ ◌≤?◌ ◌=?◌
metres-formed = run-formed 45 32 (omega arith) (omega arith) refl refl

-- ---- the last column
last_is : (w : ℕ) (bs : List ℕ) → length (take (suc w) bs) ≡ suc w → last_of (take (suc w) bs) ≡ get_or bs w 0
unfolding last_of
last_is w bs n = ap (λ k. get_or (32 ∷ take (suc w) bs) k 0) n ∙ get_or-take (suc w) bs w 0 (omega arith)

-- ---- values by the last four bits
unfoldable pub even : ℕ → Bool
even b = b % 16 =? b - 48

pub low-val : (n : ℕ) (bs : List ℕ) → all even bs ≡ true → low_val n bs ≡ val n bs
unfolding low_val val all even
low-val n [] h = refl
low-val n (b ∷ bs) h = ap (λ k. low_val (n * 10 + k) bs) (to≡ (both h).0) ∙ low-val (n * 10 + (b - 48)) bs (both h).1

pub some-val : (n : ℕ) (t : Bool) (bs : List ℕ) → (t ≡ true → 1 ≤ n) → all even bs ≡ true → some t bs ≡ true → 1 ≤ val n bs
unfolding some val all even
some-val n t [] f h k = f k
some-val n t (b ∷ bs) f h k = some-val (n * 10 + (b - 48)) (t || not (eqb (b % 16) 0)) bs more (both h).1 k
  where
    more : (t || not (eqb (b % 16) 0)) ≡ true → 1 ≤ n * 10 + (b - 48)
    more o =
        one_true t (not (eqb (b % 16) 0)) o (λ e. omega (arith, f e))
        (λ e. cases (eqb (b % 16) 0) (λ z. absurd (false≢true (rw z at e))) (λ z. omega (arith, to≡ (both h).0, ne_of (b % 16) z)))
      where
        ne_of : (x : ℕ) → eqb x 0 ≡ false → 1 ≤ x
        ne_of zero z = absurd (false≢true (sym z))
        ne_of (suc x) z = omega arith

-- ---- numbers that are as many nines at most
even_run : (w : ℕ) (t : ℕ) → admits even (span 48 57 48 t) ≡ true → all (admits even) (run 32 t (suc w)) ≡ true
unfolding all admits even in_class ◌&◌ ◌≤?◌ ◌=?◌
even_run zero t h = and h refl
even_run (suc w) t h = and refl (even_run w t h)

low_run : (w : ℕ) (t : ℕ) → admits not_above9 (span 48 57 48 t) ≡ true → all (admits not_above9) (run 32 t (suc w)) ≡ true
unfolding all admits not_above9 in_class ◌&◌ ◌≤?◌ ◌=?◌
low_run zero t h = and h refl
low_run (suc w) t h = and refl (low_run w t h)

length_run : (m t w : ℕ) → length (run m t (suc w)) ≡ suc w
length_run m t zero = refl
length_run m t (suc w) = ap suc (length_run m t w)

last_run : (m t w : ℕ) → get_or (run m t (suc w)) w (blanks) ≡ span 48 57 48 t
last_run m t zero = refl
last_run m t (suc w) = last_run m t w

-- every column of the run
run-all : (p : ℕ → Bool) (m t w : ℕ) → all (admits p) (run m t (suc w)) ≡ true → (bs : List ℕ) → row_ok (run m t (suc w)) bs ≡ true → all p (take (suc w) bs) ≡ true
run-all p m t w a bs h = subst (λ n. all p (take n bs) ≡ true) (length_run m t w) (all-columns p (run m t (suc w)) a bs h)

run_last : (m w : ℕ) (bs : List ℕ) → row_ok (run m 48 (suc w)) bs ≡ true → is_digit (get_or bs w 0) ≡ true
unfolding admits in_class all is_digit within ◌&◌ ◌≤?◌ ◌=?◌
run_last m w bs h =
    column_is is_digit (run m 48 (suc w)) w (blanks) (rw (last_run m 48 w)) (rw (length_run m 48 w) (omega arith)) bs h

-- w + 1 columns, from 0 or 1 to as many nines
module _ (w : ℕ) (bs : List ℕ) (n : length (take (suc w) bs) ≡ suc w) where
  pub number_even : row_ok (run 32 48 (suc w)) bs ≡ true → all even (take (suc w) bs) ≡ true
  number_even h = run-all even 32 48 w (even_run w 48 (unfold admits even in_class all ◌&◌ ◌≤?◌ ◌=?◌ in refl)) bs h

  number_most : row_ok (run 32 48 (suc w)) bs ≡ true → val 0 (take (suc w) bs) < 10 ^ suc w
  number_most h =
      let low = run-all not_above9 32 48 w (low_run w 48 (unfold admits not_above9 in_class all ◌&◌ ◌≤?◌ ◌=?◌ in refl)) bs h in
      omega (arith, subst (λ k. val 0 (take (suc w) bs) < 1 * 10 ^ k) n (val_lt 0 (take (suc w) bs) low))

  -- of a range
  number-within : (lo hi : ℕ) → row_ok (run 32 48 (suc w)) bs ≡ true → lo ≤ val 0 (take (suc w) bs) → val 0 (take (suc w) bs) ≤ hi → good (number (suc w) lo hi false) (take (suc w) bs) ≡ true
  number-within lo hi h k most =
      let B = take (suc w) bs in
      let d : eqb (last_of B) 32 ≡ false = unfold ◌=?◌ in ap (λ b. eqb b 32) (last_is w bs n) ∙ (unfold ◌=?◌ in digit_no (get_or bs w 0) 32 (omega arith) (run_last 32 w bs h)) in
      subst (λ k. good (number k lo hi false) B ≡ true) n
      (sym (number-good lo hi false B (sym (number-formed w bs h)) refl refl refl refl)
      ∙ rw (d, le-leb lo (val 0 B) k, le-leb (val 0 B) hi most))

  pub number_ok : (lo hi : ℕ) → hi + 1 ≡ 10 ^ suc w → row_ok (run 32 48 (suc w)) bs ≡ true → lo ≤ val 0 (take (suc w) bs) → good (number (suc w) lo hi false) (take (suc w) bs) ≡ true
  number_ok lo hi q h k = number-within lo hi h k (omega (arith, number_most h, q))

-- a first column that is no digit but 0 belongs to the run and counts nothing
module _ (m b c : ℕ) (h : col (nought m) b c ≡ true) where
  nought-col : col (class 48 57 m 32 32) b c ≡ true
  unfolding col in_class
  nought-col =
      let x = both_true (leb 48 b && leb b 48 || eqb b m || eqb b 32) (leb b 32 || leb 48 c) h in
      rw (x.1, wider x.0)
    where
      wider : (leb 48 b && leb b 48 || eqb b m || eqb b 32) ≡ true → (leb 48 b && leb b 57 || eqb b m || eqb b 32) ≡ true
      wider o =
          one_true (leb 48 b && leb b 48 || eqb b m) (eqb b 32) o
          (λ u. one_true (leb 48 b && leb b 48) (eqb b m) u
          (λ v. let y = both_true (leb 48 b) (leb b 48) v in rw (y.0, le-leb b 57 (omega (arith, leb-true b 48 y.1))))
          (λ v. rw (v, or-true (leb 48 b && leb b 57))))
          (λ u. rw (u, or-true (leb 48 b && leb b 57 || eqb b m)))

  nought-nothing : m ≤ 48 → b - 48 ≡ 0
  unfolding col in_class
  nought-nothing l =
      one_true (leb 48 b && leb b 48 || eqb b m) (eqb b 32) (both_true (leb 48 b && leb b 48 || eqb b m || eqb b 32) (leb b 32 || leb 48 c) h).0
      (λ u. one_true (leb 48 b && leb b 48) (eqb b m) u
      (λ v. omega (arith, leb-true b 48 (both_true (leb 48 b) (leb b 48) v).1))
      (λ v. omega (arith, eqb-true b m v)))
      (λ u. omega (arith, eqb-true b 32 u))

first-digit : (b : ℕ) (bs : List ℕ) → val 0 (b ∷ bs) ≡ val (b - 48) bs
unfolding val
first-digit b bs = ap (λ k. val k bs) (omega arith)

first-nothing : (b : ℕ) (bs : List ℕ) → b - 48 ≡ 0 → val 0 (b ∷ bs) ≡ val 0 bs
first-nothing b bs z = first-digit b bs ∙ rw z

-- w + 2 columns, up to one nine less
pub nought_ok : (w hi : ℕ) → hi + 1 ≡ 10 ^ suc w → (bs : List ℕ) → length (take (suc (suc w)) bs) ≡ suc (suc w) → row_ok (nought 32 ∷ run 32 48 (suc w)) bs ≡ true → good (number (suc (suc w)) 0 hi false) (take (suc (suc w)) bs) ≡ true
unfolding row_ok
nought_ok w hi q [] n h = absurd (false≢true h)
nought_ok w hi q (b ∷ bs) n h =
    let x = both h in
    let size : length (take (suc w) bs) ≡ suc w = omega (arith, n) in
    let value = first-nothing b (take (suc w) bs) (nought-nothing 32 b (get_or bs 0 0) x.0 (omega arith)) in
    number-within (suc w) (b ∷ bs) n 0 hi (and (nought-col 32 b (get_or bs 0 0) x.0) x.1) (omega arith) (omega (arith, value, number_most w bs size x.1, q))

-- ---- columns 1-6
pub sequence_ok : (l : List ℕ) → length (take 6 l) ≡ 6 → row_ok (run 32 32 6) l ≡ true → sequence_rest l ≡ true → good sequence (take 6 l) ≡ true
unfolding sequence sequence_rest not_zero
sequence_ok l n h k =
    let B = take 6 l in
    let same : all even B ≡ true = run-all even 32 32 5 (even_run 5 32 (unfold admits even in_class all ◌&◌ ◌≤?◌ ◌=?◌ in refl)) l h in
    let low : all not_above9 B ≡ true = run-all not_above9 32 32 5 (low_run 5 32 (unfold admits not_above9 in_class all ◌&◌ ◌≤?◌ ◌=?◌ in refl)) l h in
    let most : val 0 B ≤ 999_999 = omega (arith, subst (λ k. val 0 B < 1 * 10 ^ k) n (val_lt 0 B low)) in
    let is = sym (number-good 1 999_999 true B (sym (blank-formed 5 l h)) refl refl refl refl) in
    let last : last_of B ≡ get_or l 5 0 = last_is 5 l n in
    subst (λ k. good (number k 1 999_999 true) B ≡ true) n
    (is ∙ rw last
    (cases (eqb (get_or l 5 0) 32) (λ e. rw e)
    (λ e. rw (e, le-leb 1 (val 0 B) (some-val 0 false B (λ z. absurd (false≢true z)) same (rw (e, or-false (some false B)) at k)), le-leb (val 0 B) 999_999 most))))

-- ---- heights
module _ (w : ℕ) (bs : List ℕ) (n : length (take (suc w) bs) ≡ suc w) where
  pub metres_ok : (lo hi : ℕ) → lo + 1 ≡ 10 ^ w → hi + 1 ≡ 10 ^ suc w → row_ok (run 45 32 (suc w)) bs ≡ true → good (height (suc w) lo hi true) (take (suc w) bs) ≡ true
  metres_ok lo hi p q h =
      let B = take (suc w) bs in
      let f = metres-formed w bs h in
      subst (λ k. good (height k lo hi true) B ≡ true) n (sym (height-good lo hi true B (sym f) refl (sym (form_between w lo hi p q B n f))) ∙ either_way (eqb (last_of B) 32))
    where
      either_way : (z : Bool) → (z && true || not z && true) ≡ true
      either_way true = refl
      either_way false = refl

  -- one that is not missing, of a range
  rise_within : (lo hi : ℕ) → row_ok (run 45 48 (suc w)) bs ≡ true → between lo hi (minus (take (suc w) bs)) (val 0 (take (suc w) bs)) ≡ true → good (height (suc w) lo hi false) (take (suc w) bs) ≡ true
  rise_within lo hi h b =
      let B = take (suc w) bs in
      let d : eqb (last_of B) 32 ≡ false = ap (λ b. eqb b 32) (last_is w bs n) ∙ (unfold ◌=?◌ in digit_no (get_or bs w 0) 32 (omega arith) (run_last 45 w bs h)) in
      subst (λ k. good (height k lo hi false) B ≡ true) n (sym (height-good lo hi false B (sym (rise_formed w bs h)) refl (sym b)) ∙ rw d)

  pub rise_ok : (lo hi : ℕ) → lo + 1 ≡ 10 ^ w → hi + 1 ≡ 10 ^ suc w → row_ok (run 45 48 (suc w)) bs ≡ true → good (height (suc w) lo hi false) (take (suc w) bs) ≡ true
  rise_ok lo hi p q h = rise_within lo hi h (form_between w lo hi p q (take (suc w) bs) n (rise_formed w bs h))

  -- a height is missing exactly where its last column is blank
  pub metres_tell : row_ok (run 45 32 (suc w)) bs ≡ true → all is_blank (take (suc w) bs) ≡ eqb (get_or bs w 0) 32
  unfolding ◌=?◌
  metres_tell h = sym (last_tells 45 (take (suc w) bs) (metres-formed w bs h)) ∙ ap (λ b. eqb b 32) (last_is w bs n)

-- ---- correlations
low_ones : (c d : ℕ) (bs : List ℕ) → all not_above9 (c ∷ d ∷ bs) ≡ true → (c ≤ 57) × (d ≤ 57)
unfolding all not_above9
low_ones c d bs h = (to≤ (both h).0, to≤ (both (both h).1).0)

low_rest : (c d : ℕ) (bs : List ℕ) → all not_above9 (c ∷ d ∷ bs) ≡ true → all not_above9 bs ≡ true
unfolding all
low_rest c d bs h = (both (both h).1).1

-- three columns without a minus, the third a 9
no_minus-first : (a b c : ℕ) (bs : List ℕ) → eqb a 45 ≡ false → eqb b 45 ≡ false → 56 < c → minus (a ∷ b ∷ c ∷ bs) ≡ false
unfolding minus is_blank ◌=?◌
no_minus-first a b c bs x y z =
    cases (eqb a 32)
    (λ s. rw s (cases (eqb b 32) (λ t. rw t (rw (ne_eqb c 32 (λ e. omega arith), ne_eqb c 45 (λ e. omega arith)))) (λ t. rw t y)))
    (λ s. rw s x)

-- so it is where neither the third nor the fourth is less and the rest is passed
first_two : (a b c d : ℕ) (bs : List ℕ) → correlation_rest (a ∷ b ∷ c ∷ d ∷ bs) 0 ≡ true → c ≤? 56 ≡ false → d ≤? 56 ≡ false → (not (eqb a 45) && not (eqb b 45)) ≡ true
unfolding correlation_rest ◌≤?◌
first_two a b c d bs r o q = rw (o, q) at r

held : (m : Bool) (v : ℕ) → v < 100_000_000 → (m ≡ true → v < 99_000_000) → between 99_999_990 99_999_999 m v ≡ true
unfolding between
held true v p q = of≤ (omega (arith, q refl))
held false v p q = of≤ (omega arith)

-- ten columns, the first two no digit but 0
pub correlation_ok : (bs : List ℕ) → length (take 10 bs) ≡ 10 → row_ok (nought 45 ∷ nought 45 ∷ run 45 48 8) bs ≡ true → correlation_rest bs 0 ≡ true → good (height 10 99_999_990 99_999_999 false) (take 10 bs) ≡ true
unfolding row_ok
correlation_ok [] n h r = absurd (false≢true h)
correlation_ok (a ∷ []) n h r = absurd (omega (arith, n))
correlation_ok (a ∷ b ∷ []) n h r = absurd (omega (arith, n))
correlation_ok (a ∷ b ∷ c ∷ []) n h r = absurd (omega (arith, n))
correlation_ok (a ∷ b ∷ c ∷ d ∷ bs) n h r =
    let x = both h in
    let y = both x.1 in
    let f : formed 45 32 (take 8 (c ∷ d ∷ bs)) ≡ true = rise_formed 7 (c ∷ d ∷ bs) y.1 in
    let size : length (take 6 bs) ≡ 6 = omega (arith, n) in
    let value : val 0 (a ∷ b ∷ c ∷ d ∷ take 6 bs) ≡ val 0 (c ∷ d ∷ take 6 bs) = first-nothing a _ (nought-nothing 45 a b x.0 (omega arith)) ∙ first-nothing b _ (nought-nothing 45 b c y.0 (omega arith)) in
    let most : val 0 (c ∷ d ∷ take 6 bs) < 100_000_000 = subst (λ k. val 0 (c ∷ d ∷ take 6 bs) < 10 ^ suc (suc k)) size (form_lt 45 (c ∷ d ∷ take 6 bs) (omega arith) f) in
    rise_within 9 (a ∷ b ∷ c ∷ d ∷ bs) n 99_999_990 99_999_999 (and (nought-col 45 a b x.0) (and (nought-col 45 b c y.0) y.1))
    (held (minus (a ∷ b ∷ c ∷ d ∷ take 6 bs)) (val 0 (a ∷ b ∷ c ∷ d ∷ take 6 bs)) (omega (arith, value, most)) (λ m. omega (arith, value, less f size m)))
  where
    -- below 0 it is less than .99
    small : minus (a ∷ b ∷ c ∷ d ∷ take 6 bs) ≡ true → (c ≤ 56) ⊎ (d ≤ 56)
    small m =
        cases (c ≤? 56) (λ o. inl (to≤ o))
        (λ o. cases (d ≤? 56) (λ q. inr (to≤ q))
        (λ q. let p = both_true (not (eqb a 45)) (not (eqb b 45)) (first_two a b c d bs r o q) in
        absurd (not_both m (no_minus-first a b c (d ∷ take 6 bs) (not_true (eqb a 45) p.0) (not_true (eqb b 45) p.1) (no≤ o)))))

    two_digits : val 0 (c ∷ d ∷ take 6 bs) ≡ val ((c - 48) * 10 + (d - 48)) (take 6 bs)
    two_digits = first-digit c (d ∷ take 6 bs) ∙ (unfold val in refl)

    less : formed 45 32 (c ∷ d ∷ take 6 bs) ≡ true → length (take 6 bs) ≡ 6 → minus (a ∷ b ∷ c ∷ d ∷ take 6 bs) ≡ true → val 0 (c ∷ d ∷ take 6 bs) < 99_000_000
    less f size m =
        let low = form_low 45 32 (c ∷ d ∷ take 6 bs) (omega arith) f in
        below (low_ones c d (take 6 bs) low) (small m) (subst (λ k. val ((c - 48) * 10 + (d - 48)) (take 6 bs) < suc ((c - 48) * 10 + (d - 48)) * 10 ^ k) size (val_lt ((c - 48) * 10 + (d - 48)) (take 6 bs) (low_rest c d (take 6 bs) low)))
      where
        below : (c ≤ 57) × (d ≤ 57) → (c ≤ 56) ⊎ (d ≤ 56) → val ((c - 48) * 10 + (d - 48)) (take 6 bs) < suc ((c - 48) * 10 + (d - 48)) * 10 ^ 6 → val 0 (c ∷ d ∷ take 6 bs) < 99_000_000
        below p (inl q) v = omega (arith, two_digits, p.0, p.1, q, v)
        below p (inr q) v = omega (arith, two_digits, p.0, p.1, q, v)
