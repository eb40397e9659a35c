-- Rows: what a class admits is found by trying every character, so a fact of a column needs no argument; a row splits into its parts, and the columns taken one by one are the row.
use mathlib.Core.Path.{◌≡◌, refl, sym, ap, ◌∙◌}
use mathlib.Core.Bool.{Bool, true, false, cond, ◌&&◌, ◌||◌, false≢true}
use mathlib.Core.List.{List, [], ◌∷◌, ◌++◌}
use Prim.Native.Nat.{ℕ, zero, suc, ◌+◌, ◌≤◌, ◌<◌}
use native.Mathlib.Omega.{arith}
use native.Mathlib.Numerals.{add-one}
use lib.Dec.{leb, eqb}
use lib.ListN.{length, get_or, take, drop}
use lib.Seq.{drop-cons}
use borrow.Author.Tests.{leb-true, eqb-true}
use Rattle.rules.specs.Tests.{◌&◌, ◌≤?◌, ◌=?◌, all}
use Rattle.rules.proofs.Truth.{both, and, to≤, to≡, both_true, true_and, &_assoc, under, tried}
use Rattle.quick.specs.Rows.{Class, in_class, col, row_ok, spelled, col_at}

-- ---- tests with the bare connectives of the code
pub one_true : {P : Type 0} (x y : Bool) → (x || y) ≡ true → (x ≡ true → P) → (y ≡ true → P) → P
one_true true y h f g = f refl
one_true false y h f g = g h

-- ---- a row of two parts
pub row_split : (xs ys : List Class) (l : List ℕ) → row_ok (xs ++ ys) l ≡ row_ok xs l & row_ok ys (drop (length xs) l)
unfolding row_ok
row_split [] ys l = sym (true_and _)
row_split (k ∷ xs) ys [] = unfold ◌&◌ in refl
row_split (k ∷ xs) ys (b ∷ bs) = ap (λ t. col k b (get_or bs 0 0) & t) (row_split xs ys bs) ∙ sym (&_assoc _ _ _)

-- ---- what a class admits: every character that it takes passes p, by trying them all
unfoldable pub admits : (ℕ → Bool) → Class → Bool
unfolding under
admits p k = all (λ b. cond (in_class k b) (p b) true) (under 128) & (k.high ≤? 127 & (k.other ≤? 127 & k.also ≤? 127))

small : (k : Class) (b : ℕ) → k.high ≤ 127 → k.other ≤ 127 → k.also ≤ 127 → in_class k b ≡ true → b ≤ 127
unfolding in_class
small k b x y z h =
    one_true (leb k.low b && leb b k.high || eqb b k.other) (eqb b k.also) h
    (λ u. one_true (leb k.low b && leb b k.high) (eqb b k.other) u
    (λ v. omega (arith, leb-true b k.high (both_true (leb k.low b) (leb b k.high) v).1))
    (λ v. omega (arith, eqb-true b k.other v)))
    (λ u. omega (arith, eqb-true b k.also u))

pub admitted : (p : ℕ → Bool) (k : Class) → admits p k ≡ true → (b : ℕ) → in_class k b ≡ true → p b ≡ true
unfolding admits
admitted p k t b h =
    let s = both t in
    let m = both s.1 in
    let n = both m.1 in
    let q : cond (in_class k b) (p b) true ≡ true = tried (λ b. cond (in_class k b) (p b) true) 128 b s.0 (omega (arith, small k b (to≤ m.0) (to≤ n.0) (to≤ n.1) h)) in
    rw h at q

pub in-class : (k : Class) (b c : ℕ) → col k b c ≡ true → in_class k b ≡ true
unfolding col
in-class k b c h = (both_true (in_class k b) (leb b k.free || leb 48 c) h).0

-- every column of a row
pub all-columns : (p : ℕ → Bool) (ks : List Class) → all (admits p) ks ≡ true → (l : List ℕ) → row_ok ks l ≡ true → all p (take (length ks) l) ≡ true
unfolding all row_ok
all-columns p [] t l h = refl
all-columns p (k ∷ ks) t [] h = absurd (false≢true h)
all-columns p (k ∷ ks) t (b ∷ bs) h =
    and (admitted p k (both t).0 b (in-class k b (get_or bs 0 0) (both h).0)) (all-columns p ks (both t).1 bs (both h).1)

-- one column of a row
pub column_is : (p : ℕ → Bool) (ks : List Class) (j : ℕ) (d : Class) → admits p (get_or ks j d) ≡ true → j < length ks → (l : List ℕ) → row_ok ks l ≡ true → p (get_or l j 0) ≡ true
unfolding row_ok
column_is p [] j d t i l h = absurd (omega arith)
column_is p (k ∷ ks) j d t i [] h = absurd (false≢true h)
column_is p (k ∷ ks) zero d t i (b ∷ bs) h = admitted p k t b (in-class k b (get_or bs 0 0) (both h).0)
column_is p (k ∷ ks) (suc j) d t i (b ∷ bs) h = column_is p ks j d t (omega arith) bs (both h).1

-- a row lies within its line
pub row_within : (ks : List Class) (l : List ℕ) → row_ok ks l ≡ true → length ks ≤ length l
unfolding row_ok
row_within [] l h = omega arith
row_within (k ∷ ks) [] h = absurd (false≢true h)
row_within (k ∷ ks) (b ∷ bs) h = omega (arith, row_within ks bs (both h).1)

-- ---- the columns one by one are the row
pub columns_row : (ks : List Class) (l : List ℕ) → length ks ≤ length l → ((j : ℕ) → j < length ks → col_at (spelled ks) l j ≡ true) → row_ok ks l ≡ true
unfolding row_ok col in_class
columns_row [] l n f = refl
columns_row (k ∷ ks) [] n f = absurd (omega arith)
columns_row (k ∷ ks) (b ∷ bs) n f = and (f 0 (omega arith)) (columns_row ks bs (omega arith) (λ j i. rw (add-one j) (rw (add-one (suc j)) at (f (suc j) (omega arith)))))

-- n columns of a line from index a on, one by one
unfoldable pub spread : List ℕ → ℕ → ℕ → List ℕ
spread l a zero = []
spread l a (suc n) = get_or l a 0 ∷ spread l (a + 1) n

pub spread_is : (n a : ℕ) (l : List ℕ) → a + n ≤ length l → take n (drop a l) ≡ spread l a n
unfolding spread
spread_is zero a l h = refl
spread_is (suc n) a l h =
    ap (take (suc n)) (drop-cons l a 0 (omega arith)) ∙ ap (λ t. get_or l a 0 ∷ t) (rw (sym (add-one a)) (spread_is n (a + 1) l (omega arith)))

-- ---- a part of a row
row_take : (n : ℕ) (ks : List Class) (l : List ℕ) → row_ok ks l ≡ true → row_ok (take n ks) l ≡ true
unfolding row_ok
row_take zero ks l h = refl
row_take (suc n) [] l h = refl
row_take (suc n) (k ∷ ks) [] h = absurd (false≢true h)
row_take (suc n) (k ∷ ks) (b ∷ bs) h = and (both h).0 (row_take n ks bs (both h).1)

row_drop : (n : ℕ) (ks : List Class) (l : List ℕ) → row_ok ks l ≡ true → row_ok (drop n ks) (drop n l) ≡ true
unfolding row_ok
row_drop zero ks l h = h
row_drop (suc n) [] l h = refl
row_drop (suc n) (k ∷ ks) [] h = absurd (false≢true h)
row_drop (suc n) (k ∷ ks) (b ∷ bs) h = row_drop n ks bs (both h).1

pub row_part : (n m : ℕ) (ks : List Class) (l : List ℕ) → row_ok ks l ≡ true → row_ok (take m (drop n ks)) (drop n l) ≡ true
row_part n m ks l h = row_take m (drop n ks) (drop n l) (row_drop n ks l h)

-- ---- rows of the same classes fit the same lines
unfoldable pub same_class : Class → Class → Bool
same_class j k = j.low =? k.low & j.high =? k.high & j.other =? k.other & j.also =? k.also & j.free =? k.free

unfoldable pub same_row : List Class → List Class → Bool
same_row [] [] = true
same_row [] (k ∷ ks) = false
same_row (j ∷ js) [] = false
same_row (j ∷ js) (k ∷ ks) = same_class j k & same_row js ks

same_class_lem : (j k : Class) (b c : ℕ) → same_class j k ≡ true → col j b c ≡ col k b c
unfolding same_class col in_class
same_class_lem j k b c h =
    let x = both h in
    let y = both x.0 in
    let z = both y.0 in
    let t = both z.0 in
    rw (to≡ t.0, to≡ t.1, to≡ z.1, to≡ y.1, to≡ x.1)

pub same_row_lem : (js ks : List Class) → same_row js ks ≡ true → (l : List ℕ) → row_ok js l ≡ true → row_ok ks l ≡ true
unfolding same_row row_ok
same_row_lem [] [] s l h = refl
same_row_lem [] (k ∷ ks) s l h = absurd (false≢true s)
same_row_lem (j ∷ js) [] s l h = refl
same_row_lem (j ∷ js) (k ∷ ks) s [] h = absurd (false≢true h)
same_row_lem (j ∷ js) (k ∷ ks) s (b ∷ bs) h = and (sym (same_class_lem j k b (get_or bs 0 0) (both s).0) ∙ (both h).0) (same_row_lem js ks (both s).1 bs (both h).1)
