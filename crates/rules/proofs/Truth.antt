-- What tests that hold say, and their algebra.
use mathlib.Core.Path.{◌≡◌, refl, sym, ◌∙◌, ap}
use mathlib.Core.Logic.{◌⊎◌, inl, inr}
use mathlib.Core.Bool.{Bool, true, false, cond, not, ◌&&◌, ◌||◌, false≢true}
use mathlib.Core.List.{List, [], ◌∷◌, ◌++◌, map}
use Prim.Native.Nat.{ℕ, zero, suc, ◌≤◌, ◌<◌}
use native.Mathlib.Omega.{arith}
use lib.ListN.{length, get_or, replicate, take, drop, take-append-drop}
use borrow.Author.Tests.{leb-true, leb-false, le-leb, lt-leb, eqb-true, eq-eqb, ne_eqb}
use Rattle.rules.specs.Tests.{◌&◌, ◌≤?◌, ◌=?◌, within, all}
use Rattle.rules.specs.Members.{◌∈◌}

pub both : {a b : Bool} → a & b ≡ true → (a ≡ true) × (b ≡ true)
unfolding ◌&◌
both {a = true} h = (refl, h)
both {a = false} h = absurd (false≢true h)

pub and : {a b : Bool} → a ≡ true → b ≡ true → a & b ≡ true
unfolding ◌&◌
and {a = true} h k = k
and {a = false} h k = absurd (false≢true h)

pub to≤ : {m n : ℕ} → m ≤? n ≡ true → m ≤ n
unfolding ◌≤?◌
to≤ {m} {n} h = leb-true m n h

pub of≤ : {m n : ℕ} → m ≤ n → m ≤? n ≡ true
unfolding ◌≤?◌
of≤ {m} {n} h = le-leb m n h

pub to≡ : {m n : ℕ} → m =? n ≡ true → m ≡ n
unfolding ◌=?◌
to≡ {m} {n} h = eqb-true m n h

pub of≡ : {m n : ℕ} → m ≡ n → m =? n ≡ true
unfolding ◌=?◌
of≡ {m} {n} h = eq-eqb m n h

pub to_within : {lo hi b : ℕ} → within lo hi b ≡ true → (lo ≤ b) × (b ≤ hi)
unfolding within
to_within h = (to≤ (both h).0, to≤ (both h).1)

pub of_within : {lo hi b : ℕ} → lo ≤ b → b ≤ hi → within lo hi b ≡ true
unfolding within
of_within p q = and (of≤ p) (of≤ q)

-- by cases on a test, keeping its outcome
pub cases : {P : Type 0} (t : Bool) → (t ≡ true → P) → (t ≡ false → P) → P
cases true f g = f refl
cases false f g = g refl

pub is_no : (t : Bool) → (t ≡ true → ⊥) → t ≡ false
is_no true f = absurd (f refl)
is_no false f = refl

pub not_true : (t : Bool) → not t ≡ true → t ≡ false
not_true true h = absurd (false≢true h)
not_true false h = refl

pub not_both : {t : Bool} → t ≡ true → t ≡ false → ⊥
not_both h k = false≢true (sym k ∙ h)

pub no≤ : {m n : ℕ} → m ≤? n ≡ false → n < m
unfolding ◌≤?◌
no≤ {m} {n} h = leb-false m n h

pub of> : {m n : ℕ} → n < m → m ≤? n ≡ false
unfolding ◌≤?◌
of> {m} {n} h = lt-leb m n h

pub no≡ : {m n : ℕ} → m =? n ≡ false → m ≡ n → ⊥
no≡ h e = not_both (of≡ e) h

pub of≢ : {m n : ℕ} → (m ≡ n → ⊥) → m =? n ≡ false
unfolding ◌=?◌
of≢ {m} {n} h = ne_eqb m n h

pub above_0 : (n : ℕ) → (n ≡ 0 → ⊥) → 1 ≤ n
above_0 zero h = absurd (h refl)
above_0 (suc n) h = omega arith

-- the code's own connective
pub both_true : (a b : Bool) → (a && b) ≡ true → (a ≡ true) × (b ≡ true)
both_true true b h = (refl, h)
both_true false b h = absurd (false≢true h)

-- a choice of two tests
pub or-cond : (a b : Bool) → (a || b) ≡ cond a true b
or-cond true b = refl
or-cond false b = refl

pub choice : (a b : Bool) → cond a true b ≡ true → (P : Type 0) → (a ≡ true → P) → (b ≡ true → P) → P
choice true b h P f g = f refl
choice false b h P f g = g h

pub either : {A B C : Type 0} → (A → C) → (B → C) → A ⊎ B → C
either f g (inl a) = f a
either f g (inr b) = g b

-- at most is below or equal
pub below_or_equal : (c d : ℕ) → c ≤ d → (c < d) ⊎ (c ≡ d)
below_or_equal c d k = cases (suc c ≤? d) (λ e. inl (to≤ e)) (λ e. inr (omega (arith, no≤ e)))

module _ {A : Type 0} where
  pub all_append : (p : A → Bool) (xs ys : List A) → all p xs ≡ true → all p ys ≡ true → all p (xs ++ ys) ≡ true
  unfolding all
  all_append p [] ys h k = k
  all_append p (x ∷ xs) ys h k = and (both h).0 (all_append p xs ys (both h).1 k)

  pub all-parts : (p : A → Bool) (xs ys : List A) → all p (xs ++ ys) ≡ true → (all p xs ≡ true) × (all p ys ≡ true)
  unfolding all
  all-parts p [] ys h = (refl, h)
  all-parts p (x ∷ xs) ys h = let t = all-parts p xs ys (both h).1 in (and (both h).0 t.0, t.1)

  pub all_take : (p : A → Bool) (n : ℕ) (xs : List A) → all p xs ≡ true → all p (take n xs) ≡ true
  all_take p n xs h = (all-parts p (take n xs) (drop n xs) (rw take-append-drop h)).0

  pub all_drop : (p : A → Bool) (n : ℕ) (xs : List A) → all p xs ≡ true → all p (drop n xs) ≡ true
  all_drop p n xs h = (all-parts p (take n xs) (drop n xs) (rw take-append-drop h)).1

  pub all_weaken : (p q : A → Bool) → ((x : A) → p x ≡ true → q x ≡ true) → (xs : List A) → all p xs ≡ true → all q xs ≡ true
  unfolding all
  all_weaken p q f [] h = refl
  all_weaken p q f (x ∷ xs) h = and (f x (both h).0) (all_weaken p q f xs (both h).1)

  pub all_replicate : (p : A → Bool) (b : A) → p b ≡ true → (w : ℕ) → all p (replicate w b) ≡ true
  unfolding all
  all_replicate p b h zero = refl
  all_replicate p b h (suc w) = and h (all_replicate p b h w)

  -- a test of every member and of the default is a test of what is looked up
  pub all_get_d : (p : A → Bool) (l : List A) (d : A) (k : ℕ) → all p l ≡ true → p d ≡ true → p (get_or l k d) ≡ true
  unfolding all
  all_get_d p [] d k h e = e
  all_get_d p (x ∷ xs) d zero h e = (both h).0
  all_get_d p (x ∷ xs) d (suc k) h e = all_get_d p xs d k (both h).1 e

  -- within the list the default is not asked
  pub all-at : (p : A → Bool) (l : List A) (d : A) (k : ℕ) → all p l ≡ true → k < length l → p (get_or l k d) ≡ true
  unfolding all
  all-at p [] d k h i = absurd (omega arith)
  all-at p (x ∷ xs) d zero h i = (both h).0
  all-at p (x ∷ xs) d (suc k) h i = all-at p xs d k (both h).1 (omega arith)

-- what was made of a list's members, looked up
pub map_at : {A B : Type 0} (g : A → B) (xs : List A) (a : A) (b : B) (i : ℕ) → i < length xs → get_or (map g xs) i b ≡ g (get_or xs i a)
map_at g [] a b i h = absurd (omega arith)
map_at g (x ∷ xs) a b zero h = refl
map_at g (x ∷ xs) a b (suc i) h = map_at g xs a b i (omega arith)

-- every number below n, and a test that was tried on them all
unfoldable pub under : ℕ → List ℕ
under zero = []
under (suc n) = n ∷ under n

pub tried : (p : ℕ → Bool) (n k : ℕ) → all p (under n) ≡ true → k < n → p k ≡ true
unfolding all under
tried p zero k h l = absurd (omega arith)
tried p (suc n) k h l = cases (suc k ≤? n) (λ f. tried p n k (both h).1 (to≤ f)) (λ f. rw (same f) (both h).0)
  where
    same : suc k ≤? n ≡ false → k ≡ n
    same f = omega (arith, no≤ f)

pub true_and : (b : Bool) → true & b ≡ b
unfolding ◌&◌
true_and b = refl

pub and_true : (b : Bool) → b & true ≡ b
unfolding ◌&◌
and_true true = refl
and_true false = refl

pub and_false : (b : Bool) → b & false ≡ false
unfolding ◌&◌
and_false true = refl
and_false false = refl

pub &_assoc : (a b c : Bool) → a & b & c ≡ a & (b & c)
unfolding ◌&◌
&_assoc true b c = refl
&_assoc false b c = refl

pub &_comm : (a b : Bool) → a & b ≡ b & a
unfolding ◌&◌
&_comm true true = refl
&_comm true false = refl
&_comm false true = refl
&_comm false false = refl

pub &_left_comm : (a b c : Bool) → a & (b & c) ≡ b & (a & c)
&_left_comm a b c = sym (&_assoc a b c) ∙ ap (λ t. t & c) (&_comm a b) ∙ &_assoc b a c

pub ruleset &-sort = (&_assoc, &_comm, &_left_comm)

-- ---- a test of members is a test of the list
module _ {A : Type 0} (p : A → Bool) where
  pub all_members : (xs : List A) → all p xs ≡ true → (x : A) → x ∈ xs → p x ≡ true
  unfolding all ◌∈◌
  all_members [] h x m = absurd m
  all_members (y ∷ ys) h x (inl e) = rw e (both h).0
  all_members (y ∷ ys) h x (inr m) = all_members ys (both h).1 x m

  pub members_all : (xs : List A) → ((x : A) → x ∈ xs → p x ≡ true) → all p xs ≡ true
  unfolding all ◌∈◌
  members_all [] f = refl
  members_all (y ∷ ys) f = and (f y (inl refl)) (members_all ys (λ x m. f x (inr m)))
