-- Where the first LF stands: byte by byte, and five bytes at a time.
use mathlib.Core.Path.{◌≡◌, refl, sym, ◌∙◌, ap}
use mathlib.Core.Logic.{◌⊎◌, inl, inr}
use mathlib.Core.Bool.{true, false, cond, not, false≢true}
use mathlib.Core.List.{List, [], ◌∷◌}
use Prim.Native.Nat.{ℕ, zero, suc, ◌+◌, ◌-◌, ◌%◌, ◌≤◌, ◌<◌, min}
use native.Mathlib.Nat.{le_trans}
use native.Mathlib.Omega.{arith}
use lib.ListN.{length, length-drop, get_or, take, drop}
use lib.Seq.{drop-cons, length-take-le, take_all}
use Rattle.rules.specs.Tests.{all, ◌≤?◌, ◌=?◌}
use Rattle.rules.proofs.Truth.{both, to≤, to≡, of≡, of≢, no≤, no≡, cases, either}
use Rattle.padding.specs.Lines.{feed_at, is_free, nearer_of, nearest}

-- ---- byte by byte
pub feed_most : (f : List ℕ) → feed_at f ≤ length f
unfolding feed_at
feed_most [] = omega arith
feed_most (b ∷ bs) = cases (b =? 10) (λ e. rw e (omega arith)) (λ e. rw e (omega (arith, feed_most bs)))

pub feed_nowhere : feed_at [] ≡ 0
unfolding feed_at
feed_nowhere = refl

pub feed_first : (b : ℕ) (bs : List ℕ) → b ≡ 10 → feed_at (b ∷ bs) ≡ 0
unfolding feed_at
feed_first b bs e = rw (of≡ e)

pub feed_later : (b : ℕ) (bs : List ℕ) → (b ≡ 10 → ⊥) → feed_at (b ∷ bs) ≡ feed_at bs + 1
unfolding feed_at
feed_later b bs e = rw (of≢ e) (omega arith)

module _ (f : List ℕ) (i : ℕ) (h : i < length f) where
  pub feed_here : get_or f i 0 ≡ 10 → feed_at (drop i f) ≡ 0
  unfolding feed_at
  feed_here e = rw (drop-cons f i 0 h, of≡ e)

-- ---- in the first m bytes
pub feed_near : (m : ℕ) (f : List ℕ) → feed_at f < m → feed_at (take m f) ≡ feed_at f
unfolding feed_at
feed_near zero f h = absurd (omega arith)
feed_near (suc m) [] h = refl
feed_near (suc m) (b ∷ f) h = cases (b =? 10) (λ e. rw e) (λ e. rw e (ap suc (feed_near m f (near e h))))
  where
    near : b =? 10 ≡ false → cond (b =? 10) 0 (suc (feed_at f)) < suc m → feed_at f < m
    near e k = let j : suc (feed_at f) < suc m = rw e at k in omega arith

-- none stands there: it is looked for behind them
pub feed_far : (m : ℕ) (f : List ℕ) → m ≤ feed_at f → (feed_at (take m f) ≡ m) × (feed_at f ≡ m + feed_at (drop m f))
unfolding feed_at
feed_far zero f h = (refl, omega arith)
feed_far (suc m) [] h = absurd (omega arith)
feed_far (suc m) (b ∷ f) h =
    cases (b =? 10)
    (λ e. absurd (none e h))
    (λ e. let rest = feed_far m f (far e h) in rw e (ap suc rest.0, omega (arith, rest.1)))
  where
    none : b =? 10 ≡ true → suc m ≤ cond (b =? 10) 0 (suc (feed_at f)) → ⊥
    none e k = let j : suc m ≤ 0 = rw e at k in omega arith

    far : b =? 10 ≡ false → suc m ≤ cond (b =? 10) 0 (suc (feed_at f)) → m ≤ feed_at f
    far e k = let j : suc m ≤ suc (feed_at f) = rw e at k in omega arith

free_long : (xs : List ℕ) → is_free xs ≡ true → feed_at xs ≡ length xs
unfolding is_free all feed_at
free_long [] h = refl
free_long (x ∷ xs) h = cases (x =? 10) (λ e. absurd (false≢true (sym (ap not e) ∙ (both h).0))) (λ e. rw e (ap suc (free_long xs (both h).1)))

-- a part that is lent from a place on to the end
pub lent_rest : (f : List ℕ) (at : ℕ) → take (length f - at) (drop at f) ≡ drop at f
lent_rest f at = take_all (length f - at) (drop at f) (omega (arith, length-drop at f))

-- 80 columns and what stands behind them
module _ (f : List ℕ) (h : 80 < length f) where
  module _ (n : ℕ) (en : n ≡ feed_at (take 80 f)) where
    pub near_feed : n < 80 → n ≡ feed_at f
    near_feed l = cases (80 ≤? feed_at f) (λ e. absurd (omega (arith, en, (feed_far 80 f (to≤ e)).0))) (λ e. en ∙ feed_near 80 f (no≤ e))

    beyond : 80 ≤ n → feed_at f ≡ 80 + feed_at (drop 80 f)
    beyond l = cases (80 ≤? feed_at f) (λ e. (feed_far 80 f (to≤ e)).1) (λ e. absurd (omega (arith, en, no≤ e, feed_near 80 f (no≤ e))))

    pub far_most : (r : ℕ) → r ≡ feed_at (take (length f - 80) (drop 80 f)) → 80 + r ≤ length f
    far_most r e = omega (arith, e ∙ ap feed_at (lent_rest f 80), feed_most (drop 80 f), length-drop 80 f)

    pub far_feed : 80 ≤ n → (r : ℕ) → r ≡ feed_at (take (length f - 80) (drop 80 f)) → 80 + r ≡ feed_at f
    far_feed l r e = ap (80 +◌) (e ∙ ap feed_at (lent_rest f 80)) ∙ sym (beyond l)

  pub full_feed : is_free (take 80 f) ≡ true → get_or f 80 0 ≡ 10 → 80 ≡ feed_at f
  full_feed e t = sym (beyond _ refl (omega (arith, free_long (take 80 f) e, length-take-le 80 f (omega arith))) ∙ ap (80 +◌) (feed_here f 80 h t))

-- ---- five bytes at a time
-- r is the first LF among the places of P, all of them below 80; 80 where there is none
pub record Found (f : List ℕ) (P : ℕ → Type 0) (r : ℕ) : Type 0 where
  pub most : r ≤ 80
  pub there : r < 80 → get_or f r 0 ≡ 10
  pub least : (j : ℕ) → P j → get_or f j 0 ≡ 10 → r ≤ j

module _ (f : List ℕ) where
  found_none : Found f (λ k. ⊥) 80
  found_none = record { most = omega arith; there = λ l. absurd (omega arith); least = λ j p t. absurd p }

  -- a place before those of Q
  found_before : {Q : ℕ → Type 0} (j r : ℕ) → j < 80 → ((k : ℕ) → Q k → j ≤ k) → Found f Q r → Found f (λ k. (k ≡ j) ⊎ Q k) (nearer_of (get_or f j 0) j r)
  unfolding nearer_of
  found_before j r h g x =
      cases (get_or f j 0 =? 10)
      (λ e. rw e record { most = omega arith; there = λ _. to≡ e; least = λ k. either (λ p t. omega (arith, p)) (λ q t. g k q) })
      (λ e. rw e record { most = x.most; there = x.there; least = λ k. either (λ p t. absurd (no≡ e (ap (λ i. get_or f i 0) (sym p) ∙ t))) (λ q t. x.least k q t) })

  found_both : {P Q : ℕ → Type 0} (a b : ℕ) → Found f P a → Found f Q b → Found f (λ k. P k ⊎ Q k) (min a b)
  found_both a b x y =
      cases (a ≤? b)
      (λ e. let m : min a b ≡ a = omega (arith, to≤ e) in rw m record { most = x.most; there = x.there; least = λ j. either (λ p t. x.least j p t) (λ q t. le_trans (to≤ e) (y.least j q t)) })
      (λ e. let m : min a b ≡ b = omega (arith, no≤ e) in rw m record { most = y.most; there = y.there; least = λ j. either (λ p t. omega (arith, no≤ e, x.least j p t)) (λ q t. y.least j q t) })

  found_some : {P Q : ℕ → Type 0} (r : ℕ) → ((j : ℕ) → Q j → P j) → Found f P r → Found f Q r
  found_some r g x = record { most = x.most; there = x.there; least = λ j q t. x.least j (g j q) t }

  -- the places looked at after i turns
  abbrev pub Seen : ℕ → ℕ → Type 0
  Seen i j = (j < 80) × (j % 16 < i)

  pub seen_none : Found f (Seen 0) 80
  seen_none = record { most = omega arith; there = λ l. absurd (omega arith); least = λ j s t. absurd (omega (arith, s.1)) }

  Five : ℕ → ℕ → Type 0
  Five i j = (j ≡ i) ⊎ ((j ≡ 16 + i) ⊎ ((j ≡ 32 + i) ⊎ ((j ≡ 48 + i) ⊎ ((j ≡ 64 + i) ⊎ ⊥))))

  found_five : (i : ℕ) → i < 16 → Found f (Five i) (nearest f i)
  unfolding nearest Five
  found_five i h =
      found_before i _ (omega arith) (λ k. either (λ p. omega (arith, p)) (either (λ p. omega (arith, p)) (either (λ p. omega (arith, p)) (either (λ p. omega (arith, p)) (λ p. absurd p)))))
      (found_before (16 + i) _ (omega arith) (λ k. either (λ p. omega (arith, p)) (either (λ p. omega (arith, p)) (either (λ p. omega (arith, p)) (λ p. absurd p))))
      (found_before (32 + i) _ (omega arith) (λ k. either (λ p. omega (arith, p)) (either (λ p. omega (arith, p)) (λ p. absurd p)))
      (found_before (48 + i) _ (omega arith) (λ k. either (λ p. omega (arith, p)) (λ p. absurd p))
      (found_before (64 + i) _ (omega arith) (λ k p. absurd p) found_none))))

  -- a place seen with turn i was seen before, or is one of the five
  which : (i j : ℕ) → j < 80 → j % 16 ≡ i → Five i j
  unfolding Five
  which i j l e =
      cases (j ≤? 15) (λ a. inl (omega (arith, to≤ a)))
      (λ a. cases (j ≤? 31) (λ b. inr (inl (omega (arith, no≤ a, to≤ b))))
      (λ b. cases (j ≤? 47) (λ c. inr (inr (inl (omega (arith, no≤ b, to≤ c)))))
      (λ c. cases (j ≤? 63) (λ d. inr (inr (inr (inl (omega (arith, no≤ c, to≤ d)))))) (λ d. inr (inr (inr (inr (inl (omega (arith, no≤ d))))))))))

  new_or_old : (i j : ℕ) → Seen (i + 1) j → Seen i j ⊎ Five i j
  new_or_old i j s = cases (suc (j % 16) ≤? i) (λ e. inl (s.0, to≤ e)) (λ e. inr (which i j s.0 (omega (arith, no≤ e, s.1))))

  pub found_turn : (i first : ℕ) → i < 16 → Found f (Seen i) first → Found f (Seen (i + 1)) (min first (nearest f i))
  found_turn i first h x = found_some _ (new_or_old i) (found_both first (nearest f i) x (found_five i h))

-- the first LF is the one before which none stands
feed_is : (f : List ℕ) (r : ℕ) → r ≤ length f → (r < length f → get_or f r 0 ≡ 10) → ((j : ℕ) → j < r → get_or f j 0 ≡ 10 → ⊥) → r ≡ feed_at f
unfolding feed_at
feed_is [] zero h e n = refl
feed_is [] (suc r) h e n = absurd (omega arith)
feed_is (b ∷ bs) zero h e n = rw (of≡ (e (omega arith)))
feed_is (b ∷ bs) (suc r) h e n =
    rw (of≢ (n 0 (omega arith))) (ap suc (feed_is bs r (omega arith) (λ l. e (omega arith)) (λ j l. n (suc j) (omega arith))))

pub found_all : (f : List ℕ) (i r : ℕ) → length f ≡ 80 → 16 ≤ i → Found f (Seen f i) r → r ≡ feed_at f
found_all f i r e h x =
    feed_is f r (omega (arith, e, x.most)) (λ l. x.there (omega (arith, e))) (λ j l t. absurd (omega (arith, l, x.most, x.least j (omega (arith, l, x.most), omega (arith, h)) t)))

-- the five as the code takes them, from the last
pub nearest_is : (f : List ℕ) (i place : ℕ) → place ≡ i
    → (e : ℕ) → e ≡ nearer_of (get_or f (64 + i) 0) (64 + place) 80 → (d : ℕ) → d ≡ nearer_of (get_or f (48 + i) 0) (48 + place) e
    → (c : ℕ) → c ≡ nearer_of (get_or f (32 + i) 0) (32 + place) d → (b : ℕ) → b ≡ nearer_of (get_or f (16 + i) 0) (16 + place) c
    → (a : ℕ) → a ≡ nearer_of (get_or f i 0) place b → a ≡ nearest f i
unfolding nearest
nearest_is f i place p e ee d ed c ec b eb a ea = rw (ea, eb, ec, ed, ee, p)
