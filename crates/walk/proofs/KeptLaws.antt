-- What is kept of the records before: one law for each way through the functions, and that it is what the rules keep.
use mathlib.Core.Path.{◌≡◌, refl, sym, ◌∙◌, ap}
use mathlib.Core.Bool.{Bool, true, false, cond, not, ◌&&◌, ◌||◌}
use mathlib.Core.List.{List, [], ◌∷◌}
use Prim.Native.Nat.{ℕ, ◌≤◌}
use native.Mathlib.Omega.{arith}
use lib.Dec.{eqb}
use lib.ListN.{get_or}
use Rattle.rules.specs.Tests.{◌&◌, ◌≤?◌, ◌=?◌}
use Rattle.rules.specs.Records.{code_at}
use Rattle.rules.specs.Kinds.{starred, kind_of, *AA*, *27*, *70*, *72*, *86*}
use Rattle.rules.specs.Order.{nothing, goto}
use Rattle.rules.specs.Chapter4.{same_bytes, may_stand, expectation}
use Rattle.rules.proofs.Truth.{both, to≡, of≡, of≢, cases}
use Rattle.columns.specs.Types.{four, four_of}
use Rattle.columns.proofs.LabelLaws.{four_back}
use Rattle.kinds.specs.declared.Expect.TheVariants as X
use denote.Enum.Bare.{sameb}
use Rattle.kinds.specs.contracts.Kind.{the_type}
use Rattle.kinds.specs.declared.Kind.{Kind}
use Rattle.kinds.specs.declared.Kind.TheVariants as K
use Rattle.kinds.specs.Values.{expect_of, kind_index}
use Rattle.kinds.proofs.KindLaws.{other_index, same_index}
use Rattle.walk.specs.declared.kept.Kept.{Kept}
use Rattle.judging.proofs.CodeLaws.{at_column}
use Rattle.walk.specs.Keeping.{job_of, past_of, expect_in, foreign, latest_in, moved_of}

module _ (s : Kept) (k : ℕ) where
  pub expect_27 : k ≡ 6 → X.Same s.group ≡ expect_in s k
  unfolding expect_in ◌=?◌
  expect_27 e = rw e

  pub expect_70 : k ≡ 7 → X.NotBelow s.instrument ≡ expect_in s k
  unfolding expect_in ◌=?◌
  expect_70 e = rw e

  pub expect_72 : k ≡ 8 → X.Above s.antenna ≡ expect_in s k
  unfolding expect_in ◌=?◌
  expect_72 e = rw e

  pub expect_86 : k ≡ 10 → X.Same s.point ≡ expect_in s k
  unfolding expect_in ◌=?◌
  expect_86 e = rw e

  pub expect_none : (k ≡ 6 → ⊥) → (k ≡ 7 → ⊥) → (k ≡ 8 → ⊥) → (k ≡ 10 → ⊥) → X.Anything ≡ expect_in s k
  unfolding expect_in
  expect_none a b c d = rw (of≢ a, of≢ d, of≢ b, of≢ c)

  -- as the rules have it
  pub expect_is : (c : List ℕ) → k ≡ kind_of c → expect_of (expect_in s k) ≡ expectation (past_of s) c
  unfolding expect_in expectation past_of expect_of
  expect_is c e =
      rw (← e) (cases (k =? *27*) (λ a. rw a) (λ a. cases (k =? *86*) (λ b. rw (a, b)) (λ b. cases (k =? *70*) (λ d. rw (a, b, d)) (λ d. cases (k =? *72*) (λ g. rw (a, b, d, g)) (λ g. rw (a, b, d, g))))))

  module _ (a b : ℕ) where
    pub foreign_is : (eqb k 0 && not (eqb s.place 0) && (not (eqb a s.first) || not (eqb b s.second))) ≡ foreign s k a b
    unfolding foreign ◌=?◌
    foreign_is = by (eqb k 0) (eqb s.place 0) (eqb a s.first) (eqb b s.second)
      where
        by : (i j x y : Bool) → (i && not j && (not x || not y)) ≡ cond i (cond j false (not (x & y))) false
        by false j x y = refl
        by true true x y = refl
        by true false true true = unfold ◌&◌ in refl
        by true false true false = unfold ◌&◌ in refl
        by true false false y = unfold ◌&◌ in refl

-- by the kind
pub expect_others : (s : Kept) (k : Kind) → (k ≡ K.Measurement → ⊥) → (k ≡ K.Instrument → ⊥) → (k ≡ K.Antenna → ⊥) → (k ≡ K.Heights → ⊥) → X.Anything ≡ expect_in s (kind_index k)
unfolding kind_index
expect_others s k a b c d = expect_none s (kind_index k) (other_index k K.Measurement a) (other_index k K.Instrument b) (other_index k K.Antenna c) (other_index k K.Heights d)

pub foreign_kind : (s : Kept) (k : Kind) (a b : ℕ) (i : Bool) → i ≡ sameb the_type k K.Job → (i && not (eqb s.place 0) && (not (eqb a s.first) || not (eqb b s.second))) ≡ foreign s (kind_index k) a b
unfolding kind_index
foreign_kind s k a b i e = ap (λ t. t && not (eqb s.place 0) && (not (eqb a s.first) || not (eqb b s.second))) (e ∙ same_index k K.Job) ∙ foreign_is s (kind_index k) a b

module _ (k asked : Kind) (lead old : ℕ) (i : Bool) (e : i ≡ sameb the_type k asked) where
  pub latest_same : i ≡ true → lead ≡ latest_in (kind_index k) (kind_index asked) lead old
  unfolding latest_in ◌=?◌
  latest_same h = rw (sym (e ∙ same_index k asked) ∙ h)

  pub latest_other : i ≡ false → old ≡ latest_in (kind_index k) (kind_index asked) lead old
  unfolding latest_in ◌=?◌
  latest_other h = rw (sym (e ∙ same_index k asked) ∙ h)

pub opened_first : (p new old : ℕ) → p ≡ 0 → new ≡ cond (p =? 0) new old
opened_first p new old e = rw (of≡ e)

pub opened_later : (p new old : ℕ) → (p ≡ 0 → ⊥) → old ≡ cond (p =? 0) new old
opened_later p new old e = rw (of≢ e)

pub moved_is : (s : Kept) (next k a b lead : ℕ)
    → (o : ℕ) → o ≡ latest_in k (kind_index K.Instrument) 0 s.group
    → (x : ℕ) → x ≡ cond (s.place =? 0) a s.first → (y : ℕ) → y ≡ cond (s.place =? 0) b s.second
    → (g : ℕ) → g ≡ latest_in k (kind_index K.Occupation) lead o → (p : ℕ) → p ≡ latest_in k (kind_index K.Point) lead s.point
    → (i : ℕ) → i ≡ latest_in k (kind_index K.Instrument) lead s.instrument → (n : ℕ) → n ≡ latest_in k (kind_index K.Antenna) lead s.antenna
    → record { place = next; first = x; second = y; group = g; point = p; instrument = i; antenna = n } ≡ moved_of s next k a b lead
unfolding moved_of kind_index
moved_is s next k a b lead o eo x ex y ey g eg p ep i ei n en = rw (ex, ey, eg, eo, ep, ei, en)

-- ---- a known code is an asterisk, the two characters that the code looks at, and an asterisk
module _ (l : List ℕ) (known : kind_of (code_at l) ≤ 13) where
  star : starred (code_at l) ≡ true
  unfolding kind_of
  star = cases (starred (code_at l)) (λ e. e) (λ e. let z : 14 ≤ 13 = rw e at known in absurd (omega arith))

  pub spelled : code_at l ≡ 42 ∷ get_or l 7 0 ∷ get_or l 8 0 ∷ 42 ∷ []
  unfolding starred
  spelled =
      sym (four_back (code_at l) (to≡ (both (both star).0).0))
      ∙ (unfold four_of four in rw (to≡ (both (both star).0).1, at_column l 1 (omega arith), at_column l 2 (omega arith), to≡ (both star).1))

  -- ---- 7: whether the code may stand here
  module _ (rows : List (List ℕ)) (s : Kept) (k : ℕ) (e : k ≡ kind_of (code_at l)) where
    pub stands : may_stand rows (past_of s) (code_at l) ≡ 1 ≤? goto rows s.place k & not (foreign s k (get_or l 7 0) (get_or l 8 0))
    unfolding may_stand foreign past_of job_of
    stands =
        rw (← e)
        (cases (k =? *AA*)
        (λ a. cases (s.place =? nothing) (λ b. rw (a, b)) (λ b. rw (a, b, spelled) (ap (λ t. 1 ≤? goto rows s.place k & t) (same_job (get_or l 7 0) (get_or l 8 0)))))
        (λ a. rw a))
      where
        same_job : (x y : ℕ) → same_bytes (42 ∷ x ∷ y ∷ 42 ∷ []) (42 ∷ s.first ∷ s.second ∷ 42 ∷ []) ≡ not (not (x =? s.first & y =? s.second))
        same_job x y = unfold same_bytes ◌=?◌ ◌&◌ in go (eqb x s.first) (eqb y s.second)
          where
            go : (a b : Bool) → true & (a & (b & (true & true))) ≡ not (not (a & b))
            go true true = unfold ◌&◌ in refl
            go true false = unfold ◌&◌ in refl
            go false b = unfold ◌&◌ in refl
