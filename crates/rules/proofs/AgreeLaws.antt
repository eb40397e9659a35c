-- The tests of agreement are what the paper says: field with field inside a record, and the number at column 11 with the records before.
use mathlib.Core.Path.{◌≡◌, refl, sym, ◌∙◌, ap, subst}
use mathlib.Core.Logic.{inl, inr, ◌↔◌}
use mathlib.Core.Bool.{Bool, true, false, not, false≢true}
use mathlib.Core.List.{List, [], ◌∷◌, map}
use Prim.Native.Nat.{ℕ, ◌≤◌}
use native.Mathlib.Omega.{arith}
use lib.ListN.{length, get_or}
use lib.IntN.{pos, negsuc}
use Rattle.rules.specs.Tests.{all, ◌&◌, ◌≤?◌, ◌=?◌}
use Rattle.rules.specs.Items.{Value, gap, missing, num, text, label, Item, blank, constant, number, height, angle, month, media, word, value_of, fits, on_number}
use Rattle.rules.specs.Fields.{Bond, free, not_before, goes_with, differs, expected, Field, Expect, same, Entry, columns_of, read, value_at, num_of, is_missing, same_truth, meets, agrees_with, agrees, is_formed, formed, agreeing}
use Rattle.rules.specs.Records.{code_at, entries, meaning, told}
use Rattle.rules.specs.Kinds.{kind_of, *27*, *70*, *72*, *86*}
use Rattle.rules.specs.Layouts.{kept, layouts, layout}
use Rattle.rules.specs.References.{number_at}
use Rattle.rules.specs.Chapter4.{chapter4}
use Rattle.rules.specs.Members.{◌∈◌}
use Rattle.rules.specs.Conforms.{Absent, Agreed}
use Rattle.rules.proofs.Truth.{all_members, members_all, both, to≤, of≤, no≡, of≢, cases, not_true, to_within}
use Rattle.rules.proofs.Lawful.{blanks, good-fits}
use Rattle.rules.proofs.SetLaws.{same_truth_lem}
use Rattle.rules.proofs.FormLaws.{all-blank}
use Rattle.rules.proofs.FieldLaws.{value_at-told}

-- ---- what says nothing
absent : (v : Value) → is_missing v ≡ true → Absent v
unfolding is_missing Absent
absent gap h = inl refl
absent missing h = inr (inl refl)
absent (num k) h = absurd (false≢true h)
absent (text t) h = inr (inr (length t, ap text (all-blank t h)))
absent (label m d y s t) h = absurd (false≢true h)

is_absent : (v : Value) → Absent v → is_missing v ≡ true
unfolding Absent
is_absent v (inl e) = rw e (unfold is_missing in refl)
is_absent v (inr (inl e)) = rw e (unfold is_missing in refl)
is_absent v (inr (inr (w, e))) = rw e (unfold is_missing in blanks w)

together : (w v : Value) → same_truth (is_missing w) (is_missing v) ≡ true → Absent v ↔ Absent w
together w v h =
    let e : is_missing w ≡ is_missing v = same_truth_lem (is_missing w) (is_missing v) h in
    ((λ a. absent w (e ∙ is_absent v a)), (λ a. absent v (sym e ∙ is_absent w a)))

as_together : (w v : Value) → Absent v ↔ Absent w → same_truth (is_missing w) (is_missing v) ≡ true
unfolding same_truth
as_together w v (f, g) =
    cases (is_missing w)
    (λ a. rw a (is_absent v (g (absent w a))))
    (λ a. cases (is_missing v) (λ b. absurd (false≢true (sym a ∙ is_absent w (f (absent v b))))) (λ b. rw (a, b)))

-- ---- inside a record
module _ (l : List ℕ) where
  at_column : (c : ℕ) → value_at c (entries chapter4 l) ≡ value_at c (told chapter4 (meaning chapter4 l))
  unfolding entries told meaning
  at_column c = value_at-told l c (layout (code_at l))

  number-at : (c : ℕ) → num_of (value_at c (entries chapter4 l)) ≡ number_at c (meaning chapter4 l)
  unfolding number_at
  number-at c = ap num_of (at_column c ∙ (unfold told in refl))

  pub agreed : (e : Expect) (b : Bond) (v : Value) → agrees_with e (entries chapter4 l) b v ≡ true → Agreed (meaning chapter4 l) b v
  unfolding agrees_with Agreed
  agreed e free v h = tt
  agreed e (not_before c) v h = rw (← number-at c) (to≤ h)
  agreed e (goes_with c) v h = rw (← at_column c) (together (value_at c (entries chapter4 l)) v h)
  agreed e (differs c) v h = rw (← number-at c) (no≡ (not_true _ h))
  agreed e expected v h = tt

  pub as_agreed : (e : Expect) (b : Bond) (v : Value) → Agreed (meaning chapter4 l) b v → (b ≡ expected → meets e (num_of v) ≡ true) → agrees_with e (entries chapter4 l) b v ≡ true
  unfolding agrees_with Agreed
  as_agreed e free v h f = refl
  as_agreed e (not_before c) v h f = of≤ (rw (number-at c) h)
  as_agreed e (goes_with c) v h f = as_together (value_at c (entries chapter4 l)) v (rw (at_column c) h)
  as_agreed e (differs c) v h f = rw (of≢ {m = num_of (value_at c (entries chapter4 l))} {n = num_of v} (rw (number-at c) h))
  as_agreed e expected v h f = f refl

-- ---- with the records before: the number at column 11
unfoldable waits : Bond → Bool
waits free = false
waits (not_before c) = false
waits (goes_with c) = false
waits (differs c) = false
waits expected = true

waits_expected : (b : Bond) → waits b ≡ true → b ≡ expected
unfolding waits
waits_expected free h = absurd (false≢true h)
waits_expected (not_before c) h = absurd (false≢true h)
waits_expected (goes_with c) h = absurd (false≢true h)
waits_expected (differs c) h = absurd (false≢true h)
waits_expected expected h = refl

unfoldable from_one : Item → Bool
from_one (blank w) = false
from_one (constant c) = false
from_one (number w lo hi may) = 1 ≤? lo & not may
from_one (height w lo hi may) = false
from_one (angle way) = false
from_one month = false
from_one media = false
from_one (word w t) = false

-- the first field is a number from 1 on at column 11, and the only one that waits on the records before
pub leads : List Field → Bool
leads [] = false
leads (d ∷ ds) = d.from =? 11 & waits d.bond & from_one d.item & all (λ x. not (waits x.bond)) ds

-- the kinds whose number at column 11 waits
unfoldable pub waiting_kinds : List ℕ
waiting_kinds = *27* ∷ *70* ∷ *72* ∷ *86* ∷ []

leading : all (λ k. leads (get_or layouts k kept)) waiting_kinds ≡ true
unfolding all leads waits from_one waiting_kinds layouts ◌=?◌ ◌≤?◌ ◌&◌
leading = refl

pub lead_of : (c : List ℕ) → kind_of c ∈ waiting_kinds → leads (layout c) ≡ true
unfolding layout
lead_of c m = all_members (λ k. leads (get_or layouts k kept)) waiting_kinds leading (kind_of c) m

one_up : (w lo hi : ℕ) (may : Bool) (v : Value) → 1 ≤ lo → may ≡ false → fits (number w lo hi may) v ≡ true → 1 ≤ num_of v
unfolding fits on_number num_of
one_up w lo hi may gap p q h = absurd (false≢true h)
one_up w lo hi may missing p q h = absurd (false≢true (sym q ∙ h))
one_up w lo hi may (num (pos n)) p q h = omega (arith, (to_within (both h).1).0)
one_up w lo hi may (num (negsuc n)) p q h = absurd (false≢true h)
one_up w lo hi may (text t) p q h = absurd (false≢true h)
one_up w lo hi may (label m d y s t) p q h = absurd (false≢true h)

from_one_lem : (i : Item) (v : Value) → from_one i ≡ true → fits i v ≡ true → 1 ≤ num_of v
unfolding from_one
from_one_lem (blank w) v h k = absurd (false≢true h)
from_one_lem (constant c) v h k = absurd (false≢true h)
from_one_lem (number w lo hi may) v h k = one_up w lo hi may v (to≤ (both h).0) (not_true may (both h).1) k
from_one_lem (height w lo hi may) v h k = absurd (false≢true h)
from_one_lem (angle way) v h k = absurd (false≢true h)
from_one_lem month v h k = absurd (false≢true h)
from_one_lem media v h k = absurd (false≢true h)
from_one_lem (word w t) v h k = absurd (false≢true h)

module _ (l : List ℕ) where
  first_is : (d : Field) (ds : List Field) → d.from =? 11 ≡ true → value_at 11 (map (read l) (d ∷ ds)) ≡ value_of d.item (columns_of d l)
  unfolding value_at read
  first_is d ds e = rw e

  -- the field that waits is the one at column 11
  waiting : (fs : List Field) → leads fs ≡ true → (d : Field) → d ∈ fs → d.bond ≡ expected → value_of d.item (columns_of d l) ≡ value_at 11 (map (read l) fs)
  unfolding leads ◌∈◌
  waiting [] h d m e = absurd m
  waiting (x ∷ xs) h d (inl q) e = ap (λ (y : Field). value_of y.item (columns_of y l)) q ∙ sym (first_is x xs (both (both (both h).0).0).0)
  waiting (x ∷ xs) h d (inr m) e =
      absurd (false≢true (sym (not_true (waits d.bond) (all_members (λ y. not (waits y.bond)) xs (both h).1 d m)) ∙ ap waits e ∙ (unfold waits in refl)))

  -- it is one of the fields
  met_first : (e : Expect) (fs : List Field) → leads fs ≡ true → agreeing e (map (read l) fs) ≡ true → meets e (num_of (value_at 11 (map (read l) fs))) ≡ true
  unfolding leads agreeing all agrees_with
  met_first e [] h a = absurd (false≢true h)
  met_first e (x ∷ xs) h a =
      rw (first_is x xs (both (both (both h).0).0).0)
      (subst (λ b. agrees_with e (map (read l) (x ∷ xs)) b (value_of x.item (columns_of x l)) ≡ true) (waits_expected x.bond (both (both (both h).0).0).1) (unfold agrees read in (both a).0))

  one_first : (fs : List Field) → leads fs ≡ true → formed (map (read l) fs) ≡ true → 1 ≤ num_of (value_at 11 (map (read l) fs))
  unfolding leads formed all is_formed read
  one_first [] h a = absurd (false≢true h)
  one_first (x ∷ xs) h a = rw (first_is x xs (both (both (both h).0).0).0) (from_one_lem x.item _ (both (both h).0).1 (good-fits x.item (columns_of x l) (both a).0))

module _ (p : Entry → Bool) (g : Field → Entry) where
  pub all_map : (fs : List Field) → all p (map g fs) ≡ all (λ d. p (g d)) fs
  unfolding all
  all_map [] = refl
  all_map (d ∷ ds) = ap (λ t. p (g d) & t) (all_map ds)

-- ---- of a line
module _ (e : Expect) (l : List ℕ) where
  pub agreeing-each : agreeing e (entries chapter4 l) ≡ true → (d : Field) → d ∈ layout (code_at l) → Agreed (meaning chapter4 l) d.bond (value_of d.item (columns_of d l))
  unfolding agreeing entries
  agreeing-each h d m =
      agreed l e d.bond (value_of d.item (columns_of d l)) (unfold agrees read entries in
      all_members (λ y. agrees e (entries chapter4 l) (read l y)) (layout (code_at l)) (sym (all_map (agrees e (entries chapter4 l)) (read l) (layout (code_at l))) ∙ h) d m)

  pub each-agreeing : ((d : Field) → d ∈ layout (code_at l) → Agreed (meaning chapter4 l) d.bond (value_of d.item (columns_of d l)))
      → ((d : Field) → d ∈ layout (code_at l) → d.bond ≡ expected → meets e (num_of (value_of d.item (columns_of d l))) ≡ true)
      → agreeing e (entries chapter4 l) ≡ true
  unfolding agreeing
  each-agreeing f g =
      let each : all (λ y. agrees e (entries chapter4 l) (read l y)) (layout (code_at l)) ≡ true
      = members_all (λ y. agrees e (entries chapter4 l) (read l y)) (layout (code_at l)) (λ d m. unfold agrees read in as_agreed l e d.bond (value_of d.item (columns_of d l)) (f d m) (g d m)) in
      let over : all (agrees e (entries chapter4 l)) (entries chapter4 l) ≡ all (λ y. agrees e (entries chapter4 l) (read l y)) (layout (code_at l)) = unfold entries in all_map (agrees e (entries chapter4 l)) (read l) (layout (code_at l)) in
      over ∙ each

  module _ (lead : leads (layout (code_at l)) ≡ true) where
    pub met : agreeing e (entries chapter4 l) ≡ true → meets e (number_at 11 (meaning chapter4 l)) ≡ true
    met h = subst (λ n. meets e n ≡ true) (number-at l 11) (unfold entries in met_first l e (layout (code_at l)) lead (unfold entries in h))

    pub waits_at : (d : Field) → d ∈ layout (code_at l) → d.bond ≡ expected → num_of (value_of d.item (columns_of d l)) ≡ number_at 11 (meaning chapter4 l)
    waits_at d m b =
        let same : value_of d.item (columns_of d l) ≡ value_at 11 (entries chapter4 l) = unfold entries in waiting l (layout (code_at l)) lead d m b in ap num_of same ∙ number-at l 11

    pub waits_met : meets e (number_at 11 (meaning chapter4 l)) ≡ true → (d : Field) → d ∈ layout (code_at l) → d.bond ≡ expected → meets e (num_of (value_of d.item (columns_of d l))) ≡ true
    waits_met h d m b = subst (λ n. meets e n ≡ true) (sym (waits_at d m b)) h

    pub number_from_1 : formed (entries chapter4 l) ≡ true → 1 ≤ number_at 11 (meaning chapter4 l)
    number_from_1 h = subst (λ n. 1 ≤ n) (number-at l 11) (unfold entries in one_first l (layout (code_at l)) lead (unfold entries in h))
