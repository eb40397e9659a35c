-- Fields in a row: form and agreement from the judge, and what is rendered reads back. All of it comes from the fields' lawfulness, once for all kinds.
use mathlib.Core.Path.{◌≡◌, refl, ◌∙◌, ap, ap₂}
use mathlib.Core.Bool.{Bool, true, false, cond, not}
use mathlib.Core.List.{List, [], ◌∷◌, ◌++◌, append_assoc, map}
use Prim.Native.Nat.{ℕ, suc, ◌+◌, ◌-◌, ◌≤◌}
use native.Mathlib.Omega.{arith}
use lib.ListN.{length, length-append, take, length-map}
use lib.Seq.{take_at, drop_at}
use Rattle.rules.specs.Tests.{all, ◌&◌, ◌≤?◌, ◌=?◌}
use Rattle.rules.specs.Characters.{is_printable}
use Rattle.rules.specs.Items.{Value, width, value_of, fits, render}
use Rattle.rules.specs.Fields.{Bond, free, not_before, goes_with, differs, expected, Field, Expect, anything, Verdict, ok, fault, ◌⨾◌, check, is_ok, Entry, columns_of, read, given, entries_of, values, value_at, num_of, is_missing, same_truth, meets, agrees_with, agrees, judge_each, judge, is_formed, formed, agreeing, renders, covers}
use Rattle.rules.proofs.Truth.{both, and, to≡, of≡, all_append, all_weaken, &-sort}
use Rattle.rules.proofs.Lawful.{lawful, good-fits, render-good}

-- ---- verdicts
pub is_ok_⨾ : (u v : Verdict) → is_ok (u ⨾ v) ≡ is_ok u & is_ok v
unfolding is_ok ◌⨾◌ ◌&◌
is_ok_⨾ ok v = refl
is_ok_⨾ (fault n c) v = refl

pub ⨾_assoc : (u v w : Verdict) → (u ⨾ v) ⨾ w ≡ u ⨾ (v ⨾ w)
unfolding ◌⨾◌
⨾_assoc ok v w = refl
⨾_assoc (fault n c) v w = refl

pub is_ok_check : (b : Bool) (n c : ℕ) → is_ok (check b n c) ≡ b
unfolding is_ok check
is_ok_check true n c = refl
is_ok_check false n c = refl

pub check_ok : (b : Bool) (n c : ℕ) → check b n c ≡ ok → b ≡ true
unfolding check
check_ok true n c e = refl
check_ok false n c e = cc

arrange : (g a F A : Bool) → g & (a & (F & A)) ≡ g & F & (a & A)
arrange g a F A = simp &-sort

-- the judge is the two tests
judge_each_splits : (e : Expect) (xs ys : List Entry) → is_ok (judge_each e xs ys) ≡ formed ys & all (agrees e xs) ys
unfolding judge_each formed all is_formed
judge_each_splits e xs [] = unfold is_ok ◌&◌ in refl
judge_each_splits e xs (y ∷ ys) = simp (is_ok_⨾, is_ok_check, judge_each_splits e xs ys) (arrange _ _ _ _)

pub judge_splits : (e : Expect) (xs : List Entry) → is_ok (judge e xs) ≡ formed xs & agreeing e xs
unfolding judge agreeing
judge_splits e xs = judge_each_splits e xs xs

-- what agrees with what went before agrees by itself
alone : (e : Expect) (xs : List Entry) (b : Bond) (v : Value) → agrees_with e xs b v ≡ true → agrees_with anything xs b v ≡ true
unfolding agrees_with meets
alone e xs free v h = refl
alone e xs (not_before c) v h = h
alone e xs (goes_with c) v h = h
alone e xs (differs c) v h = h
alone e xs expected v h = refl

pub agreeing_alone : (e : Expect) (xs : List Entry) → agreeing e xs ≡ true → agreeing anything xs ≡ true
unfolding agreeing
agreeing_alone e xs h = all_weaken (agrees e xs) (agrees anything xs) (λ x k. unfold agrees in alone e xs x.bond x.value (unfold agrees in k)) xs h

-- ---- fields that stand in a line say what their values say
module _ (l : List ℕ) where
  pub formed-told : (fs : List Field) → formed (map (read l) fs) ≡ true → formed (entries_of fs (values fs l)) ≡ true
  unfolding formed all is_formed read given entries_of values
  formed-told [] h = refl
  formed-told (f ∷ fs) h = and (good-fits f.item (columns_of f l) (both h).0) (formed-told fs (both h).1)

  pub value_at-told : (c : ℕ) (fs : List Field) → value_at c (map (read l) fs) ≡ value_at c (entries_of fs (values fs l))
  unfolding value_at read given entries_of values
  value_at-told c [] = refl
  value_at-told c (f ∷ fs) = ap (cond (f.from =? c) (value_of f.item (columns_of f l))) (value_at-told c fs)

  with_told : (e : Expect) (gs : List Field) (b : Bond) (v : Value) → agrees_with e (map (read l) gs) b v ≡ agrees_with e (entries_of gs (values gs l)) b v
  unfolding agrees_with
  with_told e gs free v = refl
  with_told e gs (not_before c) v = ap (λ k. num_of k ≤? num_of v) (value_at-told c gs)
  with_told e gs (goes_with c) v = ap (λ k. same_truth (is_missing k) (is_missing v)) (value_at-told c gs)
  with_told e gs (differs c) v = ap (λ k. not (num_of k =? num_of v)) (value_at-told c gs)
  with_told e gs expected v = refl

  all_told : (e : Expect) (gs fs : List Field) → all (agrees e (map (read l) gs)) (map (read l) fs) ≡ all (agrees e (entries_of gs (values gs l))) (entries_of fs (values fs l))
  unfolding all agrees read given entries_of values
  all_told e gs [] = refl
  all_told e gs (f ∷ fs) = ap₂ ◌&◌ (with_told e gs f.bond (value_of f.item (columns_of f l))) (all_told e gs fs)

  pub agreeing-told : (e : Expect) (fs : List Field) → agreeing e (map (read l) fs) ≡ agreeing e (entries_of fs (values fs l))
  unfolding agreeing
  agreeing-told e fs = all_told e fs fs

  pub length-values : (fs : List Field) → length (values fs l) ≡ length fs
  unfolding values
  length-values fs = length-map fs (λ f. value_of f.item (columns_of f l))

-- ---- rendering: values that fit, one for each field
unfoldable pub fitting : List Field → List Value → Bool
fitting fs vs = length vs =? length fs & formed (entries_of fs vs)

module _ where
  fit_first : (f : Field) (fs : List Field) (v : Value) (vs : List Value) → fitting (f ∷ fs) (v ∷ vs) ≡ true → fits f.item v ≡ true
  unfolding fitting formed all is_formed given entries_of
  fit_first f fs v vs h = (both (both h).1).0

  fit_rest : (f : Field) (fs : List Field) (v : Value) (vs : List Value) → fitting (f ∷ fs) (v ∷ vs) ≡ true → fitting fs vs ≡ true
  unfolding fitting formed all is_formed given entries_of
  fit_rest f fs v vs h =
      let e : suc (length vs) ≡ suc (length fs) = to≡ (both h).0 in
      and (of≡ (omega arith)) (both (both h).1).1

  fit_short : (f : Field) (fs : List Field) → fitting (f ∷ fs) [] ≡ true → ⊥
  unfolding fitting
  fit_short f fs h = let e : 0 ≡ suc (length fs) = to≡ (both h).0 in omega arith

  fit_long : (v : Value) (vs : List Value) → fitting [] (v ∷ vs) ≡ true → ⊥
  unfolding fitting
  fit_long v vs h = let e : suc (length vs) ≡ 0 = to≡ (both h).0 in omega arith

render-width : (f : Field) (v : Value) → fits f.item v ≡ true → length (render f.item v) ≡ width f.item
render-width f v h = (lawful f.item v h).sized

pub covers_end : (c : ℕ) (fs : List Field) → covers c fs ≡ true → c ≤ 81
unfolding covers
covers_end c [] h = omega (arith, to≡ h)
covers_end c (f ∷ fs) h = omega (arith, covers_end (c + width f.item) fs (both h).1)

pub renders-length : (c : ℕ) (fs : List Field) (vs : List Value) → covers c fs ≡ true → fitting fs vs ≡ true → c + length (renders fs vs) ≡ 81
unfolding covers renders
renders-length c [] vs h k = omega (arith, to≡ h)
renders-length c (f ∷ fs) [] h k = absurd (fit_short f fs k)
renders-length c (f ∷ fs) (v ∷ vs) h k =
    let first : length (render f.item v) ≡ width f.item = render-width f v (fit_first f fs v vs k) in
    let rest : c + width f.item + length (renders fs vs) ≡ 81 = renders-length (c + width f.item) fs vs (both h).1 (fit_rest f fs v vs k) in
    rw (length-append (render f.item v) (renders fs vs)) (omega arith)

pub renders-printable : (fs : List Field) (vs : List Value) → fitting fs vs ≡ true → all is_printable (renders fs vs) ≡ true
unfolding renders all
renders-printable [] vs k = refl
renders-printable (f ∷ fs) [] k = absurd (fit_short f fs k)
renders-printable (f ∷ fs) (v ∷ vs) k =
    all_append is_printable (render f.item v) (renders fs vs) (lawful f.item v (fit_first f fs v vs k)).printed (renders-printable fs vs (fit_rest f fs v vs k))

-- a rendered field in its columns, behind what stands in front of it
module _ (p : List ℕ) (f : Field) (v : Value) (a b : List ℕ) (h : fits f.item v ≡ true) (e : f.from ≡ length p + 1) where
  pub columns_rendered : columns_of f (p ++ (render f.item v ++ a ++ b)) ≡ render f.item v
  unfolding columns_of
  columns_rendered =
      let at : length p ≡ f.from - 1 = omega arith in
      ap (take (width f.item)) (drop_at p (render f.item v ++ a ++ b) (f.from - 1) at)
      ∙ rw append_assoc (take_at (render f.item v) (a ++ b) _ (render-width f v h))

  regroup : p ++ (render f.item v ++ a ++ b) ≡ p ++ render f.item v ++ (a ++ b)
  regroup = simp append_assoc

-- what is rendered behind p, perhaps with more behind it, is formed and has the values that it was rendered from
pub renders-formed : (c : ℕ) (p : List ℕ) (fs : List Field) (vs : List Value) (more : List ℕ) → c ≡ length p + 1 → covers c fs ≡ true → fitting fs vs ≡ true
    → formed (map (read (p ++ (renders fs vs ++ more))) fs) ≡ true
unfolding covers renders formed all is_formed read
renders-formed c p [] vs more e h k = refl
renders-formed c p (f ∷ fs) [] more e h k = absurd (fit_short f fs k)
renders-formed c p (f ∷ fs) (v ∷ vs) more e h k =
    let fit = fit_first f fs v vs k in
    let from : f.from ≡ length p + 1 = to≡ (both (both h).0).0 ∙ e in
    let far : c + width f.item ≡ length (p ++ render f.item v) + 1 = rw (length-append p (render f.item v)) (omega (arith, render-width f v fit)) in
    and (rw (columns_rendered p f v (renders fs vs) more fit from) (render-good f.item v (lawful f.item v fit) fit))
    (ap (λ z. all is_formed (map (read z) fs)) (regroup p f v (renders fs vs) more fit from)
    ∙ renders-formed (c + width f.item) (p ++ render f.item v) fs vs more far (both h).1 (fit_rest f fs v vs k))

pub renders-values : (c : ℕ) (p : List ℕ) (fs : List Field) (vs : List Value) (more : List ℕ) → c ≡ length p + 1 → covers c fs ≡ true → fitting fs vs ≡ true
    → values fs (p ++ (renders fs vs ++ more)) ≡ vs
unfolding covers renders values
renders-values c p [] [] more e h k = refl
renders-values c p [] (v ∷ vs) more e h k = absurd (fit_long v vs k)
renders-values c p (f ∷ fs) [] more e h k = absurd (fit_short f fs k)
renders-values c p (f ∷ fs) (v ∷ vs) more e h k =
    let fit = fit_first f fs v vs k in
    let from : f.from ≡ length p + 1 = to≡ (both (both h).0).0 ∙ e in
    let far : c + width f.item ≡ length (p ++ render f.item v) + 1 = rw (length-append p (render f.item v)) (omega (arith, render-width f v fit)) in
    ap₂ ◌∷◌ (ap (value_of f.item) (columns_rendered p f v (renders fs vs) more fit from) ∙ (lawful f.item v fit).valued)
    (ap (values fs) (regroup p f v (renders fs vs) more fit from)
    ∙ renders-values (c + width f.item) (p ++ render f.item v) fs vs more far (both h).1 (fit_rest f fs v vs k))
