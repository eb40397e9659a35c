-- 02, T-04, "standing together": it needs no rule of its own. The order keeps the *70* records of a file together, and numbers that never fall cannot come back.
-- "10 on a *70* is now given only when the number falls": of its fields only the number has to agree with anything.
use mathlib.Core.Path.{◌≡◌, refl, sym, ◌∙◌, ap, subst}
use mathlib.Core.Logic.{inl, inr, ◌↔◌}
use mathlib.Core.Bool.{Bool, true, false, cond, true≢false}
use mathlib.Core.List.{List, [], ◌∷◌, map}
use Prim.Native.Nat.{ℕ, zero, suc, ◌+◌, ◌-◌, ◌≤◌, ◌<◌}
use native.Mathlib.Omega.{arith}
use lib.ListN.{length, take, drop, get_or, length-map}
use Rattle.rules.specs.Tests.{all, ◌&◌, ◌≤?◌, ◌=?◌}
use Rattle.rules.specs.Members.{◌∈◌}
use Rattle.rules.specs.Items.{width, value_of, good}
use Rattle.rules.specs.Fields.{free, expected, Field, Expect, not_below, Entry, columns_of, read, num_of, meets, agrees_with, agrees}
use Rattle.rules.specs.Layouts.{tied, instrument, receiver, layouts, layout}
use Rattle.rules.specs.Forms.{Code}
use Rattle.rules.specs.Records.{Meaning, code_at, entries, meaning}
use Rattle.rules.specs.Files.{refuse, line_at, begun, lines, meanings}
use Rattle.rules.specs.Faults.{Some, FieldFaults, stage, phase, FirstOf, LineFaults, RecordFaults, before, FormFault, ReferenceFault, HasFault, CallFaults}
use Rattle.rules.specs.Calls.{answer, outcome}
use Rattle.rules.specs.Kinds.{kind_of, *AA*, *70*}
use Rattle.rules.specs.Order.{may_come, place_named, last_job}
use Rattle.rules.specs.References.{asked, number_at, blank_record, Defines}
use Rattle.rules.specs.Chapter4.{expectation, chapter4}
use Rattle.rules.specs.Conforms.{kind_at, record_at, Falls, Place, Formed}
use Rattle.rules.proofs.Truth.{all_members, map_at, to≤, of≤, no≤, of≢, is_no, cases, either, under, tried, below_or_equal}
use Rattle.rules.proofs.FileLaws.{records, line_at_lem}
use Rattle.rules.proofs.FileFaults.{late_phase, first-outcome}
use Rattle.rules.proofs.ReferenceLaws.{when_asked}
use Rattle.rules.proofs.Chapter4Laws.{sound, sound_refs}
use Rattle.rules.proofs.PointLaws.{not-bytes, answer_refuses}
use Rattle.rules.proofs.Keeping.{nearest_one, Kept, instrument_is}
use Rattle.rules.proofs.AgreeLaws.{lead_of, waits_at}
use Rattle.rules.proofs.Conforming.{expects_70, waits_70}

-- a kind by its place in the order of records: a job code that does not open the file is behind all others
unfoldable rank : ℕ → ℕ
rank k = cond (k =? *AA*) 14 k

-- after a kind of rank t or more comes none of a lower one
unfoldable onward : ℕ → Bool
onward t = all (λ k. asked (t ≤? rank k) (all (λ j. t ≤? rank j) (get_or may_come (place_named 0 0 k) []))) (under 14)

from_70 : onward *70* ≡ true
unfolding onward rank all under asked may_come place_named ◌=?◌ ◌≤?◌ ◌&◌
from_70 = refl

past_70 : onward (*70* + 1) ≡ true
unfolding onward rank all under asked may_come place_named ◌=?◌ ◌≤?◌ ◌&◌
past_70 = refl

goes_on_lem : (t k j : ℕ) → onward t ≡ true → k < 14 → t ≤ rank k → j ∈ get_or may_come (place_named 0 0 k) [] → t ≤ rank j
unfolding onward
goes_on_lem t k j o l h m = to≤ (all_members (λ i. t ≤? rank i) _ (when_asked _ _ (tried (λ i. asked (t ≤? rank i) (all (λ y. t ≤? rank y) (get_or may_come (place_named 0 0 i) []))) 14 k o l) (of≤ h)) j m)

rank_of : (k : ℕ) → (k ≡ *AA* → ⊥) → rank k ≡ k
unfolding rank
rank_of k h = rw (of≢ h)

nothing_last : (k : ℕ) → k ∈ get_or may_come last_job [] → ⊥
unfolding may_come ◌∈◌
nothing_last k m = m

kind_back : (k : ℕ) → rank k ≡ *70* → k ≡ *70*
unfolding rank
kind_back k h = cases (k =? *AA*) (λ e. absurd (let z : 14 ≡ 7 = rw e at h in omega arith)) (λ e. rw e at h)

module _ (f : List ℕ) (c : Formed f) where
  kind_known : (x : ℕ) → x < begun f → kind_at f x ≤ 13
  unfolding Code
  kind_known x h = by (c.each x h).coded
    where
      by : Code (code_at (line_at f x)) (kind_at f x) → kind_at f x ≤ 13
      by (inl a) = omega (arith, a.0)
      by (inr a) = a.1

  -- one record more, from the first *70* on
  next : (t x : ℕ) → onward t ≡ true → *70* ≤ t → (kind_at f x ≡ *AA* → 1 ≤ x) → t ≤ rank (kind_at f x) → suc x < begun f → t ≤ rank (kind_at f (suc x))
  unfolding Place
  next t x o s a h l =
      let y = (c.each (suc x) l).comes in
      by y.0 y.1 y.2
    where
      by : (p : ℕ) → Place f (suc x) p → kind_at f (suc x) ∈ get_or may_come p [] → t ≤ rank (kind_at f (suc x))
      by p (inl q) m = absurd (omega (arith, a q.0, q.1))
      by p (inr (inl q)) m = absurd (nothing_last _ (subst (λ z. kind_at f (suc x) ∈ get_or may_come z []) q.2 m))
      by p (inr (inr (inl q))) m = absurd (omega (arith, h, rank_of (kind_at f x) (λ z. omega (arith, q.its_kind)), q.its_kind))
      by p (inr (inr (inr q))) m = goes_on_lem t (kind_at f x) (kind_at f (suc x)) o (omega (arith, kind_known x (omega arith))) h (subst (λ z. kind_at f (suc x) ∈ get_or may_come z []) q.2 m)

  stays : (t x : ℕ) → onward t ≡ true → *70* ≤ t → (kind_at f x ≡ *AA* → 1 ≤ x) → t ≤ rank (kind_at f x) → (d : ℕ) → x + d < begun f → t ≤ rank (kind_at f (x + d))
  stays t x o s a h zero l = subst (λ y. t ≤ rank (kind_at f y)) (omega arith) h
  stays t x o s a h (suc d) l =
      subst (λ y. t ≤ rank (kind_at f y)) (omega arith) (stays t (suc x) o s (λ z. omega arith) (next t x o s a h (omega arith)) d (omega arith))

  -- between two *70* there is no other record
  only_70 : (i x j : ℕ) → kind_at f i ≡ *70* → kind_at f j ≡ *70* → i ≤ x → x ≤ j → j < begun f → kind_at f x ≡ *70*
  only_70 i x j a b p q l =
      cases (*70* + 1 ≤? rank (kind_at f x))
      (λ h. absurd (omega (arith, ranked j b, shifted (*70* + 1) x j q (stays (*70* + 1) x past_70 (omega arith) later (to≤ h) (j - x) (omega arith)))))
      (λ h. kind_back (kind_at f x) (omega (arith, no≤ h, shifted *70* i x p (stays *70* i from_70 (omega arith) (λ z. omega arith) (omega (arith, ranked i a)) (x - i) (omega arith)))))
    where
      ranked : (y : ℕ) → kind_at f y ≡ *70* → rank (kind_at f y) ≡ *70*
      ranked y e = rank_of (kind_at f y) (λ z. omega arith) ∙ e

      shifted : (t y z : ℕ) → y ≤ z → t ≤ rank (kind_at f (y + (z - y))) → t ≤ rank (kind_at f z)
      shifted t y z w h = subst (λ v. t ≤ rank (kind_at f v)) (omega arith) h

      later : kind_at f x ≡ *AA* → 1 ≤ x
      later z = either (λ v. omega arith) (λ v. absurd (let e : kind_at f i ≡ kind_at f x = ap (kind_at f) v in omega arith)) (below_or_equal i x p)

  -- numbers that never fall cannot come back
  one_number : (n i x j : ℕ) → kind_at f i ≡ *70* → kind_at f x ≡ *70* → kind_at f j ≡ *70* → number_at 11 (record_at f i) ≡ n → number_at 11 (record_at f j) ≡ n → i ≤ x → x ≤ j → j < begun f → number_at 11 (record_at f x) ≡ n
  one_number n i x j a k b e g p q l = omega (arith, no_fall i x p a k (omega arith), no_fall x j q k b l)
    where
      no_fall : (y z : ℕ) → y ≤ z → kind_at f y ≡ *70* → kind_at f z ≡ *70* → z < begun f → number_at 11 (record_at f y) ≤ number_at 11 (record_at f z)
      no_fall y z w u v m = either (λ o. (c.each z m).never_falls v y o u) (λ o. let s : number_at 11 (record_at f y) ≡ number_at 11 (record_at f z) = ap (λ r. number_at 11 (record_at f r)) o in omega arith) (below_or_equal y z w)

  -- in the meanings of the file as in its lines
  record_is : (x : ℕ) → x < begun f → get_or (meanings chapter4 f) x blank_record ≡ record_at f x
  unfolding meanings record_at
  record_is x h = map_at (meaning chapter4) (lines f) [] blank_record x (rw (records f) h) ∙ ap (meaning chapter4) (line_at_lem f x h)

  kinds : (x : ℕ) → x < begun f → kind_at f x ≡ kind_of (get_or (meanings chapter4 f) x blank_record).code
  unfolding kind_at
  kinds x h = rw (record_is x h) (unfold record_at meaning in refl)

  many : length (meanings chapter4 f) ≡ begun f
  unfolding meanings
  many = length-map (lines f) (meaning chapter4) ∙ records f

  -- each record between two of one instrument number has it too
  pub together : (n i x j : ℕ) → Defines (meanings chapter4 f) *70* n i → Defines (meanings chapter4 f) *70* n j → i ≤ x → x ≤ j → Defines (meanings chapter4 f) *70* n x
  unfolding Defines
  together n i x j a b p q =
      let l : j < begun f = omega (arith, many, b.0) in
      let here : kind_at f x ≡ *70* = only_70 i x j (kind_in i (omega arith) a.1) (kind_in j l b.1) p q l in
      let its : number_at 11 (record_at f x) ≡ n = one_number n i x j (kind_in i (omega arith) a.1) here (kind_in j l b.1) (number_in_lem i (omega arith) a.2) (number_in_lem j l b.2) p q l in
      (omega (arith, many), sym (kinds x (omega arith)) ∙ here, ap (number_at 11) (record_is x (omega arith)) ∙ its)
    where
      kind_in : (y : ℕ) → y < begun f → kind_of (get_or (meanings chapter4 f) y blank_record).code ≡ *70* → kind_at f y ≡ *70*
      kind_in y h e = kinds y h ∙ e

      number_in_lem : (y : ℕ) → y < begun f → number_at 11 (get_or (meanings chapter4 f) y blank_record) ≡ n → number_at 11 (record_at f y) ≡ n
      number_in_lem y h e = sym (ap (number_at 11) (record_is y h)) ∙ e

-- ---- 10 on a *70*: its number waits on the records before, its other fields on nothing
receiver_of : (c : List ℕ) → kind_of c ≡ *70* → layout c ≡ receiver
unfolding layout layouts
receiver_of c e = rw e

-- fields that have to agree with nothing
unfoldable Loose : List Field → Type 0
Loose [] = Unit {0}
Loose (d ∷ ds) = (d.bond ≡ free) × Loose ds

others_loose : Loose (drop 1 receiver)
unfolding Loose
others_loose = (refl, (refl, (refl, (refl, (refl, (refl, tt))))))

module _ (e : Expect) (xs : List Entry) (l : List ℕ) (c : ℕ) where
  none_loose : (fs : List Field) → Loose fs → Some (FieldFaults e xs) (map (read l) fs) 10 c → ⊥
  unfolding Loose Some read agrees agrees_with
  none_loose [] h x = x
  none_loose (d ∷ ds) h (inl (inl x)) = omega (arith, x.1)
  none_loose (d ∷ ds) h (inl (inr x)) = true≢false (rw h.0 at x.1.0)
  none_loose (d ∷ ds) h (inr x) = none_loose ds h.1 x

  in-number : Some (FieldFaults e xs) (map (read l) receiver) 10 c
      ↔ ((c ≡ 11) × (good instrument (take 3 (drop 10 l)) ≡ true) × (meets e (num_of (value_of instrument (take 3 (drop 10 l)))) ≡ false))
  unfolding Some read agrees agrees_with columns_of width
  in-number = (by, (λ x. inl (inr (x.1, (x.2, refl, x.0)))))
    where
      by : Some (FieldFaults e xs) (map (read l) receiver) 10 c → (c ≡ 11) × (good instrument (take 3 (drop 10 l)) ≡ true) × (meets e (num_of (value_of instrument (take 3 (drop 10 l)))) ≡ false)
      by (inl (inl x)) = absurd (omega (arith, x.1))
      by (inl (inr x)) = (x.1.2, x.0, x.1.0)
      by (inr x) = absurd (none_loose (drop 1 receiver) others_loose x)

phase_10 : phase 10 ≡ 1
unfolding phase stage ◌=?◌ ◌≤?◌
phase_10 = refl

module _ (f : List ℕ) (i c : ℕ) where
  -- what goes before asks of record i + 1
  expected_here : Expect
  expected_here = expectation (before chapter4 f i) (code_at (line_at f i))

  -- the faults 10 at column c of some of its fields
  Tens : List Field → Type 0
  Tens fs = Some (FieldFaults expected_here (entries chapter4 (line_at f i))) (map (read (line_at f i)) fs) 10 c

  in-line : LineFaults chapter4 (before chapter4 f i) (line_at f i) 10 c → Tens (layout (code_at (line_at f i)))
  unfolding LineFaults Tens expected_here entries
  in-line (inl x) = absurd (not-bytes (line_at f i) 10 c (omega arith) x)
  in-line (inr (inl x)) = absurd (omega (arith, x.1))
  in-line (inr (inr (inl x))) = absurd (omega (arith, x.1))
  in-line (inr (inr (inr (inl x)))) = absurd (omega (arith, x.1))
  in-line (inr (inr (inr (inr x)))) = x

  -- a 10 of record i + 1 is one of its fields'
  in-fields : HasFault chapter4 f 10 (i + 1) c ↔ ((i < begun f) × Tens (layout (code_at (line_at f i))))
  unfolding HasFault FormFault ReferenceFault RecordFaults LineFaults Tens expected_here entries
  in-fields = (by, (λ x. inl (inl (i, x.0, refl, inr (inr (inr (inr (inr x.1))))))))
    where
      by : HasFault chapter4 f 10 (i + 1) c → (i < begun f) × Tens (layout (code_at (line_at f i)))
      by (inl (inl (x, l, e, inl y))) = absurd (omega (arith, y.1))
      by (inl (inl (x, l, e, inr y))) = (omega arith, in-line (subst (λ z. LineFaults chapter4 (before chapter4 f z) (line_at f z) 10 c) (omega arith) y))
      by (inl (inr x)) = absurd (omega (arith, x.1))
      by (inr x) = absurd (omega (arith, late_phase _ (sound_refs.late _ _ _) 10 c x.3, phase_10))

  module _ (k : kind_at f i ≡ *70*) where
    expects : expected_here ≡ not_below (before chapter4 f i).instrument
    unfolding expected_here kind_at
    expects = expects_70 (before chapter4 f i) (code_at (line_at f i)) k

    its_number : num_of (value_of instrument (take 3 (drop 10 (line_at f i)))) ≡ number_at 11 (record_at f i)
    unfolding record_at columns_of width kind_at
    its_number = waits_at expected_here (line_at f i) (lead_of (code_at (line_at f i)) (waits_70 f i k)) (tied 11 instrument expected) first_field refl
      where
        first_field : tied 11 instrument expected ∈ layout (code_at (line_at f i))
        first_field = rw (receiver_of (code_at (line_at f i)) k) (unfold ◌∈◌ in inl refl)

    below : i < begun f → ((before chapter4 f i).instrument ≤? number_at 11 (record_at f i) ≡ false) ↔ Falls f i
    unfolding Falls Kept
    below h = ((λ x. falls (instrument_is f i (omega arith)) (no≤ x)), (λ x. fails x (instrument_is f i (omega arith))))
      where
        falls : Kept f *70* *70* (before chapter4 f i).instrument i → number_at 11 (record_at f i) < (before chapter4 f i).instrument → Falls f i
        falls (inl x) l = absurd (omega (arith, x.0))
        falls (inr x) l = (x.0, x.1, omega (arith, x.2))

        fails : Falls f i → Kept f *70* *70* (before chapter4 f i).instrument i → (before chapter4 f i).instrument ≤? number_at 11 (record_at f i) ≡ false
        fails y (inl x) = absurd (x.1 y.0 y.1)
        fails y (inr x) = is_no _ (λ z. omega (arith, to≤ z, y.2, x.2, ap (λ w. number_at 11 (record_at f w)) (nearest_one f *70* *70* i y.0 x.0 y.1 x.1)))

    not_met : i < begun f → (meets expected_here (num_of (value_of instrument (take 3 (drop 10 (line_at f i))))) ≡ false) ↔ Falls f i
    unfolding meets
    not_met h = rw (expects, its_number) (below h)

    -- 10 on a *70*: exactly at its number, where that is of its form and falls
    pub falls_iff : HasFault chapter4 f 10 (i + 1) c ↔ ((i < begun f) × (c ≡ 11) × (good instrument (take 3 (drop 10 (line_at f i))) ≡ true) × Falls f i)
    unfolding Tens
    falls_iff = (to, from)
      where
        to : HasFault chapter4 f 10 (i + 1) c → (i < begun f) × (c ≡ 11) × (good instrument (take 3 (drop 10 (line_at f i))) ≡ true) × Falls f i
        to x =
            let y = in-fields.0 x in
            let z = (in-number expected_here (entries chapter4 (line_at f i)) (line_at f i) c).0 (subst Tens (receiver_of (code_at (line_at f i)) (unfold kind_at in k)) y.1) in
            (y.0, z.0, z.1, (not_met y.0).0 z.2)

        from : (i < begun f) × (c ≡ 11) × (good instrument (take 3 (drop 10 (line_at f i))) ≡ true) × Falls f i → HasFault chapter4 f 10 (i + 1) c
        from x =
            in-fields.1 (x.0, subst Tens (sym (receiver_of (code_at (line_at f i)) (unfold kind_at in k))) ((in-number expected_here (entries chapter4 (line_at f i)) (line_at f i) c).1 (x.1, x.2, (not_met x.0).1 x.3)))

-- ---- what the calls answer
from_record_1 : (f : List ℕ) (r c : ℕ) → HasFault chapter4 f 10 r c → 1 ≤ r
unfolding HasFault FormFault ReferenceFault
from_record_1 f r c (inl (inl x)) = omega (arith, x.2)
from_record_1 f r c (inl (inr x)) = omega (arith, x.2)
from_record_1 f r c (inr x) = omega (arith, x.2)

refused-falls : (f : List ℕ) (r c : ℕ) → HasFault chapter4 f 10 r c → kind_at f (r - 1) ≡ *70* → (c ≡ 11) × Falls f (r - 1)
refused-falls f r c x k =
    let y = (falls_iff f (r - 1) c k).0 (subst (λ z. HasFault chapter4 f 10 z c) (omega (arith, from_record_1 f r c x)) x) in (y.1, y.3)

pub answer_falls : (enough : Bool) (f : List ℕ) (ms : List Meaning) → (answer (outcome enough f) ms).number ≡ 10 → kind_at f ((answer (outcome enough f) ms).place - 1) ≡ *70*
    → ((answer (outcome enough f) ms).column ≡ 11) × Falls f ((answer (outcome enough f) ms).place - 1)
unfolding FirstOf outcome
answer_falls enough f ms e k = by _ _ (answer_refuses 9 (outcome enough f) ms e) k
  where
    by : (r c : ℕ) → outcome enough f ≡ refuse 10 r c → kind_at f (r - 1) ≡ *70* → (c ≡ 11) × Falls f (r - 1)
    by r c q = unfold CallFaults in either (λ x. absurd (omega (arith, x.1))) (refused-falls f r c) (subst (FirstOf (CallFaults chapter4 enough f)) q (first-outcome chapter4 sound sound_refs enough f)).0
