-- Demand 2 for a file: the verdict is the first of all its faults, and there is only one first.
use mathlib.Core.Path.{◌≡◌, refl, sym, ◌∙◌, ap}
use mathlib.Core.Logic.{◌⊎◌, inl, inr, ◌↔◌}
use mathlib.Core.Bool.{Bool, true, false, cond, false≢true, true≢false}
use mathlib.Core.List.{List, [], ◌∷◌, map}
use Prim.Native.Nat.{ℕ, zero, suc, ◌+◌, ◌≤◌, ◌<◌}
use native.Mathlib.Omega.{arith}
use lib.ListN.{length, take, get_or}
use lib.Seq.{take-length}
use Rattle.rules.specs.Tests.{◌&◌, ◌≤?◌, ◌=?◌}
use Rattle.rules.specs.Fields.{Verdict, ok, fault, ◌⨾◌, check, Check, run}
use Rattle.rules.specs.Records.{Meaning, Edition, judge_line, meaning}
use Rattle.rules.specs.Files.{Result, accept, refuse, is_accept, in_record, and_then, begun, lines, meanings, passed, walk, refer, form_verdict, reference_verdict, verdict}
use Rattle.rules.specs.Faults.{Faults, FileFaults, Fails, Some, CheckFaults, phase, stage, Before, Precedes, First, FirstOf, LineFaults, RecordFaults, before, FormFault, ReferenceFault, HasFault, CallFaults, Malformed, ReferencesFaults}
use Rattle.rules.proofs.Truth.{both, of≤, to≡, is_no, either}
use Rattle.rules.proofs.RecordLaws.{Sound}
use Rattle.rules.proofs.FileLaws.{records, line_at_lem}
use Rattle.rules.proofs.FaultLaws.{by_stage, by_number, before_antisym, at_2, at_8, first_then, first_check, first_run, sorted, first_line, line_stage}

-- ---- what the order asks of an edition's references
unfoldable pub all_late : List Check → Bool
all_late [] = true
all_late (k ∷ ks) = phase k.number =? 2 & all_late ks

pub record SoundRefs {S : Type 0} (E : Edition S) : Type 0 where
  pub in_order : (file : List Meaning) (r : ℕ) (m : Meaning) → sorted (E.refs file r m) ≡ true
  pub late : (file : List Meaning) (r : ℕ) (m : Meaning) → all_late (E.refs file r m) ≡ true

-- ---- no two faults of a file precede each other, so there is one first
precedes_antisym : (n r c n' r' c' : ℕ) → Precedes n r c n' r' c' → Precedes n' r' c' n r c → (n ≡ n') × (r ≡ r') × (c ≡ c')
unfolding Precedes
precedes_antisym n r c n' r' c' (inl x) (inl y) = absurd (omega arith)
precedes_antisym n r c n' r' c' (inl x) (inr y) = absurd (omega (arith, y.0))
precedes_antisym n r c n' r' c' (inr x) (inl y) = absurd (omega (arith, x.0))
precedes_antisym n r c n' r' c' (inr x) (inr y) = level x.1 y.1
  where
    level : (r < r') ⊎ ((r ≡ r') × Before n c n' c') → (r' < r) ⊎ ((r' ≡ r) × Before n' c' n c) → (n ≡ n') × (r ≡ r') × (c ≡ c')
    level (inl p) (inl q) = absurd (omega arith)
    level (inl p) (inr q) = absurd (omega (arith, q.0))
    level (inr p) (inl q) = absurd (omega (arith, p.0))
    level (inr p) (inr q) = let same = before_antisym n c n' c' p.1 q.1 in (same.0, p.0, same.1)

pub one_first : (R : FileFaults) (u v : Result) → FirstOf R u → FirstOf R v → u ≡ v
unfolding FirstOf
one_first R accept accept p q = refl
one_first R accept (refuse n r c) p q = absurd (p n r c q.0)
one_first R (refuse n r c) accept p q = absurd (q n r c p.0)
one_first R (refuse n r c) (refuse n' r' c') p q =
    let same = precedes_antisym n r c n' r' c' (p.1 n' r' c' q.0) (q.1 n r c p.0) in λ j. refuse (same.0 j) (same.1 j) (same.2 j)

-- nothing is refused exactly when there is no fault
pub none_iff : (R : FileFaults) (v : Result) → FirstOf R v → (is_accept v ≡ true) ↔ ((n r c : ℕ) → R n r c → ⊥)
unfolding FirstOf is_accept
none_iff R accept h = ((λ e. h), (λ f. refl))
none_iff R (refuse n r c) h = ((λ e. absurd (false≢true e)), (λ f. absurd (f n r c h.0)))

pub first_of_map : (R Q : FileFaults) (v : Result) → ((n r c : ℕ) → R n r c → Q n r c) → ((n r c : ℕ) → Q n r c → R n r c) → FirstOf R v → FirstOf Q v
unfolding FirstOf
first_of_map R Q accept f g h = λ n r c x. h n r c (g n r c x)
first_of_map R Q (refuse n r c) f g h = (f n r c h.0, λ n' r' c' x. h.1 n' r' c' (g n' r' c' x))

-- ---- a record's faults, then the later records'
at_1 : (n : ℕ) → n ≡ 1 → stage n ≡ 9
unfolding stage
at_1 n e = rw e

phase_1 : phase 1 ≡ 0
unfolding phase ◌=?◌
phase_1 = refl

not_1 : (n : ℕ) → stage n ≤ 5 → n =? 1 ≡ false
not_1 n h = is_no (n =? 1) (λ e. omega (arith, at_1 n (to≡ e)))

pub early : (n : ℕ) → stage n ≤ 4 → phase n ≡ 1
unfolding phase
early n h = rw (not_1 n (omega arith), of≤ h)

by_record : (p n r c n' r' c' : ℕ) → phase n ≡ p → phase n' ≡ p → r < r' → Precedes n r c n' r' c'
unfolding Precedes
by_record p n r c n' r' c' e e' h = inr (e ∙ sym e', inl h)

first-at : (p : ℕ) (R : Faults) (Q : FileFaults) (r : ℕ) (v : Verdict) (q : Result) → First R v → (v ≡ ok → FirstOf Q q)
    → ((n c : ℕ) → R n c → phase n ≡ p) → ((n k c : ℕ) → Q n k c → (phase n ≡ p) × (r < k))
    → FirstOf (λ n k c. ((k ≡ r) × R n c) ⊎ Q n k c) (in_record r v q)
unfolding FirstOf First in_record Precedes
first-at p R Q r ok accept f g e l = λ n k c. either (λ x. f n c x.1) (g refl n k c)
first-at p R Q r ok (refuse n k c) f g e l = (inr (g refl).0, λ n' k' c'. either (λ x. absurd (f n' c' x.1)) ((g refl).1 n' k' c'))
first-at p R Q r (fault n c) q f g e l = (
  inl (refl, f.0),
  λ n' k' c'. either
      (λ x. inr (e n c f.0 ∙ sym (e n' c' x.1), inr (sym x.0, f.1 n' c' x.1)))
      (λ y. by_record p n r c n' k' c' (e n c f.0) (l n' k' c' y).0 (l n' k' c' y).1),
)

-- the walk, then the references
first-and_then : (R Q : FileFaults) (p q : Result) → FirstOf R p → (p ≡ accept → FirstOf Q q)
    → ((n r c n' r' c' : ℕ) → R n r c → Q n' r' c' → Precedes n r c n' r' c') → FirstOf (λ n r c. R n r c ⊎ Q n r c) (and_then p q)
unfolding FirstOf and_then
first-and_then R Q accept accept f g k = λ n r c. either (f n r c) (g refl n r c)
first-and_then R Q accept (refuse n r c) f g k = (inr (g refl).0, λ n' r' c'. either (λ x. absurd (f n' r' c' x)) ((g refl).1 n' r' c'))
first-and_then R Q (refuse n r c) q f g k = (inl f.0, λ n' r' c'. either (f.1 n' r' c') (k n r c n' r' c' f.0))

first_end : (b : Bool) (r : ℕ) → FirstOf (λ n k c. (b ≡ false) × (n ≡ 8) × (k ≡ r) × (c ≡ 1)) (cond b accept (refuse 8 r 1))
unfolding FirstOf Precedes
first_end true r = λ n k c x. true≢false x.0
first_end false r = ((refl, refl, refl, refl), λ n k c x. inr (ap phase (sym x.1), inr (sym x.2, by_number 8 1 n c x.1 x.3)))

-- fault 1 before all others, where there is not room enough
first_room : (enough : Bool) (R : FileFaults) (v : Result) → FirstOf R v → ((n r c : ℕ) → R n r c → 1 ≤ phase n)
    → FirstOf (λ n r c. ((enough ≡ false) × (n ≡ 1) × (r ≡ 0) × (c ≡ 0)) ⊎ R n r c) (cond enough v (refuse 1 0 0))
first_room true R v h later = first_of_map R _ v (λ n r c x. inr x) (λ n r c. either (λ x. absurd (true≢false x.0)) (λ x. x)) h
first_room false R v h later = unfold FirstOf Precedes in (
  inl (refl, refl, refl, refl),
  λ n r c. either
      (λ x. inr (ap phase (sym x.1), inr (sym x.2, by_number 1 0 n c x.1 x.3)))
      (λ x. inl (omega (arith, phase_1, later n r c x))),
)

pub late_phase : (ks : List Check) → all_late ks ≡ true → (n c : ℕ) → Some CheckFaults ks n c → phase n ≡ 2
unfolding all_late Some
late_phase [] h n c x = absurd x
late_phase (k ∷ ks) h n c (inl x) = ap phase x.1 ∙ to≡ (both h).0
late_phase (k ∷ ks) h n c (inr x) = late_phase ks (both h).1 n c x

module _ {S : Type 0} (E : Edition S) where
  -- the faults of the records from r on, where s is what went before
  unfoldable pub WalkFaults : S → ℕ → List (List ℕ) → FileFaults
  WalkFaults s r [] n k c = (E.ends s ≡ false) × (n ≡ 8) × (k ≡ r) × (c ≡ 1)
  WalkFaults s r (l ∷ ls) n k c = ((k ≡ r) × RecordFaults E s r l n c) ⊎ WalkFaults (E.next s (meaning E l)) (r + 1) ls n k c

  record-early : (s : S) (r : ℕ) (l : List ℕ) (n c : ℕ) → RecordFaults E s r l n c → phase n ≡ 1
  unfolding RecordFaults
  record-early s r l n c (inl x) = early n (omega (arith, at_2 n x.1))
  record-early s r l n c (inr x) = early n (line_stage E s l n c x).1

  walk_early : (s : S) (r : ℕ) (ls : List (List ℕ)) (n k c : ℕ) → WalkFaults s r ls n k c → (phase n ≡ 1) × (r ≤ k)
  unfolding WalkFaults
  walk_early s r [] n k c x = (early n (omega (arith, at_8 n x.1)), omega (arith, x.2))
  walk_early s r (l ∷ ls) n k c (inl x) = (record-early s r l n c x.1, omega (arith, x.0))
  walk_early s r (l ∷ ls) n k c (inr x) =
      let h = walk_early (E.next s (meaning E l)) (r + 1) ls n k c x in (h.0, omega (arith, h.1))

  pub first_walk : Sound E → (s : S) (r : ℕ) (ls : List (List ℕ)) → FirstOf (WalkFaults s r ls) (walk E s r ls)
  unfolding WalkFaults walk RecordFaults
  first_walk sound s r [] = first_end (E.ends s) r
  first_walk sound s r (l ∷ ls) =
      first-at 1 (RecordFaults E s r l) (WalkFaults (E.next s (meaning E l)) (r + 1) ls) r (check (r ≤? 99_999) 2 1 ⨾ judge_line E s l) _
      (first_then (Fails (r ≤? 99_999) 2 1) (LineFaults E s l) (check (r ≤? 99_999) 2 1) (judge_line E s l) (first_check (r ≤? 99_999) 2 1) (λ _. first_line E sound s l)
      (λ n c n' c' x y. by_stage n c n' c' (omega (arith, at_2 n x.1, (line_stage E s l n' c' y).0))))
      (λ _. first_walk sound (E.next s (meaning E l)) (r + 1) ls)
      (record-early s r l)
      (λ n k c x. let h = walk_early (E.next s (meaning E l)) (r + 1) ls n k c x in (h.0, omega (arith, h.1)))

  -- the faults of the references from record r on
  unfoldable pub ReferFaults : List Meaning → ℕ → List Meaning → FileFaults
  ReferFaults file r [] n k c = ⊥
  ReferFaults file r (m ∷ ms) n k c = ((k ≡ r) × Some CheckFaults (E.refs file r m) n c) ⊎ ReferFaults file (r + 1) ms n k c

  refer_late : SoundRefs E → (file : List Meaning) (r : ℕ) (ms : List Meaning) (n k c : ℕ) → ReferFaults file r ms n k c → (phase n ≡ 2) × (r ≤ k)
  unfolding ReferFaults
  refer_late sound file r [] n k c x = absurd x
  refer_late sound file r (m ∷ ms) n k c (inl x) = (late_phase (E.refs file r m) (sound.late file r m) n c x.1, omega (arith, x.0))
  refer_late sound file r (m ∷ ms) n k c (inr x) = let h = refer_late sound file (r + 1) ms n k c x in (h.0, omega (arith, h.1))

  first-refer : SoundRefs E → (file : List Meaning) (r : ℕ) (ms : List Meaning) → FirstOf (ReferFaults file r ms) (refer E file r ms)
  unfolding ReferFaults refer
  first-refer sound file r [] = unfold FirstOf in λ n k c x. x
  first-refer sound file r (m ∷ ms) =
      first-at 2 (Some CheckFaults (E.refs file r m)) (ReferFaults file (r + 1) ms) r (run (E.refs file r m)) _
      (first_run (E.refs file r m) (sound.in_order file r m))
      (λ _. first-refer sound file (r + 1) ms)
      (late_phase (E.refs file r m) (sound.late file r m))
      (λ n k c x. let h = refer_late sound file (r + 1) ms n k c x in (h.0, omega (arith, h.1)))

  -- ---- the same record by record: record i + 1 is judged after the meanings of the i records before it
  unfoldable pub Stated : S → ℕ → List (List ℕ) → FileFaults
  Stated s r ls n k c =
      ((i : ℕ) × (i < length ls) × (k ≡ r + i) × RecordFaults E (passed E s (map (meaning E) (take i ls))) k (get_or ls i []) n c)
      ⊎ ((E.ends (passed E s (map (meaning E) ls)) ≡ false) × (n ≡ 8) × (k ≡ r + length ls) × (c ≡ 1))

  stated : (s : S) (r : ℕ) (ls : List (List ℕ)) (n k c : ℕ) → WalkFaults s r ls n k c → Stated s r ls n k c
  unfolding Stated WalkFaults passed
  stated s r [] n k c x = inr (x.0, x.1, omega (arith, x.2), x.3)
  stated s r (l ∷ ls) n k c (inl x) = inl (0, omega arith, omega (arith, x.0), rw x.0 x.1)
  stated s r (l ∷ ls) n k c (inr x) =
      either
      (λ y. inl (suc y.0, omega (arith, y.1), omega (arith, y.2), y.3))
      (λ y. inr (y.0, y.1, omega (arith, y.2), y.3))
      (stated (E.next s (meaning E l)) (r + 1) ls n k c x)

  unstated : (s : S) (r : ℕ) (ls : List (List ℕ)) (n k c : ℕ) → Stated s r ls n k c → WalkFaults s r ls n k c
  unfolding Stated WalkFaults passed
  unstated s r [] n k c (inl x) = absurd (omega (arith, x.1))
  unstated s r [] n k c (inr x) = (x.0, x.1, omega (arith, x.2), x.3)
  unstated s r (l ∷ ls) n k c (inl (zero, a, b, x)) = let e : k ≡ r = omega arith in inl (e, rw e at x)
  unstated s r (l ∷ ls) n k c (inl (suc i, a, b, x)) = inr (unstated (E.next s (meaning E l)) (r + 1) ls n k c (inl (i, omega arith, omega arith, x)))
  unstated s r (l ∷ ls) n k c (inr x) = inr (unstated (E.next s (meaning E l)) (r + 1) ls n k c (inr (x.0, x.1, omega (arith, x.2), x.3)))

  unfoldable pub Referred : List Meaning → ℕ → List (List ℕ) → FileFaults
  Referred file r ls n k c = (i : ℕ) × (i < length ls) × (k ≡ r + i) × Some CheckFaults (E.refs file k (meaning E (get_or ls i []))) n c

  referred : (file : List Meaning) (r : ℕ) (ls : List (List ℕ)) (n k c : ℕ) → ReferFaults file r (map (meaning E) ls) n k c → Referred file r ls n k c
  unfolding Referred ReferFaults
  referred file r [] n k c x = absurd x
  referred file r (l ∷ ls) n k c (inl x) = (0, omega arith, omega (arith, x.0), rw x.0 x.1)
  referred file r (l ∷ ls) n k c (inr x) = let y = referred file (r + 1) ls n k c x in (suc y.0, omega (arith, y.1), omega (arith, y.2), y.3)

  unreferred : (file : List Meaning) (r : ℕ) (ls : List (List ℕ)) (n k c : ℕ) → Referred file r ls n k c → ReferFaults file r (map (meaning E) ls) n k c
  unfolding Referred ReferFaults
  unreferred file r [] n k c x = absurd (omega (arith, x.1))
  unreferred file r (l ∷ ls) n k c (zero, a, b, x) = let e : k ≡ r = omega arith in inl (e, rw e at x)
  unreferred file r (l ∷ ls) n k c (suc i, a, b, x) = inr (unreferred file (r + 1) ls n k c (i, omega arith, omega arith, x))

  -- ---- of the whole file
  to_form : (f : List ℕ) (n r c : ℕ) → WalkFaults E.start 1 (lines f) n r c → FormFault E f n r c
  unfolding FormFault before
  to_form f n r c x = unfold Stated in
      either
      (λ y. let h : y.0 < begun f = rw (← records f) y.1 in inl (y.0, h, omega (arith, y.2), rw (line_at_lem f y.0 h) at y.3))
      (λ y. inr (rw (← records f, take-length (lines f)) y.0, y.1, omega (arith, y.2, records f), y.3))
      (stated E.start 1 (lines f) n r c x)

  of_form : (f : List ℕ) (n r c : ℕ) → FormFault E f n r c → WalkFaults E.start 1 (lines f) n r c
  unfolding FormFault before
  of_form f n r c (inl y) = unfold Stated in
      unstated E.start 1 (lines f) n r c (inl (y.0, rw (records f) y.1, omega (arith, y.2), rw (line_at_lem f y.0 y.1) y.3))
  of_form f n r c (inr y) = unfold Stated in
      unstated E.start 1 (lines f) n r c (inr (rw (← records f, take-length (lines f)) at y.0, y.1, omega (arith, y.2, records f), y.3))

  to_reference : (f : List ℕ) (n r c : ℕ) → ReferFaults (meanings E f) 1 (meanings E f) n r c → ReferenceFault E f n r c
  unfolding ReferenceFault meanings
  to_reference f n r c x = unfold Referred in
      let y = referred (map (meaning E) (lines f)) 1 (lines f) n r c x in
      let h : y.0 < begun f = rw (← records f) y.1 in
      (y.0, h, omega (arith, y.2), rw (line_at_lem f y.0 h) at y.3)

  of_reference : (f : List ℕ) (n r c : ℕ) → ReferenceFault E f n r c → ReferFaults (meanings E f) 1 (meanings E f) n r c
  unfolding ReferenceFault meanings
  of_reference f n r c y = unfold Referred in
      unreferred (map (meaning E) (lines f)) 1 (lines f) n r c (y.0, rw (records f) y.1, omega (arith, y.2), rw (line_at_lem f y.0 y.1) y.3)

  form_early : (f : List ℕ) (n r c : ℕ) → FormFault E f n r c → phase n ≡ 1
  form_early f n r c x = (walk_early E.start 1 (lines f) n r c (of_form f n r c x)).0

  reference_late : SoundRefs E → (f : List ℕ) (n r c : ℕ) → ReferenceFault E f n r c → phase n ≡ 2
  reference_late refs f n r c x = (refer_late refs (meanings E f) 1 (meanings E f) n r c (of_reference f n r c x)).0

  -- the form's verdict is the first fault of the form, the references' the first of theirs
  pub first_form : Sound E → (f : List ℕ) → FirstOf (FormFault E f) (form_verdict E f)
  first_form sound f = first_of_map (WalkFaults E.start 1 (lines f)) (FormFault E f) _ (to_form f) (of_form f) (first_walk sound E.start 1 (lines f))

  pub first_reference : SoundRefs E → (f : List ℕ) → FirstOf (ReferenceFault E f) (reference_verdict E f)
  first_reference refs f = first_of_map (ReferFaults (meanings E f) 1 (meanings E f)) (ReferenceFault E f) _ (to_reference f) (of_reference f) (first-refer refs (meanings E f) 1 (meanings E f))

  -- the verdict is the first fault
  pub first-verdict : Sound E → SoundRefs E → (f : List ℕ) → FirstOf (HasFault E f) (verdict E f)
  unfolding verdict HasFault
  first-verdict sound refs f =
      first-and_then (FormFault E f) (ReferenceFault E f) (form_verdict E f) _ (first_form sound f) (λ _. first_reference refs f)
      (λ n r c n' r' c' x y. unfold Precedes in inl (omega (arith, form_early f n r c x, reference_late refs f n' r' c' y)))

  -- with fault 1 before all others
  pub has_later : SoundRefs E → (f : List ℕ) (n r c : ℕ) → HasFault E f n r c → 1 ≤ phase n
  unfolding HasFault
  has_later refs f n r c x = either (λ y. omega (arith, form_early f n r c y)) (λ y. omega (arith, reference_late refs f n r c y)) x

  pub first-outcome : Sound E → SoundRefs E → (enough : Bool) (f : List ℕ) → FirstOf (CallFaults E enough f) (cond enough (verdict E f) (refuse 1 0 0))
  unfolding CallFaults
  first-outcome sound refs enough f = first_room enough (HasFault E f) (verdict E f) (first-verdict sound refs f) (has_later refs f)

  -- ---- 02, T-05: 14 for any fault of the form, before the references'
  Fourteen : List ℕ → FileFaults
  Fourteen f n r c = Malformed E f × (n ≡ 14) × (r ≡ 0) × (c ≡ 0)

  first_14 : (f : List ℕ) (v : Result) → FirstOf (FormFault E f) v → FirstOf (Fourteen f) (cond (is_accept v) accept (refuse 14 0 0))
  unfolding FirstOf Fourteen Malformed is_accept Precedes
  first_14 f accept h = λ n r c x. let (m, k, d, y) = x.0 in h m k d y
  first_14 f (refuse n r c) h = (
    ((n, r, c, h.0), refl, refl, refl),
    λ n' r' c' x. inr (ap phase (sym x.1), inr (sym x.2, by_number 14 0 n' c' x.1 x.3)),
  )

  pub first_references : Sound E → SoundRefs E → (enough : Bool) (f : List ℕ)
      → FirstOf (ReferencesFaults E enough f) (cond enough (cond (is_accept (form_verdict E f)) (reference_verdict E f) (refuse 14 0 0)) (refuse 1 0 0))
  unfolding ReferencesFaults Fourteen
  first_references sound refs enough f = first_room enough (λ n r c. Fourteen f n r c ⊎ ReferenceFault E f n r c) _ in-turn later
    where
      early_14 : (n r c : ℕ) → Fourteen f n r c → phase n ≡ 1
      early_14 n r c = unfold Fourteen in λ x. ap phase x.1 ∙ (unfold phase stage ◌=?◌ ◌≤?◌ in refl)

      before : (n r c n' r' c' : ℕ) → phase n ≡ 1 → phase n' ≡ 2 → Precedes n r c n' r' c'
      before n r c n' r' c' x y = unfold Precedes in inl (omega arith)

      then_14 : (b : Bool) (v : Result) → cond b v (refuse 14 0 0) ≡ and_then (cond b accept (refuse 14 0 0)) v
      then_14 true v = unfold and_then in refl
      then_14 false v = unfold and_then in refl

      in-turn : FirstOf (λ n r c. Fourteen f n r c ⊎ ReferenceFault E f n r c) (cond (is_accept (form_verdict E f)) (reference_verdict E f) (refuse 14 0 0))
      in-turn =
          rw (then_14 (is_accept (form_verdict E f)) (reference_verdict E f))
          (first-and_then (Fourteen f) (ReferenceFault E f) _ _ (first_14 f (form_verdict E f) (first_form sound f)) (λ _. first_reference refs f)
          (λ n r c n' r' c' x y. before n r c n' r' c' (early_14 n r c x) (reference_late refs f n' r' c' y)))

      later : (n r c : ℕ) → Fourteen f n r c ⊎ ReferenceFault E f n r c → 1 ≤ phase n
      later n r c = either (λ x. omega (arith, early_14 n r c x)) (λ x. omega (arith, reference_late refs f n r c x))
