-- The record and the column of a fault fit words: by the bounds of faults, and a record that read is asked for by its own width; so do the standard deviations of a record that reads.
use mathlib.Core.Path.{◌≡◌, refl, sym, ◌∙◌, subst}
use mathlib.Core.Bool.{Bool, true, false, false≢true}
use mathlib.Core.List.{List, [], ◌∷◌}
use Prim.Native.Nat.{ℕ, zero, suc, ◌-◌, ◌≤◌, ◌<◌, ◌^◌}
use native.Mathlib.Omega.{arith}
use lib.Dec.{lit≤}
use lib.IntN.{pos, negsuc}
use lib.ListN.{length, get_or}
use Rattle.rules.specs.Tests.{◌&◌, ◌≤?◌, ◌=?◌, within, all}
use Rattle.rules.specs.Items.{Value, gap, missing, num, text, label, fits, on_number}
use Rattle.rules.specs.Fields.{Field, Verdict, ok, fault, is_ok, given, entries_of, is_formed, formed}
use Rattle.rules.specs.Kinds.{kind_of, known}
use Rattle.rules.specs.Layouts.{at, deviation, network, local, kept, layouts, layout}
use Rattle.rules.specs.Records.{Meaning, read_line, meaning, told, meant}
use Rattle.rules.specs.Files as files
use Rattle.rules.specs.Files.{accept, refuse, is_accept, line_at, begun, meanings, form_verdict}
use Rattle.rules.specs.References.{tally, counts}
use Rattle.rules.specs.Chapter4.{chapter4}
use Rattle.rules.specs.Calls.{outcome, Answer, answer, big_table, form_answer, references_outcome, references_answer, rewrite_room, rewrite_answer, Reading, values, unread, read_as, read_of}
use Rattle.rules.specs.Padding.{pad_answer, pad_output}
use Rattle.rules.specs.Pulling.{pull_answer, pull_output, pull_faults}
use Rattle.rules.proofs.Truth.{both, and, to≤, of≤, to≡, cases, to_within}
use Rattle.rules.proofs.RecordLaws.{read_line_splits, line_meant}
use Rattle.rules.proofs.ReferenceLaws.{length-tabulate}
use Rattle.rules.proofs.Bounds.{Bounded, answer_bounded, form_bounded, reference_refused, unread_bounds}
use Rattle.std.specs.Prelude.{Result, Ok, Err, Option}
use Rattle.kinds.specs.declared.Fault.{Fault}
use Rattle.columns.specs.Types.{nat_of}
use Rattle.kinds.specs.declared.Record.{Record}
use Rattle.kinds.proofs.ValueLaws.{same_values}
use Rattle.kinds.specs.Values.{checked_of, fault_of, record_from, record_of, reading_of}
use Rattle.kinds.proofs.TableLaws.{each_kind}
use Rattle.padding.specs.Promise.{padded_of}
use Rattle.padding.proofs.PadDemands.{demand_1_pad}
use Rattle.pulling.specs.Promise.{pulled_of}
use Rattle.pulling.proofs.PullDemands.{demand_1_pull}
use Rattle.answers.specs.Answers.{Small, fault_in, counts_in, Counted}
use Rattle.answers.specs.Words.{deviations_of, in_range, Told}

-- ---- form, references and rewrite
fourteen : (v : files.Result) (ms : List Meaning) → length (answer v ms).counts ≡ 14
unfolding answer
fourteen accept ms = unfold counts in length-tabulate (λ k. tally k ms) 14 0
fourteen (refuse n r c) ms = refl

zero_small : Small record { number = 0; «record» = 0; column = 0 }
zero_small = record { place = omega arith; spot = omega arith }

fault_told : (a : Answer) → a.place < 2 ^ 32 → a.column < 2 ^ 32 → Small (fault_in (checked_of a))
unfolding checked_of fault_in
fault_told a h k = cases (a.number =? 0) (λ e. rw e zero_small) (λ e. rw e record { place = h; spot = k })

counts_told : (a : Answer) → length a.counts ≡ 14 → length (counts_in (checked_of a)) ≡ 14
unfolding checked_of counts_in
counts_told a h = cases (a.number =? 0) (λ e. rw e h) (λ e. rw e)

counted : (x : files.Result) (ms : List Meaning) → Bounded (answer x ms) → Counted (checked_of (answer x ms))
counted x ms within = record {
  small = fault_told (answer x ms) (omega (arith, within.place)) (omega (arith, within.column));
  fourteen = counts_told (answer x ms) (fourteen x ms);
}

pub form_counted : (f : List ℕ) (v : Result (List ℕ) Fault) → v ≡ checked_of (form_answer f) → Counted v
unfolding form_answer
form_counted f v e = rw e (counted (form_verdict chapter4 f) (meanings chapter4 f) (form_bounded f (meanings chapter4 f)))

pub rewrite_counted : (f t o : List ℕ) (v : Result (List ℕ) Fault) → v ≡ checked_of (rewrite_answer f t o) → Counted v
unfolding rewrite_answer
rewrite_counted f t o v e =
    let enough = rewrite_room f t o in rw e (counted (outcome enough f) (meanings chapter4 f) (answer_bounded enough f (meanings chapter4 f)))

small_of : (x : files.Result) → ((n r c : ℕ) → x ≡ refuse n r c → (r ≤ 100_000) × (c ≤ 81)) → Small (fault_in (fault_of x))
unfolding fault_of fault_in
small_of accept h = zero_small
small_of (refuse n r c) h = let k = h n r c refl in record { place = omega (arith, k.0); spot = omega (arith, k.1) }

references_within : (enough : Bool) (f : List ℕ) (n r c : ℕ) → references_outcome enough f ≡ refuse n r c → (r ≤ 100_000) × (c ≤ 81)
unfolding references_outcome
references_within true f n r c e =
    cases (is_accept (form_verdict chapter4 f))
    (λ g. let k = reference_refused f n r c g (rw g at e) in (k.2, k.3))
    (λ g. nowhere 14 (rw g at e))
  where
    nowhere : (m : ℕ) → refuse m 0 0 ≡ refuse n r c → (r ≤ 100_000) × (c ≤ 81)
    nowhere m q =
        let x : 0 ≡ r = cc in
        let y : 0 ≡ c = cc in
        (omega arith, omega arith)
references_within false f n r c e =
    let x : 0 ≡ r = cc in
    let y : 0 ≡ c = cc in
    (omega arith, omega arith)

pub references_small : (f t : List ℕ) (w : Result (Unit {0}) Fault) → w ≡ fault_of (references_answer f t) → Small (fault_in w)
unfolding references_answer
references_small f t w e = rw e (small_of (references_outcome (big_table t) f) (references_within (big_table t) f))

-- ---- pad
pub pad_small : (f o : List ℕ) (v : Result ℕ Fault) → v ≡ padded_of (pad_answer f o) → Small (fault_in v)
unfolding fault_in
pad_small f o (Ok n) e = zero_small
pad_small f o (Err g) e =
    let k = demand_1_pad f o (Err g) (pad_output f o) record { answered = e; written = refl } in
    record { place = omega (arith, k.place g refl); spot = omega (arith, k.spot g refl) }

-- ---- pull
pub pull_small : (rs o s : List ℕ) (v : Result (Unit {0}) Fault) → v ≡ pulled_of (pull_answer rs o s) → Small (fault_in v)
unfolding fault_in
pull_small rs o s (Ok x) e = zero_small
pull_small rs o s (Err g) e =
    let k = (demand_1_pull [] rs o s (Err g) (pull_output [] rs o s) (pull_faults [] rs o s) record { answered = e; written = refl; numbered = refl }).place g refl in
    record { place = omega (arith, k.0); spot = omega (arith, k.1) }

-- ---- read
told_of : (f : List ℕ) (r : ℕ) → r < 2 ^ 32 → (y : Reading) → read_of f r ≡ y → (g : Fault) → reading_of y ≡ Err g → Small g
unfolding reading_of
told_of f r h (values q m) e g z = let x : ◌≡◌ {A = ℕ} 0 1 = cc in absurd (omega arith)
told_of f r h (unread n p c) e g z =
    let x : p ≡ g.«record» = cc in
    let y : c ≡ g.column = cc in
    record { place = omega (arith, unread_bounds f r n p c e); spot = omega (arith, unread_bounds f r n p c e) }

-- a value of a formed record fits its field
field_fits : (fs : List Field) (vs : List Value) (i : ℕ) (d : Field) → length vs ≡ length fs → formed (entries_of fs vs) ≡ true → i < length fs → fits (get_or fs i d).item (get_or vs i gap) ≡ true
unfolding formed all is_formed entries_of given
field_fits [] vs i d n h k = absurd (omega arith)
field_fits (f ∷ fs) [] i d n h k = absurd (omega (arith, n))
field_fits (f ∷ fs) (v ∷ vs) zero d n h k = (both h).0
field_fits (f ∷ fs) (v ∷ vs) (suc i) d n h k = field_fits fs vs i d (omega (arith, n)) (both h).1 (omega arith)

deviation_most : (v : Value) → fits deviation v ≡ true → nat_of v ≤? 999_999_999 ≡ true
unfolding fits on_number nat_of
deviation_most gap h = absurd (false≢true h)
deviation_most missing h = absurd (false≢true h)
deviation_most (num (pos n)) h = of≤ (to_within (both h).1).1
deviation_most (num (negsuc n)) h = absurd (false≢true h)
deviation_most (text t) h = absurd (false≢true h)
deviation_most (label m d y s t) h = absurd (false≢true h)

-- so the standard deviations of a record that is meant are in their range
module _ (c : List ℕ) (vs : List Value) where
  abbrev Ranged : ℕ → Type 0
  Ranged k = length vs ≡ length (get_or layouts k kept) → formed (entries_of (get_or layouts k kept) vs) ≡ true → in_range (record_from k c (λ i. get_or vs i gap)) ≡ true

  three_ranged : (i j k : ℕ) (fs : List Field) → length vs ≡ length fs → formed (entries_of fs vs) ≡ true → i < length fs → j < length fs → k < length fs
      → (get_or fs i (at 0 deviation)).item ≡ deviation → (get_or fs j (at 0 deviation)).item ≡ deviation → (get_or fs k (at 0 deviation)).item ≡ deviation
      → all (λ n. n ≤? 999_999_999) (nat_of (get_or vs i gap) ∷ nat_of (get_or vs j gap) ∷ nat_of (get_or vs k gap) ∷ []) ≡ true
  unfolding all
  three_ranged i j k fs n h a b d p q r =
      and (deviation_most _ (rw p at (field_fits fs vs i (at 0 deviation) n h a)))
      (and (deviation_most _ (rw q at (field_fits fs vs j (at 0 deviation) n h b))) (and (deviation_most _ (rw r at (field_fits fs vs k (at 0 deviation) n h d))) refl))

  ranged : (k : ℕ) → k < 14 → Ranged k
  unfolding in_range deviations_of record_from layouts all
  ranged = each_kind Ranged (λ n h. refl) (λ n h. refl) (λ n h. refl) (λ n h. refl) (λ n h. refl) (λ n h. refl) (λ n h. refl) (λ n h. refl) (λ n h. refl) (λ n h. refl) (λ n h. refl)
      (λ n h. three_ranged 2 3 5 network n h (lit≤ tt) (lit≤ tt) (lit≤ tt) refl refl refl)
      (λ n h. three_ranged 4 5 7 local n h (lit≤ tt) (lit≤ tt) (lit≤ tt) refl refl refl)
      (λ n h. refl)

record-ranged : (m : Meaning) → meant chapter4 m ≡ true → in_range (record_of m) ≡ true
unfolding meant told known record_of layout
record-ranged m h = ranged m.code m.values (kind_of m.code) (omega (arith, to≤ (both h).0)) (to≡ (both (both h).1).0) (both (both h).1).1

held_as : (n : ℕ) (l : List ℕ) (v : Verdict) → v ≡ read_line chapter4 l → (s : Option ℕ) (w : Record) → reading_of (read_as n l v) ≡ Ok (s, w) → in_range w ≡ true
unfolding read_as reading_of
held_as n l ok e s w z =
    let same : record_of (meaning chapter4 l) ≡ w = (same_values z).1 in
    let reads : is_ok (read_line chapter4 l) ≡ true = rw (← e) (unfold is_ok in refl) in
    subst (λ r. in_range r ≡ true) same (record-ranged (meaning chapter4 l) (line_meant chapter4 l (both (sym (read_line_splits chapter4 l) ∙ reads)).0))
held_as n l (fault a b) e s w z = let x : ◌≡◌ {A = ℕ} 0 1 = cc in absurd (omega arith)

held_of : (f : List ℕ) (r : ℕ) (s : Option ℕ) (w : Record) → reading_of (read_of f r) ≡ Ok (s, w) → in_range w ≡ true
unfolding read_of
held_of f r s w z =
    cases (within 1 99_999 r & r ≤? begun f)
    (λ h. held_as r (line_at f (r - 1)) (read_line chapter4 (line_at f (r - 1))) refl s w (rw h at z))
    (λ h. none s w (rw h at z))
  where
    none : (s : Option ℕ) (w : Record) → reading_of (unread 13 r 0) ≡ Ok (s, w) → in_range w ≡ true
    none s w z = unfold reading_of in let x : ◌≡◌ {A = ℕ} 0 1 = cc in absurd (omega arith)

pub read_told : (f : List ℕ) (r : ℕ) (x : Result (Option ℕ × Record) Fault) → r < 2 ^ 32 → x ≡ reading_of (read_of f r) → Told x
read_told f r x h e = record { small = λ g z. told_of f r h (read_of f r) refl g (sym e ∙ z); held = λ s w z. held_of f r s w (sym e ∙ z) }
