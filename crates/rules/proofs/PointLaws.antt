-- 02, T-02, for any edition: a line or a file that is refused with 9 is refused at the column of the sentence, in the field that is named.
use mathlib.Core.Path.{◌≡◌, refl, ap}
use mathlib.Core.Logic.{◌⊎◌, inl, inr}
use mathlib.Core.Bool.{Bool, true, false}
use mathlib.Core.List.{List, [], ◌∷◌, map}
use Prim.Native.Nat.{ℕ, ◌+◌, ◌-◌, ◌≤◌, ◌<◌}
use native.Mathlib.Omega.{arith}
use lib.ListN.{length, take, drop, length-drop}
use lib.Seq.{length-take-le}
use Rattle.rules.specs.Tests.{◌≤?◌, ◌=?◌}
use Rattle.rules.specs.Members.{◌∈◌}
use Rattle.rules.specs.Items.{Value, width, good, spot}
use Rattle.rules.specs.Fields.{Field, Expect, anything, Entry, fault, columns_of, read, given, entries_of, covers}
use Rattle.rules.specs.Layouts.{at}
use Rattle.rules.specs.Records.{Meaning, Edition, sequence, code_at, entries, meaning, judge_line, read_line, told, judge_given}
use Rattle.rules.specs.Beginnings.{NamesIn, Points}
use Rattle.rules.specs.Files.{Result, accept, refuse, line_at, begun, meanings, verdict}
use Rattle.rules.specs.Faults.{Faults, ◌∪◌, Fails, Some, ByteFaults, FieldFaults, stage, phase, Before, Precedes, First, FirstOf, LineFaults, ReadFaults, GivenFaults, RecordFaults, FormFault, ReferenceFault, HasFault, before}
use Rattle.rules.specs.Calls.{answer, outcome, unread, read_of}
use Rattle.rules.specs.Chapter4.{chapter4}
use Rattle.rules.proofs.Truth.{both, to≤, no≤, to≡, cases, either}
use Rattle.rules.proofs.BeginningLaws.{spot-named}
use Rattle.rules.proofs.FieldLaws.{covers_end}
use Rattle.rules.proofs.RecordLaws.{Sound}
use Rattle.rules.proofs.FaultLaws.{first_line, first_read, first-given}
use Rattle.rules.proofs.FileFaults.{SoundRefs, early, late_phase, first-verdict}
use Rattle.rules.proofs.Chapter4Laws.{sound, sound_refs}
use Rattle.rules.proofs.Bounds.{unread_why}

-- ---- one field of a line that is long enough
field_named : (f : Field) (l : List ℕ) (c : ℕ) → 1 ≤ width f.item → 1 ≤ f.from → f.from + width f.item ≤ 81 → 80 ≤ length l
    → good f.item (columns_of f l) ≡ false → c ≡ f.from + spot f.item (columns_of f l) → NamesIn f l c
unfolding NamesIn
field_named f l c some from end long bad e = (spot f.item (columns_of f l), e, spot-named f.item (columns_of f l) size bad some)
  where
    size : length (columns_of f l) ≡ width f.item
    size = unfold columns_of in length-take-le (width f.item) (drop (f.from - 1) l) (omega (arith, length-drop (f.from - 1) l))

fields_named : (e : Expect) (xs : List Entry) (l : List ℕ) → 80 ≤ length l → (from : ℕ) (fs : List Field) → 1 ≤ from → covers from fs ≡ true → (n c : ℕ) → n ≡ 9
    → Some (FieldFaults e xs) (map (read l) fs) n c → (f : Field) × (f ∈ fs) × NamesIn f l c
unfolding covers Some read ◌∈◌
fields_named e xs l long from [] p h n c k x = absurd x
fields_named e xs l long from (f ∷ fs) p h n c k (inl (inl x)) =
    let here : f.from ≡ from = to≡ (both (both h).0).0 in
    let end = covers_end (from + width f.item) fs (both h).1 in
    (f, inl refl, field_named f l c (to≤ (both (both h).0).1) (omega arith) (omega arith) long x.0 x.2)
fields_named e xs l long from (f ∷ fs) p h n c k (inl (inr x)) = absurd (omega (arith, x.1.1))
fields_named e xs l long from (f ∷ fs) p h n c k (inr x) =
    let more = fields_named e xs l long (from + width f.item) fs (omega arith) (both h).1 n c k x in (more.0, inr more.1, more.2)

-- ---- the bytes have no fault from 6 on
pub not-bytes : (l : List ℕ) (n c : ℕ) → 6 ≤ n → ByteFaults l n c → ⊥
unfolding ByteFaults
not-bytes l n c h (inl x) = omega (arith, x.1)
not-bytes l n c h (inr (inl x)) = omega (arith, x.4)
not-bytes l n c h (inr (inr x)) = omega (arith, x.2)

-- ---- what would go before 9 is not there
stage_9 : stage 9 ≡ 4
unfolding stage
stage_9 = refl

none_before : (c n d : ℕ) → stage n ≤ 3 → Before 9 c n d → ⊥
unfolding Before
none_before c n d h (inl x) = absurd (omega (arith, stage_9))
none_before c n d h (inr x) = absurd (omega (arith, stage_9, x.0))

none_precedes : (r c n d : ℕ) → Precedes 9 r c n r d → Before 9 c n d ⊎ (phase n ≡ 1 → ⊥)
unfolding Precedes
none_precedes r c n d (inl x) = inr (λ e. omega (arith, phase_9))
  where
    phase_9 : phase 9 ≡ 1
    phase_9 = unfold phase stage ◌=?◌ ◌≤?◌ in refl
none_precedes r c n d (inr (e, inl x)) = absurd (omega arith)
none_precedes r c n d (inr (e, inr x)) = inl x.1

module _ {S : Type 0} (E : Edition S) (is-sound : Sound E) where
  -- the tail of a line, where 9 is
  Tail : Expect → List ℕ → Faults
  Tail e l = Fails (good sequence (take 6 l)) 9 (1 + spot sequence (take 6 l)) ∪ Some (FieldFaults e (entries E l)) (entries E l)

  tail_points : (e : Expect) (l : List ℕ) → 80 ≤ length l → E.known (code_at l) ≡ true → (c : ℕ) → Tail e l 9 c → Points E l c
  unfolding Tail Points
  tail_points e l long known c (inl x) = inl (field_named (at 1 sequence) l c some (omega arith) end long (unfold columns_of sequence width in x.0) (unfold columns_of sequence width in x.2))
    where
      some : 1 ≤ width sequence
      some = unfold sequence width in omega arith

      end : 1 + width sequence ≤ 81
      end = unfold sequence width in omega arith
  tail_points e l long known c (inr x) = inr (fields_named e (entries E l) l long 11 (E.layout (code_at l)) (omega arith) (is-sound.filled (code_at l) known) 9 c refl (unfold entries in x))

  -- where 9 is the first of faults among which are those of bytes and code, the line is whole and its code known
  reached : (l : List ℕ) (R : Faults) → ((n d : ℕ) → ByteFaults l n d → R n d) → ((n d : ℕ) → Fails (E.known (code_at l)) 6 7 n d → R n d)
      → ((n d : ℕ) → stage n ≤ 3 → R n d → ⊥) → (80 ≤ length l) × (E.known (code_at l) ≡ true)
  unfolding ByteFaults
  reached l R bytes code none = (
    cases (81 ≤? length l) (λ e. omega (arith, to≤ e)) (λ e. absurd (none 3 (length l + 1) early_3 (bytes 3 (length l + 1) (inl (omega (arith, no≤ e), refl, refl))))),
    cases (E.known (code_at l)) (λ e. e) (λ e. absurd (none 6 7 early_6 (code 6 7 (e, refl, refl)))),
  )
    where
      early_3 : stage 3 ≤ 3
      early_3 = unfold stage in omega arith

      early_6 : stage 6 ≤ 3
      early_6 = unfold stage in omega arith

  -- 9 among the faults of a line, and none before it
  line_named : (s : S) (l : List ℕ) (c : ℕ) → LineFaults E s l 9 c → ((n d : ℕ) → stage n ≤ 3 → LineFaults E s l n d → ⊥) → Points E l c
  unfolding LineFaults
  line_named s l c (inl x) none = absurd (not-bytes l 9 c (omega arith) x)
  line_named s l c (inr (inl x)) none = absurd (omega (arith, x.1))
  line_named s l c (inr (inr (inl x))) none = absurd (omega (arith, x.1))
  line_named s l c (inr (inr (inr x))) none =
      let k = reached l (LineFaults E s l) (λ n d y. inl y) (λ n d y. inr (inl y)) none in
      tail_points (E.expects s (code_at l)) l k.0 k.1 c (unfold Tail in x)

  read_named : (l : List ℕ) (c : ℕ) → ReadFaults E l 9 c → ((n d : ℕ) → stage n ≤ 3 → ReadFaults E l n d → ⊥) → Points E l c
  unfolding ReadFaults
  read_named l c (inl x) none = absurd (not-bytes l 9 c (omega arith) x)
  read_named l c (inr (inl x)) none = absurd (omega (arith, x.1))
  read_named l c (inr (inr x)) none =
      let k = reached l (ReadFaults E l) (λ n d y. inl y) (λ n d y. inr (inl y)) none in tail_points anything l k.0 k.1 c (unfold Tail in x)

  -- ---- one record, judged in its place and by itself
  pub line_points : (s : S) (l : List ℕ) (c : ℕ) → judge_line E s l ≡ fault 9 c → Points E l c
  unfolding First
  line_points s l c e =
      let first = rw e at (first_line E is-sound s l) in line_named s l c first.0 (λ n d h x. none_before c n d h (first.1 n d x))

  pub read-points : (l : List ℕ) (c : ℕ) → read_line E l ≡ fault 9 c → Points E l c
  unfolding First
  read-points l c e =
      let first = rw e at (first_read E is-sound l) in read_named l c first.0 (λ n d h x. none_before c n d h (first.1 n d x))

  -- ---- a file
  module _ (refs : SoundRefs E) (f : List ℕ) (r c : ℕ) (least : (n k d : ℕ) → HasFault E f n k d → Precedes 9 r c n k d) where
    nothing-before : (i : ℕ) → i < begun f → r ≡ i + 1 → (n d : ℕ) → stage n ≤ 3 → LineFaults E (before E f i) (line_at f i) n d → ⊥
    unfolding HasFault FormFault RecordFaults
    nothing-before i h e n d k x =
        either (none_before c n d k) (λ g. g (early n (omega arith))) (none_precedes r c n d (least n r d (inl (inl (i, h, e, inr x)))))

    has_named : HasFault E f 9 r c → Points E (line_at f (r - 1)) c
    unfolding HasFault FormFault ReferenceFault RecordFaults
    has_named (inl (inl (i, h, e, inl x))) = absurd (omega (arith, x.1))
    has_named (inl (inl (i, h, e, inr x))) =
        let same : r - 1 ≡ i = omega arith in rw same (line_named (before E f i) (line_at f i) c x (nothing-before i h e))
    has_named (inl (inr x)) = absurd (omega (arith, x.1))
    has_named (inr x) = absurd (omega (arith, late_phase (E.refs (meanings E f) r (meaning E (line_at f x.0))) (refs.late _ r _) 9 c x.3, early 9 (omega (arith, stage_9))))

  pub file_points : SoundRefs E → (f : List ℕ) (r c : ℕ) → verdict E f ≡ refuse 9 r c → Points E (line_at f (r - 1)) c
  unfolding FirstOf
  file_points refs f r c e = let first = rw e at (first-verdict E is-sound refs f) in has_named refs f r c first.1 first.0

  -- ---- 02, "write still names the field's first column"
  told-first : (e : Expect) (xs : List Entry) (fs : List Field) (vs : List Value) (n c : ℕ) → Some (FieldFaults e xs) (entries_of fs vs) n c → (f : Field) × (f ∈ fs) × (c ≡ f.from)
  unfolding Some entries_of given ◌∈◌
  told-first e xs [] vs n c x = absurd x
  told-first e xs (f ∷ fs) [] n c x = absurd x
  told-first e xs (f ∷ fs) (v ∷ vs) n c (inl (inl x)) = (f, inl refl, omega (arith, x.2))
  told-first e xs (f ∷ fs) (v ∷ vs) n c (inl (inr x)) = (f, inl refl, x.1.2)
  told-first e xs (f ∷ fs) (v ∷ vs) n c (inr x) = let more = told-first e xs fs vs n c x in (more.0, inr more.1, more.2)

  pub given-first : (k : ℕ) (q : Value) (m : Meaning) (n c : ℕ) → judge_given E k q m ≡ fault n c → (c ≡ 1) ⊎ ((c ≡ 7) ⊎ ((f : Field) × (f ∈ E.layout m.code) × (c ≡ f.from)))
  unfolding First GivenFaults
  given-first k q m n c e = by (rw e at (first-given E is-sound k q m)).0
    where
      by : GivenFaults E k q m n c → (c ≡ 1) ⊎ ((c ≡ 7) ⊎ ((f : Field) × (f ∈ E.layout m.code) × (c ≡ f.from)))
      by = unfold GivenFaults in either (λ x. inl x.2) (either (λ x. inr (inl x.2)) (λ x. inr (inr (told-first anything (told E m) (E.layout m.code) m.values n c (unfold told in x.1)))))

-- ---- Chapter 4: what the calls answer
pub answer_refuses : (k : ℕ) (v : Result) (ms : List Meaning) → (answer v ms).number ≡ k + 1 → v ≡ refuse (k + 1) (answer v ms).place (answer v ms).column
unfolding answer
answer_refuses k accept ms e = absurd (omega arith)
answer_refuses k (refuse n r c) ms e = ap (λ m. refuse m r c) e

-- form and references together, and rewrite
pub answer_points : (enough : Bool) (f : List ℕ) (ms : List Meaning) → (answer (outcome enough f) ms).number ≡ 9
    → Points chapter4 (line_at f ((answer (outcome enough f) ms).place - 1)) (answer (outcome enough f) ms).column
answer_points enough f ms e = by enough (answer_refuses 8 (outcome enough f) ms e)
  where
    by : (b : Bool) {r c : ℕ} → outcome b f ≡ refuse 9 r c → Points chapter4 (line_at f (r - 1)) c
    by true {r} {c} k = file_points chapter4 sound sound_refs f r c (unfold outcome in k)
    by false k = let z : ◌≡◌ {A = ℕ} 1 9 = unfold outcome in cc in absurd (omega arith)

-- read
pub unread-points : (f : List ℕ) (r p c : ℕ) → read_of f r ≡ unread 9 p c → Points chapter4 (line_at f (r - 1)) c
unread-points f r p c e = by (unread_why f r 9 p c e).1
  where
    by : (read_line chapter4 (line_at f (r - 1)) ≡ fault 9 c) ⊎ (◌≡◌ {A = ℕ} 13 9) × (0 ≡ c) → Points chapter4 (line_at f (r - 1)) c
    by (inl h) = read-points chapter4 sound (line_at f (r - 1)) c h
    by (inr h) = absurd (omega (arith, h.0))
