-- The bounds of a fault's number, record and column: they follow from which faults there can be, and the one that is named is one of them and the first.
use mathlib.Core.Path.{◌≡◌, refl, ◌∙◌, ap₂}
use mathlib.Core.Logic.{◌⊎◌, inl, inr}
use mathlib.Core.Bool.{Bool, true, false}
use mathlib.Core.List.{List, [], ◌∷◌, map}
use Prim.Native.Nat.{ℕ, ◌+◌, ◌-◌, ◌≤◌, ◌<◌}
use native.Mathlib.Omega.{arith}
use lib.ListN.{take}
use Rattle.rules.specs.Tests.{all, within, ◌&◌, ◌≤?◌, ◌=?◌}
use Rattle.rules.specs.Items.{Value, width, good, spot}
use Rattle.rules.specs.Fields.{Field, Expect, Entry, Verdict, ok, fault, ◌⨾◌, check, Check, columns_of, read, given, entries_of, covers}
use Rattle.rules.specs.Records.{Meaning, Edition, sequence, code_at, entries, read_line, told, judge_given}
use Rattle.rules.specs.Files.{Result, accept, refuse, is_accept, line_at, begun, form_verdict, reference_verdict, verdict, and_then}
use Rattle.rules.specs.References.{ref_checks}
use Rattle.rules.specs.Faults.{Faults, FileFaults, Fails, Some, ByteFaults, FieldFaults, CheckFaults, stage, phase, Precedes, First, FirstOf, LineFaults, ReadFaults, GivenFaults, RecordFaults, FormFault, ReferenceFault, HasFault}
use Rattle.rules.specs.Calls.{outcome, Answer, answer, unread, read_as, read_of, write_verdict}
use Rattle.rules.specs.Chapter4.{chapter4}
use Rattle.rules.proofs.Truth.{both, and, to≤, of≤, of>, no≤, to≡, to_within, cases, either}
use Rattle.rules.proofs.Lawful.{spot-inside}
use Rattle.rules.proofs.FieldLaws.{covers_end}
use Rattle.rules.proofs.FileLaws.{is_accept_lem}
use Rattle.rules.proofs.FaultLaws.{first_read, first-given}
use Rattle.rules.proofs.FileFaults.{SoundRefs, first_form, first_reference, has_later, first-verdict}
use Rattle.rules.proofs.Chapter4Laws.{layout-covers, sound, sound_refs}

-- a number from lo to hi, in columns 1 to last
abbrev pub Bounds : (lo hi last n c : ℕ) → Type 0
Bounds lo hi last n c = (lo ≤ n) × (n ≤ hi) × (1 ≤ c) × (c ≤ last)

-- ---- one line
byte_bounds : (l : List ℕ) (n c : ℕ) → ByteFaults l n c → Bounds 3 5 81 n c
unfolding ByteFaults
byte_bounds l n c (inl x) = omega (arith, x.0, x.1, x.2)
byte_bounds l n c (inr (inl x)) = omega (arith, x.1, x.4, x.5)
byte_bounds l n c (inr (inr x)) = omega (arith, x.2, x.3)

sequence_bounds : (l : List ℕ) (n c : ℕ) → Fails (good sequence (take 6 l)) 9 (1 + spot sequence (take 6 l)) n c → Bounds 9 9 6 n c
sequence_bounds l n c x = omega (arith, x.1, x.2, inside)
  where
    inside : spot sequence (take 6 l) < 6
    inside = unfold sequence width in spot-inside sequence (take 6 l) (omega arith)

-- a field is named within columns 11-80
unfoldable in_columns : Entry → Bool
in_columns x = 11 ≤? x.column & x.column + x.spot ≤? 80

read_in : (c : ℕ) (fs : List Field) (l : List ℕ) → 11 ≤ c → covers c fs ≡ true → all in_columns (map (read l) fs) ≡ true
unfolding covers all in_columns read
read_in c [] l k h = refl
read_in c (f ∷ fs) l k h =
    let from : f.from ≡ c = to≡ (both (both h).0).0 in
    let end : c + width f.item ≤ 81 = covers_end (c + width f.item) fs (both h).1 in
    let inside : spot f.item (columns_of f l) < width f.item = spot-inside f.item (columns_of f l) (to≤ (both (both h).0).1) in
    and (and (of≤ (omega arith)) (of≤ (omega arith))) (read_in (c + width f.item) fs l (omega arith) (both h).1)

given_in : (c : ℕ) (fs : List Field) (vs : List Value) → 11 ≤ c → covers c fs ≡ true → all in_columns (entries_of fs vs) ≡ true
unfolding covers all in_columns given entries_of
given_in c [] vs k h = refl
given_in c (f ∷ fs) [] k h = refl
given_in c (f ∷ fs) (v ∷ vs) k h =
    let from : f.from ≡ c = to≡ (both (both h).0).0 in
    let end : c + width f.item ≤ 81 = covers_end (c + width f.item) fs (both h).1 in
    and (and (of≤ (omega arith)) (of≤ (omega (arith, to≤ (both (both h).0).1)))) (given_in (c + width f.item) fs vs (omega arith) (both h).1)

field_bounds : (e : Expect) (xs ys : List Entry) (n c : ℕ) → all in_columns ys ≡ true → Some (FieldFaults e xs) ys n c → Bounds 9 10 80 n c
unfolding all in_columns Some
field_bounds e xs [] n c h x = absurd x
field_bounds e xs (y ∷ ys) n c h (inl (inl x)) = omega (arith, x.1, x.2, to≤ (both (both h).0).0, to≤ (both (both h).0).1)
field_bounds e xs (y ∷ ys) n c h (inl (inr x)) = omega (arith, x.1.1, x.1.2, to≤ (both (both h).0).0, to≤ (both (both h).0).1)
field_bounds e xs (y ∷ ys) n c h (inr x) = field_bounds e xs ys n c (both h).1 x

-- ---- references
unfoldable pub is_reference : Check → Bool
is_reference k = within 11 12 k.number & within 1 80 k.column

check_bounds : (ks : List Check) (n c : ℕ) → all is_reference ks ≡ true → Some CheckFaults ks n c → Bounds 11 12 80 n c
unfolding all is_reference Some
check_bounds [] n c h x = absurd x
check_bounds (k ∷ ks) n c h (inl x) = omega (arith, x.1, x.2, to_within (both (both h).0).0, to_within (both (both h).0).1)
check_bounds (k ∷ ks) n c h (inr x) = check_bounds ks n c (both h).1 x

-- what is asked of an edition
pub record Confined {S : Type 0} (E : Edition S) : Type 0 where
  pub covering : (c : List ℕ) → covers 11 (E.layout c) ≡ true
  pub referring : (file : List Meaning) (r : ℕ) (m : Meaning) → all is_reference (E.refs file r m) ≡ true

module _ {S : Type 0} (E : Edition S) (placed : Confined E) where
  entries_in : (l : List ℕ) → all in_columns (entries E l) ≡ true
  unfolding entries
  entries_in l = read_in 11 (E.layout (code_at l)) l (omega arith) (placed.covering (code_at l))

  told_in : (m : Meaning) → all in_columns (told E m) ≡ true
  unfolding told
  told_in m = given_in 11 (E.layout m.code) m.values (omega arith) (placed.covering m.code)

  line_bounds : (s : S) (l : List ℕ) (n c : ℕ) → LineFaults E s l n c → Bounds 3 10 81 n c
  unfolding LineFaults
  line_bounds s l n c (inl x) = omega (arith, byte_bounds l n c x)
  line_bounds s l n c (inr (inl x)) = omega (arith, x.1, x.2)
  line_bounds s l n c (inr (inr (inl x))) = omega (arith, x.1, x.2)
  line_bounds s l n c (inr (inr (inr (inl x)))) = omega (arith, sequence_bounds l n c x)
  line_bounds s l n c (inr (inr (inr (inr x)))) = omega (arith, field_bounds _ (entries E l) (entries E l) n c (entries_in l) x)

  pub read_bounds : (l : List ℕ) (n c : ℕ) → ReadFaults E l n c → Bounds 3 10 81 n c
  unfolding ReadFaults
  read_bounds l n c (inl x) = omega (arith, byte_bounds l n c x)
  read_bounds l n c (inr (inl x)) = omega (arith, x.1, x.2)
  read_bounds l n c (inr (inr (inl x))) = omega (arith, sequence_bounds l n c x)
  read_bounds l n c (inr (inr (inr x))) = omega (arith, field_bounds _ (entries E l) (entries E l) n c (entries_in l) x)

  pub given_bounds : (k : ℕ) (q : Value) (m : Meaning) (n c : ℕ) → GivenFaults E k q m n c → Bounds 9 10 80 n c
  unfolding GivenFaults
  given_bounds k q m n c (inl x) = omega (arith, x.1, x.2)
  given_bounds k q m n c (inr (inl x)) = omega (arith, x.1, x.2)
  given_bounds k q m n c (inr (inr x)) = field_bounds _ (told E m) (told E m) n c (told_in m) x.1

  record-bounds : (s : S) (r : ℕ) (l : List ℕ) (n c : ℕ) → RecordFaults E s r l n c → Bounds 2 10 81 n c
  unfolding RecordFaults
  record-bounds s r l n c (inl x) = omega (arith, x.1, x.2)
  record-bounds s r l n c (inr x) = omega (arith, line_bounds s l n c x)

  -- ---- a file
  pub form_bounds : (f : List ℕ) (n r c : ℕ) → FormFault E f n r c → Bounds 2 10 81 n c × (1 ≤ r) × (r ≤ begun f + 1)
  unfolding FormFault
  form_bounds f n r c (inl x) = omega (arith, x.1, x.2, record-bounds _ r (line_at f x.0) n c x.3)
  form_bounds f n r c (inr x) = omega (arith, x.1, x.2, x.3)

  pub reference_bounds : (f : List ℕ) (n r c : ℕ) → ReferenceFault E f n r c → Bounds 11 12 80 n c × (1 ≤ r) × (r ≤ begun f)
  unfolding ReferenceFault
  reference_bounds f n r c x = omega (arith, x.1, x.2, check_bounds _ n c (placed.referring _ r _) x.3)

  pub has_bounds : (f : List ℕ) (n r c : ℕ) → HasFault E f n r c → Bounds 2 12 81 n c × (1 ≤ r) × (r ≤ begun f + 1)
  unfolding HasFault
  has_bounds f n r c = either (λ x. omega (arith, form_bounds f n r c x)) (λ x. omega (arith, reference_bounds f n r c x))

  -- a record 100,000 that has begun is itself a fault, and nothing behind it comes first
  hundred : (f : List ℕ) → 100_000 ≤ begun f → HasFault E f 2 100_000 1
  unfolding HasFault FormFault RecordFaults
  hundred f h = inl (inl (99_999, omega arith, refl, inl (of> {m = 100_000} {n = 99_999} (omega arith), refl, refl)))

  first_most : SoundRefs E → (f : List ℕ) (n r c : ℕ) → FirstOf (HasFault E f) (refuse n r c) → r ≤ 100_000
  unfolding FirstOf
  first_most refs f n r c first =
      cases (100_000 ≤? begun f) (λ e. stopped (first.1 2 100_000 1 (hundred f (to≤ e)))) (λ e. omega (arith, no≤ e, has_bounds f n r c first.0))
    where
      second : phase 2 ≡ 1
      second = unfold phase stage ◌=?◌ ◌≤?◌ in refl

      stopped : Precedes n r c 2 100_000 1 → r ≤ 100_000
      stopped = unfold Precedes in
          either (λ y. absurd (omega (arith, second, has_later E refs f n r c first.0))) (λ y. either (λ z. omega arith) (λ z. omega (arith, z.0)) y.1)

-- ---- Chapter 4
placed : Confined chapter4
placed = record { covering = layout-covers; referring = λ file r m. unfold all is_reference ref_checks within ◌≤?◌ ◌&◌ in refl }

-- a fault that is named is a fault
named : (R : FileFaults) (v : Result) (n r c : ℕ) → v ≡ refuse n r c → FirstOf R v → R n r c
unfolding FirstOf
named R v n r c e h = (rw e at h).0

-- 01, "Fault numbers": what a file is refused with
verdict_bounds : (f : List ℕ) (n r c : ℕ) → verdict chapter4 f ≡ refuse n r c → Bounds 2 12 81 n c × (r ≤ 100_000)
verdict_bounds f n r c e =
    let first : FirstOf (HasFault chapter4 f) (verdict chapter4 f) = first-verdict chapter4 sound sound_refs f in
    omega (arith, has_bounds chapter4 placed f n r c (named _ _ n r c e first), first_most chapter4 placed sound_refs f n r c (rw e at first))

-- 02, T-05, "the first answers 2 to 10 as in 01"
pub form_refused : (f : List ℕ) (n r c : ℕ) → form_verdict chapter4 f ≡ refuse n r c → (2 ≤ n) × (n ≤ 10) × (r ≤ 100_000) × (c ≤ 81)
form_refused f n r c e =
    let whole : verdict chapter4 f ≡ refuse n r c = unfold verdict and_then in rw e in
    omega (arith, form_bounds chapter4 placed f n r c (named _ _ n r c e (first_form chapter4 sound f)), verdict_bounds f n r c whole)

-- "the second answers 1, then new number 14 (form not good, record and column 0), then 11 and 12 as before"
pub reference_refused : (f : List ℕ) (n r c : ℕ) → is_accept (form_verdict chapter4 f) ≡ true → reference_verdict chapter4 f ≡ refuse n r c → (11 ≤ n) × (n ≤ 12) × (r ≤ 100_000) × (c ≤ 81)
reference_refused f n r c h e =
    let whole : verdict chapter4 f ≡ refuse n r c = unfold verdict and_then in rw (is_accept_lem (form_verdict chapter4 f) h) e in
    omega (arith, reference_bounds chapter4 placed f n r c (named _ _ n r c e (first_reference chapter4 sound_refs f)), verdict_bounds f n r c whole)

pub file_numbers : (f : List ℕ) (n r c : ℕ) → verdict chapter4 f ≡ refuse n r c → (2 ≤ n) × (n ≤ 12)
file_numbers f n r c e = omega (arith, verdict_bounds f n r c e)

outcome_bounds : (enough : Bool) (f : List ℕ) (n r c : ℕ) → outcome enough f ≡ refuse n r c → (1 ≤ n) × (n ≤ 12) × (r ≤ 100_000) × (c ≤ 81)
unfolding outcome
outcome_bounds true f n r c e = omega (arith, verdict_bounds f n r c e)
outcome_bounds false f n r c e =
    let x : 1 ≡ n = cc in
    let y : 0 ≡ r = cc in
    let z : 0 ≡ c = cc in
    omega arith

-- what is answered about a file
pub record Bounded (a : Answer) : Type 0 where
  pub number : a.number ≤ 12
  pub place : a.place ≤ 100_000
  pub column : a.column ≤ 81

bounded : (v : Result) (ms : List Meaning) → ((n r c : ℕ) → v ≡ refuse n r c → (n ≤ 12) × (r ≤ 100_000) × (c ≤ 81)) → Bounded (answer v ms)
unfolding answer
bounded accept ms h = record { number = omega arith; place = omega arith; column = omega arith }
bounded (refuse n r c) ms h = let k = h n r c refl in record { number = k.0; place = k.1; column = k.2 }

pub answer_bounded : (enough : Bool) (f : List ℕ) (ms : List Meaning) → Bounded (answer (outcome enough f) ms)
answer_bounded enough f ms = bounded (outcome enough f) ms (λ n r c e. omega (arith, outcome_bounds enough f n r c e))

pub form_bounded : (f : List ℕ) (ms : List Meaning) → Bounded (answer (form_verdict chapter4 f) ms)
form_bounded f ms = bounded (form_verdict chapter4 f) ms (λ n r c e. omega (arith, form_refused f n r c e))

-- 01, "0: accepted": no refusal has the number 0
zero-accept : (v : Result) (ms : List Meaning) → ((n r c : ℕ) → v ≡ refuse n r c → 1 ≤ n) → (answer v ms).number ≡ 0 → is_accept v ≡ true
unfolding answer is_accept
zero-accept accept ms h e = refl
zero-accept (refuse n r c) ms h e = absurd (omega (arith, h n r c refl))

pub zero_walks : (f : List ℕ) (ms : List Meaning) → (answer (form_verdict chapter4 f) ms).number ≡ 0 → is_accept (form_verdict chapter4 f) ≡ true
zero_walks f ms = zero-accept _ ms (λ n r c e. omega (arith, form_refused f n r c e))

pub zero_accepts : (enough : Bool) (f : List ℕ) (ms : List Meaning) → (answer (outcome enough f) ms).number ≡ 0 → is_accept (outcome enough f) ≡ true
zero_accepts enough f ms = zero-accept (outcome enough f) ms (λ n r c e. omega (arith, outcome_bounds enough f n r c e))

-- ---- read and write
named_here : (R : Faults) (v : Verdict) (n c : ℕ) → v ≡ fault n c → First R v → R n c
unfolding First
named_here R v n c e h = (rw e at h).0

-- what read names of a line is a fault that the line has by itself
pub read_named : (l : List ℕ) (n c : ℕ) → read_line chapter4 l ≡ fault n c → ReadFaults chapter4 l n c
read_named l n c e = named_here _ _ n c e (first_read chapter4 sound l)

pub read-refused : (l : List ℕ) (n c : ℕ) → read_line chapter4 l ≡ fault n c → (3 ≤ n) × (n ≤ 10) × (c ≤ 81)
read-refused l n c e = omega (arith, read_bounds chapter4 placed l n c (read_named l n c e))

-- a record that cannot be read: its line has a fault by itself, or there is no such record
pub unread_why : (f : List ℕ) (r n p c : ℕ) → read_of f r ≡ unread n p c → (r ≡ p) × ((read_line chapter4 (line_at f (r - 1)) ≡ fault n c) ⊎ (13 ≡ n) × (0 ≡ c))
unfolding read_of read_as
unread_why f r n p c e = cases (within 1 99_999 r & r ≤? begun f) (λ t. here _ refl (rw t at e)) (λ t. gone (rw t at e))
  where
    here : (v : Verdict) → read_line chapter4 (line_at f (r - 1)) ≡ v → read_as r (line_at f (r - 1)) v ≡ unread n p c
        → (r ≡ p) × ((read_line chapter4 (line_at f (r - 1)) ≡ fault n c) ⊎ (13 ≡ n) × (0 ≡ c))
    here ok z q = let y : ◌≡◌ {A = ℕ} 0 1 = cc in absurd (omega arith)
    here (fault m d) z q =
        let i : m ≡ n = cc in
        let k : d ≡ c = cc in
        (cc, inl (z ∙ ap₂ fault i k))

    gone : unread 13 r 0 ≡ unread n p c → (r ≡ p) × ((read_line chapter4 (line_at f (r - 1)) ≡ fault n c) ⊎ (13 ≡ n) × (0 ≡ c))
    gone q = (cc, inr (cc, cc))

pub unread_bounds : (f : List ℕ) (r n p c : ℕ) → read_of f r ≡ unread n p c → (r ≡ p) × (3 ≤ n) × (n ≤ 13) × (c ≤ 81)
unread_bounds f r n p c e = let why = unread_why f r n p c e in omega (arith, why.0, by why.1)
  where
    by : (read_line chapter4 (line_at f (r - 1)) ≡ fault n c) ⊎ (13 ≡ n) × (0 ≡ c) → (3 ≤ n) × (n ≤ 13) × (c ≤ 81)
    by (inl h) = omega (arith, read-refused (line_at f (r - 1)) n c h)
    by (inr h) = omega (arith, h.0, h.1)

pub write_bounds : (room k : ℕ) (q : Value) (m : Meaning) (n c : ℕ) → write_verdict room k q m ≡ fault n c → (1 ≤ n) × (n ≤ 10) × (c ≤ 80)
unfolding write_verdict
write_bounds room k q m n c e = cases (81 ≤? room) (λ t. judged (unfold check ◌⨾◌ in (rw t at e))) (λ t. short (unfold check ◌⨾◌ in (rw t at e)))
  where
    judged : judge_given chapter4 k q m ≡ fault n c → (1 ≤ n) × (n ≤ 10) × (c ≤ 80)
    judged z = omega (arith, given_bounds chapter4 placed k q m n c (named_here _ _ n c z (first-given chapter4 sound k q m)))

    short : fault 1 0 ≡ fault n c → (1 ≤ n) × (n ≤ 10) × (c ≤ 80)
    short z =
        let i : 1 ≡ n = cc in
        let j : 0 ≡ c = cc in
        omega arith
