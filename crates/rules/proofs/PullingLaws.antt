-- 02, T-07: what stands for each entry of a pull list, that a pulled record reads back as its values, and that all records of an accepted file pulled in order are the rewritten file.
use mathlib.Core.Path.{◌≡◌, refl, sym, ◌∙◌, ap, ap₂, subst}
use mathlib.Core.Logic.{inl, inr, ◌⊎◌, ◌↔◌}
use mathlib.Core.Bool.{true, false, false≢true}
use mathlib.Core.List.{List, [], ◌∷◌, ◌++◌, map}
use Prim.Native.Nat.{ℕ, zero, suc, ◌+◌, ◌-◌, ◌*◌, ◌≤◌, ◌<◌}
use native.Mathlib.Omega.{arith}
use lib.ListN.{length, take, get_or, replicate}
use lib.IntN.{pos}
use Rattle.rules.specs.Tests.{all, ◌&◌, ◌≤?◌, ◌=?◌, within}
use Rattle.rules.specs.Members.{◌∈◌}
use Rattle.rules.specs.Characters.{is_printable}
use Rattle.rules.specs.Items.{Value, num, value_of}
use Rattle.rules.specs.Fields.{anything, Entry, Verdict, ok, fault, ◌⨾◌, check, is_ok, agreeing}
use Rattle.rules.specs.Records.{Meaning, sequence, bytes, code_at, entries, read_line, meaning, told, style, formed_line, meant}
use Rattle.rules.specs.Files.{accepted, line_at, begun, lines_from, lines, join, meanings, styles, house_style, rewritten, formed_lines, orderly}
use Rattle.rules.specs.Kinds.{starred, kind_of, known}
use Rattle.rules.specs.Chapter4.{Past, chapter4}
use Rattle.rules.specs.Faults.{ByteFaults, Some, FieldFaults, ReadFaults}
use Rattle.rules.specs.Calls.{Reading, values, unread, is_read, read_as, read_of}
use Rattle.rules.specs.Pulling.{blank_line, line_for, fault_for, pulled_line, pulled_fault, pulled_lines, pulled_faults, records_from, every_record}
use Rattle.rules.proofs.Truth.{both, and, of≡, of≤, to≤, to_within, of_within, cases}
use Rattle.rules.proofs.RecordLaws.{judge_line_splits, read_line_splits, judged_reads, line_meant, style-meaning, style-length, style-formed, style-number}
use Rattle.rules.proofs.FileLaws.{is_line, made_long, made_at, accepted-parts}
use Rattle.rules.proofs.Bounds.{read_named, unread_why, unread_bounds}
use Rattle.rules.proofs.Chapter4Laws.{sound}

-- ---- what read gives of a record
-- a record that reads is there, its line reads, and its meaning is the line's
pub record Taken (f : List ℕ) (r : ℕ) (m : Meaning) : Type 0 where
  pub low : 1 ≤ r
  pub high : r ≤ 99_999
  pub there : r ≤ begun f
  pub reads : is_ok (read_line chapter4 (line_at f (r - 1))) ≡ true
  pub means : m ≡ meaning chapter4 (line_at f (r - 1))

pub taken : (f : List ℕ) (r : ℕ) (q : Value) (m : Meaning) → read_of f r ≡ values q m → Taken f r m
unfolding read_of read_as
taken f r q m e = cases (within 1 99_999 r & r ≤? begun f) (λ t. here t _ refl (rw t at e)) (λ t. gone (rw t at e))
  where
    here : within 1 99_999 r & r ≤? begun f ≡ true → (v : Verdict) → read_line chapter4 (line_at f (r - 1)) ≡ v → read_as r (line_at f (r - 1)) v ≡ values q m → Taken f r m
    here t ok z k = record {
      low = (to_within (both t).0).0;
      high = (to_within (both t).0).1;
      there = to≤ (both t).1;
      reads = ap is_ok z ∙ (unfold is_ok in refl);
      means = cc;
    }
    here t (fault n c) z k = let y : ◌≡◌ {A = ℕ} 0 1 = cc in absurd (omega arith)

    gone : unread 13 r 0 ≡ values q m → Taken f r m
    gone k = let y : ◌≡◌ {A = ℕ} 0 1 = cc in absurd (omega arith)

-- a line that reads, as record n of a file
read_as_lem : (n : ℕ) (l : List ℕ) (v : Verdict) → is_ok v ≡ true → read_as n l v ≡ values (value_of sequence (take 6 l)) (meaning chapter4 l)
unfolding read_as is_ok
read_as_lem n l ok h = refl
read_as_lem n l (fault a b) h = absurd (false≢true h)

line_read : (f : List ℕ) (n : ℕ) (l : List ℕ) → within 1 99_999 n & n ≤? begun f ≡ true → line_at f (n - 1) ≡ l → is_ok (read_line chapter4 l) ≡ true
    → read_of f n ≡ values (value_of sequence (take 6 l)) (meaning chapter4 l)
unfolding read_of
line_read f n l t e h = rw (t, e) (read_as_lem n l (read_line chapter4 l) h)

-- ---- a record that reads, in house style
module _ (f : List ℕ) (r : ℕ) (m : Meaning) (its : Taken f r m) where
  parts : (formed_line chapter4 (line_at f (r - 1)) ≡ true) × (agreeing anything (told chapter4 (meaning chapter4 (line_at f (r - 1)))) ≡ true)
  parts = both (sym (read_line_splits chapter4 (line_at f (r - 1))) ∙ its.reads)

  can_mean : meant chapter4 m ≡ true
  can_mean = rw its.means (line_meant chapter4 (line_at f (r - 1)) parts.0)

  styled_long : length (style chapter4 r m) ≡ 81
  styled_long = style-length chapter4 sound r m can_mean its.low its.high

  styled_means : meaning chapter4 (style chapter4 r m) ≡ m
  styled_means = style-meaning chapter4 sound r m can_mean its.low its.high

  styled_reads : is_ok (read_line chapter4 (style chapter4 r m)) ≡ true
  styled_reads =
      read_line_splits chapter4 (style chapter4 r m)
      ∙ and (style-formed chapter4 sound r m can_mean its.low its.high) (rw (styled_means, its.means) parts.1)

  -- wherever its line stands as record n of a file, it reads as 10 times its own record number and the meaning that it had
  pub style_back : (g : List ℕ) (n : ℕ) → within 1 99_999 n & n ≤? begun g ≡ true → line_at g (n - 1) ≡ style chapter4 r m → read_of g n ≡ values (num (pos (10 * r))) m
  style_back g n t e =
      line_read g n (style chapter4 r m) t e styled_reads
      ∙ ap₂ values (style-number chapter4 sound r m can_mean its.low its.high) styled_means

-- a blank line does not read: its columns 7-10 hold no code
blank_bad : read_line chapter4 blank_line ≡ fault 6 7
unfolding read_line blank_line bytes check ◌⨾◌ is_printable within code_at known kind_of starred ◌&◌ ◌≤?◌ ◌=?◌
blank_bad = refl

-- ---- one entry
-- 81 bytes, whether it reads or not
pub line_81 : (f : List ℕ) (r : ℕ) → length (pulled_line f r) ≡ 81
unfolding pulled_line
line_81 f r = by (read_of f r) refl
  where
    by : (x : Reading) → read_of f r ≡ x → length (line_for r x) ≡ 81
    by (values q m) e = unfold line_for in styled_long f r m (taken f r q m e)
    by (unread n p c) e = unfold line_for blank_line in refl

-- ---- the list
all_lines : (f rs : List ℕ) → all is_line (map (pulled_line f) rs) ≡ true
unfolding all is_line
all_lines f [] = refl
all_lines f (r ∷ rs) = and (of≡ (line_81 f r)) (all_lines f rs)

pub pulled_long : (f rs : List ℕ) → length (pulled_lines f rs) ≡ 81 * length rs
unfolding pulled_lines
pulled_long f rs = made_long (pulled_line f) rs (all_lines f rs)

pub pulled_at : (f rs : List ℕ) (i : ℕ) → i < length rs → line_at (pulled_lines f rs) i ≡ pulled_line f (get_or rs i 0)
unfolding pulled_lines
pulled_at f rs = made_at (pulled_line f) rs (all_lines f rs) 0

-- ---- the fault number of an entry: 7, 8, 11 and 12 never show
abbrev pub shown : List ℕ
shown = 0 ∷ 3 ∷ 4 ∷ 5 ∷ 6 ∷ 9 ∷ 10 ∷ 13 ∷ []

field_numbers : (ys xs : List Entry) (n c : ℕ) → Some (FieldFaults anything ys) xs n c → n ∈ shown
unfolding Some ◌∈◌
field_numbers ys [] n c h = absurd h
field_numbers ys (x ∷ xs) n c (inl (inl h)) = inr (inr (inr (inr (inr (inl h.1)))))
field_numbers ys (x ∷ xs) n c (inl (inr h)) = inr (inr (inr (inr (inr (inr (inl h.1.1))))))
field_numbers ys (x ∷ xs) n c (inr h) = field_numbers ys xs n c h

read_numbers : (l : List ℕ) (n c : ℕ) → ReadFaults chapter4 l n c → n ∈ shown
unfolding ReadFaults ByteFaults ◌∈◌
read_numbers l n c (inl (inl x)) = inr (inl x.1)
read_numbers l n c (inl (inr (inl x))) = inr (inr (inl x.4))
read_numbers l n c (inl (inr (inr x))) = inr (inr (inr (inl x.2)))
read_numbers l n c (inr (inl x)) = inr (inr (inr (inr (inl x.1))))
read_numbers l n c (inr (inr (inl x))) = inr (inr (inr (inr (inr (inl x.1)))))
read_numbers l n c (inr (inr (inr x))) = field_numbers (entries chapter4 l) (entries chapter4 l) n c x

thirteen : 13 ∈ shown
unfolding ◌∈◌
thirteen = inr (inr (inr (inr (inr (inr (inr (inl refl)))))))

unread_shown : (f : List ℕ) (r n p c : ℕ) → read_of f r ≡ unread n p c → n ∈ shown
unread_shown f r n p c e = by (unread_why f r n p c e).1
  where
    by : (read_line chapter4 (line_at f (r - 1)) ≡ fault n c) ⊎ (13 ≡ n) × (0 ≡ c) → n ∈ shown
    by (inl h) = read_numbers (line_at f (r - 1)) n c (read_named (line_at f (r - 1)) n c h)
    by (inr h) = subst (λ m. m ∈ shown) h.0 thirteen

pub fault_shown : (f : List ℕ) (r : ℕ) → pulled_fault f r ∈ shown
unfolding pulled_fault
fault_shown f r = by (read_of f r) refl
  where
    by : (x : Reading) → read_of f r ≡ x → fault_for x ∈ shown
    by (values q m) e = unfold fault_for ◌∈◌ in inl refl
    by (unread n p c) e = unfold fault_for in unread_shown f r n p c e

-- 0 exactly for a record that reads
pub zero_reads : (f : List ℕ) (r : ℕ) → (pulled_fault f r ≡ 0) ↔ (is_read (read_of f r) ≡ true)
unfolding pulled_fault
zero_reads f r = by (read_of f r) refl
  where
    by : (x : Reading) → read_of f r ≡ x → (fault_for x ≡ 0) ↔ (is_read x ≡ true)
    by (values q m) e = unfold fault_for is_read in ((λ h. refl), (λ h. refl))
    by (unread n p c) e = unfold fault_for is_read in ((λ h. absurd (omega (arith, h, (unread_bounds f r n p c e).1))), (λ h. absurd (false≢true h)))

-- ---- a blank line
-- no record reads so
pub blank-unread : (g : List ℕ) (n : ℕ) → within 1 99_999 n & n ≤? begun g ≡ true → line_at g (n - 1) ≡ blank_line → read_of g n ≡ unread 6 n 7
unfolding read_of
blank-unread g n t e = rw (t, e, blank_bad) (unfold read_as in refl)

-- and no record in house style is one: it stands exactly where the fault number is not 0
pub blank_exactly : (f : List ℕ) (r : ℕ) → (pulled_line f r ≡ blank_line) ↔ (pulled_fault f r ≡ 0 → ⊥)
unfolding pulled_line pulled_fault
blank_exactly f r = by (read_of f r) refl
  where
    some : (n p c : ℕ) → read_of f r ≡ unread n p c → fault_for (unread n p c) ≡ 0 → ⊥
    some n p c e k = let z : n ≡ 0 = unfold fault_for in k in omega (arith, z, (unread_bounds f r n p c e).1)

    by : (x : Reading) → read_of f r ≡ x → (line_for r x ≡ blank_line) ↔ (fault_for x ≡ 0 → ⊥)
    by (values q m) e = ((λ h. absurd (not-blank h)), (λ h. absurd (h (unfold fault_for in refl))))
      where
        its : Taken f r m
        its = taken f r q m e

        not-blank : line_for r (values q m) ≡ blank_line → ⊥
        not-blank h =
            let same : is_ok (read_line chapter4 blank_line) ≡ true = ap (λ l. is_ok (read_line chapter4 l)) (sym h) ∙ (unfold line_for in styled_reads f r m its) in
            let none : is_ok (read_line chapter4 blank_line) ≡ false = ap is_ok blank_bad ∙ (unfold is_ok in refl) in
            false≢true (sym none ∙ same)
    by (unread n p c) e = ((λ h k. some n p c e k), (λ h. unfold line_for in refl))

-- ---- all records of an accepted file, in order
-- what is accepted reads, record by record
lines-read : (s : Past) (r : ℕ) (ls : List (List ℕ)) → formed_lines chapter4 r ls ≡ true → orderly chapter4 s (map (meaning chapter4) ls) ≡ true
    → all (λ l. is_ok (read_line chapter4 l)) ls ≡ true
unfolding formed_lines orderly all
lines-read s r [] h k = refl
lines-read s r (l ∷ ls) h k =
    and (judged_reads chapter4 s l (judge_line_splits chapter4 s l ∙ and (both (both h).0).1 (both k).0))
    (lines-read (chapter4.next s (meaning chapter4 l)) (r + 1) ls (both h).1 (both k).1)

-- n records from the one behind the first i on
pulled_from : (f : List ℕ) (n i : ℕ) → i + n ≤ begun f → formed_lines chapter4 (i + 1) (lines_from f n i) ≡ true → all (λ l. is_ok (read_line chapter4 l)) (lines_from f n i) ≡ true
    → (pulled_lines f (records_from (i + 1) n) ≡ join (styles chapter4 (i + 1) (map (meaning chapter4) (lines_from f n i)))) × (pulled_faults f (records_from (i + 1) n) ≡ replicate n 0)
unfolding pulled_lines pulled_faults pulled_line pulled_fault line_for fault_for records_from lines_from formed_lines all styles join
pulled_from f zero i m h k = (refl, refl)
pulled_from f (suc n) i m h k =
    let there : within 1 99_999 (i + 1) & i + 1 ≤? begun f ≡ true = and (of_within (omega arith) (to≤ (both (both h).0).0)) (of≤ (omega arith)) in
    let same : line_at f (i + 1 - 1) ≡ line_at f i = ap (line_at f) (omega arith) in
    let read = line_read f (i + 1) (line_at f i) there same (both k).0 in
    let here : line_for (i + 1) (read_of f (i + 1)) ≡ style chapter4 (i + 1) (meaning chapter4 (line_at f i)) = rw read in
    let none : fault_for (read_of f (i + 1)) ≡ 0 = rw read in
    let rest = pulled_from f n (i + 1) (omega arith) (both h).1 (both k).1 in
    (ap₂ ◌++◌ here rest.0, ap₂ ◌∷◌ none rest.1)

pub every_long : (r n : ℕ) → length (records_from r n) ≡ n
unfolding records_from
every_long r zero = refl
every_long r (suc n) = ap suc (every_long (r + 1) n)

pub all_pulled : (f : List ℕ) → accepted chapter4 f ≡ true → (pulled_lines f (every_record f) ≡ rewritten chapter4 f) × (pulled_faults f (every_record f) ≡ replicate (begun f) 0)
unfolding every_record rewritten house_style meanings lines
all_pulled f h =
    let its = accepted-parts chapter4 f h in
    pulled_from f (begun f) 0 (omega arith) its.0 (lines-read chapter4.start 1 (lines f) its.0 its.1)
