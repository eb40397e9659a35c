-- 02, T-01: an input has one reading as lines, the verdict on it is its first fault, and what is padded is its lines and blanks, and nothing else.
use mathlib.Core.Path.{◌≡◌, refl, sym, ◌∙◌, ap, ap₂}
use mathlib.Core.Logic.{◌⊎◌, inl, inr, ◌↔◌}
use mathlib.Core.Bool.{Bool, true, cond, false≢true}
use mathlib.Core.List.{List, [], ◌∷◌, ◌++◌, append_assoc, map}
use Prim.Native.Nat.{ℕ, zero, suc, ◌+◌, ◌-◌, ◌*◌, ◌≤◌, ◌<◌}
use native.Mathlib.Omega.{arith}
use lib.ListN.{length, length-append, length-map, length-replicate, replicate-append-replicate, get_or, take, drop, replicate}
use lib.Seq.{take_all, take_at, take-add, drop-drop, get_or_at, ext_get_or}
use Rattle.rules.specs.Tests.{◌&◌, ◌≤?◌, ◌=?◌, all}
use Rattle.rules.specs.Members.{◌∈◌}
use Rattle.rules.specs.Characters.{is_printable}
use Rattle.rules.specs.Fields.{◌⨾◌, check, is_ok}
use Rattle.rules.specs.Records.{Edition, bytes, formed_line}
use Rattle.rules.specs.Files.{Result, accept, refuse, is_accept, in_record, and_then, line_at, begun, lines_from, lines, join, accepted, formed_lines}
use Rattle.rules.specs.Chapter4.{chapter4}
use Rattle.rules.specs.Padding.{End, lf, crlf, closing, Line, end_bytes, bytes_of, EndsBefore, Lined, Reads, line, behind, joined, lines_of, texts, padded_line, padded, judge_texts, pad_verdict, PadFaults, PadPrecedes, PadFirst, Alike, OnlyTrimmed}
use Rattle.rules.proofs.Truth.{both, and, to≤, of≤, no≤, to≡, of≡, of≢, no≡, to_within, cases, either, all-parts, all_weaken, all-at, map_at, all_members}
use Rattle.rules.proofs.FieldLaws.{is_ok_⨾, is_ok_check}
use Rattle.rules.proofs.FileLaws.{is_accept_lem, in_record-accept, is_line, made_long, made_lines, made_at, length-take_most, accepted-parts}

-- ---- the lines of an input: one reading
never_empty : (x : List ℕ) → [] ≡ x ++ (13 ∷ []) → ⊥
never_empty x e = omega (arith, ap length e, length-append x (13 ∷ []))

-- a line of one byte ends with that byte
one_byte : (b : ℕ) (x : List ℕ) → b ∷ [] ≡ x ++ (13 ∷ []) → b ≡ 13
one_byte b [] e = cc
one_byte b (y ∷ x) e = absurd (never_empty x (cc))

-- the last byte of a longer line is that of the line without its first byte
longer : (b c : ℕ) (t x : List ℕ) → ((y : List ℕ) → c ∷ t ≡ y ++ (13 ∷ []) → ⊥) → b ∷ c ∷ t ≡ x ++ (13 ∷ []) → ⊥
longer b c t [] h e = omega (arith, ap length e)
longer b c t (y ∷ x) h e = h x (cc)

behind-bytes : (b : ℕ) (t : List ℕ) (e : End) (ls : List Line) → bytes_of (behind b t e ∷ ls) ≡ b ∷ (t ++ (end_bytes e ++ bytes_of ls))
unfolding bytes_of behind end_bytes line
behind-bytes b [] lf ls = cases (b =? 13) (λ h. rw h (ap (λ x. x ∷ 10 ∷ bytes_of ls) (sym (to≡ h)))) (λ h. rw h)
behind-bytes b [] crlf ls = refl
behind-bytes b [] closing ls = refl
behind-bytes b (c ∷ t) e ls = refl

none_in : (b : ℕ) (t : List ℕ) → (b ≡ 10 → ⊥) → (10 ∈ t → ⊥) → 10 ∈ (b ∷ t) → ⊥
unfolding ◌∈◌
none_in b t n h (inl e) = n (sym e)
none_in b t n h (inr m) = h m

behind-lined : (b : ℕ) (t : List ℕ) (e : End) (ls : List Line) → (b ≡ 10 → ⊥) → Lined (line t e ∷ ls) → Lined (behind b t e ∷ ls)
unfolding Lined behind line EndsBefore
behind-lined b [] lf ls n h = cases (b =? 13) (λ k. rw k ((λ m. h.0 m), tt, h.2)) (λ k. rw k (none_in b [] n h.0, (λ x e. no≡ k (one_byte b x e)), h.2))
behind-lined b [] crlf ls n h = (none_in b [] n h.0, tt, h.2)
behind-lined b [] closing ls n h = absurd (h.1.0 refl)
behind-lined b (c ∷ t) lf ls n h = (none_in b (c ∷ t) n h.0, (λ x e. longer b c t x h.1 e), h.2)
behind-lined b (c ∷ t) crlf ls n h = (none_in b (c ∷ t) n h.0, tt, h.2)
behind-lined b (c ∷ t) closing ls n h = (none_in b (c ∷ t) n h.0, ((λ e. omega (arith, ap length e)), h.1.1), h.2)

joined_reads : (b : ℕ) (f : List ℕ) (ls : List Line) → (b ≡ 10 → ⊥) → Reads f ls → Reads (b ∷ f) (joined b ls)
unfolding joined
joined_reads b f [] n r = record {
  every_byte = unfold bytes_of line end_bytes in ap (b ∷◌) r.every_byte;
  lined = unfold Lined line EndsBefore ◌∈◌ in (none_in b [] n (λ m. m), ((λ e. omega (arith, ap length e)), refl), tt);
}
joined_reads b f (l ∷ ls) n r = record {
  every_byte = unfold bytes_of in ap (b ∷◌) r.every_byte ∙ sym (behind-bytes b l.text l.end ls);
  lined = behind-lined b l.text l.end ls n (unfold Lined line in r.lined);
}

lf_reads : (f : List ℕ) (ls : List Line) → Reads f ls → Reads (10 ∷ f) (line [] lf ∷ ls)
lf_reads f ls r = record {
  every_byte = unfold bytes_of line end_bytes in ap (10 ∷◌) r.every_byte;
  lined = unfold Lined line EndsBefore ◌∈◌ in ((λ m. m), never_empty, r.lined);
}

-- the lines of an input are a reading of it
pub lines-read : (f : List ℕ) → Reads f (lines_of f)
unfolding lines_of
lines-read [] = record { every_byte = unfold bytes_of in refl; lined = unfold Lined in tt }
lines-read (b ∷ f) =
    cases (b =? 10)
    (λ h. rw (h, to≡ h) (lf_reads f (lines_of f) (lines-read f)))
    (λ h. rw h (joined_reads b f (lines_of f) (no≡ h) (lines-read f)))

-- a byte before a line joins its text, where the longer line may end so
behind_back : (b : ℕ) (t : List ℕ) (e : End) (ls : List Line) → EndsBefore (b ∷ t) e ls → behind b t e ≡ line (b ∷ t) e
unfolding EndsBefore behind
behind_back b [] lf ls h = rw (of≢ (λ k. h [] (ap (◌∷ []) k)))
behind_back b [] crlf ls h = refl
behind_back b [] closing ls h = refl
behind_back b (c ∷ t) e ls h = refl

shorter : (b c : ℕ) (t : List ℕ) (e : End) (ls : List Line) → EndsBefore (b ∷ c ∷ t) e ls → EndsBefore (c ∷ t) e ls
unfolding EndsBefore
shorter b c t lf ls h = λ x e. h (b ∷ x) (ap (b ∷◌) e)
shorter b c t crlf ls h = tt
shorter b c t closing ls h = ((λ e. omega (arith, ap length e)), h.1)

-- lines that are read back, and a line with its end before them
module _ (ls : List Line) (r : lines_of (bytes_of ls) ≡ ls) where
  back_end : (e : End) → EndsBefore [] e ls → lines_of (end_bytes e ++ bytes_of ls) ≡ line [] e ∷ ls
  unfolding end_bytes lines_of EndsBefore joined behind line ◌=?◌
  back_end lf h = ap (line [] lf ∷◌) r
  back_end crlf h = ap (line [] crlf ∷◌) r
  back_end closing h = absurd (h.0 refl)

  back_byte : (b : ℕ) (t : List ℕ) (e : End) → (b ≡ 10 → ⊥) → EndsBefore (b ∷ t) e ls → lines_of (t ++ (end_bytes e ++ bytes_of ls)) ≡ line t e ∷ ls
      → lines_of (b ∷ (t ++ (end_bytes e ++ bytes_of ls))) ≡ line (b ∷ t) e ∷ ls
  unfolding lines_of joined line
  back_byte b t e n h k = rw (of≢ n, k) (ap (◌∷ ls) (behind_back b t e ls h))

  back_one : (b : ℕ) (e : End) → (b ≡ 10 → ⊥) → EndsBefore (b ∷ []) e ls → lines_of (b ∷ (end_bytes e ++ bytes_of ls)) ≡ line (b ∷ []) e ∷ ls
  unfolding EndsBefore
  back_one b lf n h = back_byte b [] lf n h (back_end lf never_empty)
  back_one b crlf n h = back_byte b [] crlf n h (back_end crlf tt)
  back_one b closing n h = unfold lines_of end_bytes bytes_of joined in rw (of≢ n, h.1)

  back_line : (t : List ℕ) (e : End) → (10 ∈ t → ⊥) → EndsBefore t e ls → lines_of (t ++ (end_bytes e ++ bytes_of ls)) ≡ line t e ∷ ls
  unfolding ◌∈◌
  back_line [] e n h = back_end e h
  back_line (b ∷ []) e n h = back_one b e (λ x. n (inl (sym x))) h
  back_line (b ∷ c ∷ t) e n h = back_byte b (c ∷ t) e (λ x. n (inl (sym x))) h (back_line (c ∷ t) e (λ m. n (inr m)) (shorter b c t e ls h))

-- the bytes of lines that may stand so are read as these lines
pub back : (ls : List Line) → Lined ls → lines_of (bytes_of ls) ≡ ls
unfolding Lined bytes_of lines_of
back [] h = refl
back (l ∷ ls) h = back_line ls (back ls h.2) l.text l.end h.0 h.1 ∙ (unfold line in refl)

-- exactly one list of lines with ends is a reading of an input
pub one_reading : (f : List ℕ) (ls : List Line) → Reads f ls ↔ (ls ≡ lines_of f)
one_reading f ls = ((λ r. sym (ap lines_of r.every_byte ∙ back ls r.lined)), (λ e. rw e (lines-read f)))

-- ---- the verdict is the first fault
-- the faults of the texts from record r on
unfoldable pub TextFaults : ℕ → List (List ℕ) → (n k c : ℕ) → Type 0
TextFaults r ts n k c =
    (i : ℕ) × (i < length ts) × (k ≡ i + r)
    × (((100_000 ≤ k) × (n ≡ 2) × (c ≡ 1)) ⊎ ((80 < length (get_or ts i [])) × (n ≡ 5) × (c ≡ 81)))

-- the earliest record first, 2 before 5
unfoldable pub TextFirst : ℕ → List (List ℕ) → Result → Type 0
TextFirst r ts accept = (n k c : ℕ) → TextFaults r ts n k c → ⊥
TextFirst r ts (refuse n k c) = TextFaults r ts n k c × ((n' k' c' : ℕ) → TextFaults r ts n' k' c' → (k < k') ⊎ ((k ≡ k') × (n ≤ n')))

-- a fault of a text is one of the first text or one of the others
first-or_later : (r : ℕ) (t : List ℕ) (ts : List (List ℕ)) (n k c : ℕ) → TextFaults r (t ∷ ts) n k c
    → ((k ≡ r) × (((100_000 ≤ r) × (n ≡ 2)) ⊎ ((80 < length t) × (n ≡ 5)))) ⊎ TextFaults (r + 1) ts n k c
unfolding TextFaults
first-or_later r t ts n k c (zero, i, e, x) =
    let same : k ≡ r = omega arith in inl (same, either (λ y. inl (omega (arith, y.0), y.1)) (λ y. inr (y.0, y.1)) x)
first-or_later r t ts n k c (suc i, h, e, x) = inr (i, omega arith, omega arith, x)

later : (r : ℕ) (t : List ℕ) (ts : List (List ℕ)) (n k c : ℕ) → TextFaults (r + 1) ts n k c → TextFaults r (t ∷ ts) n k c
unfolding TextFaults
later r t ts n k c (i, h, e, x) = (suc i, omega arith, omega arith, x)

from_record : (r : ℕ) (ts : List (List ℕ)) (n k c : ℕ) → TextFaults r ts n k c → (r ≤ k) × (2 ≤ n)
unfolding TextFaults
from_record r ts n k c (i, h, e, inl x) = (omega arith, omega (arith, x.1))
from_record r ts n k c (i, h, e, inr x) = (omega arith, omega (arith, x.1))

module _ (r : ℕ) (t : List ℕ) (ts : List (List ℕ)) where
  -- a text without a fault leaves the first fault to the others
  all_later : r ≤ 99_999 → length t ≤ 80 → (n k c : ℕ) → TextFaults r (t ∷ ts) n k c → TextFaults (r + 1) ts n k c
  all_later p q n k c x = either (λ y. absurd (either (λ z. omega (arith, z.0)) (λ z. omega (arith, z.0)) y.1)) (λ y. y) (first-or_later r t ts n k c x)

  passes_on : r ≤ 99_999 → length t ≤ 80 → (v : Result) → TextFirst (r + 1) ts v → TextFirst r (t ∷ ts) v
  unfolding TextFirst
  passes_on p q accept h = λ n k c x. h n k c (all_later p q n k c x)
  passes_on p q (refuse n k c) h = (later r t ts n k c h.0, λ n' k' c' x. h.1 n' k' c' (all_later p q n' k' c' x))

  first_here : (n c : ℕ) → TextFaults r (t ∷ ts) n r c → ((99_999 < r) × (n ≡ 2)) ⊎ ((r ≤ 99_999) × (n ≡ 5)) → TextFirst r (t ∷ ts) (refuse n r c)
  unfolding TextFirst
  first_here n c x y = (
    x,
    λ n' k' c' z. either
        (λ u. inr (sym u.0, lowest n' u.1 y))
        (λ u. inl (omega (arith, (from_record (r + 1) ts n' k' c' u).0)))
        (first-or_later r t ts n' k' c' z),
  )
    where
      lowest : (n' : ℕ) → ((100_000 ≤ r) × (n' ≡ 2)) ⊎ ((80 < length t) × (n' ≡ 5)) → ((99_999 < r) × (n ≡ 2)) ⊎ ((r ≤ 99_999) × (n ≡ 5)) → n ≤ n'
      lowest n' (inl a) (inl b) = omega (arith, a.1, b.1)
      lowest n' (inl a) (inr b) = omega (arith, a.0, b.0)
      lowest n' (inr a) (inl b) = omega (arith, a.1, b.1)
      lowest n' (inr a) (inr b) = omega (arith, a.1, b.1)

texts-first : (r : ℕ) (ts : List (List ℕ)) → TextFirst r ts (judge_texts r ts)
unfolding judge_texts in_record check ◌⨾◌
texts-first r [] = unfold TextFirst TextFaults in λ n k c x. omega (arith, x.1)
texts-first r (t ∷ ts) =
    cases (r ≤? 99_999)
    (λ p. rw p (cases (length t ≤? 80)
    (λ q. rw q (passes_on r t ts (to≤ p) (to≤ q) (judge_texts (r + 1) ts) (texts-first (r + 1) ts)))
    (λ q. rw q (first_here r t ts 5 81 (unfold TextFaults in (0, omega arith, omega arith, inr (no≤ q, refl, refl))) (inr (to≤ p, refl))))))
    (λ p. rw p (first_here r t ts 2 1 (unfold TextFaults in (0, omega arith, omega arith, inl (no≤ p, refl, refl))) (inl (no≤ p, refl))))

-- a fault's number tells its column
unfoldable pub column_of : ℕ → ℕ
column_of n = get_or (0 ∷ 0 ∷ 1 ∷ 0 ∷ 0 ∷ 81 ∷ []) n 0

-- of two faults neither of which comes after the other, number and record are the same
level : (n r n' r' : ℕ) → (n ≡ 1 → r ≡ 0) → (n' ≡ 1 → r' ≡ 0) → PadPrecedes n r n' r' → PadPrecedes n' r' n r → (n ≡ n') × (r ≡ r')
unfolding PadPrecedes
level n r n' r' h h' (inl x) (inl y) = (cc, h y ∙ sym (h' x))
level n r n' r' h h' (inl x) (inr y) = absurd (y.0 x)
level n r n' r' h h' (inr x) (inl y) = absurd (x.0 y)
level n r n' r' h h' (inr (a, inl x)) (inr (b, inl y)) = absurd (omega arith)
level n r n' r' h h' (inr (a, inl x)) (inr (b, inr y)) = absurd (omega (arith, y.0))
level n r n' r' h h' (inr (a, inr x)) (inr (b, inl y)) = absurd (omega (arith, x.0))
level n r n' r' h h' (inr (a, inr x)) (inr (b, inr y)) = (omega (arith, x.1, y.1), x.0)

module _ (f : List ℕ) (room : ℕ) where
  then_room : (v : Result) → TextFirst 1 (texts f) v → PadFirst f room (and_then v (cond (81 * length (texts f) ≤? room) accept (refuse 1 0 0)))
  unfolding TextFirst TextFaults PadFirst PadFaults PadPrecedes and_then
  then_room accept h =
      cases (81 * length (texts f) ≤? room)
      (λ p. rw p (λ n r c. either (h n r c) (λ y. omega (arith, y.0, to≤ p))))
      (λ p. rw p (inr (no≤ p, refl, refl, refl), λ n r c. either (λ x. absurd (h n r c x)) (λ y. inl y.1)))
  then_room (refuse n r c) h = (
    inl h.0,
    λ n' r' c'. either (λ x. inr ((λ e. omega (arith, e, (from_record 1 (texts f) n r c h.0).1)), h.1 n' r' c' x)) (λ y. inl y.1),
  )

  -- the verdict is the first of all faults of the input, the room counted in
  pub pad_first : PadFirst f room (pad_verdict f room)
  unfolding pad_verdict
  pad_first = then_room (judge_texts 1 (texts f)) (texts-first 1 (texts f))

  -- 1 is at no record
  told_by : (n r c : ℕ) → PadFaults f room n r c → (c ≡ column_of n) × (n ≡ 1 → r ≡ 0)
  unfolding PadFaults column_of
  told_by n r c (inl (i, h, e, inl x)) = (rw x.1 x.2, λ y. omega (arith, x.1))
  told_by n r c (inl (i, h, e, inr x)) = (rw x.1 x.2, λ y. omega (arith, x.1))
  told_by n r c (inr x) = (rw x.1 x.3, λ y. x.2)

  one_pad_first : (u v : Result) → PadFirst f room u → PadFirst f room v → u ≡ v
  unfolding PadFirst
  one_pad_first accept accept p q = refl
  one_pad_first accept (refuse n r c) p q = absurd (p n r c q.0)
  one_pad_first (refuse n r c) accept p q = absurd (q n r c p.0)
  one_pad_first (refuse n r c) (refuse n' r' c') p q =
      let t = told_by n r c p.0 in
      let t' = told_by n' r' c' q.0 in
      let same = level n r n' r' t.1 t'.1 (p.1 n' r' c' q.0) (q.1 n r c p.0) in
      let column : c ≡ c' = t.0 ∙ ap column_of same.0 ∙ sym t'.0 in
      λ j. refuse (same.0 j) (same.1 j) (column j)

  -- there is no other first
  pub pad_unique : (v : Result) → PadFirst f room v → v ≡ pad_verdict f room
  pad_unique v h = one_pad_first v (pad_verdict f room) h pad_first

  none_by : (v : Result) → PadFirst f room v → (is_accept v ≡ true) ↔ ((n r c : ℕ) → PadFaults f room n r c → ⊥)
  unfolding PadFirst is_accept
  none_by accept h = ((λ e. h), (λ g. refl))
  none_by (refuse n r c) h = ((λ e. absurd (false≢true e)), (λ g. absurd (g n r c h.0)))

  -- nothing is refused exactly when there is no fault
  pub pad_none : (is_accept (pad_verdict f room) ≡ true) ↔ ((n r c : ℕ) → PadFaults f room n r c → ⊥)
  pad_none = none_by (pad_verdict f room) pad_first

-- ---- inputs whose lines pass
abbrev pub AllShort : List (List ℕ) → Type 0
AllShort ts = all (λ t. length t ≤? 80) ts ≡ true

judged_parts : (r : ℕ) (t : List ℕ) (ts : List (List ℕ))
    → is_accept (judge_texts r (t ∷ ts)) ≡ r ≤? 99_999 & length t ≤? 80 & is_accept (judge_texts (r + 1) ts)
unfolding judge_texts
judged_parts r t ts = in_record-accept r (check (r ≤? 99_999) 2 1 ⨾ check (length t ≤? 80) 5 81) _ ∙ simp (is_ok_⨾, is_ok_check)

passed_short : (r : ℕ) (ts : List (List ℕ)) → is_accept (judge_texts r ts) ≡ true → r ≤ 100_000 → AllShort ts × (r + length ts ≤ 100_000)
unfolding all
passed_short r [] h k = (refl, omega arith)
passed_short r (t ∷ ts) h k =
    let parts = both (sym (judged_parts r t ts) ∙ h) in
    let rest = passed_short (r + 1) ts parts.1 (omega (arith, to≤ (both parts.0).0)) in
    (and (both parts.0).1 rest.0, omega (arith, rest.1))

pub short_passed : (r : ℕ) (ts : List (List ℕ)) → AllShort ts → r + length ts ≤ 100_000 → is_accept (judge_texts r ts) ≡ true
unfolding all
short_passed r [] h k = unfold judge_texts is_accept in refl
short_passed r (t ∷ ts) h k =
    judged_parts r t ts ∙ and (and (of≤ (omega arith)) (both h).0) (short_passed (r + 1) ts (both h).1 (omega arith))

-- a text with a line feed
unfoldable pub fed : List ℕ → List ℕ
fed t = t ++ (10 ∷ [])

-- a padded line without its line feed
unfoldable pub filled : List ℕ → List ℕ
filled t = t ++ replicate (80 - length t) 32

filled_line : (t : List ℕ) → padded_line t ≡ fed (filled t)
unfolding padded_line filled fed
filled_line t = sym (append_assoc t (replicate (80 - length t) 32) (10 ∷ []))

filled_long : (t : List ℕ) → length t ≤ 80 → length (filled t) ≡ 80
unfolding filled
filled_long t h = simp (length-append, length-replicate) (omega arith)

pub line_81 : (t : List ℕ) → length t ≤ 80 → length (padded_line t) ≡ 81
unfolding fed
line_81 t h = ap length (filled_line t) ∙ length-append (filled t) (10 ∷ []) ∙ omega (arith, filled_long t h)

all_lines : (ts : List (List ℕ)) → AllShort ts → all is_line (map padded_line ts) ≡ true
unfolding all is_line
all_lines [] h = refl
all_lines (t ∷ ts) h = and (of≡ (line_81 t (to≤ (both h).0))) (all_lines ts (both h).1)

-- padded lines put together have 81 bytes each
pub lines_long : (ts : List (List ℕ)) → AllShort ts → length (join (map padded_line ts)) ≡ 81 * length ts
lines_long ts h = made_long padded_line ts (all_lines ts h)

module _ (f : List ℕ) (h : judge_texts 1 (texts f) ≡ accept) where
  -- every line has at most 80 bytes, and there are at most 99,999
  pub short_texts : (all (λ t. length t ≤? 80) (texts f) ≡ true) × (length (texts f) ≤ 99_999)
  unfolding is_accept
  short_texts = let s = passed_short 1 (texts f) (ap is_accept h) (omega arith) in (s.0, omega (arith, s.1))

  -- the lines of the padded file are the padded lines
  pub padded-lines : lines (padded f) ≡ map padded_line (texts f)
  unfolding padded
  padded-lines = made_lines padded_line (texts f) (all_lines (texts f) short_texts.0)

  -- 81 bytes for every line
  pub padded_long : length (padded f) ≡ 81 * length (texts f)
  unfolding padded
  padded_long = lines_long (texts f) short_texts.0

  padded-at : (i : ℕ) → i < length (texts f) → line_at (padded f) i ≡ padded_line (get_or (texts f) i [])
  unfolding padded
  padded-at = made_at padded_line (texts f) (all_lines (texts f) short_texts.0) []

  -- every line of it is its source line followed by blanks only: nothing lost, nothing else added
  pub padded_line_lem : (i : ℕ) → i < length (texts f)
      → line_at (padded f) i ≡ get_or (texts f) i [] ++ (replicate (80 - length (get_or (texts f) i [])) 32 ++ (10 ∷ []))
  padded_line_lem i k = padded-at i k ∙ (unfold padded_line in refl)

-- ---- lines that each end with one line feed are read as they stand
-- no LF, and no CR that a line feed behind it would make part of the end
unfoldable pub Clean : List ℕ → Type 0
Clean t = (10 ∈ t → ⊥) × ((x : List ℕ) → t ≡ x ++ (13 ∷ []) → ⊥)

fed_bytes : (ts : List (List ℕ)) → bytes_of (map (λ t. line t lf) ts) ≡ join (map fed ts)
unfolding bytes_of line end_bytes join fed
fed_bytes [] = refl
fed_bytes (t ∷ ts) = ap (λ x. t ++ (10 ∷ x)) (fed_bytes ts) ∙ sym (append_assoc t (10 ∷ []) (join (map fed ts)))

fed_lined : (ts : List (List ℕ)) → ((i : ℕ) → i < length ts → Clean (get_or ts i [])) → Lined (map (λ t. line t lf) ts)
unfolding Lined line EndsBefore Clean
fed_lined [] c = tt
fed_lined (t ∷ ts) c = ((c 0 (omega arith)).0, (c 0 (omega arith)).1, fed_lined ts (λ i h. c (suc i) (omega arith)))

fed_texts : (ts : List (List ℕ)) → map (λ l. l.text) (map (λ t. line t lf) ts) ≡ ts
unfolding line
fed_texts [] = refl
fed_texts (t ∷ ts) = ap (t ∷◌) (fed_texts ts)

texts_fed : (ts : List (List ℕ)) → ((i : ℕ) → i < length ts → Clean (get_or ts i [])) → texts (join (map fed ts)) ≡ ts
unfolding texts
texts_fed ts c =
    ap (map (λ l. l.text)) (ap lines_of (sym (fed_bytes ts)) ∙ back (map (λ t. line t lf) ts) (fed_lined ts c)) ∙ fed_texts ts

-- ---- an accepted file pads to itself
-- columns 1-80 of a formed line
unfoldable pub is_full : List ℕ → Bool
is_full t = length t =? 80 & all is_printable t

pub not_printed : (b : ℕ) → is_printable b ≡ true → b < 32 → ⊥
unfolding is_printable
not_printed b h k = omega (arith, (to_within h).0)

full_clean : (t : List ℕ) → is_full t ≡ true → Clean t
unfolding is_full Clean
full_clean t h = (
  (λ m. not_printed 10 (all_members is_printable t (both h).1 10 m) (omega arith)),
  (λ x e. not_printed 13 (unfold all in (both (all-parts is_printable x (13 ∷ []) (rw e at (both h).1)).1).0) (omega arith)),
)

full_padded : (t : List ℕ) → is_full t ≡ true → padded_line t ≡ fed t
unfolding is_full padded_line fed
full_padded t h = rw (to≡ (both h).0)

all_full_padded : (ts : List (List ℕ)) → all is_full ts ≡ true → map padded_line ts ≡ map fed ts
unfolding all
all_full_padded [] h = refl
all_full_padded (t ∷ ts) h = ap₂ ◌∷◌ (full_padded t (both h).0) (all_full_padded ts (both h).1)

full_short : (t : List ℕ) → is_full t ≡ true → length t ≤? 80 ≡ true
unfolding is_full
full_short t h = of≤ (omega (arith, to≡ (both h).0))

-- a line that is good by its bytes is 80 printable bytes and a line feed
bytes_full : (n c : ℕ) (l : List ℕ) → is_ok (bytes n c l) ≡ true → length l ≤ suc n
    → (fed (take n l) ≡ l) × (length (take n l) ≡ n) × (all is_printable (take n l) ≡ true)
unfolding bytes is_ok all fed
bytes_full zero c [] h k = absurd (false≢true h)
bytes_full zero c (b ∷ []) h k = (ap (◌∷ []) (sym (to≡ (sym (is_ok_check (b =? 10) 5 c) ∙ h))), refl, refl)
bytes_full zero c (b ∷ d ∷ l) h k = absurd (omega arith)
bytes_full (suc n) c [] h k = absurd (false≢true h)
bytes_full (suc n) c (b ∷ l) h k =
    let parts = both (sym (is_ok_⨾ (check (is_printable b) 4 c) (bytes n (c + 1) l)) ∙ h) in
    let rest = bytes_full n (c + 1) l parts.1 (omega arith) in
    (ap (b ∷◌) rest.0, ap suc rest.1, and (sym (is_ok_check (is_printable b) 4 c) ∙ parts.0) rest.2)

-- the lines of a file put together are the file
join_from : (f : List ℕ) (n i : ℕ) → join (lines_from f n i) ≡ take (81 * n) (drop (81 * i) f)
unfolding join lines_from line_at
join_from f zero i = refl
join_from f (suc n) i =
    let next : 81 * (i + 1) ≡ 81 * i + 81 = omega arith in
    let more : 81 + 81 * n ≡ 81 * suc n = omega arith in
    ap (line_at f i ++◌) (join_from f n (i + 1) ∙ ap (λ k. take (81 * n) (drop k f)) next ∙ ap (take (81 * n)) (sym (drop-drop 81 (81 * i) f)))
    ∙ sym (take-add 81 (81 * n) (drop (81 * i) f)) ∙ ap (λ k. take k (drop (81 * i) f)) more

join-lines : (f : List ℕ) → join (lines f) ≡ f
unfolding lines
join-lines f = join_from f (begun f) 0 ∙ take_all (81 * begun f) f (unfold begun in omega arith)

most_81 : (f : List ℕ) (n i : ℕ) → all (λ l. length l ≤? 81) (lines_from f n i) ≡ true
unfolding all lines_from line_at
most_81 f zero i = refl
most_81 f (suc n) i = and (of≤ (length-take_most 81 (drop (81 * i) f))) (most_81 f n (i + 1))

module _ {S : Type 0} (E : Edition S) where
  formed_full : (r : ℕ) (ls : List (List ℕ)) → formed_lines E r ls ≡ true → all (λ l. length l ≤? 81) ls ≡ true → r ≤ 100_000
      → (map fed (map (take 80) ls) ≡ ls) × (all is_full (map (take 80) ls) ≡ true) × (r + length ls ≤ 100_000)
  unfolding formed_lines formed_line all
  formed_full r [] h k b = (refl, refl, omega arith)
  formed_full r (l ∷ ls) h k b =
      let good = bytes_full 80 1 l (both (both (both (both (both h).0).1).0).0).0 (to≤ (both k).0) in
      let rest = formed_full (r + 1) ls (both h).1 (both k).1 (omega (arith, to≤ (both (both h).0).0)) in
      (ap₂ ◌∷◌ good.0 rest.0, and (unfold is_full in and (of≡ good.1) good.2) rest.1, omega (arith, rest.2))

  module _ (f : List ℕ) (h : formed_lines E 1 (lines f) ≡ true) where
    full : (map fed (map (take 80) (lines f)) ≡ lines f) × (all is_full (map (take 80) (lines f)) ≡ true) × (1 + length (lines f) ≤ 100_000)
    full = formed_full 1 (lines f) h (unfold lines in most_81 f (begun f) 0) (omega arith)

    formed-texts : texts f ≡ map (take 80) (lines f)
    formed-texts =
        ap texts (sym (ap join full.0 ∙ join-lines f))
        ∙ texts_fed (map (take 80) (lines f)) (λ i k. full_clean _ (all-at is_full (map (take 80) (lines f)) [] i full.1 k))

    -- a file whose lines are formed pads to itself, line by line
    pub formed_pads : (judge_texts 1 (texts f) ≡ accept) × (padded f ≡ f) × (length (texts f) ≡ length (lines f))
    formed_pads = (
      is_accept_lem _ (short_passed 1 (texts f) (rw formed-texts (all_weaken is_full _ full_short _ full.1)) (omega (arith, as_many, full.2))),
      (unfold padded in ap (λ ts. join (map padded_line ts)) formed-texts ∙ ap join (all_full_padded _ full.1 ∙ full.0) ∙ join-lines f),
      as_many,
    )
      where
        as_many : length (texts f) ≡ length (lines f)
        as_many = ap length formed-texts ∙ length-map (lines f) (take 80)

-- an accepted file pads to itself
pub accepted_pads : (f : List ℕ) → accepted chapter4 f ≡ true → (judge_texts 1 (texts f) ≡ accept) × (padded f ≡ f) × (length (texts f) ≡ length (lines f))
accepted_pads f h = formed_pads chapter4 f (accepted-parts chapter4 f h).0

-- ---- inputs that differ only in trimming and line ends pad to the same bytes
-- blanks of the line's own and blanks put behind it are the same blanks
same_blanks : (t : List ℕ) (n m : ℕ) → n + m ≡ 80 - length t → (t ++ replicate n 32) ++ (replicate m 32 ++ (10 ∷ [])) ≡ padded_line t
unfolding padded_line
same_blanks t n m e =
    append_assoc t (replicate n 32) (replicate m 32 ++ (10 ∷ []))
    ∙ ap (t ++◌) (sym (append_assoc (replicate n 32) (replicate m 32) (10 ∷ [])) ∙ ap (◌++ (10 ∷ [])) together)
  where
    together : replicate {A = ℕ} n 32 ++ replicate m 32 ≡ replicate (80 - length t) 32
    together = replicate-append-replicate n m 32 ∙ ap (λ k. replicate k 32) e

with_blanks : (t : List ℕ) (n : ℕ) → length t + n ≤ 80 → padded_line (t ++ replicate n 32) ≡ padded_line t
unfolding padded_line
with_blanks t n h = same_blanks t n (80 - length (t ++ replicate n 32)) (simp (length-append, length-replicate) (omega arith))

alike-padded : (t u : List ℕ) → length t ≤ 80 → length u ≤ 80 → Alike t u → padded_line t ≡ padded_line u
unfolding Alike
alike-padded t u p q (n, inl e) = ap padded_line e ∙ with_blanks u n (omega (arith, simp (length-append, length-replicate) at (ap length e)))
alike-padded t u p q (n, inr e) = sym (ap padded_line e ∙ with_blanks t n (omega (arith, simp (length-append, length-replicate) at (ap length e))))

-- of two lines padded alike, the longer is the shorter with blanks behind it
longer_by_blanks : (t u : List ℕ) → length t ≤ length u → length u ≤ 80 → padded_line t ≡ padded_line u → u ≡ t ++ replicate (length u - length t) 32
unfolding padded_line
longer_by_blanks t u p q e =
    let rest : List ℕ = replicate (80 - length u) 32 ++ (10 ∷ []) in
    sym (take_at u rest (length u) refl) ∙ ap (take (length u)) (sym e ∙ sym (same_blanks t (length u - length t) (80 - length u) (omega arith)))
    ∙ take_at (t ++ replicate (length u - length t) 32) rest (length u) (simp (length-append, length-replicate) (omega arith))

padded-alike : (t u : List ℕ) → length t ≤ 80 → length u ≤ 80 → padded_line t ≡ padded_line u → Alike t u
unfolding Alike
padded-alike t u p q e =
    cases (length t ≤? length u)
    (λ k. (length u - length t, inr (longer_by_blanks t u (to≤ k) q e)))
    (λ k. (length t - length u, inl (longer_by_blanks u t (omega (arith, no≤ k)) p (sym e))))

pub short_at : (f : List ℕ) → judge_texts 1 (texts f) ≡ accept → (i : ℕ) → i < length (texts f) → length (get_or (texts f) i []) ≤ 80
short_at f h i k = to≤ (all-at (λ t. length t ≤? 80) (texts f) [] i (short_texts f h).0 k)

-- two inputs pad to the same bytes exactly when they differ only in trimming and line ends
pub trimmed_same : (f g : List ℕ) → judge_texts 1 (texts f) ≡ accept → judge_texts 1 (texts g) ≡ accept → (padded f ≡ padded g) ↔ OnlyTrimmed f g
unfolding OnlyTrimmed
trimmed_same f g h k = ((λ e. (as_many (same e), each (same e))), (λ o. unfold padded in ap join (lines_same o.0 o.1)))
  where
    same : padded f ≡ padded g → map padded_line (texts f) ≡ map padded_line (texts g)
    same e = sym (padded-lines f h) ∙ ap lines e ∙ padded-lines g k

    as_many : map padded_line (texts f) ≡ map padded_line (texts g) → length (texts f) ≡ length (texts g)
    as_many e = sym (length-map (texts f) padded_line) ∙ ap length e ∙ length-map (texts g) padded_line

    each : map padded_line (texts f) ≡ map padded_line (texts g) → (i : ℕ) → i < length (texts f) → Alike (get_or (texts f) i []) (get_or (texts g) i [])
    each e i l =
        let l' : i < length (texts g) = omega (arith, as_many e) in
        padded-alike _ _ (short_at f h i l) (short_at g k i l')
        (sym (map_at padded_line (texts f) [] [] i l) ∙ ap (λ ls. get_or ls i []) e ∙ map_at padded_line (texts g) [] [] i l')

    lines_same : length (texts f) ≡ length (texts g) → ((i : ℕ) → i < length (texts f) → Alike (get_or (texts f) i []) (get_or (texts g) i []))
        → map padded_line (texts f) ≡ map padded_line (texts g)
    lines_same e a =
        ext_get_or [] _ _ (length-map (texts f) padded_line ∙ e ∙ sym (length-map (texts g) padded_line))
        (λ i b.
        let l : i < length (texts f) = rw (← length-map (texts f) padded_line) b in
        let l' : i < length (texts g) = omega arith in
        map_at padded_line (texts f) [] [] i l ∙ alike-padded _ _ (short_at f h i l) (short_at g k i l') (a i l) ∙ sym (map_at padded_line (texts g) [] [] i l'))

-- ---- padding is settled where no padded line has a CR in column 80
no_lf-behind : (t u : List ℕ) → (10 ∈ t → ⊥) → (10 ∈ u → ⊥) → 10 ∈ (t ++ u) → ⊥
no_lf-behind [] u h k m = k m
no_lf-behind (b ∷ t) u h k m = none_in b (t ++ u) (λ e. h (unfold ◌∈◌ in inl (sym e))) (no_lf-behind t u (λ x. h (unfold ◌∈◌ in inr x)) k) m

no_lf-blanks : (n : ℕ) → 10 ∈ replicate {A = ℕ} n 32 → ⊥
no_lf-blanks zero m = unfold ◌∈◌ in m
no_lf-blanks (suc n) m = none_in 32 (replicate n 32) (λ e. omega (arith, e)) (no_lf-blanks n) m

no_lf-at : (ls : List Line) → Lined ls → (i : ℕ) → i < length (map (λ l. l.text) ls) → 10 ∈ get_or (map (λ l. l.text) ls) i [] → ⊥
unfolding Lined
no_lf-at [] h i k m = omega arith
no_lf-at (l ∷ ls) h zero k m = h.0 m
no_lf-at (l ∷ ls) h (suc i) k m = no_lf-at ls h.2 i (omega arith) m

no_lf : (f : List ℕ) (i : ℕ) → i < length (texts f) → 10 ∈ get_or (texts f) i [] → ⊥
unfolding texts
no_lf f i k m = no_lf-at (lines_of f) (lines-read f).lined i k m

filled-clean : (t : List ℕ) → length t ≤ 80 → (10 ∈ t → ⊥) → (get_or (padded_line t) 79 0 ≡ 13 → ⊥) → Clean (filled t)
unfolding Clean fed
filled-clean t h n c = (
  (unfold filled in no_lf-behind t (replicate (80 - length t) 32) n (no_lf-blanks (80 - length t))),
  (λ x e. c (ap (λ l. get_or l 79 0) (filled_line t ∙ ap (◌++ (10 ∷ [])) e ∙ append_assoc x (13 ∷ []) (10 ∷ []))
      ∙ get_or_at x 13 (10 ∷ []) 0 79 (omega (arith, filled_long t h, ap length e, length-append x (13 ∷ []))))),
)

-- a filled line is filled
filled_full : (t : List ℕ) → length t ≤ 80 → padded_line (filled t) ≡ padded_line t
unfolding filled
filled_full t h = with_blanks t (80 - length t) (omega arith)

padded_fed : (ts : List (List ℕ)) → map padded_line ts ≡ map fed (map filled ts)
padded_fed [] = refl
padded_fed (t ∷ ts) = ap₂ ◌∷◌ (filled_line t) (padded_fed ts)

all-filled : (ts : List (List ℕ)) → AllShort ts → AllShort (map filled ts) × (map padded_line (map filled ts) ≡ map padded_line ts)
unfolding all
all-filled [] h = (refl, refl)
all-filled (t ∷ ts) h =
    let short : length t ≤ 80 = to≤ (both h).0 in
    let rest = all-filled ts (both h).1 in
    (and (of≤ (omega (arith, filled_long t short))) rest.0, ap₂ ◌∷◌ (filled_full t short) rest.1)

module _ (f : List ℕ) (h : judge_texts 1 (texts f) ≡ accept) (no-cr : (i : ℕ) → i < length (texts f) → get_or (line_at (padded f) i) 79 0 ≡ 13 → ⊥) where
  texts-padded : texts (padded f) ≡ map filled (texts f)
  texts-padded = ap texts same ∙ texts_fed (map filled (texts f)) clean
    where
      same : padded f ≡ join (map fed (map filled (texts f)))
      same = unfold padded in ap join (padded_fed (texts f))

      clean : (i : ℕ) → i < length (map filled (texts f)) → Clean (get_or (map filled (texts f)) i [])
      clean i k =
          let k' : i < length (texts f) = rw (← length-map (texts f) filled) k in
          let no-cr-here : get_or (padded_line (get_or (texts f) i [])) 79 0 ≡ 13 → ⊥ = rw (padded-at f h i k') at (no-cr i k') in
          rw (map_at filled (texts f) [] [] i k') (filled-clean (get_or (texts f) i []) (short_at f h i k') (no_lf f i k') no-cr-here)

  -- the padded file is judged good again, and padding it again changes nothing
  pub padded-settled : (judge_texts 1 (texts (padded f)) ≡ accept) × (padded (padded f) ≡ padded f)
  padded-settled = (
    is_accept_lem _ (short_passed 1 _ (rw texts-padded again.0) (omega (arith, ap length texts-padded, length-map (texts f) filled, (short_texts f h).1))),
    (unfold padded in ap (λ ts. join (map padded_line ts)) texts-padded ∙ ap join again.1),
  )
    where
      again : AllShort (map filled (texts f)) × (map padded_line (map filled (texts f)) ≡ map padded_line (texts f))
      again = all-filled (texts f) (short_texts f h).0
