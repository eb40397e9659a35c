-- One record: its judges are tests of the bytes and of the meaning; what is written reads back, and what reads can be written.
use mathlib.Core.Path.{◌≡◌, refl, sym, ◌∙◌, ap}
use mathlib.Core.Bool.{Bool, true, false≢true}
use mathlib.Core.List.{List, [], ◌∷◌, ◌++◌, append_assoc}
use Prim.Native.Nat.{ℕ, zero, suc, ◌+◌, ◌*◌, ◌≤◌, ◌<◌}
use native.Mathlib.Omega.{arith}
use lib.ListN.{length, length-append, take}
use lib.Seq.{take_at, drop_at}
use lib.IntN.{pos}
use Rattle.rules.specs.Tests.{all, ◌&◌, ◌=?◌}
use Rattle.rules.specs.Characters.{is_printable}
use Rattle.rules.specs.Items.{Value, num, width, value_of, fits, render, good, on_number}
use Rattle.rules.specs.Fields.{Expect, anything, ◌⨾◌, check, is_ok, values, formed, agreeing, renders, covers}
use Rattle.rules.specs.Records.{Meaning, Edition, sequence, bytes, code_at, entries, numbered, judge_line, read_line, meaning, told, of_kind, judge_given, line_of, style, formed_line, permitted, meant}
use Rattle.rules.proofs.Truth.{both, and, of≤, to≡, of≡, of_within, all_append, &-sort}
use Rattle.rules.proofs.Lawful.{lawful, good-fits, render-good}
use Rattle.rules.proofs.FieldLaws.{is_ok_⨾, is_ok_check, judge_splits, agreeing_alone, formed-told, agreeing-told, length-values, fitting, renders-length, renders-printable, renders-formed, renders-values}

-- ---- what the laws ask of an edition
pub record Sound {S : Type 0} (E : Edition S) : Type 0 where
  pub four : (c : List ℕ) → E.known c ≡ true → (length c ≡ 4) × (all is_printable c ≡ true)
  pub filled : (c : List ℕ) → E.known c ≡ true → covers 11 (E.layout c) ≡ true

-- ---- bytes
pub bytes_fine : (c : ℕ) (xs : List ℕ) (n : ℕ) → length xs ≡ n → all is_printable xs ≡ true → is_ok (bytes n c (xs ++ 10 ∷ [])) ≡ true
unfolding bytes all is_ok check ◌=?◌
bytes_fine c [] zero e h = refl
bytes_fine c [] (suc n) e h = absurd (omega arith)
bytes_fine c (x ∷ xs) zero e h = absurd (omega arith)
bytes_fine c (x ∷ xs) (suc n) e h =
    is_ok_⨾ (check (is_printable x) 4 c) (bytes n (c + 1) (xs ++ 10 ∷ []))
    ∙ and (is_ok_check (is_printable x) 4 c ∙ (both h).0) (bytes_fine (c + 1) xs n (omega arith) (both h).1)

pub bytes-length : (c n : ℕ) (l : List ℕ) → is_ok (bytes n c l) ≡ true → n < length l
unfolding bytes is_ok
bytes-length c zero [] h = absurd (false≢true h)
bytes-length c zero (b ∷ bs) h = omega arith
bytes-length c (suc n) [] h = absurd (false≢true h)
bytes-length c (suc n) (b ∷ bs) h =
    let k : n < length bs = bytes-length (c + 1) n bs (both (sym (is_ok_⨾ (check (is_printable b) 4 c) (bytes n (c + 1) bs)) ∙ h)).1 in omega arith

arrange : (a b c d e f : Bool) → a & (b & (c & (d & (e & f)))) ≡ a & b & d & e & (c & f)
arrange a b c d e f = simp &-sort

arrange_alone : (a b d e f : Bool) → a & (b & (d & (e & f))) ≡ a & b & d & e & f
arrange_alone a b d e f = simp &-sort

module _ {S : Type 0} (E : Edition S) where
  -- ---- the judges split
  pub agreeing_line : (e : Expect) (l : List ℕ) → agreeing e (entries E l) ≡ agreeing e (told E (meaning E l))
  unfolding entries told meaning
  agreeing_line e l = agreeing-told l e (E.layout (code_at l))

  pub judge_line_splits : (s : S) (l : List ℕ) → is_ok (judge_line E s l) ≡ formed_line E l & permitted E s (meaning E l)
  unfolding judge_line formed_line permitted numbered
  judge_line_splits s l =
      simp (is_ok_⨾, is_ok_check, judge_splits) (rw (agreeing_line (E.expects s (code_at l)) l) (unfold meaning in arrange _ _ _ _ _ _))

  pub read_line_splits : (l : List ℕ) → is_ok (read_line E l) ≡ formed_line E l & agreeing anything (told E (meaning E l))
  unfolding read_line formed_line numbered
  read_line_splits l = simp (is_ok_⨾, is_ok_check, judge_splits) (rw (agreeing_line anything l) (arrange_alone _ _ _ _ _))

  -- what may stand in a file can be read
  pub judged_reads : (s : S) (l : List ℕ) → is_ok (judge_line E s l) ≡ true → is_ok (read_line E l) ≡ true
  unfolding permitted
  judged_reads s l h =
      let k : formed_line E l & permitted E s (meaning E l) ≡ true = sym (judge_line_splits s l) ∙ h in
      read_line_splits l ∙ and (both k).0 (agreeing_alone (E.expects s (meaning E l).code) (told E (meaning E l)) (both (both k).1).1)

  -- the meaning of a formed line is one that some line has
  pub line_meant : (l : List ℕ) → formed_line E l ≡ true → meant E (meaning E l) ≡ true
  unfolding meant formed_line meaning told entries
  line_meant l h =
      and (both (both (both h).0).0).1 (and (of≡ (length-values l (E.layout (code_at l)))) (formed-told l (E.layout (code_at l)) (both h).1))

  pub line_numbered : (l : List ℕ) → formed_line E l ≡ true → good sequence (take 6 l) ≡ true
  unfolding formed_line
  line_numbered l h = (both (both h).0).1

  pub line_long : (l : List ℕ) → formed_line E l ≡ true → 80 < length l
  unfolding formed_line
  line_long l h = bytes-length 1 80 l (both (both (both h).0).0).0

  -- ---- a written line
  module _ (sound : Sound E) (q : Value) (m : Meaning) (n : fits sequence q ≡ true) (h : meant E m ≡ true) where
    front : List ℕ
    front = render sequence q ++ m.code

    known : E.known m.code ≡ true
    unfolding meant
    known = (both h).0

    fit : fitting (E.layout m.code) m.values ≡ true
    unfolding meant fitting told
    fit = (both h).1

    six : length (render sequence q) ≡ 6
    unfolding sequence width
    six = (lawful sequence q n).sized

    four : length m.code ≡ 4
    four = (sound.four m.code known).0

    ten : 11 ≡ length front + 1
    unfolding front
    ten = rw (length-append (render sequence q) m.code) (omega (arith, six, four))

    split : line_of E q m ≡ front ++ (renders (E.layout m.code) m.values ++ 10 ∷ [])
    unfolding line_of front
    split = simp append_assoc

    pub line_sequence : take 6 (line_of E q m) ≡ render sequence q
    unfolding line_of
    line_sequence = take_at (render sequence q) _ 6 six

    pub line_code : code_at (line_of E q m) ≡ m.code
    unfolding code_at line_of
    line_code = ap (take 4) (drop_at (render sequence q) _ 6 six) ∙ take_at m.code _ 4 four

    pub line_meaning : meaning E (line_of E q m) ≡ m
    unfolding meaning
    line_meaning =
        rw line_code (λ j. record { code = m.code; values = same j })
      where
        same : values (E.layout m.code) (line_of E q m) ≡ m.values
        same = ap (values (E.layout m.code)) split ∙ renders-values 11 front (E.layout m.code) m.values (10 ∷ []) ten (sound.filled m.code known) fit

    seventy : length (renders (E.layout m.code) m.values) ≡ 70
    seventy = let e : 11 + length (renders (E.layout m.code) m.values) ≡ 81 = renders-length 11 (E.layout m.code) m.values (sound.filled m.code known) fit in omega arith

    pub line_length : length (line_of E q m) ≡ 81
    unfolding line_of
    line_length = simp (length-append, six, four, seventy)

    line_bytes : is_ok (bytes 80 1 (line_of E q m)) ≡ true
    line_bytes =
        rw (split, ← append_assoc)
        (bytes_fine 1 (front ++ renders (E.layout m.code) m.values) 80 (unfold front in simp (length-append, six, four, seventy)) printed)
      where
        printed : all is_printable (front ++ renders (E.layout m.code) m.values) ≡ true
        printed = unfold front in all_append is_printable (render sequence q ++ m.code) _ (all_append is_printable (render sequence q) _ (lawful sequence q n).printed (sound.four m.code known).1)
            (renders-printable (E.layout m.code) m.values fit)

    line_entries : formed (entries E (line_of E q m)) ≡ true
    unfolding entries
    line_entries = rw line_code (rw split (renders-formed 11 front (E.layout m.code) m.values (10 ∷ []) ten (sound.filled m.code known) fit))

    pub line_formed : formed_line E (line_of E q m) ≡ true
    unfolding formed_line
    line_formed =
        and (and (and line_bytes (rw line_code known)) (rw line_sequence (render-good sequence q (lawful sequence q n) n))) line_entries

  -- ---- in house style
  tens : (r : ℕ) → 1 ≤ r → r ≤ 99_999 → fits sequence (num (pos (10 * r))) ≡ true
  unfolding sequence fits on_number
  tens r p q = and (and (of≤ (omega arith)) (of≤ (omega arith))) (of_within (omega arith) (omega arith))

  module _ (sound : Sound E) (r : ℕ) (m : Meaning) (h : meant E m ≡ true) (p : 1 ≤ r) (q : r ≤ 99_999) where
    pub style-meaning : meaning E (style E r m) ≡ m
    unfolding style
    style-meaning = line_meaning sound (num (pos (10 * r))) m (tens r p q) h

    pub style-length : length (style E r m) ≡ 81
    unfolding style
    style-length = line_length sound (num (pos (10 * r))) m (tens r p q) h

    pub style-formed : formed_line E (style E r m) ≡ true
    unfolding style
    style-formed = line_formed sound (num (pos (10 * r))) m (tens r p q) h

    -- record r has the sequence number 10 x r
    pub style-number : value_of sequence (take 6 (style E r m)) ≡ num (pos (10 * r))
    unfolding style
    style-number = ap (value_of sequence) (line_sequence sound (num (pos (10 * r))) m (tens r p q) h) ∙ (lawful sequence (num (pos (10 * r))) (tens r p q)).valued

  -- ---- write and read
  -- when write succeeds: the values fit, there is one for each field of the kind asked for, and they agree
  pub write_takes : (k : ℕ) (q : Value) (m : Meaning)
      → is_ok (judge_given E k q m) ≡ fits sequence q & E.kind m.code =? k & meant E m & agreeing anything (told E m)
  unfolding judge_given meant of_kind
  write_takes k q m = simp (is_ok_⨾, is_ok_check, judge_splits, &-sort)

  -- what is written reads, as what was written
  pub record ReadsBack (k : ℕ) (q : Value) (m : Meaning) (l : List ℕ) : Type 0 where
    pub eighty_one : length l ≡ 81
    pub reads : is_ok (read_line E l) ≡ true
    pub its_kind : E.kind (code_at l) ≡ k
    pub its_number : value_of sequence (take 6 l) ≡ q
    pub its_meaning : meaning E l ≡ m

  pub written_reads_back : Sound E → (k : ℕ) (q : Value) (m : Meaning) → is_ok (judge_given E k q m) ≡ true → ReadsBack k q m (line_of E q m)
  written_reads_back sound k q m h =
      let t : fits sequence q & E.kind m.code =? k & meant E m & agreeing anything (told E m) ≡ true = sym (write_takes k q m) ∙ h in
      let n : fits sequence q ≡ true = (both (both (both t).0).0).0 in
      let w : meant E m ≡ true = (both (both t).0).1 in
      record {
        eighty_one = line_length sound q m n w;
        reads = read_line_splits (line_of E q m) ∙ and (line_formed sound q m n w) (rw (line_meaning sound q m n w) (both t).1);
        its_kind = ap E.kind (line_code sound q m n w) ∙ to≡ (both (both (both t).0).0).1;
        its_number = ap (value_of sequence) (line_sequence sound q m n w) ∙ (lawful sequence q n).valued;
        its_meaning = line_meaning sound q m n w;
      }

  -- what reads can be written, as the kind that it has
  pub read_writes_back : (l : List ℕ) → is_ok (read_line E l) ≡ true → is_ok (judge_given E (E.kind (code_at l)) (value_of sequence (take 6 l)) (meaning E l)) ≡ true
  read_writes_back l h =
      let k : formed_line E l & agreeing anything (told E (meaning E l)) ≡ true = sym (read_line_splits l) ∙ h in
      write_takes (E.kind (code_at l)) (value_of sequence (take 6 l)) (meaning E l)
      ∙ and (and (and (good-fits sequence (take 6 l) (line_numbered l (both k).0)) (unfold meaning in of≡ {m = E.kind (code_at l)} refl)) (line_meant l (both k).0)) (both k).1
