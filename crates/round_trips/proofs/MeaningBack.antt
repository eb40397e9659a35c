-- A meaning that some line has is the meaning of its record with its long texts. Assumes nothing.
use mathlib.Core.Path.{◌≡◌, refl, sym, ◌∙◌, ap}
use mathlib.Core.Bool.{Bool, true, false, cond, false≢true}
use mathlib.Core.List.{List, [], ◌∷◌}
use Prim.Native.Nat.{ℕ, zero, suc, ◌+◌, ◌-◌, ◌*◌, ◌/◌, ◌%◌, ◌≤◌, ◌<◌}
use native.Mathlib.Omega.{arith}
use lib.ListN.{length, get_or}
use lib.IntN.{pos, negsuc}
use Rattle.rules.specs.Tests.{◌&◌, ◌≤?◌, ◌=?◌, all}
use Rattle.rules.specs.Characters.{ascii, is_digit, is_letter, letter, digit, ◌or◌, member}
use Rattle.rules.specs.Digits.{val}
use Rattle.rules.specs.Items.{Value, gap, missing, num, text, label, Item, blank, constant, number, height, angle, month, media, word, is_media, on_gap, on_number, on_text, on_label, fits}
use Rattle.rules.specs.Fields.{Field, given, entries_of, is_formed, formed}
use Rattle.rules.specs.Records.{Meaning, told, meant}
use Rattle.rules.specs.Kinds.{data_codes, kind_from, starred, kind_between, kind_of, known}
use Rattle.rules.specs.Layouts.{kept, layouts, layout}
use Rattle.rules.specs.Chapter4.{chapter4}
use Rattle.rules.proofs.Truth.{both, to≤, to≡, of≢, cases, to_within}
use Rattle.columns.specs.Types.{nat_of, int_of, height_of, height_value, media_of, media_value, four, four_of}
use Rattle.columns.proofs.LabelLaws.{four_back}
use Rattle.kinds.proofs.TableLaws.{each_kind}
use Rattle.kinds.specs.Values.{text_of, two, two_text, three, three_text, char_of, code_of, values_of, meaning_of, record_from, record_of}
use Rattle.round_trips.specs.Texts.{is_long}

-- ---- a value by way of the record's types
-- a text of w columns
unfoldable back_text : ℕ → List ℕ → List ℕ
back_text w t = cond (w =? 1) (get_or t 0 0 ∷ []) (cond (w =? 2) (two_text (two t)) (cond (w =? 3) (three_text (three t)) (cond (w =? 4) (four_of (four t)) t)))

unfoldable back : Item → Value → Value
back (blank w) v = gap
back (constant c) v = gap
back (number w lo hi may) v = cond may (height_value (height_of v)) (num (pos (nat_of v)))
back (height w lo hi may) v = cond may (height_value (height_of v)) (num (int_of v))
back (angle way) v = num (int_of v)
back month v = num (pos (nat_of v))
back media v = media_value (media_of v)
back (word w t) v = text (back_text w (text_of v))

-- ---- of a value that fits it is the value
gap_back : (b : Bool) (v : Value) → on_gap false b v ≡ true → gap ≡ v
unfolding on_gap
gap_back b gap h = refl
gap_back b missing h = absurd (false≢true h)
gap_back b (num k) h = absurd (false≢true h)
gap_back b (text t) h = absurd (false≢true h)
gap_back b (label m d y s t) h = absurd (false≢true h)

nat_back : (f : ℕ → Bool) (v : Value) → on_number false false f (λ n. false) v ≡ true → num (pos (nat_of v)) ≡ v
unfolding on_number nat_of
nat_back f gap h = absurd (false≢true h)
nat_back f missing h = absurd (false≢true h)
nat_back f (num (pos n)) h = refl
nat_back f (num (negsuc n)) h = absurd (false≢true h)
nat_back f (text t) h = absurd (false≢true h)
nat_back f (label m d y s t) h = absurd (false≢true h)

int_back : (f g : ℕ → Bool) (v : Value) → on_number false false f g v ≡ true → num (int_of v) ≡ v
unfolding on_number int_of
int_back f g gap h = absurd (false≢true h)
int_back f g missing h = absurd (false≢true h)
int_back f g (num k) h = refl
int_back f g (text t) h = absurd (false≢true h)
int_back f g (label m d y s t) h = absurd (false≢true h)

-- a number that may be missing
height_back : (may : Bool) (f g : ℕ → Bool) (v : Value) → on_number false may f g v ≡ true → height_value (height_of v) ≡ v
unfolding on_number height_value height_of
height_back may f g gap h = absurd (false≢true h)
height_back may f g missing h = refl
height_back may f g (num k) h = refl
height_back may f g (text t) h = absurd (false≢true h)
height_back may f g (label m d y s t) h = absurd (false≢true h)

mark-four : (m d y s : ℕ) (t : List ℕ) → is_media m d y s t ≡ true → length t ≡ 4
unfolding is_media
mark-four m d y s t h = to≡ (both (both h).1).0

media_back : (v : Value) → on_label false is_media v ≡ true → media_value (media_of v) ≡ v
unfolding on_label media_value media_of
media_back gap h = absurd (false≢true h)
media_back missing h = absurd (false≢true h)
media_back (num k) h = absurd (false≢true h)
media_back (text t) h = absurd (false≢true h)
media_back (label m d y s t) h = ap (label m d y s) (four_back t (mark-four m d y s t h))

long_back : (n : ℕ) (t : List ℕ) → 5 ≤ n → back_text n t ≡ t
unfolding back_text
long_back n t h =
    let one : n =? 1 ≡ false = of≢ (λ e. omega (arith, e, h)) in
    let two : n =? 2 ≡ false = of≢ (λ e. omega (arith, e, h)) in
    let three : n =? 3 ≡ false = of≢ (λ e. omega (arith, e, h)) in
    let four : n =? 4 ≡ false = of≢ (λ e. omega (arith, e, h)) in
    rw (one, two, three, four)

text_back : (t : List ℕ) → back_text (length t) t ≡ t
unfolding back_text two_text two three_text three four_of four ◌=?◌
text_back [] = refl
text_back (a ∷ []) = refl
text_back (a ∷ b ∷ []) = refl
text_back (a ∷ b ∷ c ∷ []) = refl
text_back (a ∷ b ∷ c ∷ d ∷ []) = refl
text_back (a ∷ b ∷ c ∷ d ∷ e ∷ t) = long_back (length (a ∷ b ∷ c ∷ d ∷ e ∷ t)) (a ∷ b ∷ c ∷ d ∷ e ∷ t) (omega arith)

word_back : (w : ℕ) (p : List ℕ → Bool) (v : Value) → on_text false (λ bs. length bs =? w & p bs) v ≡ true → text (back_text w (text_of v)) ≡ v
unfolding on_text text_of
word_back w p gap h = absurd (false≢true h)
word_back w p missing h = absurd (false≢true h)
word_back w p (num k) h = absurd (false≢true h)
word_back w p (text t) h = let e : length t ≡ w = to≡ (both h).0 in rw (← e) (ap text (text_back t))
word_back w p (label m d y s t) h = absurd (false≢true h)

fit_back : (i : Item) (v : Value) → fits i v ≡ true → back i v ≡ v
unfolding fits back
fit_back (blank w) v h = gap_back true v h
fit_back (constant c) v h = gap_back _ v h
fit_back (number w lo hi true) v h = height_back true _ _ v h
fit_back (number w lo hi false) v h = nat_back _ v h
fit_back (height w lo hi true) v h = height_back true _ _ v h
fit_back (height w lo hi false) v h = int_back _ _ v h
fit_back (angle way) v h = int_back _ _ v h
fit_back month v h = nat_back _ v h
fit_back media v h = media_back v h
fit_back (word w t) v h = word_back w _ v h

-- ---- the values of a row of fields, told by their places
unfoldable backs : List Field → (ℕ → Value) → List Value
backs [] v = []
backs (f ∷ fs) v = back f.item (v 0) ∷ backs fs (λ i. v (suc i))

-- the long ones among them
unfoldable pub texts : List Field → (ℕ → Value) → List (List ℕ)
texts [] v = []
texts (f ∷ fs) v = let rest = texts fs (λ i. v (suc i)) in cond (is_long f.item) (text_of (v 0) ∷ rest) rest

all_back : (fs : List Field) (vs : List Value) → length vs ≡ length fs → formed (entries_of fs vs) ≡ true → backs fs (λ i. get_or vs i gap) ≡ vs
unfolding formed all entries_of is_formed given backs
all_back [] [] e h = refl
all_back [] (v ∷ vs) e h = absurd (omega (arith, e))
all_back (f ∷ fs) [] e h = absurd (omega (arith, e))
all_back (f ∷ fs) (v ∷ vs) e h = rw (fit_back f.item v (both h).0, all_back fs vs (omega (arith, e)) (both h).1)

-- ---- for each number below n, and for all from n on
unfoldable pub Upto : ℕ → (ℕ → Type 0) → Type 0
Upto zero P = (k : ℕ) → P k
Upto (suc n) P = P 0 × Upto n (λ k. P (suc k))

pub upto : (n : ℕ) (P : ℕ → Type 0) → Upto n P → (k : ℕ) → P k
unfolding Upto
upto zero P h k = h k
upto (suc n) P h zero = h.0
upto (suc n) P h (suc k) = upto n (λ i. P (suc i)) h.1 k

-- ---- of each kind: the values of its record are those that its fields give
values_back : (c : List ℕ) (v : ℕ → Value) (k : ℕ) → k < 14
    → let ts = texts (get_or layouts k kept) v in values_of (record_from k c v) (get_or ts 0 []) (get_or ts 1 []) (get_or ts 2 []) ≡ backs (get_or layouts k kept) v
unfolding layouts texts backs back is_long back_text values_of record_from char_of ◌=?◌ ◌≤?◌
values_back c v =
    each_kind (λ k. let ts = texts (get_or layouts k kept) v in values_of (record_from k c v) (get_or ts 0 []) (get_or ts 1 []) (get_or ts 2 []) ≡ backs (get_or layouts k kept) v)
    refl refl refl refl refl refl refl refl refl refl refl refl refl refl

-- ---- the code
unfoldable spelled : ℕ → List ℕ
spelled n = 42 ∷ (48 + n / 10) ∷ (48 + n % 10) ∷ 42 ∷ []

data-back : (k : ℕ) (c : List ℕ) (v : ℕ → Value) → code_of (record_from (suc k) c v) ≡ spelled (get_or data_codes k 93)
unfolding Upto code_of record_from spelled data_codes ascii
data-back k c v = upto 13 (λ k. code_of (record_from (suc k) c v) ≡ spelled (get_or data_codes k 93)) (refl, (refl, (refl, (refl, (refl, (refl, (refl, (refl, (refl, (refl, (refl, (refl, (refl, (λ k. refl)))))))))))))) k

job_back : (c : List ℕ) (v : ℕ → Value) → code_of (record_from 0 c v) ≡ 42 ∷ get_or c 1 0 ∷ get_or c 2 0 ∷ 42 ∷ []
unfolding code_of record_from
job_back c v = refl

spelled_back : (x y : ℕ) → is_digit x ≡ true → is_digit y ≡ true → spelled (val 0 (x ∷ y ∷ [])) ≡ 42 ∷ x ∷ y ∷ 42 ∷ []
unfolding spelled is_digit val
spelled_back x y h k =
    let n = (0 * 10 + (x - 48)) * 10 + (y - 48) in
    let e : 48 + n / 10 ≡ x = omega (arith, to_within h, to_within k) in
    let f : 48 + n % 10 ≡ y = omega (arith, to_within h, to_within k) in
    rw (e, f)

-- a known kind is the place of the number among the data codes
place_of : (k n : ℕ) (cs : List ℕ) → kind_from k n cs ≤ 13 → (P : Type 0) → ((j : ℕ) → kind_from k n cs ≡ k + j → get_or cs j 93 ≡ n → P) → P
unfolding kind_from
place_of k n [] h P f = absurd (omega (arith, h))
place_of k n (c ∷ cs) h P f =
    cases (n =? c)
    (λ e. f 0 (rw e (omega arith)) (sym (to≡ e)))
    (λ e. place_of (k + 1) n cs (rw e at h) P (λ j g d. f (suc j) (rw e (g ∙ omega arith)) d))

between_back : (x y : ℕ) (c : List ℕ) (v : ℕ → Value) → kind_between x y ≤ 13 → get_or c 1 0 ≡ x → get_or c 2 0 ≡ y
    → code_of (record_from (kind_between x y) c v) ≡ 42 ∷ x ∷ y ∷ 42 ∷ []
unfolding kind_between
between_back x y c v h p q =
    cases (is_digit x & is_digit y)
    (λ d. place_of 1 (val 0 (x ∷ y ∷ [])) data_codes (rw d at h) _
    (λ j e g. let f : kind_from 1 (val 0 (x ∷ y ∷ [])) data_codes ≡ suc j = e ∙ omega arith in
    rw (d, f) (data-back j c v ∙ rw g (spelled_back x y (both d).0 (both d).1))))
    (λ d. cases (is_letter x & member (letter or digit) y)
    (λ l. rw (d, l) (job_back c v ∙ rw (p, q)))
    (λ l. absurd (omega (arith, (rw (d, l) at h)))))

starred_back : (c : List ℕ) (v : ℕ → Value) → starred c ≡ true → kind_between (get_or c 1 0) (get_or c 2 0) ≤ 13
    → code_of (record_from (kind_between (get_or c 1 0) (get_or c 2 0)) c v) ≡ c
unfolding starred
starred_back [] v e h = absurd (omega (arith, to≡ (both (both e).0).0))
starred_back (a ∷ []) v e h = absurd (omega (arith, to≡ (both (both e).0).0))
starred_back (a ∷ b ∷ []) v e h = absurd (omega (arith, to≡ (both (both e).0).0))
starred_back (a ∷ b ∷ c ∷ []) v e h = absurd (omega (arith, to≡ (both (both e).0).0))
starred_back (a ∷ b ∷ c ∷ d ∷ []) v e h =
    between_back b c (a ∷ b ∷ c ∷ d ∷ []) v h refl refl ∙ sym (rw (to≡ (both (both e).0).1, to≡ (both e).1))
starred_back (a ∷ b ∷ c ∷ d ∷ x ∷ xs) v e h = absurd (omega (arith, to≡ (both (both e).0).0))

code_back : (c : List ℕ) (v : ℕ → Value) → kind_of c ≤ 13 → code_of (record_from (kind_of c) c v) ≡ c
unfolding kind_of
code_back c v h = cases (starred c) (λ e. rw e (starred_back c v e (rw e at h))) (λ e. absurd (omega (arith, (rw e at h))))

-- ---- the whole
-- a meaning's long texts
abbrev pub texts_of : Meaning → List (List ℕ)
texts_of m = texts (layout m.code) (λ i. get_or m.values i gap)

pub meaning_back : (m : Meaning) → meant chapter4 m ≡ true → meaning_of (record_of m) (get_or (texts_of m) 0 []) (get_or (texts_of m) 1 []) (get_or (texts_of m) 2 []) ≡ m
unfolding meant told known meaning_of record_of layout
meaning_back m h =
    let v : ℕ → Value = λ i. get_or m.values i gap in
    let rows = all_back (get_or layouts (kind_of m.code) kept) m.values (to≡ (both (both h).1).0) (both (both h).1).1 in
    let code = code_back m.code v (to≤ (both h).0) in
    let values = values_back m.code v (kind_of m.code) (omega (arith, to≤ (both h).0)) in
    rw (code, values, rows)
