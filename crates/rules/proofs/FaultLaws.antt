-- Demand 2 for one record: each judge names the first of the faults that there are.
use mathlib.Core.Path.{◌≡◌, refl, sym, ◌∙◌, ap}
use mathlib.Core.Logic.{◌⊎◌, inl, inr}
use mathlib.Core.Bool.{Bool, true, false, true≢false}
use mathlib.Core.List.{List, [], ◌∷◌, map}
use Prim.Native.Nat.{ℕ, zero, suc, ◌+◌, ◌≤◌, ◌<◌}
use native.Mathlib.Omega.{arith}
use lib.ListN.{length, take, get_or}
use Rattle.rules.specs.Tests.{◌&◌, ◌≤?◌, ◌=?◌}
use Rattle.rules.specs.Characters.{is_printable}
use Rattle.rules.specs.Items.{Value, width, fits, good, spot}
use Rattle.rules.specs.Fields.{Field, Expect, anything, Verdict, ok, fault, ◌⨾◌, check, Check, run, Entry, columns_of, read, given, entries_of, agrees, judge_each, judge, covers}
use Rattle.rules.specs.Records.{Meaning, Edition, sequence, bytes, code_at, entries, numbered, judge_line, read_line, told, of_kind, judge_given}
use Rattle.rules.specs.Faults.{Faults, ◌∪◌, Fails, Some, ByteFaults, FieldFaults, CheckFaults, stage, Before, First, LineFaults, ReadFaults, GivenFaults}
use Rattle.rules.proofs.Truth.{both, and, to≤, of≤, to≡, either, not_both, below_or_equal}
use Rattle.rules.proofs.Lawful.{spot-inside}
use Rattle.rules.proofs.FieldLaws.{check_ok}
use Rattle.rules.proofs.RecordLaws.{Sound}

-- ---- the order
pub by_stage : (n d n' d' : ℕ) → stage n < stage n' → Before n d n' d'
unfolding Before
by_stage n d n' d' h = inl h

pub by_column : (k n d n' d' : ℕ) → stage n ≡ k → stage n' ≡ k → d < d' → Before n d n' d'
unfolding Before
by_column k n d n' d' p q h = inr (p ∙ sym q, inl h)

pub by_number : (n d n' d' : ℕ) → n' ≡ n → d' ≡ d → Before n d n' d'
unfolding Before
by_number n d n' d' p q = inr (ap stage (sym p), inr (sym q, omega arith))

-- no two faults stand before each other
pub before_antisym : (n c n' c' : ℕ) → Before n c n' c' → Before n' c' n c → (n ≡ n') × (c ≡ c')
unfolding Before
before_antisym n c n' c' (inl x) (inl y) = absurd (omega arith)
before_antisym n c n' c' (inl x) (inr y) = absurd (omega (arith, y.0))
before_antisym n c n' c' (inr x) (inl y) = absurd (omega (arith, x.0))
before_antisym n c n' c' (inr x) (inr y) = ((level x.1 y.1).0, (level x.1 y.1).1)
  where
    level : (c < c') ⊎ ((c ≡ c') × (n ≤ n')) → (c' < c) ⊎ ((c' ≡ c) × (n' ≤ n)) → (n ≡ n') × (c ≡ c')
    level (inl p) (inl q) = absurd (omega arith)
    level (inl p) (inr q) = absurd (omega (arith, q.0))
    level (inr p) (inl q) = absurd (omega (arith, p.0))
    level (inr p) (inr q) = (omega (arith, p.1, q.1), p.0)

-- the stage of each number
pub at_2 : (n : ℕ) → n ≡ 2 → stage n ≡ 0
unfolding stage
at_2 n e = rw e

pub at_8 : (n : ℕ) → n ≡ 8 → stage n ≡ 0
unfolding stage
at_8 n e = rw e

at_6 : (n : ℕ) → n ≡ 6 → stage n ≡ 2
unfolding stage
at_6 n e = rw e

at_7 : (n : ℕ) → n ≡ 7 → stage n ≡ 3
unfolding stage
at_7 n e = rw e

at_9 : (n : ℕ) → n ≡ 9 → stage n ≡ 4
unfolding stage
at_9 n e = rw e

at_10 : (n : ℕ) → n ≡ 10 → stage n ≡ 4
unfolding stage
at_10 n e = rw e

at-bytes : (n : ℕ) → (n ≡ 3) ⊎ ((n ≡ 4) ⊎ (n ≡ 5)) → stage n ≡ 1
unfolding stage
at-bytes n (inl e) = rw e
at-bytes n (inr (inl e)) = rw e
at-bytes n (inr (inr e)) = rw e

-- ---- judges in a row: what is judged second need be right only where the first judge finds nothing
pub first_then : (R Q : Faults) (u v : Verdict) → First R u → (u ≡ ok → First Q v)
    → ((n c n' c' : ℕ) → R n c → Q n' c' → Before n c n' c') → First (R ∪ Q) (u ⨾ v)
unfolding First ◌⨾◌
first_then R Q ok ok f g k = λ n c. either (f n c) (g refl n c)
first_then R Q ok (fault n c) f g k = (inr (g refl).0, λ n' c'. either (λ x. absurd (f n' c' x)) ((g refl).1 n' c'))
first_then R Q (fault n c) v f g k = (inl f.0, λ n' c'. either (f.1 n' c') (k n c n' c' f.0))

pub first_check : (b : Bool) (n c : ℕ) → First (Fails b n c) (check b n c)
unfolding First check
first_check true n c = λ n' c' x. true≢false x.0
first_check false n c = ((refl, refl, refl), λ n' c' x. by_number n c n' c' x.1 x.2)

-- stages from k on
pub late : (k : ℕ) (R Q : Faults) → ((n c : ℕ) → R n c → k ≤ stage n) → ((n c : ℕ) → Q n c → k ≤ stage n) → (n c : ℕ) → (R ∪ Q) n c → k ≤ stage n
late k R Q f g n c = either (f n c) (g n c)

-- the same faults, said in another way
pub first-map : (R Q : Faults) (v : Verdict) → ((n c : ℕ) → R n c → Q n c) → ((n c : ℕ) → Q n c → R n c) → First R v → First Q v
unfolding First
first-map R Q ok f g h = λ n c x. h n c (g n c x)
first-map R Q (fault n c) f g h = (f n c h.0, λ n' c' x. h.1 n' c' (g n' c' x))

-- ---- a written-out list of tests: its order is one computed test
unfoldable pub before_all : ℕ → ℕ → List Check → Bool
before_all n c [] = true
before_all n c (k ∷ ks) = stage n =? stage k.number & (n ≤? k.number & c ≤? k.column) & before_all n c ks

unfoldable pub sorted : List Check → Bool
sorted [] = true
sorted (k ∷ ks) = before_all k.number k.column ks & sorted ks

one_before : (n c n' c' : ℕ) → stage n =? stage n' ≡ true → n ≤ n' → c ≤ c' → Before n c n' c'
unfolding Before
one_before n c n' c' e h k = inr (to≡ e, level (below_or_equal c c' k))
  where
    level : (c < c') ⊎ (c ≡ c') → (c < c') ⊎ ((c ≡ c') × (n ≤ n'))
    level (inl p) = inl p
    level (inr p) = inr (p, h)

all-before : (n c : ℕ) (ks : List Check) → before_all n c ks ≡ true → (n' c' : ℕ) → Some CheckFaults ks n' c' → Before n c n' c'
unfolding before_all Some
all-before n c [] h n' c' x = absurd x
all-before n c (k ∷ ks) h n' c' (inl x) =
    rw (x.1, x.2) (one_before n c k.number k.column (both (both h).0).0 (to≤ (both (both (both h).0).1).0) (to≤ (both (both (both h).0).1).1))
all-before n c (k ∷ ks) h n' c' (inr x) = all-before n c ks (both h).1 n' c' x

pub first_run : (ks : List Check) → sorted ks ≡ true → First (Some CheckFaults ks) (run ks)
unfolding sorted Some run
first_run [] h = unfold First in λ n c x. x
first_run (k ∷ ks) h =
    first_then (Fails k.test k.number k.column) (Some CheckFaults ks) (check k.test k.number k.column) (run ks)
    (first_check k.test k.number k.column) (λ _. first_run ks (both h).1)
    (λ n c n' c' x y. rw (x.1, x.2) (all-before k.number k.column ks (both h).0 n' c' y))

-- ---- fields, from the left: each starts behind the place where the one before it can be named
unfoldable pub rising : ℕ → List Entry → Bool
rising c [] = true
rising c (x ∷ xs) = c ≤? x.column & rising (x.column + x.spot + 1) xs

rising_from : (c d : ℕ) (xs : List Entry) → c ≤ d → rising d xs ≡ true → rising c xs ≡ true
unfolding rising
rising_from c d [] h k = refl
rising_from c d (x ∷ xs) h k = and (of≤ (omega (arith, to≤ (both k).0))) (both k).1

pub read_rising : (c : ℕ) (fs : List Field) (l : List ℕ) → covers c fs ≡ true → rising c (map (read l) fs) ≡ true
unfolding covers rising read
read_rising c [] l h = refl
read_rising c (f ∷ fs) l h =
    let inside : spot f.item (columns_of f l) < width f.item = spot-inside f.item (columns_of f l) (to≤ (both (both h).0).1) in
    and (of≤ (omega (arith, to≡ (both (both h).0).0)))
    (rising_from _ (c + width f.item) (map (read l) fs) (omega (arith, to≡ (both (both h).0).0)) (unfold read in read_rising (c + width f.item) fs l (both h).1))

pub given_rising : (c : ℕ) (fs : List Field) (vs : List Value) → covers c fs ≡ true → rising c (entries_of fs vs) ≡ true
unfolding covers rising given entries_of
given_rising c [] vs h = refl
given_rising c (f ∷ fs) [] h = refl
given_rising c (f ∷ fs) (v ∷ vs) h =
    and (of≤ (omega (arith, to≡ (both (both h).0).0)))
    (rising_from _ (c + width f.item) (entries_of fs vs) (omega (arith, to≡ (both (both h).0).0, to≤ (both (both h).0).1)) (given_rising (c + width f.item) fs vs (both h).1))

module _ (e : Expect) (xs : List Entry) where
  each-stage : (ys : List Entry) (n d : ℕ) → Some (FieldFaults e xs) ys n d → stage n ≡ 4
  unfolding Some
  each-stage [] n d x = absurd x
  each-stage (y ∷ ys) n d (inl (inl x)) = at_9 n x.1
  each-stage (y ∷ ys) n d (inl (inr x)) = at_10 n x.1.1
  each-stage (y ∷ ys) n d (inr x) = each-stage ys n d x

  each_column : (c : ℕ) (ys : List Entry) → rising c ys ≡ true → (n d : ℕ) → Some (FieldFaults e xs) ys n d → c ≤ d
  unfolding Some rising
  each_column c [] h n d x = absurd x
  each_column c (y ∷ ys) h n d (inl (inl x)) = omega (arith, x.2, to≤ (both h).0)
  each_column c (y ∷ ys) h n d (inl (inr x)) = omega (arith, x.1.2, to≤ (both h).0)
  each_column c (y ∷ ys) h n d (inr x) =
      let k : y.column + y.spot + 1 ≤ d = each_column (y.column + y.spot + 1) ys (both h).1 n d x in omega (arith, to≤ (both h).0)

  first-each : (c : ℕ) (ys : List Entry) → rising c ys ≡ true → First (Some (FieldFaults e xs) ys) (judge_each e xs ys)
  unfolding Some judge_each rising
  first-each c [] h = unfold First in λ n d x. x
  first-each c (y ∷ ys) h =
      let ill : Faults = Fails y.formed 9 (y.column + y.spot) in
      let odd : Faults = λ n d. (y.formed ≡ true) × Fails (agrees e xs y) 10 y.column n d in
      let rest : Faults = Some (FieldFaults e xs) ys in
      let behind : (n d : ℕ) → rest n d → y.column + y.spot < d = λ n d x. omega (arith, each_column (y.column + y.spot + 1) ys (both h).1 n d x) in
      first-map (ill ∪ odd ∪ rest) (λ n d. (ill n d ⊎ odd n d) ⊎ rest n d) _
      (λ n d. either (λ x. inl (inl x)) (either (λ x. inl (inr x)) inr))
      (λ n d. either (either inl (λ x. inr (inl x))) (λ x. inr (inr x)))
      (first_then ill (odd ∪ rest) (check y.formed 9 (y.column + y.spot)) _ (first_check y.formed 9 (y.column + y.spot))
      (λ good. first_then odd rest (check (agrees e xs y) 10 y.column) (judge_each e xs ys)
      (first-map (Fails (agrees e xs y) 10 y.column) odd _ (λ n d x. (check_ok y.formed 9 _ good, x)) (λ n d x. x.1) (first_check (agrees e xs y) 10 y.column))
      (λ _. first-each (y.column + y.spot + 1) ys (both h).1)
      (λ n d n' d' x z. by_column 4 n d n' d' (at_10 n x.1.1) (each-stage ys n' d' z) (omega (arith, x.1.2, behind n' d' z))))
      (λ n d n' d' x. either
      (λ z. absurd (not_both z.0 x.0))
      (λ z. by_column 4 n d n' d' (at_9 n x.1) (each-stage ys n' d' z) (omega (arith, x.2, behind n' d' z)))))

pub first_fields : (e : Expect) (c : ℕ) (xs : List Entry) → rising c xs ≡ true → First (Some (FieldFaults e xs) xs) (judge e xs)
unfolding judge
first_fields e c xs h = first-each e xs c xs h

-- ---- bytes: n columns from column c on, and the line feed
unfoldable pub BytesFrom : ℕ → ℕ → List ℕ → Faults
BytesFrom n c l k d =
    ((length l ≤ n) × (k ≡ 3) × (d ≡ c + length l))
    ⊎ (((i : ℕ) × (i < n) × (i < length l) × (is_printable (get_or l i 0) ≡ false) × (k ≡ 4) × (d ≡ c + i))
    ⊎ ((n < length l) × (get_or l n 0 =? 10 ≡ false) × (k ≡ 5) × (d ≡ c + n)))

bytes-stage : (n c : ℕ) (l : List ℕ) (k d : ℕ) → BytesFrom n c l k d → (stage k ≡ 1) × (c ≤ d)
unfolding BytesFrom
bytes-stage n c l k d (inl x) = (at-bytes k (inl x.1), omega (arith, x.2))
bytes-stage n c l k d (inr (inl x)) = (at-bytes k (inr (inl x.4)), omega (arith, x.5))
bytes-stage n c l k d (inr (inr x)) = (at-bytes k (inr (inr x.2)), omega (arith, x.3))

-- one column more in front
module _ (n c b : ℕ) (bs : List ℕ) where
  put_in_front : (k d : ℕ) → (Fails (is_printable b) 4 c ∪ BytesFrom n (c + 1) bs) k d → BytesFrom (suc n) c (b ∷ bs) k d
  unfolding BytesFrom
  put_in_front k d (inl x) = inr (inl (0, omega arith, omega arith, x.0, x.1, omega (arith, x.2)))
  put_in_front k d (inr (inl x)) = inl (omega (arith, x.0), x.1, omega (arith, x.2))
  put_in_front k d (inr (inr (inl x))) = inr (inl (suc x.0, omega (arith, x.1), omega (arith, x.2), x.3, x.4, omega (arith, x.5)))
  put_in_front k d (inr (inr (inr x))) = inr (inr (omega (arith, x.0), x.1, x.2, omega (arith, x.3)))

  take_off : (k d : ℕ) → BytesFrom (suc n) c (b ∷ bs) k d → (Fails (is_printable b) 4 c ∪ BytesFrom n (c + 1) bs) k d
  unfolding BytesFrom
  take_off k d (inl x) = inr (inl (omega (arith, x.0), x.1, omega (arith, x.2)))
  take_off k d (inr (inl (zero, x1, x2, x3, x4, x5))) = inl (x3, x4, omega arith)
  take_off k d (inr (inl (suc i, x1, x2, x3, x4, x5))) = inr (inr (inl (i, omega arith, omega arith, x3, x4, omega arith)))
  take_off k d (inr (inr x)) = inr (inr (inr (omega (arith, x.0), x.1, x.2, omega (arith, x.3))))

first_none : (n c : ℕ) → First (BytesFrom n c []) (fault 3 c)
unfolding First BytesFrom
first_none n c = (
  inl (omega arith, refl, omega arith),
  λ k d. either (λ x. by_number 3 c k d x.1 (omega (arith, x.2))) (either (λ x. absurd (omega (arith, x.2))) (λ x. absurd (omega (arith, x.0)))),
)

first-bytes : (n c : ℕ) (l : List ℕ) → First (BytesFrom n c l) (bytes n c l)
unfolding bytes
first-bytes zero c [] = first_none 0 c
first-bytes zero c (b ∷ bs) = first-map (Fails (b =? 10) 5 c) (BytesFrom 0 c (b ∷ bs)) _ feed_in feed_out (first_check (b =? 10) 5 c)
  where
    feed_in : (k d : ℕ) → Fails (b =? 10) 5 c k d → BytesFrom 0 c (b ∷ bs) k d
    feed_in k d x = unfold BytesFrom in inr (inr (omega arith, x.0, x.1, omega (arith, x.2)))

    feed_out : (k d : ℕ) → BytesFrom 0 c (b ∷ bs) k d → Fails (b =? 10) 5 c k d
    feed_out k d = unfold BytesFrom in
        either (λ x. absurd (omega (arith, x.0))) (either (λ x. absurd (omega (arith, x.1))) (λ x. (x.1, x.2, omega (arith, x.3))))
first-bytes (suc n) c [] = first_none (suc n) c
first-bytes (suc n) c (b ∷ bs) =
    first-map (Fails (is_printable b) 4 c ∪ BytesFrom n (c + 1) bs) (BytesFrom (suc n) c (b ∷ bs)) _ (put_in_front n c b bs) (take_off n c b bs)
    (first_then (Fails (is_printable b) 4 c) (BytesFrom n (c + 1) bs) (check (is_printable b) 4 c) (bytes n (c + 1) bs)
    (first_check (is_printable b) 4 c) (λ _. first-bytes n (c + 1) bs)
    (λ k d k' d' x y. by_column 1 k d k' d' (at-bytes k (inr (inl x.1))) (bytes-stage n (c + 1) bs k' d' y).0 (omega (arith, x.2, (bytes-stage n (c + 1) bs k' d' y).1))))

to_line : (l : List ℕ) (k d : ℕ) → BytesFrom 80 1 l k d → ByteFaults l k d
unfolding BytesFrom ByteFaults
to_line l k d (inl x) = inl (x.0, x.1, omega (arith, x.2))
to_line l k d (inr (inl x)) = inr (inl (x.0, x.1, x.2, x.3, x.4, omega (arith, x.5)))
to_line l k d (inr (inr x)) = inr (inr (x.0, x.1, x.2, omega (arith, x.3)))

of_line : (l : List ℕ) (k d : ℕ) → ByteFaults l k d → BytesFrom 80 1 l k d
unfolding BytesFrom ByteFaults
of_line l k d (inl x) = inl (x.0, x.1, omega (arith, x.2))
of_line l k d (inr (inl x)) = inr (inl (x.0, x.1, x.2, x.3, x.4, omega (arith, x.5)))
of_line l k d (inr (inr x)) = inr (inr (x.0, x.1, x.2, omega (arith, x.3)))

line_bytes : (l : List ℕ) → First (ByteFaults l) (bytes 80 1 l)
line_bytes l = first-map (BytesFrom 80 1 l) (ByteFaults l) (bytes 80 1 l) (to_line l) (of_line l) (first-bytes 80 1 l)

line_bytes-stage : (l : List ℕ) (k d : ℕ) → ByteFaults l k d → stage k ≡ 1
line_bytes-stage l k d x = (bytes-stage 80 1 l k d (of_line l k d x)).0

-- ---- a line
module _ {S : Type 0} (E : Edition S) where
  six : (l : List ℕ) → spot sequence (take 6 l) < 6
  unfolding sequence width
  six l = spot-inside sequence (take 6 l) (omega arith)

  tail_stage : (e : Expect) (l : List ℕ) (n c : ℕ) → (Fails (good sequence (take 6 l)) 9 (1 + spot sequence (take 6 l)) ∪ Some (FieldFaults e (entries E l)) (entries E l)) n c → stage n ≡ 4
  tail_stage e l n c (inl x) = at_9 n x.1
  tail_stage e l n c (inr x) = each-stage e (entries E l) (entries E l) n c x

  first_tail : Sound E → (e : Expect) (l : List ℕ) → E.known (code_at l) ≡ true
      → First (Fails (good sequence (take 6 l)) 9 (1 + spot sequence (take 6 l)) ∪ Some (FieldFaults e (entries E l)) (entries E l)) (numbered E l ⨾ judge e (entries E l))
  unfolding numbered
  first_tail sound e l known =
      let up : rising 11 (entries E l) ≡ true = unfold entries in read_rising 11 (E.layout (code_at l)) l (sound.filled (code_at l) known) in
      first_then (Fails (good sequence (take 6 l)) 9 (1 + spot sequence (take 6 l))) (Some (FieldFaults e (entries E l)) (entries E l)) _ _
      (first_check (good sequence (take 6 l)) 9 (1 + spot sequence (take 6 l)))
      (λ _. first_fields e 11 (entries E l) up)
      (λ n c n' c' x y. by_column 4 n c n' c' (at_9 n x.1) (each-stage e (entries E l) (entries E l) n' c' y) (omega (arith, x.2, six l, each_column e (entries E l) 11 (entries E l) up n' c' y)))

  pub first_line : Sound E → (s : S) (l : List ℕ) → First (LineFaults E s l) (judge_line E s l)
  unfolding LineFaults judge_line
  first_line sound s l =
      let e = E.expects s (code_at l) in
      let known = Fails (E.known (code_at l)) 6 7 in
      let allowed = Fails (E.allowed s (code_at l)) 7 7 in
      let tail : Faults = Fails (good sequence (take 6 l)) 9 (1 + spot sequence (take 6 l)) ∪ Some (FieldFaults e (entries E l)) (entries E l) in
      let from-7 : (n c : ℕ) → (allowed ∪ tail) n c → 3 ≤ stage n = late 3 allowed tail (λ n c x. omega (arith, at_7 n x.1)) (λ n c x. omega (arith, tail_stage e l n c x)) in
      let from-6 : (n c : ℕ) → (known ∪ allowed ∪ tail) n c → 2 ≤ stage n = late 2 known (allowed ∪ tail) (λ n c x. omega (arith, at_6 n x.1)) (λ n c x. omega (arith, from-7 n c x)) in
      first_then (ByteFaults l) (known ∪ allowed ∪ tail) (bytes 80 1 l) _ (line_bytes l) (λ _.
      first_then known (allowed ∪ tail) (check (E.known (code_at l)) 6 7) _ (first_check _ 6 7) (λ k.
      first_then allowed tail (check (E.allowed s (code_at l)) 7 7) _ (first_check _ 7 7)
      (λ _. first_tail sound e l (check_ok _ 6 7 k))
      (λ n c n' c' x y. by_stage n c n' c' (omega (arith, at_7 n x.1, tail_stage e l n' c' y))))
      (λ n c n' c' x y. by_stage n c n' c' (omega (arith, at_6 n x.1, from-7 n' c' y))))
      (λ n c n' c' x y. by_stage n c n' c' (omega (arith, line_bytes-stage l n c x, from-6 n' c' y)))

  pub line_stage : (s : S) (l : List ℕ) (n c : ℕ) → LineFaults E s l n c → (1 ≤ stage n) × (stage n ≤ 4)
  unfolding LineFaults
  line_stage s l n c (inl x) = omega (arith, line_bytes-stage l n c x)
  line_stage s l n c (inr (inl x)) = omega (arith, at_6 n x.1)
  line_stage s l n c (inr (inr (inl x))) = omega (arith, at_7 n x.1)
  line_stage s l n c (inr (inr (inr x))) = omega (arith, tail_stage (E.expects s (code_at l)) l n c x)

  -- ---- a line by itself
  pub first_read : Sound E → (l : List ℕ) → First (ReadFaults E l) (read_line E l)
  unfolding ReadFaults read_line
  first_read sound l =
      let known = Fails (E.known (code_at l)) 6 7 in
      let tail : Faults = Fails (good sequence (take 6 l)) 9 (1 + spot sequence (take 6 l)) ∪ Some (FieldFaults anything (entries E l)) (entries E l) in
      let from-6 : (n c : ℕ) → (known ∪ tail) n c → 2 ≤ stage n = late 2 known tail (λ n c x. omega (arith, at_6 n x.1)) (λ n c x. omega (arith, tail_stage anything l n c x)) in
      first_then (ByteFaults l) (known ∪ tail) (bytes 80 1 l) _ (line_bytes l) (λ _.
      first_then known tail (check (E.known (code_at l)) 6 7) _ (first_check _ 6 7)
      (λ k. first_tail sound anything l (check_ok _ 6 7 k))
      (λ n c n' c' x y. by_stage n c n' c' (omega (arith, at_6 n x.1, tail_stage anything l n' c' y))))
      (λ n c n' c' x y. by_stage n c n' c' (omega (arith, line_bytes-stage l n c x, from-6 n' c' y)))

  -- ---- values that are to be written
  kind_known : (k : ℕ) (m : Meaning) → of_kind E k m ≡ true → E.known m.code ≡ true
  unfolding of_kind
  kind_known k m h = (both (both h).0).0

  pub first-given : Sound E → (k : ℕ) (q : Value) (m : Meaning) → First (GivenFaults E k q m) (judge_given E k q m)
  unfolding GivenFaults judge_given
  first-given sound k q m =
      let up : of_kind E k m ≡ true → rising 11 (told E m) ≡ true = λ h. unfold told in given_rising 11 (E.layout m.code) m.values (sound.filled m.code (kind_known k m h)) in
      let number = Fails (fits sequence q) 9 1 in
      let kind = Fails (of_kind E k m) 9 7 in
      let some = Some (FieldFaults anything (told E m)) (told E m) in
      let fields : Faults = λ n c. (of_kind E k m ≡ true) × some n c in
      let behind : (n c : ℕ) → fields n c → (stage n ≡ 4) × (11 ≤ c)
      = λ n c x. (each-stage anything (told E m) (told E m) n c x.1, each_column anything (told E m) 11 (told E m) (up x.0) n c x.1) in
      first_then number (kind ∪ fields) (check (fits sequence q) 9 1) _ (first_check _ 9 1) (λ _.
      first_then kind fields (check (of_kind E k m) 9 7) _ (first_check _ 9 7)
      (λ h. first-map some fields _ (λ n c x. (check_ok _ 9 7 h, x)) (λ n c x. x.1) (first_fields anything 11 (told E m) (up (check_ok _ 9 7 h))))
      (λ n c n' c' x y. by_column 4 n c n' c' (at_9 n x.1) (behind n' c' y).0 (omega (arith, x.2, (behind n' c' y).1))))
      (λ n c n' c' x. either
      (λ y. by_column 4 n c n' c' (at_9 n x.1) (at_9 n' y.1) (omega (arith, x.2, y.2)))
      (λ y. by_column 4 n c n' c' (at_9 n x.1) (behind n' c' y).0 (omega (arith, x.2, (behind n' c' y).1))))
