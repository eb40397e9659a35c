-- References and words: the computing forms are what the paper says; what they need of a family of numbers is one computed test over the list of families.
use mathlib.Core.Path.{◌≡◌, refl, sym, ◌∙◌, ap, ap₂, subst}
use mathlib.Core.Logic.{◌⊎◌, inl, inr, ◌↔◌}
use mathlib.Core.Bool.{Bool, true, false, false≢true}
use mathlib.Core.List.{List, [], ◌∷◌, map}
use Prim.Native.Nat.{ℕ, zero, suc, ◌+◌, ◌-◌, ◌≤◌, ◌<◌}
use native.Mathlib.Omega.{arith}
use lib.ListN.{length, get_or}
use Rattle.rules.specs.Tests.{all, ◌&◌, ◌≤?◌, ◌=?◌}
use Rattle.rules.specs.Fields.{Check, is_ok, run}
use Rattle.rules.specs.Records.{Meaning}
use Rattle.rules.specs.Files.{is_accept, refer}
use Rattle.rules.specs.Kinds.{kind_of, *80*}
use Rattle.rules.specs.Members.{◌∈◌}
use Rattle.rules.specs.References.{Family, stations, instruments, antennas, families, Naming, namings, of_first, is_a, number_at, defines, definer_from, definer, asked, named_check, ref_checks, tabulate, has_word, word_at, words, blank_record, Defines, Earliest, Named, Referred}
use Rattle.rules.specs.Chapter4.{chapter4}
use Rattle.rules.proofs.Truth.{all_members, members_all, both, and, to≤, of≤, no≤, to≡, of≡, no≡, of≢, to_within, of_within, cases, either, not_both, below_or_equal}
use Rattle.rules.proofs.FieldLaws.{is_ok_⨾, is_ok_check}
use Rattle.rules.proofs.FileLaws.{in_record-accept}

-- ---- the families
module _ (p : Family → Bool) where
  -- a family with p, or none
  pub one_or_none : (Fs : List Family) → ((F : Family) × (F ∈ Fs) × (p F ≡ true)) ⊎ ((F : Family) → F ∈ Fs → p F ≡ false)
  unfolding ◌∈◌
  one_or_none [] = inr (λ F i. absurd i)
  one_or_none (G ∷ Fs) =
      cases (p G)
      (λ a. inl (G, inl refl, a))
      (λ a. either (λ x. inl (x.0, inr x.1, x.2)) (λ f. inr (λ F i. either (λ e. rw e a) (f F) i)) (one_or_none Fs))

  -- the first with p, where there is only one, or none
  module _ (f : Family → ℕ) (d : ℕ) where
    pub first_is : (Fs : List Family) (F : Family) → F ∈ Fs → p F ≡ true → ((G : Family) → G ∈ Fs → p G ≡ true → G ≡ F) → of_first p f d Fs ≡ f F
    unfolding of_first ◌∈◌
    first_is [] F i h u = absurd i
    first_is (G ∷ Fs) F i h u =
        cases (p G)
        (λ a. rw a (ap f (u G (inl refl) a)))
        (λ a. rw a (first_is Fs F (either (λ e. absurd (not_both h (rw e a))) (λ j. j) i) h (λ K k. u K (inr k))))

    pub first_none : (Fs : List Family) → ((F : Family) → F ∈ Fs → p F ≡ false) → of_first p f d Fs ≡ d
    unfolding of_first ◌∈◌
    first_none [] n = refl
    first_none (G ∷ Fs) n = rw (n G (inl refl)) (first_none Fs (λ F i. n F (inr i)))

pub first_same : (p q : Family → Bool) (f g : Family → ℕ) (d : ℕ) (Fs : List Family) → ((F : Family) → F ∈ Fs → p F ≡ q F) → ((F : Family) → F ∈ Fs → q F ≡ true → f F ≡ g F) → of_first p f d Fs ≡ of_first q g d Fs
unfolding of_first ◌∈◌
first_same p q f g d [] e h = refl
first_same p q f g d (F ∷ Fs) e h =
    rw (e F (inl refl))
    (cases (q F) (λ a. rw a (h F (inl refl) a)) (λ a. rw a (first_same p q f g d Fs (λ G i. e G (inr i)) (λ G i. h G (inr i)))))

pub stations_in : stations ∈ families
unfolding ◌∈◌
stations_in = inl refl

pub instruments_in : instruments ∈ families
unfolding ◌∈◌
instruments_in = inr (inl refl)

pub antennas_in : antennas ∈ families
unfolding ◌∈◌
antennas_in = inr (inr (inl refl))

-- what is named is of a family
pub family_in : (N : Naming) → N ∈ namings → N.family ∈ families
unfolding ◌∈◌
family_in N (inl e) = rw e stations_in
family_in N (inr (inl e)) = rw e stations_in
family_in N (inr (inr (inl e))) = rw e stations_in
family_in N (inr (inr (inr (inl e)))) = rw e stations_in
family_in N (inr (inr (inr (inr (inl e))))) = rw e instruments_in
family_in N (inr (inr (inr (inr (inr (inl e)))))) = rw e antennas_in
family_in N (inr (inr (inr (inr (inr (inr i)))))) = absurd i

-- each has its words in the table, and two that share a kind or a word are one
unfoldable alike : Family → Family → Bool
alike F G = F.kind =? G.kind & F.base =? G.base & F.most =? G.most & F.width =? G.width

unfoldable apart : Family → Family → Bool
apart F G = asked (F.kind =? G.kind) (alike F G) & asked (F.base ≤? G.base + G.most & G.base ≤? F.base + F.most) (alike F G)

families_tabled : all (λ F. F.base + F.most ≤? 11_999 & all (apart F) families) families ≡ true
unfolding all apart alike asked ◌=?◌ ◌≤?◌ ◌&◌
families_tabled = refl

alike_is : (F G : Family) → alike F G ≡ true → F ≡ G
unfolding alike
alike_is F G h j = record {
  kind = to≡ (both (both (both h).0).0).0 j;
  base = to≡ (both (both (both h).0).0).1 j;
  most = to≡ (both (both h).0).1 j;
  width = to≡ (both h).1 j;
}

pub when_asked : (a b : Bool) → asked a b ≡ true → a ≡ true → b ≡ true
unfolding asked
when_asked true b h e = h
when_asked false b h e = absurd (false≢true e)

if_asked : (a b : Bool) → (a ≡ true → b ≡ true) → asked a b ≡ true
unfolding asked
if_asked true b f = f refl
if_asked false b f = refl

pub word_range : (F : Family) (j : ℕ) → has_word j F ≡ true → (F.base ≤ j) × (j ≤ F.base + F.most)
unfolding has_word
word_range F j h = to_within h

module _ (F : Family) (i : F ∈ families) where
  tabled : (F.base + F.most ≤? 11_999 ≡ true) × (all (apart F) families ≡ true)
  tabled = both (all_members _ families families_tabled F i)

  pub in_table : (j : ℕ) → has_word j F ≡ true → j < 12_000
  in_table j h = omega (arith, to≤ tabled.0, (word_range F j h).1)

  module _ (G : Family) (g : G ∈ families) where
    parted : (asked (F.kind =? G.kind) (alike F G) ≡ true) × (asked (F.base ≤? G.base + G.most & G.base ≤? F.base + F.most) (alike F G) ≡ true)
    unfolding apart
    parted = both (all_members (apart F) families tabled.1 G g)

    pub same_kind : F.kind ≡ G.kind → F ≡ G
    same_kind e = alike_is F G (when_asked _ _ parted.0 (of≡ e))

    pub families_apart : (j : ℕ) → has_word j F ≡ true → has_word j G ≡ true → F ≡ G
    families_apart j h k =
        let x = word_range F j h in
        let y = word_range G j k in
        alike_is F G (when_asked _ _ parted.1 (and (of≤ (omega arith)) (of≤ (omega arith))))

-- ---- the definer of a number
defining : (k n : ℕ) (m : Meaning) → kind_of m.code ≡ k → number_at 11 m ≡ n → defines k n m ≡ true
unfolding defines is_a
defining k n m a b = and (of≡ a) (of≡ b)

defined : (k n : ℕ) (m : Meaning) → defines k n m ≡ true → (kind_of m.code ≡ k) × (number_at 11 m ≡ n)
unfolding defines is_a
defined k n m h = (to≡ (both h).0, to≡ (both h).1)

-- it is 0 exactly when no record defines the number, else the first that does
module _ (k n : ℕ) where
  definer_none : (r : ℕ) (ms : List Meaning) → 1 ≤ r → definer_from r k n ms ≡ 0 → (i : ℕ) → Defines ms k n i → ⊥
  unfolding definer_from Defines
  definer_none r [] p e i x = omega (arith, x.0)
  definer_none r (m ∷ ms) p e zero x = let z : r ≡ 0 = rw (defining k n m x.1 x.2) at e in omega arith
  definer_none r (m ∷ ms) p e (suc i) x =
      cases (defines k n m)
      (λ d. let z : r ≡ 0 = rw d at e in omega arith)
      (λ d. definer_none (r + 1) ms (omega arith) (rw d at e) i (omega (arith, x.0), x.1, x.2))

  definer-some : (r : ℕ) (ms : List Meaning) → (definer_from r k n ms ≡ 0) ⊎ ((i : ℕ) × Defines ms k n i × (definer_from r k n ms ≡ r + i))
  unfolding definer_from Defines
  definer-some r [] = inl refl
  definer-some r (m ∷ ms) =
      cases (defines k n m)
      (λ d. inr (0, (omega arith, (defined k n m d).0, (defined k n m d).1), rw d (omega arith)))
      (λ d. either (λ z. inl (rw d z)) (λ x. inr (suc x.0, (omega (arith, x.1.0), x.1.1, x.1.2), rw d (omega (arith, x.2)))) (definer-some (r + 1) ms))

  -- no record before the definer defines the number
  definer-least : (r : ℕ) (ms : List Meaning) (i : ℕ) → Defines ms k n i → definer_from r k n ms ≤ r + i
  unfolding definer_from Defines
  definer-least r [] i x = absurd (omega (arith, x.0))
  definer-least r (m ∷ ms) zero x = rw (defining k n m x.1 x.2) (omega arith)
  definer-least r (m ∷ ms) (suc i) x =
      cases (defines k n m)
      (λ d. rw d (omega arith))
      (λ d. let h : definer_from (r + 1) k n ms ≤ r + 1 + i = definer-least (r + 1) ms i (omega (arith, x.0), x.1, x.2) in rw d (omega arith))

pub defined_iff : (k n : ℕ) (ms : List Meaning) → (1 ≤? definer k n ms ≡ true) ↔ ((i : ℕ) × Defines ms k n i)
unfolding definer
defined_iff k n ms = (
  (λ h. either (λ z. absurd (omega (arith, to≤ h))) (λ x. (x.0, x.1)) (definer-some k n 1 ms)),
  (λ x. cases (1 ≤? definer_from 1 k n ms) (λ h. h) (λ h. absurd (definer_none k n 1 ms (omega arith) (omega (arith, no≤ h)) x.0 x.1))),
)

-- the record number is that of the first
pub definer-first : (k n : ℕ) (ms : List Meaning) (i : ℕ) → Defines ms k n i → ((j : ℕ) → Defines ms k n j → i ≤ j) → definer k n ms ≡ i + 1
unfolding definer
definer-first k n ms i x least =
    either
    (λ z. absurd (definer_none k n 1 ms (omega arith) z i x))
    (λ y. omega (arith, y.2, definer-least k n 1 ms i x, least y.0 y.1))
    (definer-some k n 1 ms)

pub definer_iff : (k n : ℕ) (ms : List Meaning) (i : ℕ) → (definer k n ms ≡ i + 1) ↔ Earliest ms k n i
unfolding Earliest definer
definer_iff k n ms i = (
  (λ h. either
      (λ z. absurd (omega arith))
      (λ y. (subst (Defines ms k n) (omega (arith, y.2)) y.1, λ j x. omega (arith, h, definer-least k n 1 ms j x)))
      (definer-some k n 1 ms)),
  (λ e. unfold definer in definer-first k n ms i e.0 e.1),
)

-- an *80* that is not its number's definer repeats the number of an earlier one, and the other way round
pub repeats_iff : (n : ℕ) (ms : List Meaning) (i : ℕ) → Defines ms *80* n i
    → (definer *80* n ms =? i + 1 ≡ false) ↔ ((j : ℕ) × (j < i) × Defines ms *80* n j)
unfolding definer
repeats_iff n ms i x = (
  (λ h. either
      (λ z. absurd (definer_none *80* n 1 ms (omega arith) z i x))
      (λ y. (y.0, either (λ l. omega (arith, l, y.2)) (λ e. absurd (no≡ h (omega (arith, e, y.2)))) (below_or_equal (definer_from 1 *80* n ms) (i + 1) (omega (arith, definer-least *80* n 1 ms i x))), y.1))
      (definer-some *80* n 1 ms)),
  (λ y. of≢ (λ e. omega (arith, y.1, definer-least *80* n 1 ms y.0 y.2))),
)

-- ---- acceptance of the references, record by record
module _ (file : List Meaning) where
  refer-each : (r : ℕ) (ms : List Meaning) → is_accept (refer chapter4 file r ms) ≡ true → (i : ℕ) → i < length ms → is_ok (run (ref_checks file (r + i) (get_or ms i blank_record))) ≡ true
  unfolding refer
  refer-each r [] h i k = absurd (omega arith)
  refer-each r (m ∷ ms) h zero k =
      let e : r ≡ r + 0 = omega arith in subst (λ j. is_ok (run (ref_checks file j m)) ≡ true) e (both (sym (in_record-accept r _ _) ∙ h)).0
  refer-each r (m ∷ ms) h (suc i) k =
      let e : r + 1 + i ≡ r + suc i = omega arith in
      subst (λ j. is_ok (run (ref_checks file j (get_or ms i blank_record))) ≡ true) e (refer-each (r + 1) ms (both (sym (in_record-accept r _ _) ∙ h)).1 i (omega arith))

  refer-all : (r : ℕ) (ms : List Meaning) → ((i : ℕ) → i < length ms → is_ok (run (ref_checks file (r + i) (get_or ms i blank_record))) ≡ true) → is_accept (refer chapter4 file r ms) ≡ true
  unfolding refer
  refer-all r [] f = unfold is_accept in refl
  refer-all r (m ∷ ms) f =
      let e : r + 0 ≡ r = omega arith in
      in_record-accept r _ _
      ∙ and (subst (λ j. is_ok (run (ref_checks file j m)) ≡ true) e (f 0 (omega arith))) (refer-all (r + 1) ms (λ i k. subst (λ j. is_ok (run (ref_checks file j (get_or ms i blank_record))) ≡ true) (shift i) (f (suc i) (omega arith))))
    where
      shift : (i : ℕ) → r + suc i ≡ r + 1 + i
      shift i = omega arith

-- what is asked of one record
pub record Asked (file : List Meaning) (r : ℕ) (m : Meaning) : Type 0 where
  pub first_80 : is_a *80* m ≡ true → definer *80* (number_at 11 m) file ≡ r
  pub named : (N : Naming) → N ∈ namings → is_a N.by m ≡ true → 1 ≤? definer N.family.kind (number_at N.column m) file ≡ true

run-each : (f : Naming → Check) (Ns : List Naming) → is_ok (run (map f Ns)) ≡ all (λ N. (f N).test) Ns
unfolding run is_ok all
run-each f [] = refl
run-each f (N ∷ Ns) = is_ok_⨾ _ _ ∙ ap₂ ◌&◌ (is_ok_check (f N).test (f N).number (f N).column) (run-each f Ns)

run_tests : (file : List Meaning) (r : ℕ) (m : Meaning) → is_ok (run (ref_checks file r m)) ≡ asked (is_a *80* m) (definer *80* (number_at 11 m) file =? r) & all (λ N. (named_check file m N).test) namings
unfolding run ref_checks
run_tests file r m = is_ok_⨾ _ _ ∙ ap₂ ◌&◌ (is_ok_check _ 11 11) (run-each (named_check file m) namings)

run-asked : (file : List Meaning) (r : ℕ) (m : Meaning) → is_ok (run (ref_checks file r m)) ≡ true → Asked file r m
run-asked file r m h =
    let t = both (sym (run_tests file r m) ∙ h) in
    record {
      first_80 = λ e. to≡ (when_asked _ _ t.0 e);
      named = λ N i e. when_asked _ _ (all_members (λ K. (named_check file m K).test) namings t.1 N i) e;
    }

asked-run : (file : List Meaning) (r : ℕ) (m : Meaning) → Asked file r m → is_ok (run (ref_checks file r m)) ≡ true
asked-run file r m a =
    run_tests file r m
    ∙ and (if_asked _ _ (λ e. of≡ (a.first_80 e))) (members_all (λ K. (named_check file m K).test) namings (λ N i. if_asked _ _ (λ e. a.named N i e)))

-- "defined by its *80*, and by one only; each *25* names a defined station, instrument and antenna"; "each station they name must be defined"
pub references_iff : (ms : List Meaning) → (is_accept (refer chapter4 ms 1 ms) ≡ true) ↔ Referred ms
unfolding Named Defines is_a
references_iff ms = (forth, back)
  where
    forth : is_accept (refer chapter4 ms 1 ms) ≡ true → Referred ms
    forth h =
        let own : (i : ℕ) → i < length ms → Asked ms (1 + i) (get_or ms i blank_record) = λ i k. run-asked ms (1 + i) (get_or ms i blank_record) (refer-each ms 1 ms h i k) in
        let the : (n i : ℕ) → Defines ms *80* n i → definer *80* n ms ≡ 1 + i
        = λ n i x. subst (λ j. definer *80* j ms ≡ 1 + i) x.2 ((own i x.0).first_80 (of≡ x.1)) in
        record {
          one_only = λ n i j x y. omega (arith, the n i x, the n j y);
          named = λ N n i k e. (defined_iff N.family.kind _ ms).0 ((own i k).named N n (of≡ e));
        }

    back : Referred ms → is_accept (refer chapter4 ms 1 ms) ≡ true
    back g = refer-all ms 1 ms (λ i k. asked-run ms (1 + i) (get_or ms i blank_record) record {
      first_80 = λ e. let x : Defines ms *80* (number_at 11 (get_or ms i blank_record)) i = (k, to≡ e, refl) in omega (arith, definer-first *80* _ ms i x (λ j y. eq_le (g.one_only _ i j x y)));
      named = λ N n e. (defined_iff N.family.kind _ ms).1 (g.named N n i k (to≡ e));
    })
      where
        eq_le : {i j : ℕ} → i ≡ j → i ≤ j
        eq_le e = omega arith

-- ---- tabulated lists
pub length-tabulate : (f : ℕ → ℕ) (n i : ℕ) → length (tabulate f n i) ≡ n
unfolding tabulate
length-tabulate f zero i = refl
length-tabulate f (suc n) i = ap suc (length-tabulate f n (i + 1))

pub tabulate-at : (f : ℕ → ℕ) (n i j : ℕ) → j < n → get_or (tabulate f n i) j 0 ≡ f (i + j)
unfolding tabulate
tabulate-at f zero i j h = absurd (omega arith)
tabulate-at f (suc n) i zero h = ap f (omega arith)
tabulate-at f (suc n) i (suc j) h = tabulate-at f n (i + 1) j (omega arith) ∙ ap f (omega arith)

-- ---- the words
pub word-at : (ms : List Meaning) (j : ℕ) → j < 12_000 → get_or (words ms) j 0 ≡ word_at ms j
unfolding words
word-at ms j h = tabulate-at (word_at ms) 12_000 0 j h ∙ ap (word_at ms) (omega arith)

pub length-words : (ms : List Meaning) → length (words ms) ≡ 12_000
unfolding words
length-words ms = length-tabulate (word_at ms) 12_000 0

-- for any family, word base + n is the record number of what defines number n
pub word_in : (ms : List Meaning) (F : Family) → F ∈ families → (n : ℕ) → n ≤ F.most → get_or (words ms) (F.base + n) 0 ≡ definer F.kind n ms
unfolding word_at
word_in ms F i n h =
    word-at ms (F.base + n) (in_table F i (F.base + n) here)
    ∙ first_is (has_word (F.base + n)) (λ G. definer G.kind (F.base + n - G.base) ms) 0 families F i here (λ G g k. families_apart G g F i (F.base + n) k here)
    ∙ ap (λ j. definer F.kind j ms) (omega arith)
  where
    here : has_word (F.base + n) F ≡ true
    here = unfold has_word in of_within (omega arith) (omega arith)

-- the first record's, where there are several
pub word_first : (ms : List Meaning) (F : Family) → F ∈ families → (n : ℕ) → n ≤ F.most → (i : ℕ) → (get_or (words ms) (F.base + n) 0 ≡ i + 1) ↔ Earliest ms F.kind n i
word_first ms F m n h i =
    let iff = definer_iff F.kind n ms i in
    let same = word_in ms F m n h in
    ((λ e. iff.0 (sym same ∙ e)), (λ x. same ∙ iff.1 x))

-- none is above that of a record that defines the number, and none is 0
pub word_of : (ms : List Meaning) (F : Family) → F ∈ families → (n : ℕ) → n ≤ F.most → (i : ℕ) → Defines ms F.kind n i → (1 ≤ get_or (words ms) (F.base + n) 0) × (get_or (words ms) (F.base + n) 0 ≤ i + 1)
word_of ms F m n h i x =
    let same = word_in ms F m n h in
    let least : definer F.kind n ms ≤ 1 + i = unfold definer in definer-least F.kind n 1 ms i x in
    (omega (arith, same, to≤ ((defined_iff F.kind n ms).1 (i, x))), omega (arith, same))
