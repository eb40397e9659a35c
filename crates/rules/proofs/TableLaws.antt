-- The lent table: a pass over the records fills it with the words that the paper says; the families share no word; the counts are those of the records.
use mathlib.Core.Path.{◌≡◌, refl, sym, ◌∙◌, ap, ap₂, subst}
use mathlib.Core.Bool.{Bool, true, false, cond, not, false≢true}
use mathlib.Core.List.{List, [], ◌∷◌}
use Prim.Native.Nat.{ℕ, zero, suc, ◌+◌, ◌-◌, ◌≤◌, ◌<◌}
use native.Mathlib.Omega.{arith}
use lib.ListN.{length, get_or, replicate, length-set, length-replicate, get_or-replicate}
use lib.Seq.{get_or-set_same, get_or-set_other, ext_get_or}
use lib.IntN.{pos, negsuc}
use Rattle.rules.specs.Tests.{all, ◌&◌, ◌=?◌}
use Rattle.rules.specs.Items.{Value, gap, missing, num, text, label, Item, blank, constant, number, height, angle, month, media, word, fits, on_number}
use Rattle.rules.specs.Fields.{Field, given, entries_of, value_at, num_of, is_formed, formed}
use Rattle.rules.specs.Records.{Meaning, told, meant}
use Rattle.rules.specs.Kinds.{kind_of, known}
use Rattle.rules.specs.Layouts.{at, kept, layouts, layout}
use Rattle.rules.specs.Members.{◌∈◌}
use Rattle.rules.specs.References.{Family, families, Naming, namings, is_a, number_at, defines, definer_from, definer, tabulate, has_word, word_at, words, slot_of, mark, filled, tally, counts, sum, blank_record, Defines}
use Rattle.rules.specs.Chapter4.{chapter4}
use Rattle.rules.proofs.Truth.{all_members, all-at, both, to≤, to≡, of≡, no≡, of≢, is_no, cases, either, not_both, true_and, to_within, of_within, below_or_equal}
use Rattle.rules.proofs.ReferenceLaws.{one_or_none, first_is, first_none, word_range, in_table, same_kind, families_apart, tabulate-at, length-words, word-at, word_of}

-- ---- numbers of records that can be meant lie in their family's range
number_range : (w lo hi : ℕ) (v : Value) → fits (number w lo hi false) v ≡ true → (lo ≤ num_of v) × (num_of v ≤ hi)
unfolding fits on_number num_of
number_range w lo hi gap h = absurd (false≢true h)
number_range w lo hi missing h = absurd (false≢true h)
number_range w lo hi (num (pos n)) h = to_within (both h).1
number_range w lo hi (num (negsuc n)) h = absurd (false≢true h)
number_range w lo hi (text t) h = absurd (false≢true h)
number_range w lo hi (label m d y s t) h = absurd (false≢true h)

-- whether a field is a number of the family, which cannot be missing
unfoldable pub is_number_of : Family → Item → Bool
is_number_of F (blank w) = false
is_number_of F (constant c) = false
is_number_of F (number w lo hi may) = w =? F.width & lo =? 1 & hi =? F.most & not may
is_number_of F (height w lo hi may) = false
is_number_of F (angle way) = false
is_number_of F month = false
is_number_of F media = false
is_number_of F (word w test) = false

unfoldable pub has_number_at : Family → ℕ → List Field → Bool
has_number_at F c [] = false
has_number_at F c (f ∷ fs) = cond (f.from =? c) (is_number_of F f.item) (has_number_at F c fs)

-- the layouts have one at column 11 of the family's kind, and at the columns at which a record names it
families_ranged : all (λ F. has_number_at F 11 (get_or layouts F.kind kept)) families ≡ true
unfolding all has_number_at is_number_of layouts ◌=?◌ ◌&◌
families_ranged = refl

namings_ranged : all (λ N. has_number_at N.family N.column (get_or layouts N.by kept)) namings ≡ true
unfolding all has_number_at is_number_of layouts ◌=?◌ ◌&◌
namings_ranged = refl

module _ (F : Family) where
  pub number_is : (i : Item) → is_number_of F i ≡ true → i ≡ number F.width 1 F.most false
  unfolding is_number_of
  number_is (blank w) e = absurd (false≢true e)
  number_is (constant c) e = absurd (false≢true e)
  number_is (number w lo hi true) e = absurd (false≢true (both e).1)
  number_is (number w lo hi false) e = rw (to≡ (both (both (both e).0).0).0, to≡ (both (both (both e).0).0).1, to≡ (both (both e).0).1)
  number_is (height w lo hi may) e = absurd (false≢true e)
  number_is (angle way) e = absurd (false≢true e)
  number_is month e = absurd (false≢true e)
  number_is media e = absurd (false≢true e)
  number_is (word w test) e = absurd (false≢true e)

  field_range : (c : ℕ) (fs : List Field) (vs : List Value) → has_number_at F c fs ≡ true → length vs ≡ length fs → formed (entries_of fs vs) ≡ true
      → (1 ≤ num_of (value_at c (entries_of fs vs))) × (num_of (value_at c (entries_of fs vs)) ≤ F.most)
  unfolding has_number_at entries_of value_at formed all is_formed given
  field_range c [] vs k e h = absurd (false≢true k)
  field_range c (f ∷ fs) [] k e h = absurd (omega arith)
  field_range c (f ∷ fs) (v ∷ vs) k e h =
      cases (f.from =? c)
      (λ y. rw y (number_range F.width 1 F.most v (rw (number_is f.item (rw y at k)) at (both h).0)))
      (λ y. rw y (field_range c fs vs (rw y at k) (omega arith) (both h).1))

  -- the number at column c of a record of kind k, whose field there is one of the family
  at_column : (c k : ℕ) (m : Meaning) → meant chapter4 m ≡ true → is_a k m ≡ true → has_number_at F c (get_or layouts k kept) ≡ true → (1 ≤ number_at c m) × (number_at c m ≤ F.most)
  unfolding number_at
  at_column c k m h e f =
      let here : layout m.code ≡ get_or layouts k kept = unfold layout is_a in ap (λ j. get_or layouts j kept) (to≡ e) in
      let own : (length m.values =? length (layout m.code) ≡ true) × (formed (entries_of (layout m.code) m.values) ≡ true) = unfold meant told in both (both h).1 in
      field_range c (layout m.code) m.values (rw here f) (to≡ own.0) own.1

  module _ (i : F ∈ families) where
    pub own_field : has_number_at F 11 (get_or layouts F.kind kept) ≡ true
    own_field = all_members _ families families_ranged F i

    pub own_range : (m : Meaning) → meant chapter4 m ≡ true → is_a F.kind m ≡ true → (1 ≤ number_at 11 m) × (number_at 11 m ≤ F.most)
    own_range m h e = at_column 11 F.kind m h e own_field

    -- each record that defines a number has it in the table
    pub tabled : (ms : List Meaning) → all (meant chapter4) ms ≡ true → (n j : ℕ) → Defines ms F.kind n j
        → (n ≤ F.most) × (1 ≤ get_or (words ms) (F.base + n) 0) × (get_or (words ms) (F.base + n) 0 ≤ j + 1)
    unfolding Defines
    tabled ms h n j x =
        let most : n ≤ F.most = subst (λ k. k ≤ F.most) x.2 (own_range (get_or ms j blank_record) (all-at (meant chapter4) ms blank_record j h x.0) (unfold is_a in of≡ x.1)).1 in
        let word = word_of ms F i n most j x in
        (most, word.0, word.1)

module _ (N : Naming) (i : N ∈ namings) where
  pub named_field : has_number_at N.family N.column (get_or layouts N.by kept) ≡ true
  named_field = all_members _ namings namings_ranged N i

  pub named_range : (m : Meaning) → meant chapter4 m ≡ true → is_a N.by m ≡ true → (1 ≤ number_at N.column m) × (number_at N.column m ≤ N.family.most)
  named_range m h e = at_column N.family N.column N.by m h e named_field

-- ---- which word a record defines
slot_of_lem : (F : Family) → F ∈ families → (m : Meaning) → is_a F.kind m ≡ true → slot_of m ≡ F.base + number_at 11 m
unfolding slot_of is_a
slot_of_lem F i m e =
    first_is (λ G. kind_of m.code =? G.kind) (λ G. G.base + number_at 11 m) 12_000 families F i e (λ G g a. same_kind G g F i (sym (to≡ a) ∙ to≡ e))

slot_none : (m : Meaning) → ((F : Family) → F ∈ families → is_a F.kind m ≡ false) → slot_of m ≡ 12_000
unfolding slot_of
slot_none m n = first_none (λ F. is_a F.kind m) (λ F. F.base + number_at 11 m) 12_000 families n

module _ (m : Meaning) (h : meant chapter4 m ≡ true) where
  -- a word of the table that it defines is of its own family
  slot_in_lem : (j : ℕ) → j < 12_000 → slot_of m ≡ j → (F : Family) × (F ∈ families) × (is_a F.kind m ≡ true) × (has_word j F ≡ true)
  unfolding has_word
  slot_in_lem j k z =
      either
      (λ x. (x.0, x.1, x.2, of_within (omega (arith, slot_of_lem x.0 x.1 m x.2)) (omega (arith, slot_of_lem x.0 x.1 m x.2, (own_range x.0 x.1 m h x.2).1))))
      (λ n. absurd (omega (arith, slot_none m n)))
      (one_or_none (λ F. is_a F.kind m) families)

  -- whether it defines word j, by its slot and by its kind and number
  hits : (F : Family) → F ∈ families → (j : ℕ) → has_word j F ≡ true → slot_of m =? j ≡ defines F.kind (j - F.base) m
  unfolding defines
  hits F i j w =
      cases (is_a F.kind m)
      (λ a. rw (slot_of_lem F i m a, a, true_and) (same (number_at 11 m) (word_range F j w).0))
      (λ a. rw a (unfold ◌&◌ in of≢ (λ z. not_both (its_own z) a)))
    where
      same : (n : ℕ) → F.base ≤ j → F.base + n =? j ≡ n =? j - F.base
      same n k = cases (n =? j - F.base) (λ y. rw y (of≡ (omega (arith, to≡ y)))) (λ y. rw y (of≢ (λ z. no≡ y (omega arith))))

      its_own : slot_of m ≡ j → is_a F.kind m ≡ true
      its_own z = let x = slot_in_lem j (in_table F i j w) z in subst (λ (G : Family). is_a G.kind m ≡ true) (families_apart x.0 x.1 F i j x.3 w) x.2

  none_hit : (j : ℕ) → j < 12_000 → ((F : Family) → F ∈ families → has_word j F ≡ false) → slot_of m =? j ≡ false
  none_hit j k n = of≢ (λ z. let x = slot_in_lem j k z in not_both x.3 (n x.0 x.1))

-- the word that a record defines, among the records from r on
unfoldable slotter_from : ℕ → ℕ → List Meaning → ℕ
slotter_from r j [] = 0
slotter_from r j (m ∷ ms) = cond (slot_of m =? j) r (slotter_from (r + 1) j ms)

slotter_is : (k n j r : ℕ) (ms : List Meaning) → ((m : Meaning) → meant chapter4 m ≡ true → slot_of m =? j ≡ defines k n m) → all (meant chapter4) ms ≡ true
    → slotter_from r j ms ≡ definer_from r k n ms
unfolding slotter_from definer_from all
slotter_is k n j r [] f h = refl
slotter_is k n j r (m ∷ ms) f h = rw (f m (both h).0) (ap (cond (defines k n m) r) (slotter_is k n j (r + 1) ms f (both h).1))

slotter_none : (j r : ℕ) (ms : List Meaning) → ((m : Meaning) → meant chapter4 m ≡ true → slot_of m =? j ≡ false) → all (meant chapter4) ms ≡ true → slotter_from r j ms ≡ 0
unfolding slotter_from all
slotter_none j r [] f h = refl
slotter_none j r (m ∷ ms) f h = rw (f m (both h).0) (slotter_none j (r + 1) ms f (both h).1)

slotter_word : (ms : List Meaning) (j : ℕ) → all (meant chapter4) ms ≡ true → j < 12_000 → slotter_from 1 j ms ≡ word_at ms j
unfolding word_at definer
slotter_word ms j h l =
    either
    (λ x. slotter_is x.0.kind (j - x.0.base) j 1 ms (λ m k. hits m k x.0 x.1 j x.2) h
    ∙ sym (first_is (has_word j) (λ F. definer_from 1 F.kind (j - F.base) ms) 0 families x.0 x.1 x.2 (λ G g w. families_apart G g x.0 x.1 j w x.2)))
    (λ n. slotter_none j 1 ms (λ m k. none_hit m k j l n) h ∙ sym (first_none (has_word j) _ 0 families n))
    (one_or_none (has_word j) families)

-- ---- a table filled by a pass over the records
pub length-mark : (r j : ℕ) (t : List ℕ) → length (mark r j t) ≡ length t
unfolding mark
length-mark r j t = cases (get_or t j 0 =? 0) (λ e. rw e (length-set t j r)) (λ e. rw e)

pub length-filled : (r : ℕ) (ms : List Meaning) (t : List ℕ) → length (filled r ms t) ≡ length t
unfolding filled
length-filled r [] t = refl
length-filled r (m ∷ ms) t = length-filled (r + 1) ms (mark r (slot_of m) t) ∙ length-mark r (slot_of m) t

-- the first to come keeps the word
unfoldable keeping : ℕ → ℕ → ℕ
keeping old new = cond (old =? 0) new old

keeping_none : (n : ℕ) → n ≡ keeping n 0
unfolding keeping
keeping_none n = cases (n =? 0) (λ e. rw e (to≡ e)) (λ e. rw e)

mark_other : (r i j : ℕ) (t : List ℕ) → i =? j ≡ false → get_or (mark r i t) j 0 ≡ get_or t j 0
unfolding mark
mark_other r i j t h = cases (get_or t i 0 =? 0) (λ e. rw e (get_or-set_other t i j r 0 (λ q. no≡ h (sym q)))) (λ e. rw e)

mark_same : (r j : ℕ) (t : List ℕ) → j < length t → get_or (mark r j t) j 0 ≡ keeping (get_or t j 0) r
unfolding mark keeping
mark_same r j t q = cases (get_or t j 0 =? 0) (λ e. rw e (get_or-set_same t j r 0 q)) (λ e. rw e)

keeping_twice : (r old new : ℕ) → 1 ≤ r → keeping (keeping old r) new ≡ keeping old r
unfolding keeping
keeping_twice r old new p = cases (old =? 0) (λ e. rw e (rw (is_no (r =? 0) (λ z. omega (arith, to≡ z))))) (λ e. rw e (rw e))

filled-word : (r : ℕ) (ms : List Meaning) (t : List ℕ) (j : ℕ) → 1 ≤ r → j < length t → get_or (filled r ms t) j 0 ≡ keeping (get_or t j 0) (slotter_from r j ms)
unfolding filled slotter_from
filled-word r [] t j p q = keeping_none (get_or t j 0)
filled-word r (m ∷ ms) t j p q =
    filled-word (r + 1) ms (mark r (slot_of m) t) j (omega arith) (omega (arith, length-mark r (slot_of m) t))
    ∙ cases (slot_of m =? j)
    (λ e. rw e (here (to≡ e)))
    (λ e. rw (e, mark_other r (slot_of m) j t e))
  where
    here : slot_of m ≡ j → keeping (get_or (mark r (slot_of m) t) j 0) (slotter_from (r + 1) j ms) ≡ keeping (get_or t j 0) r
    here e = rw (e, mark_same r j t q) (keeping_twice r (get_or t j 0) (slotter_from (r + 1) j ms) p)

pub filled_is_words : (ms : List Meaning) → all (meant chapter4) ms ≡ true → filled 1 ms (replicate 12_000 0) ≡ words ms
filled_is_words ms h =
    ext_get_or 0 (filled 1 ms (replicate 12_000 0)) (words ms) (size ∙ sym (length-words ms)) (λ j k. same j (rw size at k))
  where
    size : length (filled 1 ms (replicate 12_000 0)) ≡ 12_000
    size = length-filled 1 ms (replicate 12_000 0) ∙ length-replicate {A = ℕ} 12_000 0

    same : (j : ℕ) → j < 12_000 → get_or (filled 1 ms (replicate 12_000 0)) j 0 ≡ get_or (words ms) j 0
    same j k =
        filled-word 1 ms (replicate 12_000 0) j (omega arith) (rw (length-replicate {A = ℕ} 12_000 0) k)
        ∙ rw (get_or-replicate {A = ℕ} 12_000 j 0 0 k) (unfold keeping ◌=?◌ in slotter_word ms j h k ∙ sym (word-at ms j k))

-- ---- the counts
pub count_at : (ms : List Meaning) (k : ℕ) → k < 14 → get_or (counts ms) k 0 ≡ tally k ms
unfolding counts
count_at ms k h = tabulate-at (λ j. tally j ms) 14 0 k h ∙ ap (λ j. tally j ms) (omega arith)

-- one record more counts once, at its kind
count_other : (m : Meaning) (ms : List Meaning) (n i : ℕ) → kind_of m.code < i → tabulate (λ k. tally k (m ∷ ms)) n i ≡ tabulate (λ k. tally k ms) n i
unfolding tabulate tally is_a
count_other m ms zero i h = refl
count_other m ms (suc n) i h = rw (of≢ {m = kind_of m.code} {n = i} (λ e. omega arith)) (ap₂ ◌∷◌ refl (count_other m ms n (i + 1) (omega arith)))

count_one : (m : Meaning) (ms : List Meaning) (n i : ℕ) → i ≤ kind_of m.code → kind_of m.code < i + n → sum (tabulate (λ k. tally k (m ∷ ms)) n i) ≡ 1 + sum (tabulate (λ k. tally k ms) n i)
unfolding tabulate tally is_a sum
count_one m ms zero i h k = absurd (omega arith)
count_one m ms (suc n) i h k =
    cases (kind_of m.code =? i)
    (λ e. rw (e, count_other m ms n (i + 1) (omega (arith, to≡ e))) (omega arith))
    (λ e. rw (e, count_one m ms n (i + 1) (either (λ l. at_most l) (λ z. absurd (no≡ e (sym z))) (below_or_equal i (kind_of m.code) h)) (omega arith)) (omega arith))
  where
    at_most : i < kind_of m.code → i + 1 ≤ kind_of m.code
    at_most l = omega arith

-- the counts of known records sum to the number of the records: none is passed over
meant-known : (m : Meaning) → meant chapter4 m ≡ true → kind_of m.code ≤ 13
unfolding meant known
meant-known m h = to≤ (both h).0

pub counts-sum : (ms : List Meaning) → all (meant chapter4) ms ≡ true → sum (counts ms) ≡ length ms
unfolding counts all
counts-sum [] h = unfold tabulate tally sum in refl
counts-sum (m ∷ ms) h =
    let known : kind_of m.code ≤ 13 = meant-known m (both h).0 in
    let rest : sum (tabulate (λ k. tally k ms) 14 0) ≡ length ms = counts-sum ms (both h).1 in
    count_one m ms 14 0 (omega arith) (omega arith) ∙ omega arith
