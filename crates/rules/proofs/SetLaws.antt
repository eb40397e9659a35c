-- The test of each set of characters is the list of its members: ranges are tried on the first 128 characters, and no set has another.
use mathlib.Core.Path.{◌≡◌, refl, sym, ◌∙◌, ap}
use mathlib.Core.Logic.{inl, inr}
use mathlib.Core.Bool.{Bool, true, false, cond, not, false≢true}
use mathlib.Core.List.{List, [], ◌∷◌, ◌++◌}
use Prim.Native.Nat.{ℕ, ◌≤◌, ◌<◌}
use native.Mathlib.Omega.{arith}
use Rattle.rules.specs.Tests.{all, within, ◌&◌, ◌≤?◌, ◌=?◌}
use Rattle.rules.specs.Characters.{ascii, is_printable, is_blank, is_digit, is_letter, any_of, title_characters, name_characters, Set, letter, digit, space, printable, title, name, only, ◌or◌, member}
use Rattle.rules.specs.Fields.{same_truth}
use Rattle.rules.specs.Members.{◌∈◌, ◌⊆◌}
use Rattle.rules.specs.Forms.{characters_of}
use Rattle.rules.proofs.Truth.{to≤, no≤, to≡, of≡, is_no, cases, choice, to_within, under, tried, all_weaken, all_members, members_all}
use Rattle.rules.proofs.Lawful.{member-printable}

-- ---- a list of characters
pub any-member : (cs : List ℕ) (b : ℕ) → any_of cs b ≡ true → b ∈ cs
unfolding any_of ◌∈◌
any-member [] b h = absurd (false≢true h)
any-member (c ∷ cs) b h = choice (b =? c) (any_of cs b) h _ (λ e. inl (to≡ e)) (λ e. inr (any-member cs b e))

pub member-any : (cs : List ℕ) (b : ℕ) → b ∈ cs → any_of cs b ≡ true
unfolding any_of ◌∈◌
member-any [] b m = absurd m
member-any (c ∷ cs) b (inl e) = rw (of≡ e)
member-any (c ∷ cs) b (inr m) = cases (b =? c) (λ e. rw e) (λ e. rw e (member-any cs b m))

any_append : (cs ds : List ℕ) (b : ℕ) → any_of (cs ++ ds) b ≡ cond (any_of cs b) true (any_of ds b)
unfolding any_of
any_append [] ds b = refl
any_append (c ∷ cs) ds b = cases (b =? c) (λ e. rw e) (λ e. rw e (any_append cs ds b))

-- ---- the sets that are spelled out
low : ℕ → Bool
low c = c ≤? 127

none_above : (cs : List ℕ) (b : ℕ) → all low cs ≡ true → 127 < b → any_of cs b ≡ false
none_above cs b h k = is_no (any_of cs b) (λ e. let m : b ≤ 127 = to≤ (unfold low in all_members low cs h b (any-member cs b e)) in omega arith)

pub no_member_above : (s : Set) (b : ℕ) → 127 < b → member s b ≡ false
no_member_above s b k = is_no (member s b) (λ e. omega (arith, below (member-printable s b e)))
  where
    below : is_printable b ≡ true → b ≤ 126
    below p = unfold is_printable in (to_within p).1

pub same_truth_lem : (a b : Bool) → same_truth a b ≡ true → a ≡ b
unfolding same_truth
same_truth_lem true true h = refl
same_truth_lem true false h = absurd (false≢true h)
same_truth_lem false true h = absurd (false≢true h)
same_truth_lem false false h = refl

-- tests and lists end below 128, so that trying these is enough
pub by_trial : (p q : ℕ → Bool) → all (λ b. same_truth (p b) (q b)) (under 128) ≡ true → ((b : ℕ) → 127 < b → p b ≡ q b) → (b : ℕ) → p b ≡ q b
by_trial p q h above b =
    cases (b ≤? 127)
    (λ e. let small : b ≤ 127 = to≤ e in same_truth_lem (p b) (q b) (tried (λ b. same_truth (p b) (q b)) 128 b h (omega arith)))
    (λ e. above b (no≤ e))

spelled_out : (s : Set) → all (λ b. same_truth (member s b) (any_of (characters_of s) b)) (under 128) ≡ true → all low (characters_of s) ≡ true → (b : ℕ) → member s b ≡ any_of (characters_of s) b
spelled_out s h k b = by_trial (member s) (any_of (characters_of s)) h (λ b above. no_member_above s b above ∙ sym (none_above (characters_of s) b k above)) b

one_only : (c b : ℕ) → is_printable b & b =? c ≡ any_of (cond (is_printable c) (c ∷ []) []) b
one_only c b =
    cases (b =? c)
    (λ e. rw (ap is_printable (to≡ e), e) (alone e (is_printable c)))
    (λ e. rw e (none e (is_printable c) (is_printable b)))
  where
    alone : b =? c ≡ true → (t : Bool) → t & true ≡ any_of (cond t (c ∷ []) []) b
    alone e true = unfold any_of ◌&◌ in rw e
    alone e false = unfold any_of ◌&◌ in refl

    none : b =? c ≡ false → (t u : Bool) → u & false ≡ any_of (cond t (c ∷ []) []) b
    none e true true = unfold any_of ◌&◌ in rw e
    none e true false = unfold any_of ◌&◌ in rw e
    none e false true = unfold any_of ◌&◌ in refl
    none e false false = unfold any_of ◌&◌ in refl

pub listed_is : (s : Set) (b : ℕ) → member s b ≡ any_of (characters_of s) b
unfolding characters_of member low all under same_truth any_of ascii is_letter is_digit is_blank is_printable within ◌&◌ ◌≤?◌ ◌=?◌
listed_is letter b = spelled_out letter refl refl b
listed_is digit b = spelled_out digit refl refl b
listed_is space b = spelled_out space refl refl b
listed_is printable b = spelled_out printable refl refl b
listed_is title b = refl
listed_is name b = refl
listed_is (only c) b = one_only c b
listed_is (s or t) b = rw (listed_is s b, listed_is t b) (sym (any_append (characters_of s) (characters_of t) b))

-- ---- 01's words for the two lists that 001 prints
-- "from A-Z 0-9 `* , ' = ) ( - . + \ /` and space"
pub titles : (b : ℕ) → member title b ≡ cond (is_letter b) true (cond (is_digit b) true (any_of (ascii "*,'=)(-.+\\/ ") b))
unfolding member low all under same_truth any_of ascii title_characters is_letter is_digit within ◌&◌ ◌≤?◌ ◌=?◌
titles = by_trial _ _ refl (λ b h. no_member_above title b h ∙ sym (rw (no_member_above letter b h, no_member_above digit b h, none_above (ascii "*,'=)(-.+\\/ ") b refl h)))

-- "as *10* without the backslash"
pub names : (b : ℕ) → member name b ≡ member title b & not (b =? 92)
unfolding member low all under same_truth any_of ascii title_characters name_characters ◌&◌ ◌≤?◌ ◌=?◌
names = by_trial _ _ refl (λ b h. no_member_above name b h ∙ sym (rw (no_member_above title b h)))

-- ---- of one character, and of every column
pub in-set : (s : Set) (b : ℕ) → member s b ≡ true → b ∈ characters_of s
in-set s b h = any-member (characters_of s) b (sym (listed_is s b) ∙ h)

pub of_set : (s : Set) (b : ℕ) → b ∈ characters_of s → member s b ≡ true
of_set s b m = listed_is s b ∙ member-any (characters_of s) b m

pub all_in : (s : Set) (bs : List ℕ) → all (member s) bs ≡ true → bs ⊆ characters_of s
unfolding ◌⊆◌
all_in s bs h b m = in-set s b (all_members (member s) bs h b m)

pub all_of : (s : Set) (bs : List ℕ) → bs ⊆ characters_of s → all (member s) bs ≡ true
unfolding ◌⊆◌
all_of s bs f = members_all (member s) bs (λ b m. of_set s b (f b m))

pub digits_in : (bs : List ℕ) → all is_digit bs ≡ true → bs ⊆ characters_of digit
digits_in bs h = all_in digit bs (all_weaken is_digit (member digit) (λ b k. unfold member in k) bs h)

pub digits_of : (bs : List ℕ) → bs ⊆ characters_of digit → all is_digit bs ≡ true
digits_of bs f = all_weaken (member digit) is_digit (λ b k. unfold member in k) bs (all_of digit bs f)

pub printed_in : (bs : List ℕ) → all is_printable bs ≡ true → bs ⊆ characters_of printable
printed_in bs h = all_in printable bs (all_weaken is_printable (member printable) (λ b k. unfold member in k) bs h)

pub printed_of : (bs : List ℕ) → bs ⊆ characters_of printable → all is_printable bs ≡ true
printed_of bs f = all_weaken (member printable) is_printable (λ b k. unfold member in k) bs (all_of printable bs f)
