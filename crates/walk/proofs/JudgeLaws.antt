-- The whole file: what the walk and the references leave together is what the rules say.
use mathlib.Core.Path.{◌≡◌, refl, sym, ◌∙◌, ap, subst}
use mathlib.Core.Bool.{Bool, true, false, cond, not, not-not, false≢true}
use mathlib.Core.List.{List, ◌++◌}
use Prim.Native.Nat.{ℕ, ◌≤◌, ◌<◌}
use native.Mathlib.Omega.{arith}
use lib.ListN.{length, drop}
use Rattle.std.specs.Prelude.{Result, Ok, Err, is_ok, is_err}
use Rattle.rules.specs.Tests.{◌=?◌}
use Rattle.rules.specs.Records.{Meaning}
use Rattle.rules.specs.Files as files
use Rattle.rules.specs.Files.{accept, refuse, is_accept, and_then, lines, meanings, form_verdict, reference_verdict, verdict, formed_lines}
use Rattle.rules.specs.References.{words}
use Rattle.rules.specs.Calls.{outcome, big_table, answer, table_left, form_answer, references_outcome, references_answer, references_table, file_answer}
use Rattle.rules.specs.Chapter4.{at_start, chapter4}
use Rattle.rules.proofs.Truth.{both, of≤, of>, of≡, of≢}
use Rattle.rules.proofs.FileLaws.{walk_splits, formed-meant}
use Rattle.rules.proofs.TableLaws.{filled_is_words}
use Rattle.rules.proofs.Bounds.{form_refused, reference_refused, file_numbers}
use Rattle.kinds.specs.declared.Fault.{Fault}
use Rattle.kinds.specs.Values.{checked_of, fault_of}
use Rattle.walk.specs.Words.{no_words}
use Rattle.walk.specs.Walking.{answer_of, Walked, settled_of, table_after}
use Rattle.walk.specs.References.{Referable}
use Rattle.walk.specs.Promise.{together}

-- ---- what the answers of a verdict are
answer_accepts : (x : files.Result) (ms : List Meaning) → is_err (answer_of x ms) ≡ not (is_accept x)
unfolding answer_of is_accept
answer_accepts accept ms = refl
answer_accepts (refuse n r c) ms = refl

pub answer_ok : (x : files.Result) (ms : List Meaning) → is_ok (answer_of x ms) ≡ is_accept x
unfolding answer_of is_accept
answer_ok accept ms = refl
answer_ok (refuse n r c) ms = refl

pub answer_told : (x : files.Result) (ms : List Meaning) → ((n r c : ℕ) → x ≡ refuse n r c → 1 ≤ n) → checked_of (answer x ms) ≡ answer_of x ms
unfolding checked_of answer answer_of
answer_told accept ms h = unfold ◌=?◌ in refl
answer_told (refuse n r c) ms h = let k = h n r c refl in rw (of≢ {m = n} {n = 0} (λ z. omega arith))

-- ---- what the walk accepted can be referred
-- it begins with zeros
pub from_zeros : (f t₀ t : List ℕ) (v : Result (List ℕ) Fault) → t₀ ≡ no_words → Walked chapter4 f v t₀ t → Walked chapter4 f v no_words t
from_zeros f t₀ t v e w = subst (λ (x : List ℕ). Walked chapter4 f v x t) e w

module _ (f t : List ℕ) (v : Result (List ℕ) Fault) (w : Walked chapter4 f v no_words t) where
  through : (b : Bool) → b ≡ is_err v → b ≡ false → is_accept (form_verdict chapter4 f) ≡ true
  through b p q = sym (not-not _) ∙ ap not (sym (answer_accepts (form_verdict chapter4 f) (meanings chapter4 f)) ∙ ap is_err (sym w.first) ∙ sym p ∙ q)

  form : is_accept (form_verdict chapter4 f) ≡ true → formed_lines chapter4 1 (lines f) ≡ true
  form a = (both (sym (walk_splits chapter4 at_start 1 (lines f)) ∙ a)).0

  full : is_accept (form_verdict chapter4 f) ≡ true → t ≡ words (meanings chapter4 f)
  unfolding meanings no_words
  full a = w.filling a ∙ filled_is_words (meanings chapter4 f) (formed-meant chapter4 1 (lines f) (form a))

  pub referable : (b : Bool) → b ≡ is_err v → b ≡ false → Referable f t
  referable b p q = record { form = form (through b p q); table = full (through b p q) }

  -- ---- 14, or the references' own
  pub fourteen : (b : Bool) → b ≡ is_err v → b ≡ true → {g : Fault} → g ≡ record { number = 14; «record» = 0; column = 0 } → Err g ≡ fault_of (references_outcome true f)
  unfolding references_outcome fault_of
  fourteen b p q z =
      let no : is_accept (form_verdict chapter4 f) ≡ false = sym (not-not _) ∙ ap not (sym (answer_accepts (form_verdict chapter4 f) (meanings chapter4 f)) ∙ ap is_err (sym w.first) ∙ sym p ∙ q) in
      rw (z, no)

  pub referred : (b : Bool) → b ≡ is_err v → b ≡ false → {a : Result (Unit {0}) Fault} → a ≡ fault_of (reference_verdict chapter4 f) → a ≡ fault_of (references_outcome true f)
  unfolding references_outcome
  referred b p q e = e ∙ rw (through b p q)

  -- ---- the words
  words-after : (a : Result (Unit {0}) Fault) → a ≡ fault_of (references_outcome true f) → {u : List ℕ} → u ≡ settled_of a t → u ≡ table_after f
  words-after a e q = q ∙ rw e (unfold references_outcome table_after verdict in by (form_verdict chapter4 f) refl (reference_verdict chapter4 f) refl)
    where
      by : (x : files.Result) → form_verdict chapter4 f ≡ x → (y : files.Result) → reference_verdict chapter4 f ≡ y
          → settled_of (fault_of (cond (is_accept x) y (refuse 14 0 0))) t ≡ cond (is_accept (and_then x y)) (words (meanings chapter4 f)) no_words
      by accept g accept h = unfold settled_of fault_of and_then is_accept in full (ap is_accept g ∙ (unfold is_accept in refl))
      by accept g (refuse m r c) h = unfold settled_of fault_of and_then is_accept in refl
      by (refuse m r c) g y h = unfold settled_of fault_of and_then is_accept in refl

pub words-settled : (f t₀ t : List ℕ) (v : Result (List ℕ) Fault) → t₀ ≡ no_words → Walked chapter4 f v t₀ t → (a : Result (Unit {0}) Fault) → a ≡ fault_of (references_outcome true f) → {u : List ℕ} → u ≡ settled_of a t → u ≡ table_after f
words-settled f t₀ t v z w a e q = words-after f t v (from_zeros f t₀ t v z w) a e q

pub settle_bad : (a : Result (Unit {0}) Fault) (t : List ℕ) (b : Bool) → b ≡ is_err a → b ≡ true → {u : List ℕ} → u ≡ no_words → u ≡ settled_of a t
unfolding settled_of
settle_bad (Ok x) t b p q e = absurd (false≢true (sym p ∙ q))
settle_bad (Err g) t b p q e = e

pub settle_good : (a : Result (Unit {0}) Fault) (t : List ℕ) (b : Bool) → b ≡ is_err a → b ≡ false → t ≡ settled_of a t
unfolding settled_of
settle_good (Ok x) t b p q = refl
settle_good (Err g) t b p q = absurd (false≢true (sym q ∙ p))

-- ---- form, whatever words there are
pub form_answer_lem : (f t₀ t : List ℕ) (v : Result (List ℕ) Fault) → Walked chapter4 f v t₀ t → v ≡ checked_of (form_answer f)
unfolding form_answer
form_answer_lem f t₀ t v w = w.first ∙ sym (answer_told (form_verdict chapter4 f) (meanings chapter4 f) (λ n r c e. omega (arith, (form_refused f n r c e).0)))

-- ---- both answers as one
joins : (x y : files.Result) (ms : List Meaning) → ((n r c : ℕ) → is_accept x ≡ true → y ≡ refuse n r c → (11 ≤ n) × (n ≤ 12))
    → together (answer_of x ms) (fault_of (cond (is_accept x) y (refuse 14 0 0))) ≡ answer_of (and_then x y) ms
unfolding together fault_of answer_of and_then is_accept
joins accept accept ms h = refl
joins accept (refuse n r c) ms h = let k = h n r c refl refl in rw (of≢ {m = n} {n = 14} (λ z. omega (arith, z, k.1)))
joins (refuse n r c) y ms h = unfold ◌=?◌ in refl

pub outcome_from_1 : (enough : Bool) (f : List ℕ) (n r c : ℕ) → outcome enough f ≡ refuse n r c → 1 ≤ n
unfolding outcome
outcome_from_1 true f n r c e = omega (arith, (file_numbers f n r c e).0)
outcome_from_1 false f n r c e = let y : 1 ≡ n = cc in omega arith

-- the first fault of the file in the paper's order is the form's where it has one and else the references'; 1 is first
pub together_file : (enough : Bool) (f : List ℕ) → together (checked_of (form_answer f)) (fault_of (references_outcome enough f)) ≡ checked_of (answer (outcome enough f) (meanings chapter4 f))
unfolding form_answer
together_file enough f =
    rw (answer_told (form_verdict chapter4 f) (meanings chapter4 f) (λ n r c e. omega (arith, (form_refused f n r c e).0)), answer_told (outcome enough f) (meanings chapter4 f) (outcome_from_1 enough f))
    (by enough)
  where
    by : (b : Bool) → together (answer_of (form_verdict chapter4 f) (meanings chapter4 f)) (fault_of (references_outcome b f)) ≡ answer_of (outcome b f) (meanings chapter4 f)
    by true = unfold references_outcome outcome verdict in joins (form_verdict chapter4 f) (reference_verdict chapter4 f) (meanings chapter4 f) (λ n r c g e. let k = reference_refused f n r c g e in (k.0, k.1))
    by false = unfold references_outcome outcome together fault_of answer_of ◌=?◌ in refl

-- ---- the lent table
module _ (f t : List ℕ) (h : length t < 12_000) where
  short : big_table t ≡ false
  unfolding big_table
  short = of> {m = 12_000} {n = length t} h

  pub short_answer : {g : Fault} → g ≡ record { number = 1; «record» = 0; column = 0 } → Err g ≡ fault_of (references_answer f t)
  unfolding references_answer references_outcome
  short_answer z = rw (z, short) (unfold fault_of in refl)

  pub short_file : {g : Fault} → g ≡ record { number = 1; «record» = 0; column = 0 } → Err g ≡ checked_of (file_answer f t)
  unfolding file_answer outcome
  short_file z = rw (z, short) (unfold checked_of answer ◌=?◌ in refl)

  pub short_table : t ≡ references_table f t
  unfolding references_table table_left
  short_table = rw short

module _ (f t : List ℕ) (h : 12_000 ≤ length t) where
  long : big_table t ≡ true
  unfolding big_table
  long = of≤ h

  pub long_answer : (w : Result (Unit {0}) Fault) → w ≡ fault_of (references_outcome true f) → w ≡ fault_of (references_answer f t)
  unfolding references_answer
  long_answer w e = e ∙ rw long

  pub long_file : (a : Result (List ℕ) Fault) → a ≡ checked_of (form_answer f) → (w : Result (Unit {0}) Fault) → w ≡ fault_of (references_outcome true f) → (v : Result (List ℕ) Fault) → v ≡ together a w → v ≡ checked_of (file_answer f t)
  unfolding file_answer
  long_file a p w q v e = e ∙ rw (p, q, together_file true f, long)

  pub long_table : (u : List ℕ) → u ≡ table_after f → u ++ drop 12_000 t ≡ references_table f t
  unfolding references_table table_left table_after no_words
  long_table u e = rw (long, e)

-- ---- one law for each way through `together`
module _ (v : Result (List ℕ) Fault) {w : Result (Unit {0}) Fault} where
  pub none_of_its_own : w ≡ Ok tt → v ≡ together v w
  unfolding together
  none_of_its_own e = rw e

  module _ (g : Fault) (e : w ≡ Err g) where
    pub the_forms : g.number ≡ 14 → v ≡ together v w
    unfolding together
    the_forms q = rw (e, of≡ q)

    pub its_own : (g.number ≡ 14 → ⊥) → Err g ≡ together v w
    unfolding together
    its_own q = rw (e, of≢ q)
