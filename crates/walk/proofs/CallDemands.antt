-- Demands 1 and 2 as facts about form and about references, each from its promise alone; and what the two say together.
use mathlib.Core.Path.{◌≡◌, refl, sym, ◌∙◌, ap, subst}
use mathlib.Core.Logic.{inl, inr, ◌↔◌}
use mathlib.Core.Bool.{Bool, true, false, cond, false≢true}
use mathlib.Core.List.{List, [], ◌∷◌, ◌++◌}
use Prim.Native.Nat.{ℕ, ◌≤◌, ◌<◌}
use native.Mathlib.Omega.{arith}
use lib.ListN.{length, take, drop, replicate, length-replicate}
use lib.Seq.{take_at, drop_at}
use Rattle.std.specs.Prelude.{Result, Ok, Err, is_ok, IsOk, IsErrAnd}
use Rattle.rules.specs.Tests.{◌&◌, ◌≤?◌}
use Rattle.rules.specs.Members.{◌∈◌}
use Rattle.rules.specs.Files as files
use Rattle.rules.specs.Files.{accept, refuse, is_accept, meanings, form_verdict, reference_verdict, verdict, accepted}
use Rattle.rules.specs.Records.{Meaning}
use Rattle.rules.specs.References.{words, counts, sum}
use Rattle.rules.specs.Faults.{FirstOf, FormFault, ReferencesFaults}
use Rattle.rules.specs.Calls.{big_table, answer, table_left, form_answer, references_outcome, references_answer, references_table, file_answer}
use Rattle.rules.specs.Chapter4.{chapter4}
use Rattle.rules.proofs.Truth.{both, and, of≤, to≤, no≤, is_no, cases, either}
use Rattle.rules.proofs.FileLaws.{is_accept_lem, then_accept}
use Rattle.rules.proofs.FileFaults.{one_first}
use Rattle.rules.proofs.ReferenceLaws.{length-words}
use Rattle.rules.proofs.Bounds.{form_refused, reference_refused}
use Rattle.rules.proofs.Conforming.{form_formed, accepted_conforms}
use Rattle.rules.proofs.Demands.{first_form_fault, first_references_fault, form_counts, counts-and-words}
use Rattle.kinds.specs.declared.Fault.{Fault}
use Rattle.kinds.specs.Values.{checked_of, fault_of}
use Rattle.kinds.proofs.ValueLaws.{not_ok, same_fault, same_ok}
use Rattle.walk.specs.Walking.{answer_of}
use Rattle.walk.specs.Promise.{FormPromised, ReferencesPromised, result_of, named, FormRefusing, FormJudging, ReferencesRefusing, ReferencesJudging, together, Together, Refusing, Judging}
use Rattle.walk.proofs.JudgeLaws.{answer_told, together_file}
use Rattle.walk.proofs.TogetherDemands.{demand_1_together, demand_2_together}

-- 01, "Prove that two results allowed by one promise are equal"
pub one_form : (f : List ℕ) (v x : Result (List ℕ) Fault) → FormPromised f v → FormPromised f x → v ≡ x
one_form f v x p q = p.answered ∙ sym q.answered

pub one_references : (f t : List ℕ) (w x : Result (Unit {0}) Fault) (u s : List ℕ) → ReferencesPromised f t w u → ReferencesPromised f t x s → (w ≡ x) × (u ≡ s)
one_references f t w x u s p q = (p.answered ∙ sym q.answered, p.left ∙ sym q.left)

accepts : is_accept accept ≡ true
unfolding is_accept
accepts = refl

refuses : (n r c : ℕ) → is_accept (refuse n r c) ≡ false
unfolding is_accept
refuses n r c = refl

-- what an answer names that tells of a verdict
names_fault : (x : files.Result) → result_of (fault_of x) ≡ x
unfolding result_of fault_of
names_fault accept = refl
names_fault (refuse n r c) = refl

names_answer : (x : files.Result) (ms : List Meaning) → result_of (answer_of x ms) ≡ x
unfolding result_of answer_of
names_answer accept ms = refl
names_answer (refuse n r c) ms = refl

-- ---- form
module _ (f : List ℕ) (v : Result (List ℕ) Fault) (p : FormPromised f v) where
  form_is : form_answer f ≡ answer (form_verdict chapter4 f) (meanings chapter4 f)
  unfolding form_answer
  form_is = refl

  -- the answer goes by the form's verdict alone
  told : (x : files.Result) → form_verdict chapter4 f ≡ x → v ≡ answer_of x (meanings chapter4 f)
  told x e =
      p.answered ∙ ap checked_of form_is ∙ answer_told (form_verdict chapter4 f) (meanings chapter4 f) (λ n r c y. omega (arith, (form_refused f n r c y).0))
      ∙ ap (λ (y : files.Result). answer_of y (meanings chapter4 f)) e

  told_bad : (n r c : ℕ) → form_verdict chapter4 f ≡ refuse n r c → v ≡ Err record { number = n; «record» = r; column = c }
  unfolding answer_of
  told_bad n r c e = told (refuse n r c) e

  told_good : form_verdict chapter4 f ≡ accept → v ≡ Ok (counts (meanings chapter4 f))
  unfolding answer_of
  told_good e = told accept e

  pub zero-formed : IsOk v → is_accept (form_verdict chapter4 f) ≡ true
  zero-formed z = by (form_verdict chapter4 f) refl
    where
      by : (x : files.Result) → form_verdict chapter4 f ≡ x → is_accept x ≡ true
      by accept e = accepts
      by (refuse n r c) e = absurd (not_ok (told_bad n r c e) z)

  pub formed-zero : is_accept (form_verdict chapter4 f) ≡ true → IsOk v
  formed-zero h = ap is_ok (told_good (is_accept_lem (form_verdict chapter4 f) h))

  pub demand_1_form : FormRefusing v
  demand_1_form = record { numbers = by (form_verdict chapter4 f) refl }
    where
      by : (x : files.Result) → form_verdict chapter4 f ≡ x → (g : Fault) → v ≡ Err g → (2 ≤ g.number) × (g.number ≤ 10)
      by accept e g q = absurd (not_ok q (formed-zero (rw e accepts)))
      by (refuse n r c) e g q =
          let range = form_refused f n r c e in
          let its : n ≡ g.number = ap (λ (y : Fault). y.number) (same_fault (told_bad n r c e) q) in
          omega (arith, its, range.0, range.1)

  names_form : named v ≡ form_verdict chapter4 f
  names_form = ap result_of (told (form_verdict chapter4 f) refl) ∙ names_answer (form_verdict chapter4 f) (meanings chapter4 f)

  its_counts : (cs : List ℕ) → v ≡ Ok cs → cs ≡ counts (meanings chapter4 f)
  its_counts cs q = same_ok q (told_good (is_accept_lem _ (zero-formed (ap is_ok q))))

  pub demand_2_form : FormJudging f v
  demand_2_form = record {
    first = subst (FirstOf (FormFault chapter4 f)) (sym names_form) (first_form_fault f);
    unique = λ x h. one_first (FormFault chapter4 f) x (form_verdict chapter4 f) h (first_form_fault f) ∙ sym names_form;
    forming = ((λ z. (form_formed f).0 (zero-formed z)), (λ c. formed-zero ((form_formed f).1 c)));
    counted = its_counts;
    none_passed_over = λ cs q. ap sum (its_counts cs q) ∙ form_counts f (zero-formed (ap is_ok q));
  }

-- ---- references
-- the numbers that it answers
short_number : (n : ℕ) → n ≡ 1 → n ∈ (1 ∷ 11 ∷ 12 ∷ 14 ∷ [])
unfolding ◌∈◌
short_number n e = inl e

form_number_14 : (n : ℕ) → n ≡ 14 → n ∈ (1 ∷ 11 ∷ 12 ∷ 14 ∷ [])
unfolding ◌∈◌
form_number_14 n e = inr (inr (inr (inl e)))

late_number : (n : ℕ) → 11 ≤ n → n ≤ 12 → n ∈ (1 ∷ 11 ∷ 12 ∷ 14 ∷ [])
unfolding ◌∈◌
late_number n h k = cases (n ≤? 11) (λ a. inr (inl (omega (arith, to≤ a)))) (λ a. inr (inr (inl (omega (arith, no≤ a)))))

-- form and references of a file, and the file
both_accept : (f : List ℕ) → is_accept (verdict chapter4 f) ≡ is_accept (form_verdict chapter4 f) & is_accept (reference_verdict chapter4 f)
unfolding verdict
both_accept f = then_accept (form_verdict chapter4 f) (reference_verdict chapter4 f)

module _ (f t : List ℕ) (w : Result (Unit {0}) Fault) (u : List ℕ) (p : ReferencesPromised f t w u) where
  -- the four ways the call can end
  data Ends : Type 0 where
    short : length t < 12_000 → w ≡ fault_of (refuse 1 0 0) → u ≡ t → Ends
    shapeless : 12_000 ≤ length t → is_accept (form_verdict chapter4 f) ≡ false → w ≡ fault_of (refuse 14 0 0) → u ≡ replicate 12_000 0 ++ drop 12_000 t → Ends
    bad : 12_000 ≤ length t → is_accept (form_verdict chapter4 f) ≡ true → (n r c : ℕ) → reference_verdict chapter4 f ≡ refuse n r c → w ≡ fault_of (refuse n r c) → u ≡ replicate 12_000 0 ++ drop 12_000 t → Ends
    good : 12_000 ≤ length t → accepted chapter4 f ≡ true → w ≡ fault_of accept → u ≡ words (meanings chapter4 f) ++ drop 12_000 t → Ends

  said : (x : files.Result) → 12_000 ≤ length t → cond (is_accept (form_verdict chapter4 f)) (reference_verdict chapter4 f) (refuse 14 0 0) ≡ x → w ≡ fault_of x
  said x h e = p.answered ∙ (unfold references_answer references_outcome big_table in rw (of≤ {m = 12_000} {n = length t} h, e))

  left : (b : Bool) → 12_000 ≤ length t → is_accept (form_verdict chapter4 f) & is_accept (reference_verdict chapter4 f) ≡ b → u ≡ cond b (words (meanings chapter4 f)) (replicate 12_000 0) ++ drop 12_000 t
  left b h e = p.left ∙ (unfold references_table table_left big_table in rw (of≤ {m = 12_000} {n = length t} h, both_accept f, e))

  ends : Ends
  unfolding ◌&◌ accepted
  ends =
      cases (12_000 ≤? length t)
      (λ b. cases (is_accept (form_verdict chapter4 f)) (λ g. by (to≤ b) g (reference_verdict chapter4 f) refl) (λ g. shapeless (to≤ b) g (said (refuse 14 0 0) (to≤ b) (rw g)) (left false (to≤ b) (rw g))))
      (λ b. short (no≤ b) (p.answered ∙ (unfold references_answer references_outcome big_table in rw b)) (p.left ∙ (unfold references_table table_left big_table in rw b)))
    where
      by : 12_000 ≤ length t → is_accept (form_verdict chapter4 f) ≡ true → (x : files.Result) → reference_verdict chapter4 f ≡ x → Ends
      by h g accept e = good h (both_accept f ∙ and g (rw e accepts)) (said accept h (rw (g, e))) (left true h (and g (rw e accepts)))
      by h g (refuse n r c) e = bad h g n r c e (said (refuse n r c) h (rw (g, e))) (left false h (rw (g, e, refuses n r c)))

  refused_as : (n r c : ℕ) → w ≡ fault_of (refuse n r c) → w ≡ Err record { number = n; «record» = r; column = c }
  unfolding fault_of
  refused_as n r c e = e

  number_bad : (n r c : ℕ) → w ≡ fault_of (refuse n r c) → (g : Fault) → w ≡ Err g → g.number ≡ n
  number_bad n r c e g q = ap (λ (y : Fault). y.number) (same_fault q (refused_as n r c e))

  nowhere_of : (n : ℕ) → w ≡ fault_of (refuse n 0 0) → (g : Fault) → w ≡ Err g → (g.«record» ≡ 0) × (g.column ≡ 0)
  nowhere_of n e g q = let y = same_fault q (refused_as n 0 0 e) in (ap (λ (y : Fault). y.«record») y, ap (λ (y : Fault). y.column) y)

  ok_as : w ≡ fault_of accept → w ≡ Ok tt
  unfolding fault_of
  ok_as e = e

  taken_as : w ≡ fault_of accept → IsOk w
  taken_as e = ap is_ok (ok_as e)

  -- ---- demand 1
  zeros_left : u ≡ replicate 12_000 0 ++ drop 12_000 t → (take 12_000 u ≡ replicate 12_000 0) × (drop 12_000 u ≡ drop 12_000 t)
  zeros_left e = (
    ap (take 12_000) e ∙ take_at (replicate 12_000 0) (drop 12_000 t) 12_000 (length-replicate {A = ℕ} 12_000 0),
    ap (drop 12_000) e ∙ drop_at (replicate 12_000 0) (drop 12_000 t) 12_000 (length-replicate {A = ℕ} 12_000 0),
  )

  pub demand_1_references : ReferencesRefusing t w u
  demand_1_references = by ends
    where
      by : Ends → ReferencesRefusing t w u
      by (short h e s) = record {
        numbers = λ g q. short_number _ (number_bad 1 0 0 e g q);
        nowhere = λ g q z. nowhere_of 1 e g q;
        untouched = λ g q z. s;
        zeros = λ g q y. absurd (y (number_bad 1 0 0 e g q));
        later = ap (drop 12_000) s;
      }
      by (shapeless h g e s) = record {
        numbers = λ x q. form_number_14 _ (number_bad 14 0 0 e x q);
        nowhere = λ x q z. nowhere_of 14 e x q;
        untouched = λ x q z. absurd (omega (arith, z, number_bad 14 0 0 e x q));
        zeros = λ x q y. (zeros_left s).0;
        later = (zeros_left s).1;
      }
      by (bad h g n r c a e s) =
          let range = reference_refused f n r c g a in
          record {
            numbers = λ x q. subst (λ m. m ∈ (1 ∷ 11 ∷ 12 ∷ 14 ∷ [])) (sym (number_bad n r c e x q)) (late_number n range.0 range.1);
            nowhere = λ x q. either (λ z. absurd (omega (arith, z, number_bad n r c e x q, range.0))) (λ z. absurd (omega (arith, z, number_bad n r c e x q, range.1)));
            untouched = λ x q z. absurd (omega (arith, z, number_bad n r c e x q, range.0));
            zeros = λ x q y. (zeros_left s).0;
            later = (zeros_left s).1;
          }
      by (good h a e s) = record {
        numbers = λ x q. absurd (not_ok q (taken_as e));
        nowhere = λ x q. absurd (not_ok q (taken_as e));
        untouched = λ x q. absurd (not_ok q (taken_as e));
        zeros = λ x q. absurd (not_ok q (taken_as e));
        later = ap (drop 12_000) s ∙ drop_at (words (meanings chapter4 f)) (drop 12_000 t) 12_000 (length-words (meanings chapter4 f));
      }

  -- ---- demand 2
  names_references : result_of w ≡ references_outcome (big_table t) f
  names_references = ap result_of p.answered ∙ (unfold references_answer in names_fault (references_outcome (big_table t) f))

  pub zero-accepted : IsOk w → (12_000 ≤ length t) × (accepted chapter4 f ≡ true)
  zero-accepted z = by ends
    where
      by : Ends → (12_000 ≤ length t) × (accepted chapter4 f ≡ true)
      by (short h e s) = absurd (not_ok (refused_as 1 0 0 e) z)
      by (shapeless h g e s) = absurd (not_ok (refused_as 14 0 0 e) z)
      by (bad h g n r c a e s) = absurd (not_ok (refused_as n r c e) z)
      by (good h a e s) = (h, a)

  pub accepted-zero : 12_000 ≤ length t → accepted chapter4 f ≡ true → IsOk w
  accepted-zero k y = by ends
    where
      parts : (is_accept (form_verdict chapter4 f) ≡ true) × (is_accept (reference_verdict chapter4 f) ≡ true)
      parts = both (sym (both_accept f) ∙ (unfold accepted in y))

      by : Ends → IsOk w
      by (short h e s) = absurd (omega arith)
      by (shapeless h g e s) = absurd (false≢true (sym g ∙ parts.0))
      by (bad h g n r c a e s) = absurd (false≢true (sym (rw a (refuses n r c)) ∙ parts.1))
      by (good h a e s) = taken_as e

  -- 14 exactly when the form is not good
  pub fourteen_iff : 12_000 ≤ length t → IsErrAnd w (λ g. g.number ≡ 14) ↔ (is_accept (form_verdict chapter4 f) ≡ false)
  fourteen_iff k = ((λ z. of z ends), (λ z. to z ends))
    where
      other : (n r c : ℕ) → w ≡ fault_of (refuse n r c) → IsErrAnd w (λ g. g.number ≡ 14) → n ≡ 14
      other n r c e z = rw (refused_as n r c e) at z

      of : IsErrAnd w (λ g. g.number ≡ 14) → Ends → is_accept (form_verdict chapter4 f) ≡ false
      of z (short h e s) = absurd (omega arith)
      of z (shapeless h g e s) = g
      of z (bad h g n r c a e s) = absurd (omega (arith, other n r c e z, (reference_refused f n r c g a).1))
      of z (good h a e s) = absurd (rw (ok_as e) at z)

      to : is_accept (form_verdict chapter4 f) ≡ false → Ends → IsErrAnd w (λ g. g.number ≡ 14)
      to z (short h e s) = absurd (omega arith)
      to z (shapeless h g e s) = rw (refused_as 14 0 0 e) refl
      to z (bad h g n r c a e s) = absurd (false≢true (sym z ∙ g))
      to z (good h a e s) = absurd (false≢true (sym z ∙ (both (sym (both_accept f) ∙ (unfold accepted in a))).0))

  pub demand_2_references : ReferencesJudging f t w u
  demand_2_references = record {
    first = subst (FirstOf (ReferencesFaults chapter4 (big_table t) f)) (sym names_references) (first_references_fault (big_table t) f);
    unique = λ x h. one_first (ReferencesFaults chapter4 (big_table t) f) x (references_outcome (big_table t) f) h (first_references_fault (big_table t) f) ∙ sym names_references;
    malformed = λ k. ((λ z c. false≢true (sym ((fourteen_iff k).0 z) ∙ (form_formed f).1 c)), (λ n. (fourteen_iff k).1 (is_no _ (λ g. n ((form_formed f).0 g)))));
    conforming = λ k. ((λ z. (accepted_conforms f).0 (zero-accepted z).1), (λ c. accepted-zero k ((accepted_conforms f).1 c)));
    filled = λ z. its_words z ends;
    told = λ z. counts-and-words f (zero-accepted z).1;
  }
    where
      its_words : IsOk w → Ends → take 12_000 u ≡ words (meanings chapter4 f)
      its_words z (short h e s) = absurd (not_ok (refused_as 1 0 0 e) z)
      its_words z (shapeless h g e s) = absurd (not_ok (refused_as 14 0 0 e) z)
      its_words z (bad h g n r c a e s) = absurd (not_ok (refused_as n r c e) z)
      its_words z (good h a e s) = ap (take 12_000) s ∙ take_at (words (meanings chapter4 f)) (drop 12_000 t) 12_000 (length-words (meanings chapter4 f))

-- ---- both together: what a caller sees of both calls
module _ (f t : List ℕ) (v : Result (List ℕ) Fault) (w : Result (Unit {0}) Fault) (u : List ℕ) (p : FormPromised f v) (q : ReferencesPromised f t w u) where
  pub as_one : Together f t (together v w) u
  as_one = record { answered = rw (p.answered, q.answered) (unfold references_answer file_answer in together_file (big_table t) f); left = q.left }

  pub demand_1_calls : Refusing t (together v w) u
  demand_1_calls = demand_1_together f t (together v w) u as_one

  pub demand_2_calls : Judging f t (together v w) u
  demand_2_calls = demand_2_together f t (together v w) u as_one

  -- 02, T-05: references answer 14 exactly when form refuses
  pub fourteen_refuses : 12_000 ≤ length t → IsErrAnd w (λ g. g.number ≡ 14) ↔ (IsOk v → ⊥)
  fourteen_refuses k = (
    (λ z y. false≢true (sym ((fourteen_iff f t w u q k).0 z) ∙ zero-formed f v p y)),
    (λ n. (fourteen_iff f t w u q k).1 (is_no _ (λ g. n (formed-zero f v p g)))),
  )
