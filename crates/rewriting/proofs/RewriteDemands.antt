-- The three demands as facts about rewrite, from its promise alone.
use mathlib.Core.Path.{◌≡◌, refl, sym, ◌∙◌, ap, subst}
use mathlib.Core.Logic.{◌↔◌}
use mathlib.Core.Bool.{Bool, true, false, false≢true}
use mathlib.Core.List.{List, [], ◌++◌, map}
use Prim.Native.Nat.{ℕ, ◌≤◌, ◌<◌}
use lib.ListN.{length, take, drop, get_or}
use lib.Seq.{take_at, drop_at}
use Rattle.std.specs.Prelude.{Result, Ok, Err, is_ok, IsOk, IsErr}
use Rattle.rules.specs.Tests.{◌≤?◌, ◌=?◌}
use Rattle.rules.specs.Items.{value_of}
use Rattle.rules.specs.Records.{sequence, code_at}
use Rattle.rules.specs.Kinds.{kind_of}
use Rattle.rules.specs.Files as files
use Rattle.rules.specs.Files.{accept, refuse, is_accept, lines, meanings, form_verdict, reference_verdict, verdict, accepted, rewritten}
use Rattle.rules.specs.References.{words}
use Rattle.rules.specs.Faults.{FirstOf, CallFaults}
use Rattle.rules.specs.Calls.{outcome, big_table, big_output, answer, table_left, output_left, form_answer, file_answer, references_table, rewrite_room, rewrite_answer, rewrite_table, rewrite_output}
use Rattle.rules.specs.Chapter4.{chapter4}
use Rattle.rules.specs.Demands.{Demand3}
use Rattle.rules.proofs.Truth.{both, and, of≤, to≤, no≤, cases}
use Rattle.rules.proofs.FileLaws.{is_accept_lem, then_accept, keeps_length}
use Rattle.rules.proofs.Chapter4Laws.{sound}
use Rattle.rules.proofs.ReferenceLaws.{length-words}
use Rattle.rules.proofs.Demands.{demand_2, demand_3}
use Rattle.kinds.specs.declared.Fault.{Fault}
use Rattle.kinds.specs.Values.{checked_of}
use Rattle.kinds.proofs.ValueLaws.{not_ok}
use Rattle.walk.proofs.JudgeLaws.{answer_ok, answer_told, outcome_from_1}
use Rattle.walk.specs.Promise as walk
use Rattle.walk.proofs.TogetherDemands.{refused_1, names, named_is, taken, demand_1_together, demand_2_together}
use Rattle.walk.proofs.CallDemands.{accepted-zero, demand_2_references}
use Rattle.rewriting.specs.Promise.{Promised, Refusing, Judging, Run, styled, Rewrites}
use Rattle.rewriting.proofs.RewriteLaws.{no_room, tight_table, tight_output, by_table, kept_output}

-- 01, "Prove that two results allowed by one promise are equal"
pub one_result : (f t o : List ℕ) (v w : Result (List ℕ) Fault) (u x p q : List ℕ) → Promised f t o v u p → Promised f t o w x q → (v ≡ w) × (u ≡ x) × (p ≡ q)
one_result f t o v w u x p q a b = (a.answered ∙ sym b.answered, a.left ∙ sym b.left, a.written ∙ sym b.written)

err_no : (v : Result (List ℕ) Fault) → IsErr v → is_ok v ≡ false
err_no (Ok cs) h = absurd (false≢true h)
err_no (Err g) h = refl

-- ---- demands 1 and 2
module _ (f t o : List ℕ) (v : Result (List ℕ) Fault) (u p : List ℕ) (promised : Promised f t o v u p) where
  -- with an output as long as the file: what form and references promise together
  as_promised : length f ≤ length o → walk.Together f t v u
  as_promised k = record {
    answered = promised.answered ∙ (unfold rewrite_answer file_answer in rw (by_table f t o k));
    left = promised.left ∙ (unfold rewrite_table references_table in rw (by_table f t o k));
  }

  -- with a shorter one: refusal 1
  tight : length o < length f → v ≡ Err record { number = 1; «record» = 0; column = 0 }
  unfolding rewrite_answer outcome checked_of answer ◌=?◌
  tight h = promised.answered ∙ rw (no_room f t o h)

  pub demand_1_rewrite : Refusing t o v u p
  demand_1_rewrite =
      cases (length f ≤? length o)
      (λ b. record {
        as_both = demand_1_together f t v u (as_promised (to≤ b));
        unwritten = λ n. promised.written ∙ sym (kept_output f t o (to≤ b) v (as_promised (to≤ b)).answered (err_no v n));
      })
      (λ b. record {
        as_both = refused_1 v t u (tight (no≤ b)) (promised.left ∙ sym (tight_table f t o (no≤ b)));
        unwritten = λ n. promised.written ∙ sym (tight_output f t o (no≤ b));
      })

  names_outcome : walk.named v ≡ outcome (rewrite_room f t o) f
  names_outcome =
      cases (length f ≤? length o)
      (λ b. named_is f t v u (as_promised (to≤ b)) ∙ ap (λ (enough : Bool). outcome enough f) (sym (by_table f t o (to≤ b))))
      (λ b. names v 1 0 0 (tight (no≤ b)) ∙ (unfold outcome in rw (no_room f t o (no≤ b))))

  pub demand_2_rewrite : Judging f t o v u
  demand_2_rewrite = record {
    first = subst (FirstOf (CallFaults chapter4 (rewrite_room f t o) f)) (sym names_outcome) (demand_2 (rewrite_room f t o) f).first;
    unique = λ w h. (demand_2 (rewrite_room f t o) f).unique w h ∙ sym names_outcome;
    room = λ z. cases (length f ≤? length o) (λ b. (taken f t v u (as_promised (to≤ b)) z, to≤ b)) (λ b. absurd (not_ok (tight (no≤ b)) z));
    as_both = λ k. demand_2_together f t v u (as_promised k);
  }

-- ---- a run with room over an accepted file
module _ (f t o : List ℕ) (v : Result (List ℕ) Fault) (u p : List ℕ) (h : 12_000 ≤ length t) (k : length f ≤ length o) (good : accepted chapter4 f ≡ true) (promised : Promised f t o v u p) where
  room : rewrite_room f t o ≡ true
  unfolding rewrite_room big_table big_output
  room = and (of≤ h) (of≤ k)

  takes : is_accept (outcome true f) ≡ true
  unfolding outcome
  takes = unfold accepted in good

  answer_is : rewrite_answer f t o ≡ answer accept (meanings chapter4 f)
  unfolding rewrite_answer
  answer_is = rw (room, is_accept_lem (outcome true f) takes)

  pub answers-zero : IsOk v
  unfolding checked_of answer ◌=?◌
  answers-zero = rw (promised.answered, answer_is) refl

  pub writes : p ≡ rewritten chapter4 f ++ drop (length f) o
  unfolding rewrite_output output_left
  writes = promised.written ∙ (unfold rewrite_output output_left in rw (room, takes))

  pub writes_first : take (length f) p ≡ rewritten chapter4 f
  writes_first = ap (take (length f)) writes ∙ take_at (rewritten chapter4 f) (drop (length f) o) (length f) (keeps_length chapter4 sound f good)

  pub writes_beyond : drop (length f) p ≡ drop (length f) o
  writes_beyond = ap (drop (length f)) writes ∙ drop_at (rewritten chapter4 f) (drop (length f) o) (length f) (keeps_length chapter4 sound f good)

-- ---- what a run that took its file tells
module _ (a : List ℕ) (x : Run a) where
  enough : Bool
  enough = rewrite_room a x.table x.output

  answer_is_lem : rewrite_answer a x.table x.output ≡ answer (outcome enough a) (meanings chapter4 a)
  unfolding enough rewrite_answer
  answer_is_lem = refl

  answered_well : is_accept (outcome enough a) ≡ true
  unfolding enough
  answered_well =
      sym (answer_ok (outcome enough a) (meanings chapter4 a))
      ∙ ap is_ok (sym (x.promised.answered ∙ ap checked_of answer_is_lem ∙ answer_told (outcome enough a) (meanings chapter4 a) (outcome_from_1 enough a))) ∙ x.accepted

  roomy : (rewrite_room a x.table x.output ≡ true) × (accepted chapter4 a ≡ true)
  roomy = by enough refl answered_well
    where
      by : (b : Bool) → b ≡ enough → is_accept (outcome b a) ≡ true → (rewrite_room a x.table x.output ≡ true) × (accepted chapter4 a ≡ true)
      by true e g = (unfold enough in sym e, unfold accepted outcome in g)
      by false e g = absurd (false≢true (unfold outcome is_accept in g))

  wide : (12_000 ≤ length x.table) × (length a ≤ length x.output)
  unfolding rewrite_room big_table big_output
  wide = let b = both roomy.0 in (to≤ b.0, to≤ b.1)

  pub its_file : accepted chapter4 a ≡ true
  its_file = roomy.1

  pub its_style : styled x ≡ rewritten chapter4 a
  unfolding styled
  its_style = writes_first a x.table x.output x.answer x.table_left x.output_left wide.0 wide.1 its_file x.promised

  its_rest : drop (length a) x.output_left ≡ drop (length a) x.output
  its_rest = writes_beyond a x.table x.output x.answer x.table_left x.output_left wide.0 wide.1 its_file x.promised

  -- the answer and the words go by the meaning alone
  verdict-accept : verdict chapter4 a ≡ accept
  verdict-accept = is_accept_lem (verdict chapter4 a) (unfold accepted in its_file)

  its_answer : x.answer ≡ checked_of (answer accept (meanings chapter4 a))
  unfolding rewrite_answer outcome
  its_answer = x.promised.answered ∙ rw (roomy.0, verdict-accept)

  its_words : take 12_000 x.table_left ≡ words (meanings chapter4 a)
  its_words = ap (take 12_000) left ∙ take_at (words (meanings chapter4 a)) (drop 12_000 x.table) 12_000 (length-words (meanings chapter4 a))
    where
      left : x.table_left ≡ words (meanings chapter4 a) ++ drop 12_000 x.table
      left = x.promised.left ∙ (unfold rewrite_table table_left is_accept in rw (roomy.0, verdict-accept))

-- the form of an accepted file
form_good : (f : List ℕ) → accepted chapter4 f ≡ true → form_verdict chapter4 f ≡ accept
unfolding accepted verdict
form_good f h = is_accept_lem (form_verdict chapter4 f) (both (sym (then_accept (form_verdict chapter4 f) (reference_verdict chapter4 f)) ∙ h)).0

forms : (f : List ℕ) (v : Result (List ℕ) Fault) → accepted chapter4 f ≡ true → walk.FormPromised f v → v ≡ checked_of (answer accept (meanings chapter4 f))
unfolding form_answer
forms f v h p = p.answered ∙ ap (λ (x : files.Result). checked_of (answer x (meanings chapter4 f))) (form_good f h)

-- ---- demand 3
pub demand_3_rewrite : (a b : List ℕ) (x : Run a) (y : Run b) → Rewrites a b x y
demand_3_rewrite a b x y = record {
  same = subst (λ (s : List ℕ). (s ≡ styled y) ↔ (meanings chapter4 a ≡ meanings chapter4 b)) (sym (its_style a x)) (subst (λ (s : List ℕ). (rewritten chapter4 a ≡ s) ↔ (meanings chapter4 a ≡ meanings chapter4 b)) (sym (its_style b y)) d.same);
  means = ap (meanings chapter4) (its_style a x) ∙ d.means;
  as_many = ap (λ (s : List ℕ). length (lines s)) (its_style a x) ∙ d.as_many;
  as_long = ap length (its_style a x) ∙ d.as_long;
  kinds = ap (λ (s : List ℕ). map (λ l. kind_of (code_at l)) (lines s)) (its_style a x) ∙ d.kinds;
  numbered = λ i k. ap (λ (s : List ℕ). value_of sequence (take 6 (get_or (lines s) i []))) (its_style a x) ∙ d.numbered i k;
  beyond = its_rest a x;
  accepted_again = λ t v w u h p q.
      let zero : IsOk w = accepted-zero (styled x) t w u q h again in (
        forms (styled x) v again p ∙ ap (λ ms. checked_of (answer accept ms)) means ∙ sym (its_answer a x),
        zero,
        (demand_2_references (styled x) t w u q).filled zero ∙ ap words means ∙ sym (its_words a x),
      );
  settled = λ t o v u p h k q.
      ap (λ n. take n p) (sym long) ∙ writes_first (styled x) t o v u p h (subst (λ n. n ≤ length o) (sym long) k) again q ∙ ap (rewritten chapter4) (its_style a x) ∙ d.settled ∙ sym (its_style a x);
}
  where
    d : Demand3 a b
    d = demand_3 a b (its_file a x) (its_file b y)

    means : meanings chapter4 (styled x) ≡ meanings chapter4 a
    means = ap (meanings chapter4) (its_style a x) ∙ d.means

    long : length (styled x) ≡ length a
    long = ap length (its_style a x) ∙ d.as_long

    again : accepted chapter4 (styled x) ≡ true
    again = ap (accepted chapter4) (its_style a x) ∙ d.accepted_again
