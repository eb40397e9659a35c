-- What is refused and what stands for each entry, as facts about pull, from its promise alone.
use mathlib.Core.Path.{◌≡◌, refl, sym, ◌∙◌, ap}
use mathlib.Core.Logic.{◌⊎◌, inl, inr}
use mathlib.Core.Bool.{true, false, false≢true}
use mathlib.Core.List.{List, [], ◌++◌}
use Prim.Native.Nat.{ℕ, ◌*◌, ◌≤◌, ◌<◌}
use native.Mathlib.Omega.{arith}
use lib.ListN.{length, length-append, length-drop, length-map, take, drop, get_or, get_or-append}
use lib.Seq.{take_at, drop_at}
use Rattle.std.specs.Prelude.{Result, Ok, Err, is_err, IsOk}
use Rattle.rules.specs.Tests.{◌≤?◌}
use Rattle.rules.specs.Files.{line_at, join}
use Rattle.rules.specs.Calls as calls
use Rattle.rules.specs.Calls.{values, unread, read_of}
use Rattle.rules.specs.Pulling.{line_for, fault_for, pulled_line, pulled_fault, pulled_lines, pulled_faults, pull_room, pull_answer, pull_output, pull_faults}
use Rattle.rules.proofs.Truth.{cases, to≤, no≤, map_at, either}
use Rattle.rules.proofs.FileLaws.{line_within}
use Rattle.rules.proofs.PullingLaws.{pulled_long, pulled_at, fault_shown, blank_exactly}
use Rattle.kinds.specs.Values.{fault_of, reading_of}
use Rattle.kinds.specs.declared.Fault.{Fault}
use Rattle.kinds.proofs.ValueLaws.{not_ok, ok_is, same_fault, ok_not_err}
use Rattle.pulling.specs.Promise.{pulled_of, Promised, Refusing, number_in, Stands, Pulling}
use Rattle.pulling.proofs.PullLaws.{short_output, short_list, roomy}

-- 01, "Prove that two results allowed by one promise are equal": the answer, every byte of the output and every word of the fault list
pub one_result : (f rs o s : List ℕ) (v w : Result (Unit {0}) Fault) (p q t u : List ℕ) → Promised f rs o s v p t → Promised f rs o s w q u → (v ≡ w) × (p ≡ q) × (t ≡ u)
one_result f rs o s v w p q t u a b = (a.answered ∙ sym b.answered, a.written ∙ sym b.written, a.numbered ∙ sym b.numbered)

-- the number that a reading names is the one that stands for it in the fault list
number_of : (x : calls.Reading) → fault_for x ≡ number_in (reading_of x)
unfolding fault_for number_in reading_of
number_of (values q m) = refl
number_of (unread n p c) = refl

-- room or not, by lengths
data Room (rs o s : List ℕ) : Type 0 where
  enough : pull_room rs o s ≡ true → 81 * length rs ≤ length o → length rs ≤ length s → Room rs o s
  short : pull_room rs o s ≡ false → (length o < 81 * length rs) ⊎ (length s < length rs) → Room rs o s

room : (rs o s : List ℕ) → Room rs o s
room rs o s =
    cases (81 * length rs ≤? length o)
    (λ a. cases (length rs ≤? length s) (λ b. enough (roomy rs o s (to≤ a) (to≤ b)) (to≤ a) (to≤ b)) (λ b. short (short_list rs o s (no≤ b)) (inr (no≤ b))))
    (λ a. short (short_output rs o s (no≤ a)) (inl (no≤ a)))

module _ (f rs o s : List ℕ) (v : Result (Unit {0}) Fault) (p t : List ℕ) (promised : Promised f rs o s v p t) where
  -- ---- demand 1
  done : pull_room rs o s ≡ true → v ≡ Ok tt
  unfolding pull_answer pulled_of fault_of
  done h = promised.answered ∙ rw h

  -- with room it takes the list
  pub takes : 81 * length rs ≤ length o → length rs ≤ length s → IsOk v
  takes a b = ok_is (done (roomy rs o s a b))

  refused : pull_room rs o s ≡ false → (v ≡ Err record { number = 1; «record» = 0; column = 0 }) × (p ≡ o) × (t ≡ s)
  unfolding pull_answer pull_output pull_faults pulled_of fault_of
  refused h = (promised.answered ∙ rw h, promised.written ∙ rw h, promised.numbered ∙ rw h)

  pub demand_1_pull : Refusing rs o s v p t
  demand_1_pull = by (room rs o s)
    where
      by : Room rs o s → Refusing rs o s v p t
      by (enough h a b) =
          let z = done h in
          record {
            numbers = λ g q. absurd (ok_not_err z q);
            place = λ g q. absurd (ok_not_err z q);
            short = ((λ k. absurd (false≢true (sym (ap is_err z) ∙ k))), either (λ k. absurd (omega arith)) (λ k. absurd (omega arith)));
            untouched = λ k. absurd (false≢true (sym (ap is_err z) ∙ k));
          }
      by (short h why) =
          let z = refused h in
          record {
            numbers = λ g q. ap (λ (y : Fault). y.number) (same_fault q z.0);
            place = λ g q. let y = same_fault q z.0 in (ap (λ (k : Fault). k.«record») y, ap (λ (k : Fault). k.column) y);
            short = ((λ k. why), (λ k. ap is_err z.0));
            untouched = λ k. (z.1, z.2);
          }

  -- ---- demand 2
  record Drawn : Type 0 where
    pub lines : p ≡ pulled_lines f rs ++ drop (81 * length rs) o
    pub faults : t ≡ pulled_faults f rs ++ drop (length rs) s
    pub bytes : 81 * length rs ≤ length o
    pub places : length rs ≤ length s

  drawn : IsOk v → Drawn
  unfolding pull_output pull_faults
  drawn z = by (room rs o s)
    where
      by : Room rs o s → Drawn
      by (enough h a b) = record { lines = promised.written ∙ rw h; faults = promised.numbered ∙ rw h; bytes = a; places = b }
      by (short h why) = absurd (not_ok (refused h).0 z)

  module _ (z : IsOk v) where
    as_many : length (pulled_faults f rs) ≡ length rs
    unfolding pulled_faults
    as_many = length-map rs (pulled_fault f)

    pub line_is : (i : ℕ) → i < length rs → line_at p i ≡ pulled_line f (get_or rs i 0)
    line_is i h =
        ap (λ (x : List ℕ). line_at x i) (drawn z).lines
        ∙ line_within (pulled_lines f rs) (drop (81 * length rs) o) i (omega (arith, h, pulled_long f rs)) ∙ pulled_at f rs i h

    pub fault_is : (i : ℕ) → i < length rs → get_or t i 0 ≡ pulled_fault f (get_or rs i 0)
    unfolding pulled_faults
    fault_is i h =
        ap (λ (x : List ℕ). get_or x i 0) (drawn z).faults
        ∙ get_or-append (pulled_faults f rs) (drop (length rs) s) 0 i (omega (arith, h, as_many)) ∙ map_at (pulled_fault f) rs 0 0 i h

    pub lines_are : take (81 * length rs) p ≡ pulled_lines f rs
    lines_are = ap (take (81 * length rs)) (drawn z).lines ∙ take_at (pulled_lines f rs) (drop (81 * length rs) o) (81 * length rs) (pulled_long f rs)

    pub faults_are : take (length rs) t ≡ pulled_faults f rs
    faults_are = ap (take (length rs)) (drawn z).faults ∙ take_at (pulled_faults f rs) (drop (length rs) s) (length rs) as_many

    named : (i : ℕ) → pulled_fault f (get_or rs i 0) ≡ number_in (reading_of (read_of f (get_or rs i 0)))
    unfolding pulled_fault
    named i = number_of (read_of f (get_or rs i 0))

    stands : (i : ℕ) → i < length rs → Stands f p t i (get_or rs i 0)
    stands i h = record {
      good = λ q m e. (line_is i h ∙ (unfold pulled_line line_for in rw e), fault_is i h ∙ (unfold pulled_fault fault_for in rw e));
      bad = λ n a c e. (line_is i h ∙ (unfold pulled_line line_for in rw e), fault_is i h ∙ (unfold pulled_fault fault_for in rw e));
      as_read = λ x r. fault_is i h ∙ (named i ∙ sym (ap number_in r.answered));
      shows = rw (fault_is i h) (fault_shown f (get_or rs i 0));
      blank = rw (line_is i h, fault_is i h) (blank_exactly f (get_or rs i 0));
    }

    pub demand_2_pull : Pulling f rs o s p t
    demand_2_pull = record {
      entry = stands;
      lines_beyond = ap (drop (81 * length rs)) (drawn z).lines ∙ drop_at (pulled_lines f rs) (drop (81 * length rs) o) (81 * length rs) (pulled_long f rs);
      faults_beyond = ap (drop (length rs)) (drawn z).faults ∙ drop_at (pulled_faults f rs) (drop (length rs) s) (length rs) as_many;
      as_long = (
        ap length (drawn z).lines ∙ length-append (pulled_lines f rs) (drop (81 * length rs) o) ∙ omega (arith, pulled_long f rs, length-drop (81 * length rs) o, (drawn z).bytes),
        ap length (drawn z).faults ∙ length-append (pulled_faults f rs) (drop (length rs) s) ∙ omega (arith, as_many, length-drop (length rs) s, (drawn z).places),
      );
    }

-- ---- an empty list is good with every output and every fault list, and touches neither
pub empty_list : (f o s : List ℕ) (v : Result (Unit {0}) Fault) (p t : List ℕ) → Promised f [] o s v p t → (v ≡ Ok tt) × (p ≡ o) × (t ≡ s)
unfolding pulled_lines pulled_faults join
empty_list f o s v p t promised =
    let room : pull_room [] o s ≡ true = roomy [] o s (omega arith) (omega arith) in
    let z = done f [] o s v p t promised room in
    (z, (drawn f [] o s v p t promised (ok_is z)).lines, (drawn f [] o s v p t promised (ok_is z)).faults)
