-- The loop over the records, for any rows and any last place: what is left to do from here is what was to do at the start.
use mathlib.Core.Path.{◌≡◌, refl, sym, ◌∙◌, ap}
use mathlib.Core.Bool.{true, cond, false≢true}
use mathlib.Core.List.{List, ◌∷◌, map}
use Prim.Native.Nat.{ℕ, zero, suc, ◌+◌, ◌-◌, ◌≤◌, ◌<◌}
use native.Mathlib.Omega.{arith}
use lib.ListN.{length, get_or, set, replicate, length-set, get_or-replicate}
use lib.Seq.{get_or-set_same, get_or-set_other, ext_get_or}
use Rattle.rules.specs.Tests.{◌≤?◌, ◌=?◌}
use Rattle.rules.specs.Fields.{Verdict, ok, fault, check, ◌⨾◌, is_ok}
use Rattle.rules.specs.Records.{Meaning, Edition, code_at, entries, numbered, judge_line, meaning, formed_line, permitted}
use Rattle.rules.specs.Kinds.{kind_of, known, *25*, *70*, *72*, *80*}
use Rattle.rules.specs.Order.{nothing, goto}
use Rattle.rules.specs.Files as files
use Rattle.rules.specs.Files.{accept, refuse, is_accept, in_record, line_at, begun, lines_from, lines, meanings, walk}
use Rattle.rules.specs.References.{stations, instruments, antennas, is_a, number_at, mark, slot_of, filled, tally, counts}
use Rattle.rules.specs.Chapter4.{Past, at_start, may_stand, latest, after, ordered, chapter4}
use Rattle.rules.proofs.Truth.{both, and, to≤, to≡, of≡, no≡, of≢, cases}
use Rattle.rules.proofs.FieldLaws.{is_ok_⨾, is_ok_check}
use Rattle.rules.proofs.RecordLaws.{judge_line_splits}
use Rattle.rules.proofs.FileLaws.{lines_more, lines_none}
use Rattle.rules.proofs.TableLaws.{count_at, length-mark}
use Rattle.rules.proofs.ReferenceLaws.{stations_in, instruments_in, antennas_in, length-tabulate}
use Rattle.kinds.specs.declared.Fault.{Fault}
use Rattle.kinds.specs.declared.Kind.{Kind}
use Rattle.kinds.specs.Values.{judged_of, kind_index, kind_in}
use Rattle.walk.specs.declared.kept.Kept.{Kept}
use Rattle.std.specs.Prelude.{Result, Ok, Err, Option, None}
use Rattle.kinds.specs.declared.Flaw.{Flaw}
use Rattle.walk.specs.Keeping.{job_of, past_of, at_first, latest_in, moved_of}
use Rattle.walk.specs.Words.{lead_in, slot_in}
use Rattle.walk.specs.Walking.{answer_of, judge_at, stepped, step_of, Walked, unknown_at}
use Rattle.walk.proofs.KeptLaws.{spelled}
use Rattle.walk.proofs.StepLaws.{step_unknown}
use Rattle.walk.proofs.NumberLaws.{lead_of_25, lead_of, its_kind, its_slot}

-- ---- what is kept after a good record is what the rules keep
module _ (rows : List (List ℕ)) (last : ℕ) (s : Kept) (l : List ℕ) (good : is_ok (judge_line (ordered rows last) (past_of s) l) ≡ true) where
  parts : (formed_line (ordered rows last) l ≡ true) × (permitted (ordered rows last) (past_of s) (meaning (ordered rows last) l) ≡ true)
  parts = both (sym (judge_line_splits (ordered rows last) (past_of s) l) ∙ good)

  of_a_kind : kind_of (code_at l) ≤ 13
  unfolding formed_line known
  of_a_kind = to≤ (both (both (both parts.0).0).0).1

  placed : 1 ≤ goto rows s.place (kind_of (code_at l))
  unfolding permitted meaning may_stand past_of
  placed = to≤ (both (both parts.1).0).0

  module _ (k : ℕ) (e : k ≡ kind_of (code_at l)) where
    its_latest : (j old : ℕ) → (k =? j ≡ true → lead_in k l ≡ number_at 11 (meaning chapter4 l)) → latest_in k j (lead_in k l) old ≡ latest j (meaning chapter4 l) old
    unfolding latest_in latest
    its_latest j old f = rw (its_kind l k e j) (cases (k =? j) (λ a. rw a (f a)) (λ a. rw a))

    its_job : job_of (moved_of s (goto rows s.place k) k (get_or l 7 0) (get_or l 8 0) (lead_in k l)) ≡ cond (s.place =? nothing) (code_at l) (job_of s)
    unfolding job_of moved_of
    its_job =
        let p : 1 ≤ goto rows s.place k = rw e placed in
        rw (of≢ {m = goto rows s.place k} {n = nothing} (λ z. omega arith)) (cases (s.place =? 0) (λ a. rw a (sym (spelled l of_a_kind))) (λ a. rw a))

    its_group : latest_in k *25* (lead_in k l) (latest_in k *70* 0 s.group) ≡ latest *25* (meaning chapter4 l) (cond (is_a *70* (meaning chapter4 l)) 0 s.group)
    its_group = its_latest *25* (latest_in k *70* 0 s.group) (lead_of_25 l k e) ∙ ap (latest *25* (meaning chapter4 l)) (unfold latest_in in rw (its_kind l k e *70*))

    pub moved_past : past_of (moved_of s (goto rows s.place k) k (get_or l 7 0) (get_or l 8 0) (lead_in k l)) ≡ after rows (past_of s) (meaning chapter4 l)
    unfolding past_of moved_of after meaning
    moved_past j = record {
      place = goto rows s.place (e j);
      job = its_job j;
      group = its_group j;
      point = its_latest *80* s.point (lead_of l k e stations stations_in) j;
      instrument = its_latest *70* s.instrument (lead_of l k e instruments instruments_in) j;
      antenna = its_latest *72* s.antenna (lead_of l k e antennas antennas_in) j;
    }

-- ---- what an answer of a step tells
stepped_ok : (v : Verdict) (m u : Kept) → stepped v m ≡ Ok u → is_ok v ≡ true
unfolding stepped is_ok
stepped_ok ok m u e = refl
stepped_ok (fault n c) m u e = cc

stepped_moves : (v : Verdict) (m u : Kept) → stepped v m ≡ Ok u → m ≡ u
unfolding stepped
stepped_moves ok m u e = cc
stepped_moves (fault n c) m u e = cc

stepped_fault : (v : Verdict) (m : Kept) (w : Flaw) → stepped v m ≡ Err w → v ≡ fault w.number w.column
unfolding stepped
stepped_fault ok m w e = cc
stepped_fault (fault n c) m w e = cc

-- a line is judged alike wherever a file ends
any_last : (rows : List (List ℕ)) (last : ℕ) (s : Kept) (r : ℕ) (l : List ℕ) → judge_at rows s r l ≡ check (r ≤? 99_999) 2 1 ⨾ judge_line (ordered rows last) (past_of s) l
unfolding judge_at judge_line numbered entries
any_last rows last s r l = refl

module _ (rows : List (List ℕ)) (last : ℕ) (s : Kept) (r : ℕ) (l : List ℕ) (a : Result Kept Flaw) (e : a ≡ step_of rows s r l) where
  pub step_refuses : (w : Flaw) → a ≡ Err w → check (r ≤? 99_999) 2 1 ⨾ judge_line (ordered rows last) (past_of s) l ≡ fault w.number w.column
  unfolding step_of
  step_refuses w q = sym (any_last rows last s r l) ∙ stepped_fault _ _ w (sym e ∙ q)

  module _ (u : Kept) (q : a ≡ Ok u) where
    fine : (r ≤? 99_999 ≡ true) × (is_ok (judge_line (ordered rows last) (past_of s) l) ≡ true)
    unfolding step_of
    fine = both (sym (ap is_ok (any_last rows last s r l) ∙ is_ok_⨾ (check (r ≤? 99_999) 2 1) _ ∙ rw (is_ok_check (r ≤? 99_999) 2 1)) ∙ stepped_ok _ _ u (sym e ∙ q))

    pub step_few : r ≤ 99_999
    step_few = to≤ fine.0

    pub step_known : kind_of (code_at l) < 14
    step_known = let h : kind_of (code_at l) ≤ 13 = of_a_kind rows last s l fine.1 in omega arith

    step_past : past_of u ≡ after rows (past_of s) (meaning (ordered rows last) l)
    unfolding step_of
    step_past = ap past_of (sym (stepped_moves _ _ u (sym e ∙ q))) ∙ (unfold meaning in moved_past rows last s l fine.1 (kind_of (code_at l)) refl)

-- ---- answers
pub refused_is : (m r c : ℕ) (x : files.Result) (ms : List Meaning) → refuse m r c ≡ x → Err record { number = m; «record» = r; column = c } ≡ answer_of x ms
unfolding answer_of
refused_is m r c x ms e = rw (← e)

pub accepted_is : (x : files.Result) (ms : List Meaning) → accept ≡ x → Ok (counts ms) ≡ answer_of x ms
unfolding answer_of
accepted_is x ms e = rw (← e)

pub refused-not : (m r c : ℕ) (x : files.Result) → refuse m r c ≡ x → is_accept x ≡ true → ⊥
unfolding is_accept
refused-not m r c x e h = false≢true (ap is_accept e ∙ h)

module _ {S : Type 0} (E : Edition S) (p : S) (r : ℕ) (l : List ℕ) (ls : List (List ℕ)) where
  walk_bad : (m c : ℕ) → check (r ≤? 99_999) 2 1 ⨾ judge_line E p l ≡ fault m c → refuse m r c ≡ walk E p r (l ∷ ls)
  unfolding walk in_record
  walk_bad m c e = rw e

  walk-good : check (r ≤? 99_999) 2 1 ⨾ judge_line E p l ≡ ok → walk E (E.next p (meaning E l)) (r + 1) ls ≡ walk E p r (l ∷ ls)
  unfolding walk in_record
  walk-good e = rw e

-- ---- one record more
count_one : (cs : List ℕ) (k : ℕ) (m : Meaning) (ms : List Meaning) (j total : ℕ) → k < length cs → is_a j m ≡ k =? j
    → get_or cs j 0 + tally j (m ∷ ms) ≡ total → get_or (set cs k (get_or cs k 0 + 1)) j 0 + tally j ms ≡ total
unfolding tally
count_one cs k m ms j total h own e =
    cases (k =? j)
    (λ a. rw (← to≡ a, get_or-set_same cs k (get_or cs k 0 + 1) 0 h) (same (to≡ a) (rw (own, a) at e)))
    (λ a. rw (get_or-set_other cs k j (get_or cs k 0 + 1) 0 (λ z. no≡ a (sym z))) (rw (own, a) at e))
  where
    same : k ≡ j → get_or cs j 0 + (1 + tally j ms) ≡ total → get_or cs k 0 + 1 + tally k ms ≡ total
    same z d = rw z (omega arith)

bump_below : (cs : List ℕ) (k i : ℕ) → k < length cs → ((j : ℕ) → get_or cs j 0 ≤ i) → (j : ℕ) → get_or (set cs k (get_or cs k 0 + 1)) j 0 ≤ i + 1
bump_below cs k i h f j =
    cases (k =? j)
    (λ a. rw (← to≡ a, get_or-set_same cs k (get_or cs k 0 + 1) 0 h) (omega (arith, f k)))
    (λ a. rw (get_or-set_other cs k j (get_or cs k 0 + 1) 0 (λ z. no≡ a (sym z))) (omega (arith, f j)))

-- before record i + 1, with the counts cs and the words t, which were t₀
pub record Going (E : Edition Past) (f : List ℕ) (n : ℕ) (t₀ t : List ℕ) (s : Kept) (cs : List ℕ) (i : ℕ) : Type 0 where
  pub count : n ≡ begun f
  pub few : i ≤ 99_999
  pub kinds : length cs ≡ 14
  pub below : (j : ℕ) → get_or cs j 0 ≤ i
  pub counting : (k : ℕ) → k < 14 → get_or cs k 0 + tally k (map (meaning E) (lines_from f (n - i) i)) ≡ tally k (meanings E f)
  pub size : length t ≡ length t₀
  pub same : walk E (past_of s) (i + 1) (lines_from f (n - i) i) ≡ walk E E.start 1 (lines f)
  pub filling : filled (i + 1) (map (meaning E) (lines_from f (n - i) i)) t ≡ filled 1 (meanings E f) t₀

-- the words stay as many as they were
pub no_longer : (t₀ t : List ℕ) → length t ≡ length t₀ → length t₀ ≤ 12_000 → length t ≤ 12_000
no_longer t₀ t e h = omega arith

none_yet : (n i j : ℕ) → get_or (replicate n 0) j 0 ≤ i
none_yet zero i j = omega arith
none_yet (suc n) i zero = omega arith
none_yet (suc n) i (suc j) = none_yet n i j

pub go_from : (rows : List (List ℕ)) (last : ℕ) (f t : List ℕ) (n : ℕ) → n ≡ begun f → Going (ordered rows last) f n t t at_first (replicate 14 0) 0
unfolding meanings lines
go_from rows last f t n e =
    let z : n - 0 ≡ begun f = omega arith in
    record {
      count = e;
      few = omega arith;
      kinds = refl;
      below = none_yet 14 0;
      counting = λ k h. rw (z, get_or-replicate {A = ℕ} 14 k 0 0 h) (omega arith);
      size = refl;
      same = rw z (ap (λ p. walk (ordered rows last) p 1 (lines_from f (begun f) 0)) first);
      filling = rw z;
    }
  where
    first : past_of at_first ≡ at_start
    first = unfold past_of job_of at_start ◌=?◌ in refl

module _ (rows : List (List ℕ)) (last : ℕ) (f : List ℕ) (n : ℕ) (t₀ t : List ℕ) (s : Kept) (cs : List ℕ) (i : ℕ) (g : Going (ordered rows last) f n t₀ t s cs i) where
  abbrev E : Edition Past
  E = ordered rows last

  module _ (h : i < n) (l : List ℕ) (el : l ≡ line_at f i) (a : Result Kept Flaw) (ea : a ≡ step_of rows s (i + 1) l) where
    here : walk E (past_of s) (i + 1) (line_at f i ∷ lines_from f (n - (i + 1)) (i + 1)) ≡ walk E at_start 1 (lines f)
    here = rw (lines_more f n i h) at g.same

    pub go_fault : (w : Flaw) → a ≡ Err w → {v : Result (List ℕ) Fault} → v ≡ Err record { number = w.number; «record» = i + 1; column = w.column } → Walked E f v t₀ t
    go_fault x q w =
        let m = x.number in
        let c = x.column in
        let z : refuse m (i + 1) c ≡ walk E at_start 1 (lines f) = walk_bad E (past_of s) (i + 1) (line_at f i) _ m c (rw (← el) (step_refuses rows last s (i + 1) l a ea x q)) ∙ here in
        record {
          first = w ∙ refused_is m (i + 1) c _ (meanings E f) z;
          size = g.size;
          filling = λ y. absurd (refused-not m (i + 1) c _ z y);
        }

    module _ (u : Kept) (q : a ≡ Ok u) (k : ℕ) (ek : k ≡ kind_of (code_at l)) where
      pub go_known : k < 14
      go_known = rw ek (step_known rows last s (i + 1) l a ea u q)

      pub go_few : i + 1 ≤ 99_999
      go_few = step_few rows last s (i + 1) l a ea u q

      passes : check (i + 1 ≤? 99_999) 2 1 ⨾ judge_line E (past_of s) l ≡ ok
      passes = is_ok_lem _ (is_ok_⨾ (check (i + 1 ≤? 99_999) 2 1) _ ∙ rw (is_ok_check (i + 1 ≤? 99_999) 2 1) (and (fine rows last s (i + 1) l a ea u q).0 (fine rows last s (i + 1) l a ea u q).1))
        where
          is_ok_lem : (v : Verdict) → is_ok v ≡ true → v ≡ ok
          is_ok_lem ok y = refl
          is_ok_lem (fault m c) y = absurd (false≢true (unfold is_ok in y))

      pub go_next : (v : List ℕ) → v ≡ mark (i + 1) (slot_in k (lead_in k l)) t → Going E f n t₀ v u (set cs k (get_or cs k 0 + 1)) (i + 1)
      go_next v ev =
          let small : k < length cs = rw g.kinds go_known in
          record {
            count = g.count;
            few = go_few;
            kinds = length-set cs k _ ∙ g.kinds;
            below = bump_below cs k i small g.below;
            counting = λ j y. count_one cs k (meaning E (line_at f i)) _ j (tally j (meanings E f)) small (unfold meaning in its_kind (line_at f i) k (ek ∙ ap (λ (x : List ℕ). kind_of (code_at x)) el) j) (rw (lines_more f n i h) at (g.counting j y));
            size = ap length ev ∙ length-mark (i + 1) (slot_in k (lead_in k l)) t ∙ g.size;
            same = ap (λ p. walk E p (i + 1 + 1) (lines_from f (n - (i + 1)) (i + 1))) (step_past rows last s (i + 1) l a ea u q ∙ ap (λ (x : List ℕ). after rows (past_of s) (meaning E x)) el) ∙ onward;
            filling = ap (filled (i + 1 + 1) (map (meaning E) (lines_from f (n - (i + 1)) (i + 1)))) (ev ∙ marked) ∙ fills;
          }
        where
          onward : walk E (after rows (past_of s) (meaning E (line_at f i))) (i + 1 + 1) (lines_from f (n - (i + 1)) (i + 1)) ≡ walk E at_start 1 (lines f)
          onward = walk-good E (past_of s) (i + 1) (line_at f i) _ (rw (← el) passes) ∙ here

          marked : mark (i + 1) (slot_in k (lead_in k l)) t ≡ mark (i + 1) (slot_of (meaning E (line_at f i))) t
          marked =
              let own : slot_of (meaning E l) ≡ slot_in k (lead_in k l) = unfold meaning in its_slot l k ek in
              ap (λ j. mark (i + 1) j t) (sym own ∙ ap (λ (x : List ℕ). slot_of (meaning E x)) el)

          fills : filled (i + 1 + 1) (map (meaning E) (lines_from f (n - (i + 1)) (i + 1))) (mark (i + 1) (slot_of (meaning E (line_at f i))) t) ≡ filled 1 (meanings E f) t₀
          fills = unfold filled in (rw (lines_more f n i h) at g.filling)

    -- the same where the kind is a value of its type, and its count stands at the number that it answers
    module _ (u : Kept) (q : a ≡ Ok u) (kind : Kind) (ek : kind_index kind ≡ kind_of (code_at l)) where
      pub go_counted : (v : List ℕ) → v ≡ mark (i + 1) (slot_in (kind_index kind) (lead_in (kind_index kind) l)) t → (j : ℕ) → j ≡ kind_index kind → Going E f n t₀ v u (set cs j (get_or cs j 0 + 1)) (i + 1)
      go_counted v ev j ej = rw ej (go_next u q (kind_index kind) ek v ev)

  -- a record of no kind
  pub go_unknown : i < n → (l : List ℕ) → l ≡ line_at f i → (o : Option Kind) → kind_in o ≡ kind_of (code_at l) → o ≡ None → (w : Flaw) → Err w ≡ judged_of (unknown_at (i + 1) l)
      → {g : Fault} → g ≡ record { number = w.number; «record» = i + 1; column = w.column } → Walked E f (Err g) t₀ t
  go_unknown h l el o e z w p {g} y =
      let q : ◌≡◌ {A = Result (List ℕ) Fault} (Err g) (Err record { number = w.number; «record» = i + 1; column = w.column }) = rw y in
      go_fault h l el (Err w) (step_unknown rows s (i + 1) l o e z w p) w refl q

  -- the end of the file
  module _ (h : n ≤ i) where
    ended : cond (s.place =? last) accept (refuse 8 (i + 1) 1) ≡ walk E at_start 1 (lines f)
    unfolding walk past_of
    ended = rw (lines_none f n i h) at g.same

    pub go_short : (s.place ≡ last → ⊥) → i ≤ n → {b : Fault} → b ≡ record { number = 8; «record» = n + 1; column = 1 } → Walked E f (Err b) t₀ t
    go_short e b w' =
        let all : n ≡ i = omega arith in
        let w : ◌≡◌ {A = Result (List ℕ) Fault} (Err _) (Err record { number = 8; «record» = i + 1; column = 1 }) = ap Err (w' ∙ ap (λ k. record { number = 8; «record» = k + 1; column = 1 }) all) in
        let z : refuse 8 (i + 1) 1 ≡ walk E at_start 1 (lines f) = rw (of≢ e) at ended in
        record {
          first = w ∙ refused_is 8 (i + 1) 1 _ (meanings E f) z;
          size = g.size;
          filling = λ y. absurd (refused-not 8 (i + 1) 1 _ z y);
        }

    all_counted : cs ≡ counts (meanings E f)
    all_counted =
        ext_get_or 0 cs (counts (meanings E f)) (g.kinds ∙ sym (unfold counts in length-tabulate (λ k. tally k (meanings E f)) 14 0)) (λ k y. told k (rw g.kinds at y))
      where
        told : (k : ℕ) → k < 14 → get_or cs k 0 ≡ get_or (counts (meanings E f)) k 0
        told k y = let z : get_or cs k 0 + 0 ≡ tally k (meanings E f) = unfold tally in (rw (lines_none f n i h) at (g.counting k y)) in omega (arith, z, count_at (meanings E f) k y)

    pub go_good : s.place ≡ last → Walked E f (Ok cs) t₀ t
    go_good e =
        let z : accept ≡ walk E at_start 1 (lines f) = rw (of≡ e) at ended in
        record {
          first = rw all_counted (accepted_is _ (meanings E f) z);
          size = g.size;
          filling = λ y. unfold filled in (rw (lines_none f n i h) at g.filling);
        }
