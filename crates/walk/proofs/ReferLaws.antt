-- 11 and 12: one law for each way through the functions, what the words of the table tell, and the loop over the records.
use mathlib.Core.Path.{◌≡◌, refl, sym, ◌∙◌, ap}
use mathlib.Core.Logic.{inl, inr}
use mathlib.Core.Bool.{Bool, true, false, not}
use mathlib.Core.List.{List, [], ◌∷◌, map}
use Prim.Native.Nat.{ℕ, ◌+◌, ◌-◌, ◌≤◌, ◌<◌}
use native.Mathlib.Omega.{arith}
use lib.ListN.{get_or}
use lib.Dec.{eqb}
use Rattle.std.specs.Prelude.{Result, Ok, Err, Option, IsSome}
use Rattle.rules.specs.Tests.{◌&◌, ◌≤?◌, ◌=?◌}
use Rattle.rules.specs.Fields.{Verdict, ok, fault, check, ◌⨾◌, Check, run}
use Rattle.rules.specs.Records.{Meaning, code_at, meaning, formed_line, meant}
use Rattle.rules.specs.Files.{in_record, line_at, begun, lines_from, lines, meanings, refer, reference_verdict, formed_lines}
use Rattle.rules.specs.Kinds.{kind_of, known, *25*, *70*, *72*, *80*, *91*, *92*}
use Rattle.rules.specs.Members.{◌∈◌}
use Rattle.rules.specs.References.{Family, stations, families, Naming, namings, is_a, number_at, definer, asked, named_check, ref_checks, words}
use Rattle.rules.specs.Chapter4.{chapter4}
use Rattle.rules.proofs.Truth.{both, to≤, of≤, of>, to≡, of≡, no≡, of≢, cases, above_0}
use Rattle.rules.proofs.RecordLaws.{line_meant}
use Rattle.rules.proofs.FileLaws.{lines_more, lines_none}
use Rattle.rules.proofs.ReferenceLaws.{stations_in, family_in, word_in}
use Rattle.rules.proofs.TableLaws.{own_range, named_range}
use Rattle.kinds.specs.declared.Flaw.{Flaw}
use Rattle.kinds.specs.declared.Fault.{Fault}
use Rattle.kinds.specs.declared.Kind.{Kind}
use Rattle.kinds.specs.declared.Kind.TheVariants as K
use Rattle.kinds.specs.Values.{judged_of, fault_of, kind_index, kind_in}
use Rattle.kinds.proofs.KindLaws.{other_index, is_some}
use Rattle.kinds.proofs.ValueLaws.{flaw, good_is, bad_is}
use Rattle.reading.specs.Values.{nat_in}
use Rattle.walk.specs.Words.{slot_in}
use Rattle.walk.specs.References.{first_in, undefined_in, named_by, word_check, named_in, ref_in, Referable}
use Rattle.walk.proofs.WordLaws.{slot_family}
use Rattle.walk.proofs.NumberLaws.{own_number, named-number, its_kind}

module _ (t : List ℕ) (r : ℕ) (l : List ℕ) (n : ℕ) (p : n ≡ nat_in 11 4 l) (i : ℕ) (at : i ≡ slot_in (kind_index K.Point) n) (w : ℕ) (e : w ≡ get_or t i 0) (z : ℕ) (u : z ≡ w) where
  q : i ≡ slot_in *80* n
  unfolding kind_index
  q = at

  pub first_good : z ≡ r → Ok tt ≡ judged_of (first_in t r l)
  unfolding first_in check judged_of
  first_good h = rw (← p, ← q, ← e, ← u, of≡ h)

  pub first_bad_lem : (z ≡ r → ⊥) → {x : Flaw} → x ≡ flaw 11 11 → Err x ≡ judged_of (first_in t r l)
  unfolding first_in check judged_of
  first_bad_lem h y = rw (y, ← p, ← q, ← e, ← u, of≢ h)

pub undefined_is : (t : List ℕ) (k n i : ℕ) → i ≡ slot_in k n → (w : ℕ) → w ≡ get_or t i 0 → eqb w 0 ≡ undefined_in t k n
unfolding undefined_in ◌=?◌
undefined_is t k n i e w z = rw (z, e)

-- the station at column 11, which a *25*, a *91* and a *92* name first
module _ (t l : List ℕ) (n : ℕ) (p : n ≡ nat_in 11 4 l) (a : Bool) (told : a ≡ undefined_in t (kind_index K.Point) n) where
  e : a ≡ undefined_in t *80* n
  unfolding kind_index
  e = told

  pub occupied_station : a ≡ true → {x : Flaw} → x ≡ flaw 12 11 → Err x ≡ judged_of (named_in t *25* l)
  unfolding named_in named_by run check judged_of ◌⨾◌ ◌=?◌
  occupied_station h y = rw (y, ← p, ← e, h)

  pub network_bad : a ≡ true → {x : Flaw} → x ≡ flaw 12 11 → Err x ≡ judged_of (named_in t *91* l)
  unfolding named_in named_by run check judged_of ◌⨾◌ ◌=?◌
  network_bad h y = rw (y, ← p, ← e, h)

  pub standpoint_bad : a ≡ true → {x : Flaw} → x ≡ flaw 12 11 → Err x ≡ judged_of (named_in t *92* l)
  unfolding named_in named_by run check judged_of ◌⨾◌ ◌=?◌
  standpoint_bad h y = rw (y, ← p, ← e, h)

  module _ (h : a ≡ false) where
    pub network-good : Ok tt ≡ judged_of (named_in t *91* l)
    unfolding named_in named_by run check judged_of ◌⨾◌ ◌=?◌
    network-good = rw (← p, ← e, h)

    module _ (n' : ℕ) (p' : n' ≡ nat_in 17 4 l) (a' : Bool) (told' : a' ≡ undefined_in t (kind_index K.Point) n') where
      e' : a' ≡ undefined_in t *80* n'
      unfolding kind_index
      e' = told'

      pub forepoint_bad : a' ≡ true → {x : Flaw} → x ≡ flaw 12 17 → Err x ≡ judged_of (named_in t *92* l)
      unfolding named_in named_by run check judged_of ◌⨾◌ ◌=?◌
      forepoint_bad h' y = rw (y, ← p, ← e, h, ← p', ← e', h')

      pub local-good : a' ≡ false → Ok tt ≡ judged_of (named_in t *92* l)
      unfolding named_in named_by run check judged_of ◌⨾◌ ◌=?◌
      local-good h' = rw (← p, ← e, h, ← p', ← e', h')

    module _ (n' : ℕ) (p' : n' ≡ nat_in 28 3 l) (a' : Bool) (told' : a' ≡ undefined_in t (kind_index K.Instrument) n') where
      e70 : a' ≡ undefined_in t *70* n'
      unfolding kind_index
      e70 = told'

      pub occupied_instrument : a' ≡ true → {x : Flaw} → x ≡ flaw 12 28 → Err x ≡ judged_of (named_in t *25* l)
      unfolding named_in named_by run check judged_of ◌⨾◌ ◌=?◌
      occupied_instrument h' y = rw (y, ← p, ← e, h, ← p', ← e70, h')

      module _ (h' : a' ≡ false) (m : ℕ) (pm : m ≡ nat_in 33 3 l) (b : Bool) (toldm : b ≡ undefined_in t (kind_index K.Antenna) m) where
        em : b ≡ undefined_in t *72* m
        unfolding kind_index
        em = toldm

        pub occupied_antenna : b ≡ true → {x : Flaw} → x ≡ flaw 12 33 → Err x ≡ judged_of (named_in t *25* l)
        unfolding named_in named_by run check judged_of ◌⨾◌ ◌=?◌
        occupied_antenna z y = rw (y, ← p, ← e, h, ← p', ← e70, h', ← pm, ← em, z)

        pub occupied_good : b ≡ false → Ok tt ≡ judged_of (named_in t *25* l)
        unfolding named_in named_by run check judged_of ◌⨾◌ ◌=?◌
        occupied_good z = rw (← p, ← e, h, ← p', ← e70, h', ← pm, ← em, z)

module _ (t : List ℕ) (r k : ℕ) (l : List ℕ) where
  pub refs_80 : k ≡ *80* → {v : Result (Unit {0}) Flaw} → v ≡ judged_of (first_in t r l) → v ≡ judged_of (ref_in t r k l)
  unfolding ref_in ◌=?◌
  refs_80 e q = rw e q

  refs_named : (j : ℕ) → k ≡ j → j =? *80* ≡ false → {v : Result (Unit {0}) Flaw} → v ≡ judged_of (named_in t j l) → v ≡ judged_of (ref_in t r k l)
  unfolding ref_in
  refs_named j e d q = rw (e, d) q

  pub refs_25 : k ≡ *25* → {v : Result (Unit {0}) Flaw} → v ≡ judged_of (named_in t *25* l) → v ≡ judged_of (ref_in t r k l)
  refs_25 e = refs_named *25* e (unfold ◌=?◌ in refl)

  pub refs_91 : k ≡ *91* → {v : Result (Unit {0}) Flaw} → v ≡ judged_of (named_in t *91* l) → v ≡ judged_of (ref_in t r k l)
  refs_91 e = refs_named *91* e (unfold ◌=?◌ in refl)

  pub refs_92 : k ≡ *92* → {v : Result (Unit {0}) Flaw} → v ≡ judged_of (named_in t *92* l) → v ≡ judged_of (ref_in t r k l)
  refs_92 e = refs_named *92* e (unfold ◌=?◌ in refl)

  pub refs_none : (k ≡ *25* → ⊥) → (k ≡ *80* → ⊥) → (k ≡ *91* → ⊥) → (k ≡ *92* → ⊥) → Ok tt ≡ judged_of (ref_in t r k l)
  unfolding ref_in named_in named_by run judged_of
  refs_none a b c d = rw (of≢ a, of≢ b, of≢ c, of≢ d)

-- by the kind
pub refs_others : (t : List ℕ) (r : ℕ) (l : List ℕ) (k : Kind) → (k ≡ K.Occupation → ⊥) → (k ≡ K.Point → ⊥) → (k ≡ K.Network → ⊥) → (k ≡ K.Local → ⊥) → Ok tt ≡ judged_of (ref_in t r (kind_index k) l)
unfolding kind_index
refs_others t r l k a b c d = refs_none t r (kind_index k) l (other_index k K.Occupation a) (other_index k K.Point b) (other_index k K.Network c) (other_index k K.Local d)

-- ---- the words tell what the rules ask of the whole file
not-zero : (n : ℕ) → not (n =? 0) ≡ 1 ≤? n
not-zero n = cases (n =? 0) (λ h. rw (h, of> {m = 1} {n = n} (omega (arith, to≡ h)))) (λ h. rw (h, of≤ (above_0 n (no≡ h))))

then_ok : (v : Verdict) → v ≡ v ⨾ ok
unfolding ◌⨾◌
then_ok ok = refl
then_ok (fault n c) = refl

run_alone : (b : Bool) (n c : ℕ) (ks : List Check) → run ks ≡ ok → check b n c ≡ run (record { test = b; number = n; column = c } ∷ ks)
unfolding run
run_alone b n c ks h = rw h (then_ok (check b n c))

run_past : (b : Bool) (n c : ℕ) (ks : List Check) → b ≡ true → run ks ≡ run (record { test = b; number = n; column = c } ∷ ks)
unfolding run check ◌⨾◌
run_past b n c ks h = rw h

run-first : {c d : Check} (cs ds : List Check) → c ≡ d → run cs ≡ run ds → run (c ∷ cs) ≡ run (d ∷ ds)
unfolding run
run-first cs ds e h = rw (e, h)

-- tests that are true where the record does not name, and else the same
run-named : (k : ℕ) (f g : Naming → Check) (Ns : List Naming) → ((N : Naming) → N ∈ Ns → k =? N.by ≡ true → f N ≡ g N) → ((N : Naming) → N ∈ Ns → k =? N.by ≡ false → (g N).test ≡ true)
    → run (map f (named_by k Ns)) ≡ run (map g Ns)
unfolding ◌∈◌ named_by
run-named k f g [] h p = refl
run-named k f g (N ∷ Ns) h p =
    let rest : run (map f (named_by k Ns)) ≡ run (map g Ns) = run-named k f g Ns (λ M i. h M (inr i)) (λ M i. p M (inr i)) in
    cases (k =? N.by)
    (λ e. rw e (run-first (map f (named_by k Ns)) (map g Ns) (h N (inl refl) e) rest))
    (λ e. rw e (rest ∙ run_past (g N).test (g N).number (g N).column (map g Ns) (p N (inl refl) e)))

-- for any family, the word of a number tells which record defines it
word_tells : (ms : List Meaning) (F : Family) → F ∈ families → (n : ℕ) → n ≤ F.most → get_or (words ms) (slot_in F.kind n) 0 ≡ definer F.kind n ms
word_tells ms F i n h = rw (← slot_family F i F.kind n refl) (word_in ms F i n h)

module _ (ms : List Meaning) (r : ℕ) (l : List ℕ) (fine : formed_line chapter4 l ≡ true) (k : ℕ) (e : k ≡ kind_of (code_at l)) where
  mean : meant chapter4 (meaning chapter4 l) ≡ true
  mean = line_meant chapter4 l fine

  -- what a record names is tested by its words
  one_told : (N : Naming) → N ∈ namings → k =? N.by ≡ true → word_check (words ms) l N ≡ named_check ms (meaning chapter4 l) N
  unfolding undefined_in asked
  one_told N i a =
      let own : is_a N.by (meaning chapter4 l) ≡ true = its_kind l k e N.by ∙ a in
      let n = number_at N.column (meaning chapter4 l) in
      rw (own, ← named-number l N i (sym e ∙ to≡ a), word_tells ms N.family (family_in N i) n (named_range N i (meaning chapter4 l) mean own).1)
      (ap (λ (b : Bool). record { test = b; number = 12; column = N.column }) (not-zero (definer N.family.kind n ms)))

  not-told : (N : Naming) → N ∈ namings → k =? N.by ≡ false → (named_check ms (meaning chapter4 l) N).test ≡ true
  unfolding asked
  not-told N i a = rw (its_kind l k e N.by, a)

  named-told : named_in (words ms) k l ≡ run (map (named_check ms (meaning chapter4 l)) namings)
  unfolding named_in
  named-told = run-named k (word_check (words ms) l) (named_check ms (meaning chapter4 l)) namings one_told not-told

  -- an *80* names nothing
  first-told : k =? *80* ≡ true → first_in (words ms) r l ≡ run (ref_checks ms r (meaning chapter4 l))
  unfolding first_in ref_checks asked
  first-told a =
      let own : is_a *80* (meaning chapter4 l) ≡ true = its_kind l k e *80* ∙ a in
      let n = number_at 11 (meaning chapter4 l) in
      let none : named_in (words ms) k l ≡ ok = unfold named_in named_by run ◌=?◌ in rw (to≡ {m = k} {n = *80*} a) in
      let rest : run (map (named_check ms (meaning chapter4 l)) namings) ≡ ok = sym named-told ∙ none in
      rw (← own_number l stations stations_in (sym e ∙ to≡ a), word_tells ms stations stations_in n (own_range stations stations_in (meaning chapter4 l) mean own).1)
      (rw own (run_alone (definer *80* n ms =? r) 11 11 (map (named_check ms (meaning chapter4 l)) namings) rest))

  pub refs_told : ref_in (words ms) r k l ≡ run (ref_checks ms r (meaning chapter4 l))
  unfolding ref_in ref_checks asked
  refs_told =
      cases (k =? *80*) (λ a. rw a (first-told a))
      (λ a. rw a (named-told ∙ run_past _ 11 11 (map (named_check ms (meaning chapter4 l)) namings) (rw (its_kind l k e *80*, a))))

-- ---- the loop: what is left to refer from here is what was to refer at the start
pub record Referring (f : List ℕ) (n i : ℕ) : Type 0 where
  pub count : n ≡ begun f
  pub form : formed_lines chapter4 (i + 1) (lines_from f (n - i) i) ≡ true
  pub same : refer chapter4 (meanings chapter4 f) (i + 1) (map (meaning chapter4) (lines_from f (n - i) i)) ≡ refer chapter4 (meanings chapter4 f) 1 (meanings chapter4 f)

pub refer_from : (f t : List ℕ) → Referable f t → (n : ℕ) → n ≡ begun f → Referring f n 0
unfolding meanings lines
refer_from f t h n e =
    let z : n - 0 ≡ begun f = omega arith in
    record { count = e; form = rw z h.form; same = rw z }

module _ (f t : List ℕ) (given : Referable f t) (n i : ℕ) (g : Referring f n i) where
  module _ (h : i < n) where
    fine : (i + 1 ≤? 99_999 & formed_line chapter4 (line_at f i) ≡ true) × (formed_lines chapter4 (i + 1 + 1) (lines_from f (n - (i + 1)) (i + 1)) ≡ true)
    unfolding formed_lines
    fine = both (rw (lines_more f n i h) at g.form)

    pub refer_known : (l : List ℕ) → l ≡ line_at f i → (o : Option Kind) → kind_in o ≡ kind_of (code_at l) → IsSome o
    refer_known l el o e = is_some o _ e (known_code l (rw el (both fine.0).1))
      where
        known_code : (l : List ℕ) → formed_line chapter4 l ≡ true → kind_of (code_at l) < 14
        known_code l h = let t : kind_of (code_at l) ≤ 13 = unfold formed_line known in to≤ (both (both (both h).0).0).1 in omega arith

    module _ (l : List ℕ) (el : l ≡ line_at f i) (k : ℕ) (ek : k ≡ kind_of (code_at l)) (j : Result (Unit {0}) Flaw) (ej : j ≡ judged_of (ref_in t (i + 1) k l)) where
      judged : j ≡ judged_of (run (ref_checks (meanings chapter4 f) (i + 1) (meaning chapter4 (line_at f i))))
      judged =
          ej ∙ rw (given.table, refs_told (meanings chapter4 f) (i + 1) l (rw el (both fine.0).1) k ek, el)

      unrolled : in_record (i + 1) (run (ref_checks (meanings chapter4 f) (i + 1) (meaning chapter4 (line_at f i)))) (refer chapter4 (meanings chapter4 f) (i + 1 + 1) (map (meaning chapter4) (lines_from f (n - (i + 1)) (i + 1))))
          ≡ refer chapter4 (meanings chapter4 f) 1 (meanings chapter4 f)
      unfolding refer
      unrolled = rw (lines_more f n i h) at g.same

      pub refer_fault : (w : Flaw) → j ≡ Err w → {x : Fault} → x ≡ record { number = w.number; «record» = i + 1; column = w.column } → Err x ≡ fault_of (reference_verdict chapter4 f)
      unfolding in_record fault_of
      refer_fault w q z = rw z (ap fault_of (rw (bad_is _ w (sym judged ∙ q)) at unrolled))

      pub refer_on : j ≡ Ok tt → Referring f n (i + 1)
      unfolding in_record
      refer_on q = record { count = g.count; form = fine.1; same = rw (good_is _ (sym judged ∙ q)) at unrolled }

  pub refer_done : n ≤ i → Ok tt ≡ fault_of (reference_verdict chapter4 f)
  unfolding refer fault_of
  refer_done h = ap fault_of (rw (lines_none f n i h) at g.same)
