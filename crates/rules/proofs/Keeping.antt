-- What is kept of the records before is what the paper says of them: the place in the order, the first record's job code, the open group's station, the last *80*'s, *70*'s and *72*'s number.
use mathlib.Core.Path.{◌≡◌, refl, sym, ◌∙◌, ap, subst}
use mathlib.Core.Logic.{◌⊎◌, inl, inr}
use mathlib.Core.Bool.{Bool, true, false, cond, false≢true}
use mathlib.Core.List.{List, [], ◌∷◌, map}
use Prim.Native.Nat.{ℕ, zero, suc, ◌+◌, ◌≤◌, ◌<◌}
use native.Mathlib.Omega.{arith}
use lib.ListN.{length, take, get_or, set}
use lib.Seq.{get_or-set_other}
use Rattle.rules.specs.Tests.{all, within, ◌&◌, ◌≤?◌, ◌=?◌}
use Rattle.rules.specs.Characters.{any_of}
use Rattle.rules.specs.Records.{Meaning, Edition, code_at, meaning, permitted}
use Rattle.rules.specs.Files.{line_at, begun, lines, passed}
use Rattle.rules.specs.Kinds.{*AA*, *25*, *26*, *27*, *70*, *72*, *80*}
use Rattle.rules.specs.Order.{may_come, place_named, place_after, ruled, order, goto, nothing, first_job, after25, first27, second27, third27, last_job}
use Rattle.rules.specs.References.{is_a, number_at, asked}
use Rattle.rules.specs.Faults.{before}
use Rattle.rules.specs.Chapter4.{Past, at_start, may_stand, latest, after, chapter4}
use Rattle.rules.specs.Conforms.{kind_at, record_at, Nearest, Group, between, Place}
use Rattle.rules.proofs.Truth.{both, to≤, of≤, no≤, of>, to≡, of≡, no≡, of≢, cases, either, all_get_d, under, tried, to_within, of_within, below_or_equal}
use Rattle.rules.proofs.FileLaws.{records, line_at_lem}
use Rattle.rules.proofs.ReferenceLaws.{when_asked}
use Rattle.rules.proofs.Chapter4Laws.{order_is_the_table}

-- ---- one record more
module _ {S : Type 0} (E : Edition S) where
  passed-take : (s : S) (ls : List (List ℕ)) (i : ℕ) → i < length ls → passed E s (map (meaning E) (take (suc i) ls)) ≡ E.next (passed E s (map (meaning E) (take i ls))) (meaning E (get_or ls i []))
  unfolding passed
  passed-take s [] i h = absurd (omega arith)
  passed-take s (l ∷ ls) zero h = refl
  passed-take s (l ∷ ls) (suc i) h = passed-take (E.next s (meaning E l)) ls i (omega arith)

pub before_next : (f : List ℕ) (i : ℕ) → i < begun f → before chapter4 f (suc i) ≡ after order (before chapter4 f i) (record_at f i)
unfolding before record_at
before_next f i h =
    passed-take chapter4 at_start (lines f) i (rw (records f) h) ∙ ap (λ l. after order (passed chapter4 at_start (map (meaning chapter4) (take i (lines f)))) (meaning chapter4 l)) (line_at_lem f i h)

pub before-first : (f : List ℕ) → before chapter4 f 0 ≡ at_start
unfolding before passed
before-first f = refl

start_place : (f : List ℕ) → (before chapter4 f 0).place ≡ nothing
unfolding before passed at_start
start_place f = refl

next_place : (f : List ℕ) (i : ℕ) → i < begun f → (before chapter4 f (suc i)).place ≡ goto order (before chapter4 f i).place (kind_at f i)
unfolding after record_at meaning kind_at
next_place f i h = ap (λ s. s.place) (before_next f i h)

its_kind : (f : List ℕ) (i k : ℕ) → is_a k (record_at f i) ≡ kind_at f i =? k
unfolding is_a record_at meaning kind_at
its_kind f i k = refl

-- ---- the nearest of a kind is one
module _ (f : List ℕ) (k h : ℕ) where
  not_later : (i j x : ℕ) → Nearest f k h j i → Nearest f k h x i → j < x → ⊥
  not_later i j x a b l = (a.none_since x l b.before).0 b.its_kind

  pub nearest_one : (i j x : ℕ) → Nearest f k h j i → Nearest f k h x i → j ≡ x
  nearest_one i j x a b =
      cases (j ≤? x)
      (λ e. either (λ l. absurd (not_later i j x a b l)) (λ q. q) (below_or_equal j x (to≤ e)))
      (λ e. absurd (not_later i x j b a (no≤ e)))

  -- one record more, of neither kind
  further : (i j : ℕ) → (kind_at f i ≡ k → ⊥) → (kind_at f i ≡ h → ⊥) → Nearest f k h j i → Nearest f k h j (suc i)
  further i j a b n = record {
    before = omega (arith, n.before);
    its_kind = n.its_kind;
    none_since = λ x p q. either (λ l. n.none_since x p l) (λ e. rw e (a, b)) (below_or_equal x i (omega arith));
  }

  nearer : (i j : ℕ) → (kind_at f i ≡ k → ⊥) → Nearest f k h j (suc i) → Nearest f k h j i
  nearer i j a n =
      either
      (λ l. record { before = l; its_kind = n.its_kind; none_since = λ x p q. n.none_since x p (omega arith) })
      (λ e. absurd (a (ap (kind_at f) (sym e) ∙ n.its_kind)))
      (below_or_equal j i (omega (arith, n.before)))

  this : (i : ℕ) → kind_at f i ≡ k → Nearest f k h i (suc i)
  this i e = record { before = omega arith; its_kind = e; none_since = λ x p q. absurd (omega arith) }

  -- ---- n is the number of the nearest of kind k, none of kind h having come since; 0 where there is none
  unfoldable pub Kept : (n i : ℕ) → Type 0
  Kept n i = ((n ≡ 0) × ((j : ℕ) → Nearest f k h j i → ⊥)) ⊎ ((j : ℕ) × Nearest f k h j i × (n ≡ number_at 11 (record_at f j)))

  -- a number that each record of kind k sets, each of kind h clears, and no other touches
  module _ (keep : Past → ℕ) (zero-first : keep at_start ≡ 0)
      (sets : (s : Past) (m : Meaning) → is_a k m ≡ true → keep (after order s m) ≡ number_at 11 m)
      (clears : (s : Past) (m : Meaning) → is_a k m ≡ false → is_a h m ≡ true → keep (after order s m) ≡ 0)
      (leaves : (s : Past) (m : Meaning) → is_a k m ≡ false → is_a h m ≡ false → keep (after order s m) ≡ keep s) where
    kept : (i : ℕ) → i ≤ begun f → Kept (keep (before chapter4 f i)) i
    unfolding Kept
    kept zero l = inl (ap keep (before-first f) ∙ zero-first, λ j n. omega (arith, n.before))
    kept (suc i) l =
        let e : keep (before chapter4 f (suc i)) ≡ keep (after order (before chapter4 f i) (record_at f i)) = ap keep (before_next f i l) in
        cases (kind_at f i =? k)
        (λ a. inr (i, this i (to≡ a), e ∙ sets _ _ (its_kind f i k ∙ a)))
        (λ a. cases (kind_at f i =? h)
        (λ b. inl (e ∙ clears _ _ (its_kind f i k ∙ a) (its_kind f i h ∙ b), λ j n. (n.none_since i (nearer i j (no≡ a) n).before (omega arith)).1 (to≡ b)))
        (λ b. either
        (λ x. inl (e ∙ leaves _ _ (its_kind f i k ∙ a) (its_kind f i h ∙ b) ∙ x.0, λ j n. x.1 j (nearer i j (no≡ a) n)))
        (λ x. inr (x.0, further i x.0 (no≡ a) (no≡ b) x.1, e ∙ leaves _ _ (its_kind f i k ∙ a) (its_kind f i h ∙ b) ∙ x.2))
        (kept i (omega arith))))

  -- what agrees with the number that is kept agrees with the nearest record, and the other way round
  module _ (n i m : ℕ) where
    pub kept_same : Kept n i → 1 ≤ m → m ≡ n → (j : ℕ) × Nearest f k h j i × (m ≡ number_at 11 (record_at f j))
    unfolding Kept
    kept_same (inl x) p e = absurd (omega (arith, x.0))
    kept_same (inr x) p e = (x.0, x.1, e ∙ x.2)

    pub same_kept : Kept n i → (j : ℕ) → Nearest f k h j i → m ≡ number_at 11 (record_at f j) → m ≡ n
    unfolding Kept
    same_kept (inl x) j near e = absurd (x.1 j near)
    same_kept (inr x) j near e = e ∙ ap (λ y. number_at 11 (record_at f y)) (nearest_one i j x.0 near x.1) ∙ sym x.2

    -- by how much it is past each record of kind k, it is past the number that is kept
    pub past_kept : (by : ℕ) → Kept n i → by ≤ m → ((j : ℕ) → j < i → kind_at f j ≡ k → number_at 11 (record_at f j) + by ≤ m) → n + by ≤ m
    unfolding Kept
    past_kept by (inl x) p r = omega (arith, x.0)
    past_kept by (inr x) p r = omega (arith, x.2, r x.0 x.1.before x.1.its_kind)

-- where no record of kind k is below the number that was kept, none before is above the one that is kept
module _ (f : List ℕ) (k : ℕ) (keep : Past → ℕ)
    (sets : (s : Past) (m : Meaning) → is_a k m ≡ true → keep (after order s m) ≡ number_at 11 m)
    (stays : (s : Past) (m : Meaning) → is_a k m ≡ false → keep (after order s m) ≡ keep s)
    (n : ℕ) (many : n ≤ begun f)
    (no_fall : (x : ℕ) → x < n → kind_at f x ≡ k → keep (before chapter4 f x) ≤ number_at 11 (record_at f x)) where
  top : (i : ℕ) → i ≤ n → (j : ℕ) → j < i → kind_at f j ≡ k → number_at 11 (record_at f j) ≤ keep (before chapter4 f i)
  top zero l j b e = absurd (omega arith)
  top (suc i) l j b e =
      let q : keep (before chapter4 f (suc i)) ≡ keep (after order (before chapter4 f i) (record_at f i)) = ap keep (before_next f i (omega arith)) in
      cases (kind_at f i =? k)
      (λ a. let r : keep (before chapter4 f (suc i)) ≡ number_at 11 (record_at f i) = q ∙ sets _ _ (its_kind f i k ∙ a) in
      either (λ y. omega (arith, r, top i (omega arith) j y e, no_fall i l (to≡ a))) (λ y. omega (arith, r, ap (λ z. number_at 11 (record_at f z)) y)) (below_or_equal j i (omega arith)))
      (λ a. let r : keep (before chapter4 f (suc i)) ≡ keep (before chapter4 f i) = q ∙ stays _ _ (its_kind f i k ∙ a) in
      either (λ y. omega (arith, r, top i (omega arith) j y e)) (λ y. absurd (no≡ a (ap (kind_at f) (sym y) ∙ e))) (below_or_equal j i (omega arith)))

module _ (k : ℕ) (m : Meaning) (n : ℕ) where
  one_kind : is_a k m ≡ true → latest k m n ≡ number_at 11 m
  unfolding latest
  one_kind e = rw e

  other_kind : is_a k m ≡ false → latest k m n ≡ n
  unfolding latest
  other_kind e = rw e

impossible : {A : Type 0} (k : ℕ) (m : Meaning) → is_a k m ≡ false → is_a k m ≡ true → A
impossible k m a b = absurd (false≢true (sym a ∙ b))

module _ (s : Past) (m : Meaning) where
  sets_70 : is_a *70* m ≡ true → (after order s m).instrument ≡ number_at 11 m
  unfolding after
  sets_70 e = one_kind *70* m s.instrument e

  stays_70 : is_a *70* m ≡ false → (after order s m).instrument ≡ s.instrument
  unfolding after
  stays_70 e = other_kind *70* m s.instrument e

  sets_72 : is_a *72* m ≡ true → (after order s m).antenna ≡ number_at 11 m
  unfolding after
  sets_72 e = one_kind *72* m s.antenna e

  stays_72 : is_a *72* m ≡ false → (after order s m).antenna ≡ s.antenna
  unfolding after
  stays_72 e = other_kind *72* m s.antenna e

module _ (f : List ℕ) (i : ℕ) (l : i ≤ begun f) where
  -- the open group's station: of the last *25*, none since the last *70*
  pub group_is : Kept f *25* *70* (before chapter4 f i).group i
  group_is = kept f *25* *70* (λ s. s.group) (unfold at_start in refl)
      (λ s m e. unfold after in one_kind *25* m _ e)
      (λ s m a b. unfold after in other_kind *25* m (cond (is_a *70* m) 0 s.group) a ∙ rw b)
      (λ s m a b. unfold after in other_kind *25* m (cond (is_a *70* m) 0 s.group) a ∙ rw b) i l

  -- the last *80*'s station, the last *70*'s and the last *72*'s number
  pub point_is : Kept f *80* *80* (before chapter4 f i).point i
  point_is = kept f *80* *80* (λ s. s.point) (unfold at_start in refl)
      (λ s m e. unfold after in one_kind *80* m s.point e) (λ s m a b. impossible *80* m a b) (λ s m a b. unfold after in other_kind *80* m s.point a) i l

  pub instrument_is : Kept f *70* *70* (before chapter4 f i).instrument i
  instrument_is = kept f *70* *70* (λ s. s.instrument) (unfold at_start in refl) sets_70 (λ s m a b. impossible *70* m a b) (λ s m a b. stays_70 s m a) i l

  pub antenna_is : Kept f *72* *72* (before chapter4 f i).antenna i
  antenna_is = kept f *72* *72* (λ s. s.antenna) (unfold at_start in refl) sets_72 (λ s m a b. impossible *72* m a b) (λ s m a b. stays_72 s m a) i l

pub instrument-top : (f : List ℕ) (n : ℕ) → n ≤ begun f → ((x : ℕ) → x < n → kind_at f x ≡ *70* → (before chapter4 f x).instrument ≤ number_at 11 (record_at f x))
    → (j : ℕ) → j < n → kind_at f j ≡ *70* → number_at 11 (record_at f j) ≤ (before chapter4 f n).instrument
instrument-top f n many no_fall = top f *70* (λ s. s.instrument) sets_70 stays_70 n many no_fall n (omega arith)

pub antenna-top : (f : List ℕ) (n : ℕ) → n ≤ begun f → ((x : ℕ) → x < n → kind_at f x ≡ *72* → (before chapter4 f x).antenna ≤ number_at 11 (record_at f x))
    → (j : ℕ) → j < n → kind_at f j ≡ *72* → number_at 11 (record_at f j) ≤ (before chapter4 f n).antenna
antenna-top f n many no_fall = top f *72* (λ s. s.antenna) sets_72 stays_72 n many no_fall n (omega arith)

-- ---- the table of places, tried
-- a *27* follows a *25*, a *26*, or one or two *27*, and makes the next place
follows_27 : all (λ p. asked (any_of (get_or may_come p []) *27*) (within after25 second27 p & place_after p *27* =? p + 1)) (under 17) ≡ true
unfolding all under asked any_of may_come place_after place_named within ◌&◌ ◌≤?◌ ◌=?◌
follows_27 = refl

-- a *26* stands before the first *27* of its group
follows_26 : all (λ p. asked (any_of (get_or may_come p []) *26*) (p =? after25)) (under 17) ≡ true
unfolding all under asked any_of may_come ◌&◌ ◌≤?◌ ◌=?◌
follows_26 = refl

-- only a *25* and a *26* make the place before a group's first *27*
names_25 : all (λ k. asked (within after25 third27 (place_named 0 0 k)) (within *25* *26* k)) (under 14) ≡ true
unfolding all under asked place_named within ◌&◌ ◌≤?◌ ◌=?◌
names_25 = refl

places_small : all (λ row. all (λ p. p ≤? 16) row) order ≡ true
unfolding all order ◌≤?◌ ◌&◌
places_small = refl

goto_small : (p k : ℕ) → goto order p k < 17
unfolding goto
goto_small p k =
    let row : all (λ q. q ≤? 16) (get_or order p []) ≡ true = all_get_d (λ r. all (λ q. q ≤? 16) r) order [] p places_small (unfold all in refl) in
    omega (arith, to≤ (all_get_d (λ q. q ≤? 16) (get_or order p []) 0 k row (of≤ (omega arith))))

-- a place that is made by another record than a job code or a *27*
named_other : (job measured k : ℕ) → (k ≡ *AA* → ⊥) → (k ≡ *27* → ⊥) → place_named job measured k ≡ place_named 0 0 k
unfolding place_named
named_other job measured k a b =
    let plain : List ℕ = 0 ∷ 2 ∷ 3 ∷ 4 ∷ 5 ∷ 5 ∷ 0 ∷ 9 ∷ 10 ∷ 11 ∷ 12 ∷ 13 ∷ 14 ∷ 15 ∷ [] in
    get_or-set_other (set plain 0 job) 6 k measured 0 b ∙ get_or-set_other plain 0 k job 0 a

none_between : (f : List ℕ) (k j i : ℕ) → i ≤ suc j → between f k j i ≡ 0
unfolding between
none_between f k j zero h = refl
none_between f k j (suc i) h = rw (of> {m = suc j} {n = i} h, none_between f k j i (omega arith)) (unfold ◌&◌ in refl)

one_between : (f : List ℕ) (k j i : ℕ) → j < i → kind_at f i ≡ k → between f k j (suc i) ≡ 1 + between f k j i
unfolding between ◌&◌
one_between f k j i h e = rw (of≤ {m = suc j} {n = i} h, of≡ e)

same_between : (f : List ℕ) (k j i : ℕ) → (kind_at f i ≡ k → ⊥) → between f k j (suc i) ≡ between f k j i
unfolding between ◌&◌
same_between f k j i e = cases (suc j ≤? i) (λ a. rw (a, of≢ e) (omega arith)) (λ a. rw a (omega arith))

-- ---- the place, where every record so far may come
pub record Placed (f : List ℕ) (i p : ℕ) : Type 0 where
  pub small : p < 17
  pub started : 1 ≤ i → 1 ≤ p
  pub place : Place f i p
  pub group : after25 ≤ p → p ≤ third27 → (j : ℕ) × Group f j i × (p ≡ after25 + between f *27* j i)

-- what may come makes the place that the paper names
made : (p k : ℕ) → p < 17 → k ≤ 13 → 1 ≤ goto order p k → (any_of (get_or may_come p []) k ≡ true) × (goto order p k ≡ place_after p k)
made p k h j l =
    let e : goto order p k ≡ ruled p k = order_is_the_table p k h (omega arith) in
    cases (any_of (get_or may_come p []) k) (λ t. (t, e ∙ (unfold ruled in rw t))) (λ t. absurd (let z : ruled p k ≡ 0 = unfold ruled in rw t in omega arith))

nth_27 : (n : ℕ) → n < 3 → 1 + (after25 + n) ≡ get_or (first27 ∷ second27 ∷ third27 ∷ []) n 0
nth_27 zero h = refl
nth_27 (suc zero) h = refl
nth_27 (suc (suc zero)) h = refl
nth_27 (suc (suc (suc n))) h = absurd (omega arith)

none_yet : (f : List ℕ) (p : ℕ) → p ≡ nothing → Place f 0 p
unfolding Place
none_yet f p e = e

pub at_start_lem : (f : List ℕ) (i p : ℕ) → i ≡ 0 → Place f i p → p ≡ nothing
unfolding Place
at_start_lem f zero p e x = x
at_start_lem f (suc i) p e x = absurd (omega arith)

module _ (f : List ℕ) (i p : ℕ) (P : Placed f i p) (known : kind_at f i ≤ 13) (comes : 1 ≤ goto order p (kind_at f i)) where
  its : (any_of (get_or may_come p []) (kind_at f i) ≡ true) × (goto order p (kind_at f i) ≡ place_after p (kind_at f i))
  its = made p (kind_at f i) P.small known comes

  at_27 : kind_at f i ≡ *27* → (within after25 second27 p ≡ true) × (goto order p (kind_at f i) ≡ p + 1)
  at_27 e =
      let t = both (when_asked _ _ (tried _ 17 p follows_27 P.small) (subst (λ k. any_of (get_or may_come p []) k ≡ true) e its.0)) in
      (t.0, its.1 ∙ ap (place_after p) e ∙ to≡ t.1)

  after_27 : kind_at f i ≡ *27* → Placed f (suc i) (goto order p (kind_at f i))
  after_27 e =
      let t = at_27 e in
      let r = to_within t.0 in
      let g = P.group r.0 (omega (arith, r.1)) in
      let far : Group f g.0 (suc i) = further f *25* *70* i g.0 (λ z. omega (arith, e, z)) (λ z. omega (arith, e, z)) g.1 in
      record {
        small = goto_small p (kind_at f i);
        started = λ _. comes;
        place = unfold Place in inr (inr (inl record {
          its_kind = e;
          opened = g.0;
          group = g.1;
          most = omega (arith, g.2, r.1);
          place = t.1 ∙ omega (arith, g.2) ∙ nth_27 (between f *27* g.0 i) (omega (arith, g.2, r.1));
        }));
        group = λ _ _. (g.0, far, t.1 ∙ omega (arith, g.2, one_between f *27* g.0 i g.1.before e));
      }

  after_job : kind_at f i ≡ *AA* → Placed f (suc i) (goto order p (kind_at f i))
  after_job e =
      let q : goto order p (kind_at f i) ≡ cond (p =? nothing) first_job last_job = its.1 ∙ ap (place_after p) e ∙ (unfold place_after place_named in refl) in
      record {
        small = goto_small p (kind_at f i);
        started = λ _. comes;
        place = place_job q;
        group = λ a b. absurd (apart (p =? nothing) (rw q at a) (rw q at b));
      }
    where
      first : p ≡ nothing → cond (p =? nothing) first_job last_job ≡ first_job
      first z = rw (of≡ {m = p} {n = nothing} z)

      later : 1 ≤ p → cond (p =? nothing) first_job last_job ≡ last_job
      later h = rw (of≢ {m = p} {n = nothing} (λ z. omega arith))

      place_job : goto order p (kind_at f i) ≡ cond (p =? nothing) first_job last_job → Place f (suc i) (goto order p (kind_at f i))
      place_job q = unfold Place in
          cases (1 ≤? i)
          (λ y. inr (inl (e, to≤ y, q ∙ later (P.started (to≤ y)))))
          (λ y. let none : i ≡ 0 = omega (arith, no≤ y) in inl (e, none, q ∙ first (at_start_lem f i p none P.place)))

      apart : (t : Bool) → after25 ≤ cond t first_job last_job → cond t first_job last_job ≤ third27 → ⊥
      apart true h k = omega arith
      apart false h k = omega arith

  module _ (job : kind_at f i ≡ *AA* → ⊥) (measured : kind_at f i ≡ *27* → ⊥) where
    named : goto order p (kind_at f i) ≡ place_named 0 0 (kind_at f i)
    named = its.1 ∙ (unfold place_after in named_other _ _ (kind_at f i) job measured)

    after_other : Placed f (suc i) (goto order p (kind_at f i))
    after_other = record {
      small = goto_small p (kind_at f i);
      started = λ _. comes;
      place = unfold Place in inr (inr (inr (job, measured, named)));
      group = λ a b. in_group_lem (when_asked _ _ (tried _ 14 (kind_at f i) names_25 (omega arith)) (subst (λ x. within after25 third27 x ≡ true) named (of_within a b)));
    }
      where
        before_27 : place_named 0 0 *26* ≡ after25
        before_27 = unfold place_named in refl

        ends : kind_at f i ≡ *25* → goto order p (kind_at f i) ≡ after25
        ends e = named ∙ (unfold place_named in ap (place_named 0 0) e)

        opening : kind_at f i ≡ *25* → (j : ℕ) × Group f j (suc i) × (goto order p (kind_at f i) ≡ after25 + between f *27* j (suc i))
        opening e = (i, this f *25* *70* i e, ends e ∙ omega (arith, none_between f *27* i (suc i) (omega arith)))

        going_on : kind_at f i ≡ *26* → (j : ℕ) × Group f j (suc i) × (goto order p (kind_at f i) ≡ after25 + between f *27* j (suc i))
        going_on e =
            let here : p ≡ after25 = to≡ (when_asked _ _ (tried _ 17 p follows_26 P.small) (subst (λ k. any_of (get_or may_come p []) k ≡ true) e its.0)) in
            let g = P.group (omega (arith, here)) (omega (arith, here)) in (
              g.0,
              further f *25* *70* i g.0 (λ z. omega (arith, e, z)) (λ z. omega (arith, e, z)) g.1,
              named ∙ ap (place_named 0 0) e ∙ before_27 ∙ omega (arith, here, g.2, same_between f *27* g.0 i measured),
            )

        in_group_lem : within *25* *26* (kind_at f i) ≡ true → (j : ℕ) × Group f j (suc i) × (goto order p (kind_at f i) ≡ after25 + between f *27* j (suc i))
        in_group_lem h = either (λ l. opening (omega (arith, l, (to_within h).0))) going_on (below_or_equal (kind_at f i) *26* (to_within h).1)

  pub place_next : Placed f (suc i) (goto order p (kind_at f i))
  place_next =
      cases (kind_at f i =? *AA*) (λ a. after_job (to≡ a)) (λ a. cases (kind_at f i =? *27*) (λ b. after_27 (to≡ b)) (λ b. after_other (no≡ a) (no≡ b)))

-- the records make one place only
pub place_one : (f : List ℕ) (i p q : ℕ) → Place f i p → Place f i q → p ≡ q
unfolding Place
place_one f zero p q x y = x ∙ sym y
place_one f (suc i) p q (inl x) (inl y) = x.2 ∙ sym y.2
place_one f (suc i) p q (inl x) (inr (inl y)) = absurd (omega (arith, x.1, y.1))
place_one f (suc i) p q (inl x) (inr (inr (inl y))) = absurd (omega (arith, x.0, y.its_kind))
place_one f (suc i) p q (inl x) (inr (inr (inr y))) = absurd (y.0 x.0)
place_one f (suc i) p q (inr (inl x)) (inl y) = absurd (omega (arith, x.1, y.1))
place_one f (suc i) p q (inr (inl x)) (inr (inl y)) = x.2 ∙ sym y.2
place_one f (suc i) p q (inr (inl x)) (inr (inr (inl y))) = absurd (omega (arith, x.0, y.its_kind))
place_one f (suc i) p q (inr (inl x)) (inr (inr (inr y))) = absurd (y.0 x.0)
place_one f (suc i) p q (inr (inr (inl x))) (inl y) = absurd (omega (arith, y.0, x.its_kind))
place_one f (suc i) p q (inr (inr (inl x))) (inr (inl y)) = absurd (omega (arith, y.0, x.its_kind))
place_one f (suc i) p q (inr (inr (inl x))) (inr (inr (inl y))) =
    x.place ∙ ap (λ j. get_or (first27 ∷ second27 ∷ third27 ∷ []) (between f *27* j i) 0) (nearest_one f *25* *70* i x.opened y.opened x.group y.group) ∙ sym y.place
place_one f (suc i) p q (inr (inr (inl x))) (inr (inr (inr y))) = absurd (y.1 x.its_kind)
place_one f (suc i) p q (inr (inr (inr x))) (inl y) = absurd (x.0 y.0)
place_one f (suc i) p q (inr (inr (inr x))) (inr (inl y)) = absurd (x.0 y.0)
place_one f (suc i) p q (inr (inr (inr x))) (inr (inr (inl y))) = absurd (x.1 y.its_kind)
place_one f (suc i) p q (inr (inr (inr x))) (inr (inr (inr y))) = x.2 ∙ sym y.2

same_job : (s : Past) (m : Meaning) → s.place =? nothing ≡ false → (after order s m).job ≡ s.job
unfolding after
same_job s m h = rw h

-- ---- of records that each may come where they stand
module _ (f : List ℕ) (n : ℕ) (many : n ≤ begun f) (known : (x : ℕ) → x < n → kind_at f x ≤ 13) (turn : (x : ℕ) → x < n → permitted chapter4 (before chapter4 f x) (record_at f x) ≡ true) where
  comes_here : (i : ℕ) → i < n → 1 ≤ goto order (before chapter4 f i).place (kind_at f i)
  unfolding permitted may_stand record_at meaning kind_at
  comes_here i h = to≤ (both (both (turn i h)).0).0

  pub placed : (i : ℕ) → i ≤ n → Placed f i (before chapter4 f i).place
  placed zero h =
      let e : (before chapter4 f 0).place ≡ nothing = start_place f in
      record { small = omega (arith, e); started = λ l. absurd (omega arith); place = none_yet f _ e; group = λ a b. absurd (omega arith) }
  placed (suc i) h =
      subst (Placed f (suc i)) (sym (next_place f i (omega arith))) (place_next f i (before chapter4 f i).place (placed i (omega arith)) (known i h) (comes_here i h))

  -- the first record's job code
  pub job_is : (i : ℕ) → 1 ≤ i → i ≤ n → (before chapter4 f i).job ≡ code_at (line_at f 0)
  job_is zero p h = absurd (omega arith)
  job_is (suc zero) p h = ap (λ s. s.job) (before_next f 0 (omega arith) ∙ ap (λ s. after order s (record_at f 0)) (before-first f)) ∙ (unfold after at_start record_at meaning ◌=?◌ in refl)
  job_is (suc (suc i)) p h =
      let off : (before chapter4 f (suc i)).place =? nothing ≡ false = of≢ (λ z. omega (arith, z, (placed (suc i) (omega arith)).started (omega arith))) in
      ap (λ s. s.job) (before_next f (suc i) (omega arith)) ∙ same_job _ _ off ∙ job_is (suc i) (omega arith) (omega arith)
