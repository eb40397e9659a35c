-- The lent table: one law for each way through the functions.
use mathlib.Core.Path.{◌≡◌, refl, sym, ◌∙◌, ap}
use mathlib.Core.Bool.{Bool, true, false, cond}
use mathlib.Core.List.{List}
use Prim.Native.Nat.{ℕ, ◌+◌, ◌≤◌}
use native.Mathlib.Omega.{arith}
use lib.ListN.{length, get_or, set, length-replicate}
use lib.Seq.{set_out}
use Rattle.rules.specs.Tests.{all, ◌&◌, ◌=?◌}
use Rattle.rules.specs.Items.{value_of}
use Rattle.rules.specs.Kinds.{*25*, *70*, *72*, *80*}
use Rattle.rules.specs.Members.{◌∈◌}
use Rattle.rules.specs.References.{Family, stations, families, of_first, mark}
use Rattle.rules.proofs.Truth.{all_members, to≡, of≡, of≢}
use Rattle.rules.proofs.ReferenceLaws.{first_is, stations_in, same_kind}
use Rattle.columns.specs.Types.{nat_of}
use Rattle.kinds.specs.declared.Kind.{Kind}
use Rattle.kinds.specs.declared.Kind.TheVariants as K
use Rattle.kinds.specs.Values.{kind_index}
use Rattle.kinds.proofs.KindLaws.{other_index}
use Rattle.reading.specs.Values.{nat_in}
use Rattle.walk.specs.Words.{no_words, lead_width, lead_in, slot_in}
use Rattle.walk.proofs.OrderLaws.{get_d_past}

-- the families' numbers at column 11, and their words
leads : all (λ F. lead_width F.kind =? F.width) families ≡ true
unfolding all lead_width of_first ◌=?◌ ◌&◌
leads = refl

pub lead_width_lem : (F : Family) → F ∈ families → lead_width F.kind ≡ F.width
lead_width_lem F i = to≡ (all_members (λ G. lead_width G.kind =? G.width) families leads F i)

pub lead_25 : (k : ℕ) (l : List ℕ) (n : ℕ) → k ≡ *25* → n ≡ nat_in 11 4 l → n ≡ lead_in k l
unfolding lead_in lead_width ◌=?◌
lead_25 k l n e q = rw e q

pub lead_none : (k : ℕ) (l : List ℕ) → (k ≡ *25* → ⊥) → (k ≡ *70* → ⊥) → (k ≡ *72* → ⊥) → (k ≡ *80* → ⊥) → 0 ≡ lead_in k l
unfolding lead_in lead_width of_first nat_in value_of nat_of all
lead_none k l a b c d = rw (of≢ a, of≢ b, of≢ c, of≢ d)

module _ (F : Family) (i : F ∈ families) (k n : ℕ) where
  pub lead_family : (l : List ℕ) → k ≡ F.kind → n ≡ nat_in 11 F.width l → n ≡ lead_in k l
  unfolding lead_in
  lead_family l e q = q ∙ rw (e, lead_width_lem F i)

  pub slot_family : k ≡ F.kind → F.base + n ≡ slot_in k n
  unfolding slot_in
  slot_family e = sym (first_is (λ G. k =? G.kind) (λ G. G.base + n) 12_000 families F i (of≡ e) (λ G g a. same_kind G g F i (sym (to≡ a) ∙ e)))

pub slot_station : (k n : ℕ) → k ≡ *80* → n ≡ slot_in k n
slot_station k n e = omega (arith, slot_family stations stations_in k n e)

pub slot_none : (k n : ℕ) → (k ≡ *70* → ⊥) → (k ≡ *72* → ⊥) → (k ≡ *80* → ⊥) → 12_000 ≡ slot_in k n
unfolding slot_in of_first
slot_none k n a b c = rw (of≢ a, of≢ b, of≢ c)

-- by the kind
pub lead_others : (k : Kind) (l : List ℕ) → (k ≡ K.Occupation → ⊥) → (k ≡ K.Instrument → ⊥) → (k ≡ K.Antenna → ⊥) → (k ≡ K.Point → ⊥) → 0 ≡ lead_in (kind_index k) l
unfolding kind_index
lead_others k l a b c d = lead_none (kind_index k) l (other_index k K.Occupation a) (other_index k K.Instrument b) (other_index k K.Antenna c) (other_index k K.Point d)

pub slot_others : (k : Kind) (n : ℕ) → (k ≡ K.Instrument → ⊥) → (k ≡ K.Antenna → ⊥) → (k ≡ K.Point → ⊥) → 12_000 ≡ slot_in (kind_index k) n
unfolding kind_index
slot_others k n a b c = slot_none (kind_index k) n (other_index k K.Instrument a) (other_index k K.Antenna b) (other_index k K.Point c)

-- the first to come keeps the word
module _ (r i : ℕ) (t : List ℕ) where
  pub mark-free : get_or t i 0 ≡ 0 → set t i r ≡ mark r i t
  unfolding mark
  mark-free e = rw (of≡ e)

  pub mark_taken : (get_or t i 0 ≡ 0 → ⊥) → t ≡ mark r i t
  unfolding mark
  mark_taken e = rw (of≢ e)

  pub mark_beyond : length t ≤ i → t ≡ mark r i t
  unfolding mark
  mark_beyond h = go (get_or t i 0 =? 0)
    where
      go : (b : Bool) → t ≡ cond b (set t i r) t
      go true = sym (set_out t i r h)
      go false = refl

-- zeros
pub length_none : length no_words ≡ 12_000
unfolding no_words
length_none = length-replicate {A = ℕ} 12_000 0

pub zeros_fit : (t : List ℕ) → t ≡ no_words → length t ≤ 12_000
zeros_fit t e = omega (arith, ap length e, length_none)

pub mark_record : (r k : ℕ) (l t : List ℕ) → (n : ℕ) → n ≡ lead_in k l → (i : ℕ) → i ≡ slot_in k n → {u : List ℕ} → u ≡ mark r i t → u ≡ mark r (slot_in k (lead_in k l)) t
mark_record r k l t n e i q z = z ∙ rw (q, e)

-- a kind that defines nothing
pub none_marked : (r : ℕ) (k : Kind) (n : ℕ) (t : List ℕ) → length t ≤ 12_000 → (k ≡ K.Instrument → ⊥) → (k ≡ K.Antenna → ⊥) → (k ≡ K.Point → ⊥) → t ≡ mark r (slot_in (kind_index k) n) t
none_marked r k n t h a b c = rw (← slot_others k n a b c) (mark_beyond r 12_000 t h)

pub word_past : (t : List ℕ) (i : ℕ) → length t ≤ i → 0 ≡ get_or t i 0
word_past t i h = sym (get_d_past t 0 i h)
