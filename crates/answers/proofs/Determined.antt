-- Two results that one promise allows are equal: the promises of the calls leave no word of an answer, a table or a fault list and no byte of an output open.
use mathlib.Core.Path.{◌≡◌}
use mathlib.Core.List.{List}
use Prim.Native.Nat.{ℕ}
use lib.IntN.{ℤ}
use Rattle.answers.specs.Promise.{Forms, Refers, Rewrites, Pads, Pulls, Reads, Finds, Writes}

pub one_form : (f a b d : List ℕ) → Forms f a b → Forms f a d → b ≡ d
one_form f a b d p q = cc

pub one_references : (f t a u b v d : List ℕ) → Refers f t a u b → Refers f t a v d → (u ≡ v) × (b ≡ d)
one_references f t a u b v d p q = (cc, cc)

pub one_rewrite : (f t o a u p b v q d : List ℕ) → Rewrites f t o a u p b → Rewrites f t o a v q d → (u ≡ v) × (p ≡ q) × (b ≡ d)
one_rewrite f t o a u p b v q d x y = (cc, cc, cc)

pub one_pad : (f o a p b q d : List ℕ) → Pads f o a p b → Pads f o a q d → (p ≡ q) × (b ≡ d)
one_pad f o a p b q d x y = (cc, cc)

pub one_pull : (f rs o s a p q b u v d : List ℕ) → Pulls f rs o s a p q b → Pulls f rs o s a u v d → (p ≡ u) × (q ≡ v) × (b ≡ d)
one_pull f rs o s a p q b u v d x y = (cc, cc, cc)

pub one_read : (f : List ℕ) (r : ℕ) (a b d : List ℤ) → Reads f r a b → Reads f r a d → b ≡ d
one_read f r a b d p q = cc

pub one_field : (f : List ℕ) (r c : ℕ) (a b d : List ℕ) → Finds f r c a b → Finds f r c a d → b ≡ d
one_field f r c a b d p q = cc

pub one_write : (o : List ℕ) (ws : List ℤ) (x y z a p b q d : List ℕ) → Writes o ws x y z a p b → Writes o ws x y z a q d → (p ≡ q) × (b ≡ d)
one_write o ws x y z a p b q d s t = (cc, cc)
