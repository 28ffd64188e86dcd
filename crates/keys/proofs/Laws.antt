-- A key's size, and its type.
use Prim.Native.Nat.{ℕ, ◌≤◌, ◌<◌}
use mathlib.Core.Path.{◌≡◌, refl, sym}
use mathlib.Core.Bool.{Bool, true, false, and-false, ◌||◌}
use native.Mathlib.Omega.{arith}
use lib.Dec.{leb, eqb}
use denote.Enum.Bare.{sameb}
use borrow.Author.Tests.{leb-true, leb-false, ne_eqb, eqb-true}
use Rattle.std.specs.Prelude.{Ok, Err}
use Rattle.basics.specs.Choice.{pick}
use Rattle.answer.specs.declared.Failure.TheVariants.{BadType}
use Rattle.keys.specs.contracts.KeyType.{the_type}
use Rattle.keys.specs.declared.KeyType.{KeyType}
use Rattle.keys.specs.declared.KeyType.TheVariants.{Simple, Master, Encrypted}
use Rattle.keys.specs.Keys.{type_lawful, key_lawful, kind_of, type_of}

-- a key of lawful size has at most 44 bytes
few : (kind n : ℕ) (b : Bool) → leb n 44 ≡ b → key_lawful kind n ≡ true → n ≤ 44
few kind n true h e = leb-true n 44 h
few kind n false h e =
    let g : 44 < n = leb-false n 44 h in
    let z : false ≡ true =
    simp (
      ne_eqb n 16 (λ q. omega arith),
      ne_eqb n 32 (λ q. omega arith),
      ne_eqb n 28 (λ q. omega arith),
      ne_eqb n 44 (λ q. omega arith),
      and-false,
    ) at e in
    let o : ◌≡◌ {A = ℕ} 0 1 = cc in omega arith

pub small : (kind n : ℕ) → key_lawful kind n ≡ true → n ≤ 44
small kind n e = few kind n (leb n 44) refl e

-- A TYPE BY ITS BYTE
lawful_type : (t : KeyType) → type_lawful (kind_of t) ≡ true
lawful_type Simple = refl
lawful_type Master = refl
lawful_type Encrypted = refl

is_master : (t : KeyType) → sameb the_type t Master ≡ eqb (kind_of t) 2
is_master Simple = refl
is_master Master = refl
is_master Encrypted = refl

module _ (kind : ℕ) where
  pub no_type : ((t : KeyType) → type_of kind ≡ Ok t → ⊥) → type_lawful kind ≡ false
  unfolding type_of pick
  no_type none = go (eqb kind 1) (eqb kind 2) (eqb kind 3) none
    where
      go : (a b c : Bool) → ((t : KeyType) → pick a (Ok Simple) (pick b (Ok Master) (pick c (Ok Encrypted) (Err BadType))) ≡ Ok t → ⊥) → (a || b || c) ≡ false
      go true b c f = absurd (f Simple refl)
      go false true c f = absurd (f Master refl)
      go false false true f = absurd (f Encrypted refl)
      go false false false f = refl

  kind_back : (t : KeyType) → type_of kind ≡ Ok t → kind_of t ≡ kind
  unfolding type_of pick
  kind_back t = go (eqb kind 1) (eqb kind 2) (eqb kind 3) refl refl refl
    where
      go : (a b c : Bool) → eqb kind 1 ≡ a → eqb kind 2 ≡ b → eqb kind 3 ≡ c → pick a (Ok Simple) (pick b (Ok Master) (pick c (Ok Encrypted) (Err BadType))) ≡ Ok t → kind_of t ≡ kind
      go true b c x y z e = let q : t ≡ Simple = cc in rw q (sym (eqb-true kind 1 x))
      go false true c x y z e = let q : t ≡ Master = cc in rw q (sym (eqb-true kind 2 y))
      go false false true x y z e = let q : t ≡ Encrypted = cc in rw q (sym (eqb-true kind 3 z))
      go false false false x y z e = let o : ◌≡◌ {A = ℕ} 0 1 = cc in absurd (omega arith)

  -- what a byte's type says of the byte
  pub record Typed (t : KeyType) : Type 0 where
    pub back : kind_of t ≡ kind
    pub lawful : type_lawful kind ≡ true
    pub master : sameb the_type t Master ≡ eqb kind 2

  pub typed : (t : KeyType) → type_of kind ≡ Ok t → Typed t
  typed t e = let b = kind_back t e in record { back = b; lawful = rw (← b) (lawful_type t); master = rw (← b) (is_master t) }
