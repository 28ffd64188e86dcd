-- The gate: what an open one says, and a call that goes by it. Assumes nothing.
use Prim.Native.Nat.{ℕ}
use mathlib.Core.Path.{◌≡◌, refl, ap, sym}
use mathlib.Core.Bool.{Bool, true, false}
use native.Mathlib.Omega.{arith}
use Rattle.basics.specs.Choice.{pick}
use Rattle.packet.specs.declared.Refusal.{Refusal}
use Rattle.packet.specs.declared.Refusal.TheVariants.{UnsoundRecord}
use Rattle.services.specs.Calls.{granted}
use Rattle.std.specs.Prelude.{Result, Ok, Err}
use Rattle.packet.specs.declared.Request.{Request}
use Rattle.services.specs.Calls.{Verdict, gated, admitted, passed}

-- a taken call and a refused one are told apart by the verdict
pub differ : {A : Type 0} (r : Refusal) → granted ≡ Err r → A
differ r e = let z : ◌≡◌ {A = ℕ} 0 1 = cc in absurd (omega arith)

pub same_refusal : (q r : Refusal) → ◌≡◌ {A = Verdict} (Err q) (Err r) → q ≡ r
same_refusal q r e = cc

-- open: every test holds
pub record Open (sound lent fits filled : Bool) : Type 0 where
  pub whole : sound ≡ true
  pub length : lent ≡ true
  pub room : fits ≡ true
  pub filler : filled ≡ true

pub opens : (s l f x : Bool) → gated s l f x ≡ granted → Open s l f x
unfolding gated pick
opens true true true true e = record { whole = refl; length = refl; room = refl; filler = refl }
opens true true true false e = differ _ (sym e)
opens true true false x e = differ _ (sym e)
opens true false f x e = differ _ (sym e)
opens false l f x e = differ _ (sym e)

-- every test that holds opens it
pub all_open : (s l f x : Bool) → s ≡ true → l ≡ true → f ≡ true → x ≡ true → gated s l f x ≡ granted
unfolding gated pick
all_open s l f x a b c d = rw (a, b, c, d)

-- a call on bytes: by the gate over the bytes, what `onto` makes of the call on the device that they are
module _ {A B : Type 0} (onto : A → B) (taken : A) (back : Refusal → A) (still : Refusal → B) (whole inner l f x : Bool) (so : whole ≡ true → inner ≡ true) where
  abbrev placed : B
  placed = pick whole (onto (passed (gated inner l f x) taken back)) (still UnsoundRecord)

  pub opened : gated whole l f x ≡ granted → placed ≡ onto taken
  unfolding pick
  opened e =
      let o : Open whole l f x = opens whole l f x e in
      rw (o.whole, all_open inner l f x (so o.whole) o.length o.room o.filler)

  pub shut : (r : Refusal) → (whole ≡ true → (q : Refusal) → still q ≡ onto (back q)) → gated whole l f x ≡ Err r → still r ≡ placed
  unfolding gated pick
  shut r same = go whole refl
    where
      go : (w : Bool) → whole ≡ w → gated w l f x ≡ Err r → still r ≡ pick w (onto (passed (gated inner l f x) taken back)) (still UnsoundRecord)
      go true s e = rw (so s, e) (same s r)
      go false s e = ap still (sym (same_refusal UnsoundRecord r e))

-- a packet is admitted where the gate is open and reading takes it; else the gate turns it away, or reading does
module _ (v : Verdict) (reading : Result Request Refusal) where
  pub let_in : (request : Request) → admitted v reading ≡ Ok request → (v ≡ granted) × (reading ≡ Ok request)
  let_in request = go v
    where
      go : (w : Verdict) → admitted w reading ≡ Ok request → (w ≡ granted) × (reading ≡ Ok request)
      go (Ok done) e = (refl, e)
      go (Err r) e = let z : ◌≡◌ {A = ℕ} 0 1 = cc in absurd (omega arith)

  pub turned_away : {P : Type 0} (r : Refusal) → admitted v reading ≡ Err r → (v ≡ Err r → P) → (v ≡ granted → reading ≡ Err r → P) → P
  turned_away {P = P} r = go v
    where
      go : (w : Verdict) → admitted w reading ≡ Err r → (w ≡ Err r → P) → (w ≡ granted → reading ≡ Err r → P) → P
      go (Ok done) e f g = g refl e
      go (Err q) e f g = f (ap Err (same_as q e))
        where
          same_as : (q : Refusal) → ◌≡◌ {A = Result Request Refusal} (Err q) (Err r) → q ≡ r
          same_as q e = cc
