-- What the calls' proofs stand on: parts of a packet, and what a sound record says of the flash.
-- Assumes nothing.
use Prim.Native.Nat.{ℕ, ◌*◌, ◌≤◌}
use mathlib.Core.Bool.{Bool, true, false, not, ◌&&◌, beq}
use mathlib.Core.Path.{◌≡◌, refl, ap, ◌∙◌}
use mathlib.Core.List.{List, ◌∷◌}
use native.Mathlib.Nat.{mul-le-mul_right}
use native.Mathlib.Omega.{arith}
use borrow.Author.Tests.{leb-true, le-leb, eq-eqb}
use lib.Dec.{leb, eqb, lit≤}
use lib.ListN.{length, drop}
use Rattle.basics.specs.Choice.{pick, and_left, and_right}
use Rattle.packet.specs.declared.Command.{Command}
use Rattle.packet.specs.declared.Command.TheVariants.{UpdateAuthKey}
use Rattle.packet.specs.Packets.{lawful_of}
use Rattle.packet.specs.Packets.{read_of}
use Rattle.packet.specs.Lawful.{Bytes}
use Rattle.packet.proofs.Lawful.{read_from}
use Rattle.answer.specs.declared.Failure.TheVariants.{NoImage}
use Rattle.answer.specs.declared.Checked.TheVariants.{Fails}
use Rattle.image.specs.Images.{checked_of, Erasable}
use Rattle.image.proofs.Answers.{checked_erasable}
use Rattle.device.specs.declared.Board.{Board}
use Rattle.device.specs.declared.Head.{Head}
use Rattle.device.specs.Types.{Device}
use Rattle.decisions.specs.Decisions.{searches}
use Rattle.soundness.specs.Sound.{sound}
use Rattle.soundness.proofs.Parts.{parts}
use Rattle.services.specs.Calls.{Numbers}
use Rattle.services.proofs.Gated.{all_open}
use Rattle.services.specs.Calls.{numbers_of, first, Sensible, terms_of, checked_for, key_in, by_reading, handled}

-- the first kind's numbers
pub first_sensible : Sensible first
first_sensible = record { header = lit≤ tt; small = lit≤ tt; below = lit≤ tt; few = lit≤ tt }

-- those of every board are sensible
pub sensible : (board : Board) → Sensible (numbers_of board)
sensible board = record { header = board.header; small = board.small; below = board.below; few = board.few }

-- an authentication key has 64 bytes
pub auth_bytes : (s : List ℕ) (command : Command) (n : ℕ) → Bytes s → read_of s ≡ lawful_of command n → command ≡ UpdateAuthKey → length (key_in command s) ≡ 64
unfolding pick
auth_bytes s command n b e u =
    let r = read_from s UpdateAuthKey n b (rw u at e) in
    rw u (ap (λ (l : List ℕ). length (drop 5 l)) (r.3 ∙ ap (λ (p : List ℕ). 0x10 ∷ 0x56 ∷ 0xFC ∷ length p ∷ p) r.1.1) ∙ r.1.2)

-- the boundary of a sound record is no first sector, and not above FUS
module _ (S top : ℕ) (d : Device) (s : sound S top d ≡ true) where
  between : (leb 1 d.head.boundary && leb d.head.boundary top) ≡ true
  between =
      let h : Head = d.head in
      let both : Bool = leb 1 h.boundary && leb h.boundary top in
      let none : Bool = beq h.present (not (eqb h.boundary top)) in
      let version : Bool = beq h.present (not (eqb h.version 0xFFFFFFFF)) in
      and_left both none (and_left (both && none) version (and_left (both && none && version) _ (parts S top d s).numbers.stack))

  pub boundary_some : 1 ≤ d.head.boundary
  boundary_some = leb-true _ _ (and_left (leb 1 d.head.boundary) (leb d.head.boundary top) between)

  pub boundary_low : d.head.boundary ≤ top
  boundary_low = leb-true _ _ (and_right (leb 1 d.head.boundary) (leb d.head.boundary top) between)

-- so all below it lies in the lent flash
pub below_boundary : (k : Numbers) (b : ℕ) (F : List ℕ) → Sensible k → b ≤ k.top → length F ≡ k.count * k.size → b * k.size ≤ length F
below_boundary k b F s h e =
    let g : b ≤ k.count = omega arith in omega (arith, mul-le-mul_right k.size g)

pub erasable : (k : Numbers) (h : Head) (command : Command) (key F : List ℕ) → Sensible k → h.boundary ≤ k.top → length F ≡ k.count * k.size
    → Erasable k.size (length F) (checked_for k h command key F)
unfolding pick
erasable k h command key F s low e = go (searches h.mode command)
  where
    go : (t : Bool) → Erasable k.size (length F) (pick t (checked_of k.size (terms_of h) key F) (Fails NoImage))
    go true = checked_erasable k.size (terms_of h) key F (below_boundary k h.boundary F s low e)
    go false = tt

-- on a sound record and fitting buffers the packet's reading decides
pub handled_by : (k : Numbers) (d : Device) (F packet R : List ℕ) → sound k.size k.top d ≡ true → length F ≡ k.count * k.size → 8 ≤ length R
    → handled k d F packet R ≡ by_reading (read_of packet) k d F packet R
unfolding handled
handled_by k d F packet R s e h = rw (all_open _ _ _ true s (eq-eqb _ _ e) (le-leb _ _ h) refl)
