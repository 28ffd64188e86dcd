-- Laws on the buffers that replies are written to and messages are read from.
use Prim.Native.Nat.{ℕ, zero, suc, ◌-◌, ◌≤◌, ◌<◌}
use mathlib.Core.Bool.{Bool, true, false}
use mathlib.Core.List.{List, [], ◌∷◌, ◌++◌, append_assoc}
use mathlib.Core.Path.{◌≡◌, refl, sym, ap, ◌∙◌}
use native.Mathlib.Nat.{zero-sub}
use native.Mathlib.Numerals.{unary_clauses, add-one}
use native.Mathlib.Omega.{arith}
use lib.Dec.{leb, eqb}
use lib.ListN.{length, take, drop, length-append}
use lib.Seq.{length-take-le}
use borrow.Author.Tests.{leb-true, le-leb}
use Rattle.basics.specs.Choice.{pick, yes_by, no_by, and_left}
use Rattle.basics.specs.Words.{byte_at, low, high, zeros}
use Rattle.packet.specs.declared.Command.{Command}
use Rattle.packet.specs.Packets.{opcode_of}
use Rattle.reply.specs.Message.{holds}
use Rattle.reply.specs.Replies.{has_payload, response, replied}

-- the first n bytes of a buffer that holds n are n
pub long : (s : List ℕ) (n a b c : ℕ) {r : Bool} → r ≡ true → r ≡ holds s n a b c → n ≡ length (take n s)
long s n a b c t e = sym (length-take-le n s (leb-true n (length s) (and_left (leb n (length s)) _
    (and_left _ (eqb (byte_at s 1) b) (and_left _ (eqb (byte_at s 2) c) (sym e ∙ t))))))

drop_zeros : (k n : ℕ) → drop k (zeros n) ≡ zeros (n - k)
unfolding zeros
drop_zeros zero n = simp unary_clauses refl
drop_zeros (suc k) zero = rw zero-sub
drop_zeros (suc k) (suc n) = simp unary_clauses (drop_zeros k n)

-- a message that was copied over a buffer of zeros
pub over_zeros : (least n : ℕ) (message : List ℕ) → least ≤ n → message ++ drop (length message) (zeros n) ≡ replied least n message
unfolding replied
over_zeros least n message h = rw drop_zeros (yes_by _ _ _ _ (le-leb least n h) refl)

-- a zero after a message is one of the zeros beyond it
zero_after : (least n : ℕ) (s : List ℕ) (t : Bool) → leb least n ≡ t → length s < least → replied least n (s ++ 0 ∷ []) ≡ replied least n s
unfolding replied pick zeros
zero_after least n s true e h =
    let g : least ≤ n = leb-true least n e in
    let m : n - length s ≡ suc (n - suc (length s)) = omega arith in
    rw (e, append_assoc, length-append, add-one, m)
zero_after least n s false e h = rw e

-- the eight bytes of a response in a buffer of n: with no payload byte the last is one of the zeros beyond it
module _ (command : Command) (n status payload : ℕ) {opcode : ℕ} {r : Bool} (h : opcode ≡ opcode_of command) (e : r ≡ has_payload command) where
  abbrev seven : ℕ → List ℕ
  seven length = 0x11 ∷ 0x0E ∷ length ∷ 0xFF ∷ low opcode ∷ high opcode ∷ status ∷ []

  pub with_payload : r ≡ true → replied 8 n (seven 5 ++ payload ∷ []) ≡ replied 8 n (response command status payload)
  unfolding response
  with_payload t = rw h (ap (replied 8 n) (yes_by _ _ _ _ (sym e ∙ t) refl))

  pub without_payload : r ≡ false → replied 8 n (seven 4 ++ 0 ∷ []) ≡ replied 8 n (response command status payload)
  unfolding response
  without_payload t = zero_after 8 n (seven 4) (leb 8 n) refl (omega arith) ∙ rw h (ap (replied 8 n) (no_by _ _ _ _ (sym e ∙ t) refl))
