-- Laws on words and digits.
use Rattle.std.proofs.Common.{◌≡◌, ◌≢◌, ◌≤◌, ◌+◌, ◌-◌, ◌*◌, ℕ, suc, zero, List, [], ◌∷◌, true, false, length, get_or, refl, arith}
use Rattle.std.proofs.lemmas.Grind.{common_steps}
use Rattle.std.proofs.lemmas.List.Sums.{prefix_len-le-length}
use Rattle.std.proofs.lemmas.Slice.Eq.{HasBytesAt, text_from_reads, bytes_eq-Decides}
use Rattle.std.specs.Str.{bytes_eq}
use Rattle.script.specs.Words.{value_from}

-- words that differ in length, or in a byte
pub other_length : (s t : List ℕ) → length s ≢ length t → bytes_eq s t ≡ false
other_length [] [] h = absurd (h refl)
other_length [] (b ∷ t) h = refl
other_length (a ∷ s) [] h = refl
other_length (a ∷ s) (b ∷ t) h = grind (arith, other_length s t)

pub other_byte : (i : ℕ) (s t : List ℕ) → get_or s i 0 ≢ get_or t i 0 → bytes_eq s t ≡ false
other_byte i [] [] h = absurd (h refl)
other_byte i [] (b ∷ t) h = refl
other_byte i (a ∷ s) [] h = refl
other_byte zero (a ∷ s) (b ∷ t) h = grind arith
other_byte (suc i) (a ∷ s) (b ∷ t) h = grind (arith, other_byte i s t)

-- more digits make no number smaller
pub grows : (v : ℕ) (s : List ℕ) → v ≤ value_from v s
unfolding value_from
grows v [] = omega arith
grows v (c ∷ s) = omega (arith, grows (10 * v + (c - 48)) s)

-- a word of this text
pub its_bytes : (s p : List ℕ) → length s ≡ length p → HasBytesAt s 0 p → bytes_eq s p ≡ true
its_bytes s p n h = rw (text_from_reads s p n h) ((bytes_eq-Decides p p).1 refl)

pub ruleset words = (common_steps, its_bytes)

pub ruleset places = (common_steps, prefix_len-le-length)

pub ruleset digits = (common_steps, grows)
