-- What the checks' answers name lies where it should.
use Rattle.std.proofs.Common.{◌≡◌, ℕ, ◌+◌, ◌*◌, ◌<◌, ◌≤◌, Bool, true, false, List, length, drop, refl, mul-le-mul_right, arith}
use Rattle.basics.specs.Choice.{pick}
use Rattle.answer.specs.declared.Checked.{Checked}
use Rattle.answer.specs.declared.Checked.TheVariants.{Good, Fails, Erases}
use Rattle.std.specs.Prelude.{Option, Some, None}
use Rattle.image.specs.declared.Header.{Header}
use Rattle.image.specs.declared.Terms.{Terms}
use Rattle.image.specs.Images.{find, header_of, header_lawful, size_lawful, version_lawful, room_for, body_sum, tag_key_is, decided, judged, after_find, checked_of, Erasable}
use Rattle.image.proofs.Laws.{find_below}
use Rattle.image.proofs.Judging.{lawful_parts}

-- an image that is taken has a lawful size and version, and room; a sector that is erased lies below the boundary
abbrev pub Told : ℕ → ℕ → Checked → Type 0
Told S boundary (Good p size version) = (size_lawful size ≡ true) × (version_lawful version ≡ true) × (room_for S p size boundary ≡ true)
Told S boundary (Fails failure) = Unit {0}
Told S boundary (Erases failure p) = p < boundary

either : (P : Checked → Type 0) (t : Bool) (x y : Checked) → (t ≡ true → P x) → (t ≡ false → P y) → P (pick t x y)
unfolding pick
either P true x y f g = f refl
either P false x y f g = g refl

module _ (S : ℕ) (terms : Terms) where
  abbrev T : Checked → Type 0
  T = Told S terms.boundary

  decided_told : (p : ℕ) (h : Header) (sum : ℕ) (same : Bool) → p < terms.boundary → T (decided S terms p h sum same)
  unfolding decided
  decided_told p h sum same low =
      either T (header_lawful h) _ _
      (λ lawful.
      either T (room_for S p h.size terms.boundary) _ _
      (λ fits. either T _ _ _ (λ a. either T _ _ _ (λ b. either T _ _ _ (λ c. either T _ _ _ (λ d. ((lawful_parts h lawful).0, (lawful_parts h lawful).1, fits)) (λ d. tt)) (λ c. tt)) (λ b. tt)) (λ a. low))
      (λ full. tt))
      (λ bad. low)

  told_of : (key F : List ℕ) (f : Option ℕ) → ((p : ℕ) → f ≡ Some p → p < terms.boundary) → T (after_find S terms key F f)
  unfolding judged
  told_of key F None low = tt
  told_of key F (Some p) low =
      let s = drop (p * S) F in
      decided_told p (header_of s) (body_sum s (header_of s).size) (tag_key_is s key) (low p refl)

  pub checked_told : (key F : List ℕ) → T (checked_of S terms key F)
  unfolding checked_of
  checked_told key F = told_of key F (find S F terms.boundary) (find_below S F terms.boundary)

erasable_by : (S boundary n : ℕ) (r : Checked) → boundary * S ≤ n → Told S boundary r → Erasable S n r
erasable_by S boundary n (Good p size version) fits told = tt
erasable_by S boundary n (Fails failure) fits told = tt
erasable_by S boundary n (Erases failure p) fits told = omega (arith, mul-le-mul_right {m = p + 1} {n = boundary} S (omega arith))

-- what clear_after asks
pub checked_erasable : (S : ℕ) (terms : Terms) (key F : List ℕ) → terms.boundary * S ≤ length F → Erasable S (length F) (checked_of S terms key F)
checked_erasable S terms key F fits = erasable_by S terms.boundary (length F) (checked_of S terms key F) fits (checked_told S terms key F)
