-- The numbers that the checks need, and what their answers name.
use Rattle.std.proofs.Common.{◌≡◌, ℕ, ◌+◌, ◌-◌, ◌*◌, ◌<◌, ◌≤◌, Bool, true, false, ◌&&◌, eqb, leb, List, drop, sym, refl, ap, ◌∙◌, add-mul, arith}
use Rattle.answer.specs.declared.Checked.{Checked}
use Rattle.std.specs.Prelude.{Option, Some}
use Rattle.image.specs.declared.Header.{Header}
use Rattle.image.specs.declared.Terms.{Terms}
use Rattle.image.specs.Images.{find, header_of, header_lawful, size_lawful, version_lawful, body_sum, tag_key_is, decided, judged, checked_of}
use Rattle.image.proofs.Laws.{find_below, from_there}

-- a conjunction that holds
pub both : (a b : Bool) → a && b ≡ true → (a ≡ true) × (b ≡ true)
both true true e = (refl, refl)
both true false e = (refl, e)
both false b e = (e, cc)

-- a lawful header has a lawful size and version
pub lawful_parts : (h : Header) → header_lawful h ≡ true → (size_lawful h.size ≡ true) × (version_lawful h.version ≡ true)
lawful_parts h e =
    let a = eqb h.kind 1 && leb h.seal 1 && leb h.tag 1 in
    let last = both (a && size_lawful h.size) (version_lawful h.version) e in
    ((both a (size_lawful h.size) last.0).1, last.1)

-- sector p, below b, starts within l bytes, and b - p sectors lie from there on
pub from_start : (S p b l : ℕ) → p < b → b * S ≤ l → (b - p) * S + p * S ≤ l
from_start S p b l h fits = let e : b - p + p ≡ b = omega arith in let m : (b - p + p) * S ≡ (b - p) * S + p * S = rw add-mul in omega (arith, ap (λ k. k * S) e)

-- what the check of an image at sector p needs
pub ruleset judge_inside = (from_start, from_there)

-- a decision on what was read is the one that the list gives
pub judged_by : (S : ℕ) (terms : Terms) (key s : List ℕ) (p : ℕ) (h : Header) (r : Checked) → h ≡ header_of s
    → r ≡ decided S terms p h (body_sum s h.size) (tag_key_is s key) → r ≡ judged S terms key s p
unfolding judged
judged_by S terms key s p h r is e = rw is at e

-- what check answers
module _ (S : ℕ) (terms : Terms) (key F : List ℕ) where
  pub checked_found : (p : ℕ) (r : Option ℕ) → r ≡ find S F terms.boundary → r ≡ Some p → judged S terms key (drop (p * S) F) p ≡ checked_of S terms key F
  unfolding checked_of
  checked_found p r is at = rw (sym is ∙ at)
