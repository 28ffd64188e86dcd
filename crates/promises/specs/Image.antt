-- A flash that holds an image which only check 3 can turn down, for the lines "taken" and "E 04" of the paper's cases.
use Rattle.std.specs.Prelude.{Some, ℕ, ◌*◌, true, ◌≡◌, List, eqb, drop}
use Rattle.image.specs.declared.Terms.{Terms}
use Rattle.image.specs.Images.{find, header_of, header_lawful, body_sum, tag_key_is, tag_lawful, floor_lawful}

-- the search hits sector p; the image there has this size and version, a lawful header, the right sum, a seal, and what the device's
-- authentication key and floor ask
pub record Holds (S : ℕ) (terms : Terms) (key F : List ℕ) (p size version : ℕ) : Type 0 where
  pub found : find S F terms.boundary ≡ Some p
  pub size_is : (header_of (drop (p * S) F)).size ≡ size
  pub version_is : (header_of (drop (p * S) F)).version ≡ version
  pub header : header_lawful (header_of (drop (p * S) F)) ≡ true
  pub sum : eqb (body_sum (drop (p * S) F) (header_of (drop (p * S) F)).size) (header_of (drop (p * S) F)).sum ≡ true
  pub seal : eqb (header_of (drop (p * S) F)).seal 1 ≡ true
  pub tag : tag_lawful terms.auth (header_of (drop (p * S) F)).tag (tag_key_is (drop (p * S) F) key) ≡ true
  pub floor : floor_lawful terms.rollback terms.floor (header_of (drop (p * S) F)).version ≡ true
