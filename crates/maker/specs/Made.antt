-- Paper 01, "Bench images and the upgrade": an image made from its body.
use Rattle.std.specs.Prelude.{ℕ, ◌+◌, ◌*◌, ◌%◌, ◌<◌, ◌≡◌, false, List, ◌∷◌, ◌++◌, Option, Some, None, Result, Ok, Err, is_some, IfSome, eqb, length, drop}
use Rattle.basics.specs.Choice.{pick}
use Rattle.basics.specs.Words.{flag, word_bytes, zeros}
use Rattle.image.specs.declared.Header.{Header}
use Rattle.image.specs.Sums.{sum_of, begins}
use Rattle.image.specs.Images.{mark, version_lawful, room_for}
use Rattle.device.specs.Kind.{sector_size, fus_sector}
use Rattle.maker.specs.declared.Wanted.{Wanted}
use Rattle.maker.specs.declared.Unmade.{Unmade}
use Rattle.maker.specs.declared.Unmade.TheVariants.{NotWords, NoVersion, TooLong}
use Rattle.maker.specs.declared.Made.{Made}

-- the header that is wanted: kind 1, seal, tag, size of all with the header's 84 bytes, image version, sum of the body
abbrev pub header_for : List ℕ → Wanted → Header
header_for body w =
    record { kind = 1; seal = flag w.sealed; tag = flag (is_some w.key); size = 84 + length body; version = w.version; sum = sum_of body }

-- the tag key: zeros where there is none
abbrev pub key_or_zeros : Option (List ℕ) → List ℕ
key_or_zeros (Some key) = key
key_or_zeros None = zeros 64

unfoldable pub key_for : Wanted → List ℕ
key_for w = key_or_zeros w.key

-- a header's bytes: mark and version, kind, seal, tag, then three words, low byte first, and the tag key
abbrev pub front_bytes : Header → List ℕ
front_bytes h = mark ++ (h.kind ∷ h.seal ∷ h.tag ∷ (word_bytes h.size ++ (word_bytes h.version ++ word_bytes h.sum)))

unfoldable pub header_bytes : Header → List ℕ → List ℕ
header_bytes h key = front_bytes h ++ key

-- the whole image
unfoldable pub image_of : List ℕ → Wanted → List ℕ
image_of body w = header_bytes (header_for body w) (key_for w) ++ body

-- what can't be an image, in this order: a body that is not whole words; the version of no stack; what has no room at sector 0 of a
-- device with no stack, whose boundary is where FUS begins
unfoldable pub made_of : List ℕ → Wanted → Result Header Unmade
made_of body w =
    pick (eqb (length body % 4) 0)
    (pick (version_lawful w.version)
    (pick (room_for sector_size 0 (84 + length body) fus_sector)
    (Ok (header_for body w))
    (Err TooLong))
    (Err NoVersion))
    (Err NotWords)

-- with its header's bytes
abbrev pub with_bytes : List ℕ → Result Header Unmade → Result Made Unmade
with_bytes key (Ok h) = Ok (record { header = h; bytes = header_bytes h key })
with_bytes key (Err u) = Err u

unfoldable pub making : List ℕ → Wanted → Result Made Unmade
making body w = with_bytes (key_for w) (made_of body w)

-- make answers this header; and, as the types of the code say, the version is a word and the tag key has 64 bytes
pub record Makes (body : List ℕ) (w : Wanted) (h : Header) : Type 0 where
  pub made : made_of body w ≡ Ok h
  pub version : w.version < 4294967296
  pub key : IfSome w.key (λ key. length key ≡ 64)

-- the image stands at sector p, and no sector between it and the boundary begins with the mark
pub record Stands (S : ℕ) (F : List ℕ) (p boundary : ℕ) (image rest : List ℕ) : Type 0 where
  pub there : drop (p * S) F ≡ image ++ rest
  pub highest : (t : ℕ) → p < t → t < boundary → begins (drop (t * S) F) mark ≡ false
