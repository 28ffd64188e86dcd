-- What is made, against the reader: the image that `make` answers is read as what was wanted, and is taken by the checks.
use Prim.Native.Nat.{ℕ, ◌+◌, ◌-◌, ◌*◌, ◌%◌, ◌≤◌, ◌<◌}
use mathlib.Core.Path.{◌≡◌, refl, sym, ◌∙◌}
use mathlib.Core.Bool.{Bool, true, false, not, ◌||◌}
use mathlib.Core.List.{List, ◌++◌, append_assoc}
use native.Mathlib.Omega.{arith}
use lib.Dec.{eqb, leb}
use lib.ListN.{length, drop, length-append}
use lib.Seq.{take_at, drop_at}
use borrow.Author.Tests.{eqb-true, eq-eqb, leb-true, le-leb}
use Rattle.basics.specs.Choice.{pick}
use Rattle.basics.proofs.Words.{unword, flag_small, length_zeros}
use Rattle.answer.specs.declared.Failure.TheVariants.{NotSealed, WrongTag}
use Rattle.answer.specs.declared.Checked.{Checked}
use Rattle.answer.specs.declared.Checked.TheVariants.{Good, Fails}
use Rattle.sectors.specs.Sectors.{sectors_for}
use Rattle.image.specs.declared.Header.{Header}
use Rattle.image.specs.declared.Terms.{Terms}
use Rattle.image.specs.Sums.{sum_of, begins}
use Rattle.image.specs.Images.{mark, find, header_of, header_lawful, body_sum, tag_key_is, version_lawful, room_for, tag_lawful, floor_lawful, decided, judged, checked_of}
use Rattle.image.proofs.Laws.{begins_front, find_highest, sum_word}
use Rattle.image.proofs.Judging.{both, lawful_parts, judged_by, checked_found}
use Rattle.device.specs.Kind.{sector_size, fus_sector}
use Rattle.maker.specs.declared.Wanted.{Wanted}
use Rattle.maker.specs.declared.Unmade.{Unmade}
use Rattle.maker.specs.declared.Unmade.TheVariants.{NotWords, NoVersion, TooLong}
use Rattle.std.specs.Prelude.{Option, Some, None, Result, Ok, Err, is_some, IfSome}
use Rattle.maker.specs.Made.{header_for, key_or_zeros, key_for, header_bytes, image_of, made_of, making, Makes, Stands}

-- an image was picked, and so not the refusal
picked : (t : Bool) (x : Result Header Unmade) (u : Unmade) (h : Header) → pick t x (Err u) ≡ Ok h → (t ≡ true) × (x ≡ Ok h)
unfolding pick
picked true x u h e = (refl, e)
picked false x u h e = cc

key_sized : (key : Option (List ℕ)) → IfSome key (λ k. length k ≡ 64) → length (key_or_zeros key) ≡ 64
key_sized (Some key) e = e
key_sized None e = length_zeros 64

either_way : (auth : Bool) → (not auth || true) ≡ true
either_way true = refl
either_way false = refl

-- the tests that were passed
record Passed (body : List ℕ) (w : Wanted) (h : Header) : Type 0 where
  pub words : length body % 4 ≡ 0
  pub version : version_lawful w.version ≡ true
  pub room : room_for sector_size 0 (84 + length body) fus_sector ≡ true
  pub image : ◌≡◌ {A = Result Header Unmade} (Ok (header_for body w)) (Ok h)

module _ {body : List ℕ} {w : Wanted} {h : Header} (m : Makes body w h) where
  tests : Passed body w h
  unfolding made_of
  tests =
      let a = picked (eqb (length body % 4) 0) _ NotWords h m.made in
      let b = picked (version_lawful w.version) _ NoVersion h a.1 in
      let c = picked (room_for sector_size 0 (84 + length body) fus_sector) _ TooLong h b.1 in
      record { words = eqb-true (length body % 4) 0 a.0; version = b.0; room = c.0; image = c.1 }

  -- the header is the one that was wanted
  pub header_is : h ≡ header_for body w
  header_is = let e = tests.image in cc

  size_word : 84 + length body < 4294967296
  size_word =
      let most : 0 + sectors_for sector_size (84 + length body) + 1 ≤ fus_sector = leb-true (0 + sectors_for sector_size (84 + length body) + 1) fus_sector tests.room in
      omega arith

  key_length : length (key_for w) ≡ 64
  unfolding key_for
  key_length = key_sized w.key m.key

  key_kept : (key : List ℕ) → w.key ≡ Some key → key_for w ≡ key
  unfolding key_for
  key_kept key tagged = rw tagged

  -- check 2 holds of it
  pub made_lawful : header_lawful h ≡ true
  made_lawful =
      let words : (84 + length body) % 4 ≡ 0 = omega (arith, tests.words) in
      rw (
        header_is,
        flag_small w.sealed,
        flag_small (is_some w.key),
        le-leb 84 (84 + length body) (omega arith),
        eq-eqb ((84 + length body) % 4) 0 words,
        tests.version,
      )

  -- what make gives back is this header, and bytes that are the image with the body behind them
  pub image_is : (making body w ≡ Ok (record { header = h; bytes = header_bytes h (key_for w) })) × (header_bytes h (key_for w) ++ body ≡ image_of body w)
  unfolding making image_of
  image_is = (rw m.made refl, rw header_is refl)

  -- which has the size that its header says
  pub image_sized : length (image_of body w) ≡ h.size
  unfolding image_of header_bytes
  image_sized = rw (length-append, length-append, key_length, header_is)

  -- the image, with whatever lies behind it
  module _ (rest : List ℕ) where
    -- is read as that header
    pub read_back : header_of (image_of body w ++ rest) ≡ h
    unfolding image_of header_bytes
    read_back = rw (header_is, unword (84 + length body) size_word, unword w.version m.version, unword (sum_of body) (sum_word body))

    -- begins with the mark
    pub mark_stands : begins (image_of body w ++ rest) mark ≡ true
    unfolding image_of header_bytes begins pick
    mark_stands = refl

    -- has the tag key that was wanted
    pub key_stands : drop 20 (image_of body w ++ rest) ≡ key_for w ++ (body ++ rest)
    unfolding image_of header_bytes
    key_stands = rw (append_assoc (key_for w) body rest)

    -- and the right sum
    body_stands : drop 84 (image_of body w ++ rest) ≡ body ++ rest
    unfolding image_of header_bytes
    body_stands = rw (append_assoc (key_for w) body rest) (drop_at (key_for w) (body ++ rest) 64 key_length)

    pub sum_stands : body_sum (image_of body w ++ rest) h.size ≡ h.sum
    sum_stands =
        let n : 84 + length body - 84 ≡ length body = omega arith in
        rw (body_stands, header_is, n, take_at body rest (length body) refl)

    -- with its tag key on the device, the tag is lawful, whether an authentication key is stored or not
    pub tag_taken : (key : List ℕ) → w.key ≡ Some key → (auth : Bool) → tag_lawful auth h.tag (tag_key_is (image_of body w ++ rest) key) ≡ true
    tag_taken key tagged auth =
        let k : key_for w ≡ key = key_kept key tagged in
        let same : tag_key_is (image_of body w ++ rest) key ≡ true = rw (key_stands, k) (begins_front key (body ++ rest)) in
        rw (same, header_is, tagged) (either_way auth)

    module _ (S : ℕ) (terms : Terms) (key : List ℕ) (p : ℕ) (room : room_for S p h.size terms.boundary ≡ true) where
      read : (r : Checked) → decided S terms p h h.sum (tag_key_is (image_of body w ++ rest) key) ≡ r → judged S terms key (image_of body w ++ rest) p ≡ r
      read r e = sym (judged_by S terms key (image_of body w ++ rest) p h r (sym read_back) (rw sum_stands (sym e)))

      -- a sealed image that has room, a lawful tag and a lawful version is taken
      pub taken : w.sealed ≡ true
          → tag_lawful terms.auth h.tag (tag_key_is (image_of body w ++ rest) key) ≡ true
          → floor_lawful terms.rollback terms.floor h.version ≡ true
          → judged S terms key (image_of body w ++ rest) p ≡ Good p h.size h.version
      unfolding decided pick
      taken sealed tag floor =
          let seal : eqb h.seal 1 ≡ true = rw (header_is, sealed) in
          read (Good p h.size h.version) (rw (made_lawful, room, eq-eqb h.sum h.sum refl, seal, tag, floor))

      -- one that is not sealed fails by its seal alone
      pub unsealed : w.sealed ≡ false → judged S terms key (image_of body w ++ rest) p ≡ Fails NotSealed
      unfolding decided pick
      unsealed bare =
          let seal : eqb h.seal 1 ≡ false = rw (header_is, bare) in
          read (Fails NotSealed) (rw (made_lawful, room, eq-eqb h.sum h.sum refl, seal))

      -- and one with no tag is not taken where an authentication key is stored
      pub untagged : w.sealed ≡ true → w.key ≡ None → terms.auth ≡ true → judged S terms key (image_of body w ++ rest) p ≡ Fails WrongTag
      unfolding decided pick
      untagged sealed none auth =
          let seal : eqb h.seal 1 ≡ true = rw (header_is, sealed) in
          let tag : eqb h.tag 1 ≡ false = rw (header_is, none) in
          read (Fails WrongTag) (rw (made_lawful, room, eq-eqb h.sum h.sum refl, seal, auth, tag))

      -- the seven checks on a flash where it is the highest image
      pub checked_there : (F : List ℕ) → Stands S F p terms.boundary (image_of body w) rest → (r : Checked)
          → judged S terms key (image_of body w ++ rest) p ≡ r → checked_of S terms key F ≡ r
      checked_there F s r e =
          let most : p + sectors_for S h.size + 1 ≤ terms.boundary = leb-true (p + sectors_for S h.size + 1) terms.boundary room in
          let hit : begins (drop (p * S) F) mark ≡ true = rw s.there mark_stands in
          let found : find S F terms.boundary ≡ Some p = find_highest S F p terms.boundary (omega arith) hit s.highest in
          sym (checked_found S terms key F p (find S F terms.boundary) refl found) ∙ rw s.there e

      pub checked_taken : (F : List ℕ) → Stands S F p terms.boundary (image_of body w) rest
          → w.sealed ≡ true
          → tag_lawful terms.auth h.tag (tag_key_is (image_of body w ++ rest) key) ≡ true
          → floor_lawful terms.rollback terms.floor h.version ≡ true
          → checked_of S terms key F ≡ Good p h.size h.version
      checked_taken F s sealed tag floor = checked_there F s (Good p h.size h.version) (taken sealed tag floor)

-- what a device of this kind could take is made: nothing else is refused
pub made_if : (body : List ℕ) (w : Wanted) (p boundary : ℕ) → boundary ≤ fus_sector → header_lawful (header_for body w) ≡ true
    → room_for sector_size p (84 + length body) boundary ≡ true → made_of body w ≡ Ok (header_for body w)
unfolding made_of pick
made_if body w p boundary top lawful room =
    let n = 84 + length body in
    let parts = lawful_parts (header_for body w) lawful in
    let size : n % 4 ≡ 0 = eqb-true (n % 4) 0 (both (leb 84 n) (eqb (n % 4) 0) parts.0).1 in
    let most : p + sectors_for sector_size n + 1 ≤ boundary = leb-true (p + sectors_for sector_size n + 1) boundary room in
    rw (
      eq-eqb (length body % 4) 0 (omega arith),
      parts.1,
      le-leb (0 + sectors_for sector_size n + 1) fus_sector (omega arith),
    )
