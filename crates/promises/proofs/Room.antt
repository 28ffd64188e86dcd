-- The lines "taken" and "E 04": over any flash that holds such an image, FW_UPGRADE is taken exactly if check 3 is met.
-- Assumes nothing.
use Prim.Native.Nat.{ℕ}
use mathlib.Core.Bool.{true, false}
use mathlib.Core.Path.{◌≡◌}
use mathlib.Core.List.{List, [], ◌∷◌}
use lib.ListN.{length}
use borrow.Author.Tests.{eq-eqb}
use Rattle.basics.specs.Choice.{pick}
use Rattle.basics.specs.Words.{zeros}
use Rattle.answer.specs.declared.Failure.TheVariants.{NoRoom}
use Rattle.answer.specs.declared.Checked.TheVariants.{Good, Fails}
use Rattle.image.specs.declared.Terms.{Terms}
use Rattle.image.specs.Images.{room_for, decided, judged, checked_of}
use Rattle.packet.specs.Packets.{command_of, read_of}
use Rattle.reply.specs.Replies.{response, replied}
use Rattle.device.specs.declared.Mode.TheVariants.{Upgrade}
use Rattle.device.specs.Heads.{with_error, with_mode}
use Rattle.device.specs.Whole.{with_head}
use Rattle.device.specs.Kind.{sector_size, fus_sector, flash_length, fresh_head, fresh_device}
use Rattle.decisions.specs.Decisions.{decided as decided_on}
use Rattle.soundness.specs.Sound.{head_sound, all_below, slots_sound, sound}
use Rattle.services.specs.Calls.{granted, first, gated, handle_result, lent, terms_of, handled}
use Rattle.promises.specs.Image.{Holds}

module _ {S : ℕ} {terms : Terms} {key F : List ℕ} {p size version : ℕ} (h : Holds S terms key F p size version) where
  -- the checks come down to check 3
  by_room : checked_of S terms key F ≡ pick (room_for S p size terms.boundary) (Good p size version) (Fails NoRoom)
  unfolding checked_of judged decided pick
  by_room = rw (h.found, h.header, h.sum, h.seal, h.tag, h.floor, h.size_is, h.version_is)

  pub taken : room_for S p size terms.boundary ≡ true → checked_of S terms key F ≡ Good p size version
  unfolding pick
  taken e = rw (by_room, e)

  pub no_room : room_for S p size terms.boundary ≡ false → checked_of S terms key F ≡ Fails NoRoom
  unfolding pick
  no_room e = rw (by_room, e)

-- FW_UPGRADE on a fresh device
abbrev pub ask_upgrade : List ℕ
ask_upgrade = 0x10 ∷ 0x54 ∷ 0xFC ∷ 0x00 ∷ []

abbrev reply_upgrade : ℕ → List ℕ
reply_upgrade status = 0x11 ∷ 0x0E ∷ 0x04 ∷ 0xFF ∷ 0x54 ∷ 0xFC ∷ status ∷ 0 ∷ []

module _ {F : List ℕ} {p size version : ℕ} (sized : length F ≡ flash_length) (h : Holds sector_size (terms_of fresh_head) (zeros 64) F p size version) where
  lent_so : lent first F ≡ true
  lent_so = eq-eqb _ _ sized

  pub fresh_taken : room_for sector_size p size fus_sector ≡ true
      → handled first fresh_device F ask_upgrade (zeros 8) ≡ handle_result granted (with_head (with_mode (Upgrade p size version 0) fresh_head) fresh_device) F (reply_upgrade 0x00) 0
  unfolding handled gated sound head_sound slots_sound all_below fresh_device zeros read_of command_of pick replied response decided_on
  fresh_taken e = rw (lent_so, taken h e)

  pub fresh_no_room : room_for sector_size p size fus_sector ≡ false
      → handled first fresh_device F ask_upgrade (zeros 8) ≡ handle_result granted (with_head (with_error 0x04 fresh_head) fresh_device) F (reply_upgrade 0x01) 0
  unfolding handled gated sound head_sound slots_sound all_below fresh_device zeros read_of command_of pick replied response decided_on
  fresh_no_room e = rw (lent_so, no_room h e)
