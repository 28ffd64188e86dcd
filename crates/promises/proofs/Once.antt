-- NO SECOND OUTCOME: whatever satisfies a call's promise is the one outcome; and the reply's zeros go to the buffer's end.
-- Assumes nothing.
use Prim.Native.Nat.{ℕ, ◌-◌, ◌≤◌}
use mathlib.Core.Bool.{Bool}
use mathlib.Core.Path.{◌≡◌, sym, ◌∙◌}
use mathlib.Core.List.{List, ◌++◌}
use borrow.Author.Tests.{le-leb}
use lib.ListN.{length}
use Rattle.std.specs.Prelude.{Result}
use Rattle.basics.specs.Choice.{pick}
use Rattle.basics.specs.Words.{zeros}
use Rattle.packet.specs.declared.Request.{Request}
use Rattle.packet.specs.declared.Refusal.{Refusal}
use Rattle.packet.specs.Packets.{read_of}
use Rattle.reply.specs.Replies.{replied}
use Rattle.reply.specs.Message.{next_message}
use Rattle.device.specs.Types.{Device}
use Rattle.services.specs.Calls.{Numbers, HandleResult, CutResult, RestartResult, WorkResult, handled, restarted, worked, cut_off}

pub read_once : (s : List ℕ) (x y : Result Request Refusal) → x ≡ read_of s → y ≡ read_of s → x ≡ y
read_once s x y p q = p ∙ sym q

pub message_once : (event response x y : List ℕ) → x ≡ next_message event response → y ≡ next_message event response → x ≡ y
message_once event response x y p q = p ∙ sym q

module _ (k : Numbers) (d : Device) where
  pub handle_once : (F packet R : List ℕ) (x y : HandleResult) → x ≡ handled k d F packet R → y ≡ handled k d F packet R → x ≡ y
  handle_once F packet R x y p q = p ∙ sym q

  pub restart_once : (R : List ℕ) (x y : RestartResult) → x ≡ restarted k d R → y ≡ restarted k d R → x ≡ y
  restart_once R x y p q = p ∙ sym q

  pub work_once : (F : List ℕ) (x y : WorkResult) → x ≡ worked k d F → y ≡ worked k d F → x ≡ y
  work_once F x y p q = p ∙ sym q

  pub cut_once : (F filler : List ℕ) (through : Bool) (R : List ℕ) (x y : CutResult) → x ≡ cut_off k d F filler through R → y ≡ cut_off k d F filler through R → x ≡ y
  cut_once F filler through R x y p q = p ∙ sym q

-- a reply that fits is the message, and zeros follow it
pub zeros_follow : (least n : ℕ) (message : List ℕ) → least ≤ n → replied least n message ≡ message ++ zeros (n - length message)
unfolding replied pick
zeros_follow least n message h = rw (le-leb least n h)
