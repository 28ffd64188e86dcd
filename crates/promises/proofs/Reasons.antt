-- PAPER 02 §2: beside the reply stands the first of the causes that the paper lists, and no reply tells which it was.
-- Assumes nothing.
use Rattle.std.specs.Prelude.{Option, Some, None, Err}
use Prim.Native.Nat.{ℕ, ◌*◌, ◌≤◌}
use mathlib.Core.Bool.{Bool, true, false, not, ◌&&◌, ◌||◌}
use mathlib.Core.Path.{◌≡◌, refl, ap}
use mathlib.Core.List.{List, [], ◌∷◌}
use lib.Dec.{leb, eqb}
use lib.ListN.{length, drop}
use Rattle.basics.specs.Choice.{pick}
use Rattle.basics.specs.Words.{byte_at}
use Rattle.packet.specs.declared.Refusal.{Refusal}
use Rattle.packet.specs.declared.Command.{Command}
use Rattle.packet.specs.declared.Command.TheVariants.{GetState, FwUpgrade, FwDelete, UpdateAuthKey, LockAuthKey, StoreUsrKey, LoadUsrKey, StartWs, LockUsrKey, UnloadUsrKey, ActivateAntirollback}
use Rattle.packet.specs.Packets.{lawful_of, read_of}
use Rattle.answer.specs.declared.Failure.{Failure}
use Rattle.answer.specs.declared.Answer.{Answer}
use Rattle.answer.specs.declared.Answer.TheVariants.{Failed}
use Rattle.answer.specs.declared.Checked.{Checked}
use Rattle.answer.specs.declared.Checked.TheVariants.{Good, Fails, Erases}
use Rattle.answer.specs.Answers.{reason_of, reason_in}
use Rattle.image.specs.declared.Header.{Header}
use Rattle.image.specs.declared.Terms.{Terms}
use Rattle.image.specs.Images.{find, header_of, header_lawful, room_for, tag_lawful, floor_lawful, body_sum, tag_key_is, decided as seven, judged, after_find, checked_of}
use Rattle.device.specs.declared.Head.{Head}
use Rattle.device.specs.declared.Mode.{Mode}
use Rattle.device.specs.declared.Mode.TheVariants.{Stack, Idle, Upgrade, Delete}
use Rattle.device.specs.Types.{Device, Look, Step}
use Rattle.device.specs.Whole.{look}
use Rattle.keys.specs.Keys.{type_lawful, key_lawful, stored_key, store_key, load_key}
use Rattle.commands.specs.Commands.{is_get_state, stack_running, job_under_way, get_state, upgrade}
use Rattle.decisions.specs.Decisions.{idle, situated, decided, searches}
use Rattle.soundness.specs.Sound.{sound}
use Rattle.services.specs.Calls.{Numbers, HandleResult, terms_of, reply_to, key_in, checked_for, handled}
use Rattle.services.proofs.Laws.{handled_by}
use Rattle.promises.specs.Reasons.{Cause, causes_of, causes_in, First, none, here, later}
use Rattle.promises.proofs.Refusals.{handle_refused_lem}
use Rattle.packet.specs.Lawful.{Bytes}
use Rattle.promises.proofs.Still.{either}

-- the reply of a failure does not depend on which one it was
pub reply_keeps_quiet : (command : Command) (f g : Failure) (n : ℕ) → reply_to command (Failed f) n ≡ reply_to command (Failed g) n
reply_keeps_quiet command f g n = refl

-- at most one number is the first
pub first_once : (causes : List Cause) (r q : ℕ) → First causes r → First causes q → r ≡ q
first_once causes r q none none = refl
first_once causes r q (here _ _) (here _ _) = refl
first_once causes r q (later _ _ rest a) (later _ _ _ b) = first_once rest r q a b

-- a chain of tests, each with its failure, gives the first cause that holds
module _ (h : Head) where
  abbrev Says : List Cause → Step → Type 0
  Says causes s = First causes (reason_in s.answer)

  -- the test of a cause is turned round in the definition
  turned : (t : Bool) (x y : Step) (r : ℕ) (rest : List Cause) → reason_in y.answer ≡ r → (t ≡ true → Says rest x) → Says ((not t, r) ∷ rest) (pick t x y)
  unfolding pick
  turned true x y r rest e f = later r _ rest (f refl)
  turned false x y r rest e f = rw e (here r rest)

  silent : (t : Bool) (x y : Step) → Says [] x → Says [] y → Says [] (pick t x y)
  silent t x y a b = either (Says []) t x y a b

  -- the last two causes of STORE, by the type
  by_kind : (k m f : Bool) (x y z w : Step) → reason_in x.answer ≡ 3 → reason_in y.answer ≡ 0 → reason_in z.answer ≡ 4 → reason_in w.answer ≡ 0
      → Says ((k && m, 3) ∷ (not k && f, 4) ∷ []) (pick k (pick m x y) (pick f z w))
  unfolding pick
  by_kind true true f x y z w a b c d = rw a (here 3 _)
  by_kind true false f x y z w a b c d = rw b (later 3 0 _ (later 4 0 [] none))
  by_kind false m true x y z w a b c d = rw c (later 3 4 _ (here 4 []))
  by_kind false m false x y z w a b c d = rw d (later 3 0 _ (later 4 0 [] none))

  -- the last cause of LOAD: encrypted, and no master
  no_master : (a b : Bool) (x y : Step) → reason_in x.answer ≡ 0 → reason_in y.answer ≡ 7 → Says ((a && not b, 7) ∷ []) (pick (not a || b) x y)
  unfolding pick
  no_master true true x y p q = rw p (later 7 0 [] none)
  no_master true false x y p q = rw q (here 7 [])
  no_master false b x y p q = rw p (later 7 0 [] none)

  says_store : (l : Look) (kind n : ℕ) → Says (causes_of h l StoreUsrKey kind n) (store_key h l kind n)
  unfolding store_key
  says_store l kind n =
      turned (type_lawful kind) _ _ 1 _ refl
      (λ a. turned (key_lawful kind n) _ _ 2 _ refl (λ b. by_kind (eqb kind 2) (eqb l.master 2) (leb 100 h.count) _ _ _ _ refl refl refl refl))

  says_load : (l : Look) (i n : ℕ) → Says (causes_of h l LoadUsrKey i n) (load_key h l i)
  unfolding load_key
  says_load l i n =
      turned (stored_key h i) _ _ 5 _ refl (λ a. turned (eqb l.lock 0) _ _ 6 _ refl (λ b. no_master (eqb l.kind 3) (eqb l.master 2) _ _ refl refl))

  -- no check of an image is a reason
  abbrev Quiet : Checked → Type 0
  Quiet (Good p size version) = Unit {0}
  Quiet (Fails failure) = reason_of failure ≡ 0
  Quiet (Erases failure p) = reason_of failure ≡ 0

  says_upgrade : (c : Checked) → Quiet c → Says [] (upgrade h c)
  says_upgrade (Good p size version) q = none
  says_upgrade (Fails failure) q = rw q none
  says_upgrade (Erases failure p) q = rw q none

  says_state : Says [] (get_state h)
  says_state = either (λ (a : Answer). First [] (reason_in a)) (eqb h.error 0) _ _ none none

  says_idle : (l : Look) (c : Checked) (command : Command) (i n : ℕ) → Quiet c → Says (causes_of h l command i n) (idle h l c command i n)
  says_idle l c GetState i n q = says_state
  says_idle l c FwUpgrade i n q = says_upgrade c q
  says_idle l c FwDelete i n q = silent h.present _ _ none none
  says_idle l c UpdateAuthKey i n q = silent h.locked _ _ none none
  says_idle l c LockAuthKey i n q = silent h.auth _ _ none none
  says_idle l c StoreUsrKey i n q = says_store l i n
  says_idle l c LoadUsrKey i n q = says_load l i n
  says_idle l c StartWs i n q = silent h.present _ _ none none
  says_idle l c LockUsrKey i n q = turned (stored_key h i) _ _ 5 _ refl (λ a. none)
  says_idle l c UnloadUsrKey i n q = turned (leb 1 i && eqb i h.loaded) _ _ 8 _ refl (λ a. none)
  says_idle l c ActivateAntirollback i n q = silent h.rollback _ _ none none

  says_running : (command : Command) → Says [] (stack_running h command)
  unfolding stack_running
  says_running command = silent (is_get_state command) _ _ (silent h.asked _ _ none none) none

  says_under : (command : Command) → Says [] (job_under_way h command)
  unfolding job_under_way
  says_under command = silent (is_get_state command) _ _ none none

  says_decided : (l : Look) (c : Checked) (command : Command) (i n : ℕ) → Quiet c → Says (causes_in h.mode h l command i n) (decided h l c command i n)
  unfolding decided
  says_decided l c command i n q = go h.mode
    where
      go : (mode : Mode) → Says (causes_in mode h l command i n) (situated mode (stack_running h command) (job_under_way h command) (idle h l c command i n))
      go Stack = says_running command
      go Idle = says_idle l c command i n q
      go (Upgrade p size version recorded) = says_under command
      go (Delete recorded) = says_under command

-- what the seven checks find has no reason
module _ (S : ℕ) (terms : Terms) (h : Head) where
  quiet_decided : (p : ℕ) (x : Header) (sum : ℕ) (same : Bool) → Quiet h (seven S terms p x sum same)
  unfolding seven
  quiet_decided p x sum same =
      either (Quiet h) (header_lawful x) _ _
      (either (Quiet h) (room_for S p x.size terms.boundary) _ _
      (either (Quiet h) (eqb sum x.sum) _ _
      (either (Quiet h) (eqb x.seal 1) _ _
      (either (Quiet h) (tag_lawful terms.auth x.tag same) _ _
      (either (Quiet h) (floor_lawful terms.rollback terms.floor x.version) _ _ tt refl) refl) refl) refl) refl) refl

  quiet_found : (key F : List ℕ) (f : Option ℕ) → Quiet h (after_find S terms key F f)
  unfolding judged
  quiet_found key F None = refl
  quiet_found key F (Some p) =
      let s = drop (p * S) F in quiet_decided p (header_of s) (body_sum s (header_of s).size) (tag_key_is s key)

  quiet_checked : (key F : List ℕ) → Quiet h (checked_of S terms key F)
  unfolding checked_of
  quiet_checked key F = quiet_found key F (find S F terms.boundary)

module _ (k : Numbers) (d : Device) (F packet R : List ℕ) where
  -- a lawful packet on a sound record and fitting buffers: the reason is the first of the paper's causes that holds, and none else
  pub reason_first : (command : Command) (n : ℕ) → sound k.size k.top d ≡ true → length F ≡ k.count * k.size → 8 ≤ length R → read_of packet ≡ lawful_of command n
      → First (causes_in d.head.mode d.head (look d.kinds d.locks (byte_at packet 4)) command (byte_at packet 4) (length (key_in command packet))) (handled k d F packet R).reason
  reason_first command n s e h r =
      rw (handled_by k d F packet R s e h, r)
      (says_decided d.head (look d.kinds d.locks (byte_at packet 4)) (checked_for k d.head command d.key F) command (byte_at packet 4) (length (key_in command packet))
      (either (Quiet d.head) (searches d.head.mode command) _ _ (quiet_checked k.size (terms_of d.head) d.head d.key F) refl))

  -- a refused packet has none
  pub reason_none : Bytes packet → (r : Refusal) → (handled k d F packet R).verdict ≡ Err r → (handled k d F packet R).reason ≡ 0
  reason_none b r e = ap (λ (x : HandleResult). x.reason) (handle_refused_lem k d F packet R b r e).1
