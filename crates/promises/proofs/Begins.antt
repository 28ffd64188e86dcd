-- Where demand 3 begins: a handled packet that leaves a job has just accepted it.
-- Assumes nothing.
use Prim.Native.Nat.{ℕ, ◌+◌, ◌*◌, ◌≤◌}
use mathlib.Core.Bool.{Bool, true, false, not, ◌&&◌, ◌||◌}
use mathlib.Core.Path.{◌≡◌, refl, sym, ap, ◌∙◌}
use mathlib.Core.List.{List}
use native.Mathlib.Nat.{add-mul}
use native.Mathlib.Omega.{arith}
use borrow.Author.Tests.{eqb-true}
use lib.Dec.{leb, eqb}
use lib.ListN.{length}
use Rattle.basics.specs.Choice.{pick, and_right}
use Rattle.basics.specs.Words.{byte_at}
use Rattle.sectors.proofs.Laws.{stored_length, length_erased}
use Rattle.packet.specs.declared.Command.{Command}
use Rattle.packet.specs.declared.Command.TheVariants.{GetState, FwUpgrade, FwDelete, UpdateAuthKey, LockAuthKey, StoreUsrKey, LoadUsrKey, StartWs, LockUsrKey, UnloadUsrKey, ActivateAntirollback}
use Rattle.answer.specs.declared.Checked.{Checked}
use Rattle.answer.specs.declared.Checked.TheVariants.{Good, Fails, Erases}
use Rattle.image.specs.Images.{flash_after, Erasable}
use Rattle.device.specs.declared.Head.{Head}
use Rattle.device.specs.Types.{Step, Look, Effect, Keep, Drop, Lock, Put, Auth, Device}
use Rattle.device.specs.declared.Mode.{Mode}
use Rattle.device.specs.declared.Mode.TheVariants.{Stack, Idle, Upgrade, Delete}
use Rattle.keys.specs.Keys.{type_lawful, key_lawful, stored_key, store_key, load_key}
use Rattle.commands.specs.Commands.{is_get_state, stack_running, job_under_way, upgrade}
use Rattle.decisions.specs.Decisions.{idle, situated, decided}
use Rattle.device.specs.Whole.{Shaped, look, with_head, apply, carried}
use Rattle.soundness.specs.Sound.{mode_sound, sound}
use Rattle.soundness.proofs.Parts.{parts}
use Rattle.services.specs.Calls.{Numbers, Sensible, checked_for, key_in, step_for, handled}
use Rattle.device.specs.Modes.{has_job, recorded_in}
use Rattle.services.proofs.Laws.{boundary_low, erasable}
use Rattle.promises.specs.Demand.{packet, Accepted, State}
use Rattle.promises.proofs.Under.{never}
use Rattle.promises.proofs.Still.{either, Leaves, by_call}
use Rattle.promises.proofs.Kept.{kept}

-- the checks keep the flash's length
after_length : (S : ℕ) (c : Checked) (F : List ℕ) → Erasable S (length F) c → length (flash_after S c F) ≡ length F
after_length S (Good p size version) F e = refl
after_length S (Fails failure) F e = refl
after_length S (Erases failure p) F e =
    let f : (p + 1) * S ≤ length F = e in
    stored_length S F p (omega (arith, add-mul p 1 S)) _ (length_erased S)

-- an effect leaves the head alone
head_of : (x : Effect) (key : List ℕ) (h : Head) (d : Device) → (apply x key (with_head h d)).head ≡ h
head_of Keep key h d = refl
head_of Drop key h d = refl
head_of (Lock i) key h d = refl
head_of (Put i kind) key h d = refl
head_of Auth key h d = refl

module _ (h : Head) (quiet : has_job h.mode ≡ false) where
  -- a step that begins a job has recorded nothing, and made what was made
  abbrev Begun : Step → Type 0
  Begun s = has_job s.head.mode ≡ true → (recorded_in s.head.mode ≡ 0) × (s.head.made ≡ h.made)

  still : {A : Type 0} → has_job h.mode ≡ true → A
  still j = absurd (never (sym quiet ∙ j))

  none : {A : Type 0} → false ≡ true → A
  none j = absurd (never j)

  both : (t : Bool) (a b : Step) → Begun a → Begun b → Begun (pick t a b)
  both t a b p q = either Begun t a b p q

  begun_upgrade : (c : Checked) → Begun (upgrade h c)
  begun_upgrade (Good p size version) j = (refl, refl)
  begun_upgrade (Fails failure) j = still j
  begun_upgrade (Erases failure p) j = still j

  begun_store : (l : Look) (kind n : ℕ) → Begun (store_key h l kind n)
  unfolding store_key
  begun_store l kind n = both (type_lawful kind) _ _ (both (key_lawful kind n) _ _ (both (eqb kind 2) _ _ (both (eqb l.master 2) _ _ still still) (both (leb 100 h.count) _ _ still still)) still) still

  begun_load : (l : Look) (i : ℕ) → Begun (load_key h l i)
  unfolding load_key
  begun_load l i = both (stored_key h i) _ _ (both (eqb l.lock 0) _ _ (both (not (eqb l.kind 3) || eqb l.master 2) _ _ still still) still) still

  begun_idle : (l : Look) (c : Checked) (command : Command) (i n : ℕ) → Begun (idle h l c command i n)
  begun_idle l c GetState i n = still
  begun_idle l c FwUpgrade i n = begun_upgrade c
  begun_idle l c FwDelete i n = both h.present _ _ (λ j. (refl, refl)) still
  begun_idle l c UpdateAuthKey i n = both h.locked _ _ still still
  begun_idle l c LockAuthKey i n = both h.auth _ _ still still
  begun_idle l c StoreUsrKey i n = begun_store l i n
  begun_idle l c LoadUsrKey i n = begun_load l i
  begun_idle l c StartWs i n = both h.present _ _ none still
  begun_idle l c LockUsrKey i n = both (stored_key h i) _ _ still still
  begun_idle l c UnloadUsrKey i n = both (leb 1 i && eqb i h.loaded) _ _ still still
  begun_idle l c ActivateAntirollback i n = both h.rollback _ _ still still

  begun_running : (command : Command) → Begun (stack_running h command)
  unfolding stack_running
  begun_running command = both (is_get_state command) _ _ (both h.asked _ _ none still) still

  begun_decided : (l : Look) (c : Checked) (command : Command) (i n : ℕ) → Begun (decided h l c command i n)
  unfolding decided
  begun_decided l c command i n = go h.mode refl
    where
      go : (mode : Mode) → h.mode ≡ mode → Begun (situated mode (stack_running h command) (job_under_way h command) (idle h l c command i n))
      go Stack e = begun_running command
      go Idle e = begun_idle l c command i n
      go (Upgrade p size version recorded) e = still (ap has_job e)
      go (Delete recorded) e = still (ap has_job e)

module _ (k : Numbers) (kind : Sensible k) (d : Device) (F : List ℕ) (s : sound k.size k.top d ≡ true) (shaped : Shaped d)
    (e : length F ≡ k.count * k.size) (quiet : has_job d.head.mode ≡ false) where
  -- with no job no store is made
  unmade : d.head.made ≡ 0
  unmade = go d.head.mode quiet (parts k.size k.top d s).numbers.job
    where
      go : (mode : Mode) → has_job mode ≡ false → mode_sound k.size k.top mode d.head.present d.head.boundary d.head.made ≡ true → d.head.made ≡ 0
      go Stack q m = eqb-true _ _ (and_right d.head.present _ m)
      go Idle q m = eqb-true _ _ m
      go (Upgrade p size version recorded) q m = absurd (never (sym q))
      go (Delete recorded) q m = absurd (never (sym q))

  abbrev Beginning : State → Type 0
  Beginning (r, G) = has_job r.head.mode ≡ true → (recorded_in r.head.mode ≡ 0) × (r.head.made ≡ 0) × (length G ≡ k.count * k.size)

  read_begins : (bytes R : List ℕ) → Leaves k d F Beginning (packet bytes R)
  read_begins bytes R command n read j =
      let c : Checked = checked_for k d.head command d.key F in
      let t : Step = step_for d command bytes c in
      let q : (carried t (key_in command bytes) d).head ≡ t.head = head_of t.effect (key_in command bytes) t.head d in
      let b = begun_decided d.head quiet (look d.kinds d.locks (byte_at bytes 4)) c command (byte_at bytes 4) (length (key_in command bytes)) (ap (λ (h : Head). has_job h.mode) (sym q) ∙ j) in
      (ap (λ (h : Head). recorded_in h.mode) q ∙ b.0, ap (λ (h : Head). h.made) q ∙ b.1 ∙ unmade, after_length k.size c F (erasable k d.head command d.key F kind (boundary_low k.size k.top d s) e) ∙ e)

  -- a packet after which a job is under way has accepted that job: demand 3 holds from there
  pub accepted_by : (bytes R : List ℕ) → has_job (handled k d F bytes R).device.head.mode ≡ true
      → Accepted k (handled k d F bytes R).device (handled k d F bytes R).flash
  accepted_by bytes R j =
      let b = by_call k d F Beginning (λ i. absurd (never (sym quiet ∙ i))) (packet bytes R) (read_begins bytes R) j in
      record { record_sound = kept k kind d s F shaped (packet bytes R); lent_flash = b.2; job = j; none_recorded = b.0; none_made = b.1 }
