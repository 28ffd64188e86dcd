-- Soundness is kept: a fresh device is sound, what is left after a loss is, and what every command leaves is.
use Prim.Native.Nat.{ℕ, ◌+◌, ◌<◌}
use mathlib.Core.Path.{◌≡◌, refl}
use mathlib.Core.Bool.{true, false, not, ◌&&◌, ◌||◌, or-false}
use mathlib.Core.List.{List}
use native.Mathlib.Omega.{arith}
use borrow.Author.Tests.{leb-true, leb-false, not-true}
use lib.Dec.{leb, eqb}
use lib.ListN.{get_or, length}
use Rattle.basics.specs.Choice.{and_left, and_right}
use Rattle.basics.specs.Words.{zeros}
use Rattle.packet.specs.declared.Command.{Command}
use Rattle.packet.specs.declared.Command.TheVariants.{GetState, FwUpgrade, FwDelete, UpdateAuthKey, LockAuthKey, StoreUsrKey, LoadUsrKey, StartWs, LockUsrKey, UnloadUsrKey, ActivateAntirollback}
use Rattle.answer.specs.Answers.{error_of}
use Rattle.answer.specs.declared.Failure.{Failure}
use Rattle.answer.specs.declared.Failure.TheVariants.{StackRuns, JobUnderWay, NoStack, NoImage, BadHeader, NoRoom, WrongSum, NotSealed, WrongTag, UnderFloor, AuthLocked, NoAuthKey, BadType, BadSize, SecondMaster, StoreFull, NotStored, KeyLocked, NoMaster, NotLoaded}
use Rattle.answer.specs.declared.Checked.{Checked}
use Rattle.answer.specs.declared.Checked.TheVariants.{Good, Fails, Erases}
use Rattle.device.specs.declared.Head.{Head}
use Rattle.device.specs.Types.{Device, Step}
use Rattle.device.specs.declared.Mode.{Mode}
use Rattle.device.specs.declared.Mode.TheVariants.{Stack, Idle, Upgrade, Delete}
use Rattle.device.specs.Kind.{sector_size, fus_sector, fresh_device}
use Rattle.device.specs.Heads.{with_loaded, with_count, with_mode, with_auth, with_locked, with_floor, lost_head}
use Rattle.device.specs.Steps.{failed}
use Rattle.keys.specs.Keys.{type_lawful, key_lawful, store_key, stored_key, load_key, lock_key, unload_key}
use Rattle.commands.specs.Commands.{is_get_state, stack_running, job_under_way, get_state, delete_stack, start_stack, update_auth, lock_auth, antirollback, upgrade}
use Rattle.decisions.specs.Decisions.{idle, situated, decided}
use Rattle.device.specs.Whole.{Shaped, look, carried, lost}
use Rattle.soundness.specs.Sound.{CheckedLawful, error_sound, mode_sound, head_sound, slots_sound, all_below, sound}
use Rattle.device.specs.Modes.{stack_runs}
use Rattle.soundness.proofs.Laws.{chosen}
use Rattle.soundness.proofs.Parts.{Numbers, Parts, parts, whole}
use Rattle.soundness.proofs.Heads.{begun, numbers_error, numbers_lost, numbers_loaded, numbers_count, numbers_auth, numbers_locked, numbers_floor, numbers_asked, numbers_mode}
use Rattle.soundness.proofs.Keys.{keys_unloaded, keys_loaded, keys_lost, keys_locked, keys_mastered, keys_stored}

pub fresh_sound : sound sector_size fus_sector fresh_device ≡ true
unfolding sound head_sound slots_sound all_below fresh_device zeros
fresh_sound = refl

-- an error that a failure makes pending is one of the list
failure_sound : (f : Failure) → error_sound (error_of f) true ≡ true
failure_sound StackRuns = refl
failure_sound JobUnderWay = refl
failure_sound NoStack = refl
failure_sound NoImage = refl
failure_sound BadHeader = refl
failure_sound NoRoom = refl
failure_sound WrongSum = refl
failure_sound NotSealed = refl
failure_sound WrongTag = refl
failure_sound UnderFloor = refl
failure_sound AuthLocked = refl
failure_sound NoAuthKey = refl
failure_sound BadType = refl
failure_sound BadSize = refl
failure_sound SecondMaster = refl
failure_sound StoreFull = refl
failure_sound NotStored = refl
failure_sound KeyLocked = refl
failure_sound NoMaster = refl
failure_sound NotLoaded = refl

module _ (S top : ℕ) (d : Device) where
  lost_parts : Parts S top d → Parts S top (lost d)
  lost_parts p = record {
    numbers = numbers_lost S top d.head p.numbers;
    error = refl;
    keys = keys_lost d.head.count d.head.loaded d.kinds d.sizes d.locks p.keys;
  }

  pub lost_sound : sound S top d ≡ true → sound S top (lost d) ≡ true
  lost_sound e = whole S top (lost d) (lost_parts (parts S top d e))

  module _ (k : List ℕ) (p : Parts S top d) where
    -- the step, carried out, leaves a sound device
    abbrev Kept : Step → Type 0
    Kept s = Parts S top (carried s k d)

    running_kept : (command : Command) → d.head.mode ≡ Stack → Kept (stack_running d.head command)
    unfolding stack_running
    running_kept command m =
        let h = d.head in
        let runs : stack_runs h.mode ≡ true = rw m in
        chosen Kept (is_get_state command) _ _
        (λ _.
        chosen Kept h.asked _ _
        (λ _. record {
          numbers = numbers_mode S top (lost_head h) (numbers_lost S top h p.numbers) Idle refl refl;
          error = refl;
          keys = keys_lost h.count h.loaded d.kinds d.sizes d.locks p.keys;
        })
        (λ _. record { numbers = numbers_asked S top h p.numbers true runs; error = p.error; keys = p.keys }))
        (λ _. record { numbers = numbers_asked S top h p.numbers false runs; error = p.error; keys = p.keys })

    under_kept : (command : Command) → Kept (job_under_way d.head command)
    unfolding job_under_way
    under_kept command =
        chosen Kept (is_get_state command) _ _
        (λ _. record { numbers = p.numbers; error = p.error; keys = p.keys })
        (λ _. record { numbers = p.numbers; error = p.error; keys = p.keys })

    module _ (m : d.head.mode ≡ Idle) where
      abbrev h : Head
      h = d.head

      not_asked : h.asked ≡ false
      not_asked = not-true h.asked (rw (m, or-false (not h.asked)) at p.numbers.mark)

      none_made : eqb h.made 0 ≡ true
      none_made = rw m at p.numbers.job

      failed_kept : (f : Failure) → Kept (failed h f)
      failed_kept f = record { numbers = numbers_error S top h p.numbers (error_of f); error = rw m (failure_sound f); keys = p.keys }

      get_kept : Kept (get_state h)
      get_kept = record { numbers = numbers_error S top h p.numbers 0; error = refl; keys = p.keys }

      begins : (j : Mode) → mode_sound S top j h.present h.boundary h.made ≡ true → Numbers S top (with_mode j h)
      begins j e = numbers_mode S top h p.numbers j not_asked e

      delete_kept : Kept (delete_stack h)
      delete_kept =
          chosen Kept h.present _ _
          (λ there.
          let e : mode_sound S top (Delete 0) h.present h.boundary h.made ≡ true = rw (there, begun _ h.made none_made) in
          record { numbers = numbers_error S top (with_mode (Delete 0) h) (begins (Delete 0) e) 0; error = refl; keys = p.keys })
          (λ _. failed_kept NoStack)

      start_kept : Kept (start_stack h)
      start_kept =
          chosen Kept h.present _ _
          (λ there.
          let l : Numbers S top (with_mode Stack (lost_head h)) = numbers_mode S top (lost_head h) (numbers_lost S top h p.numbers) Stack refl (rw there) in
          record {
            numbers = numbers_error S top (with_mode Stack (lost_head h)) l 0;
            error = refl;
            keys = keys_lost h.count h.loaded d.kinds d.sizes d.locks p.keys;
          })
          (λ _. failed_kept NoStack)

      update_kept : Kept (update_auth h)
      update_kept =
          chosen Kept h.locked _ _
          (λ _. failed_kept AuthLocked)
          (λ _. record { numbers = numbers_error S top (with_auth h) (numbers_auth S top h p.numbers) 0; error = refl; keys = p.keys })

      lock_auth_kept : Kept (lock_auth h)
      lock_auth_kept =
          chosen Kept h.auth _ _
          (λ there. record { numbers = numbers_error S top (with_locked h) (numbers_locked S top h p.numbers there) 0; error = refl; keys = p.keys })
          (λ _. failed_kept NoAuthKey)

      antirollback_kept : Kept (antirollback h)
      antirollback_kept =
          chosen Kept h.rollback _ _
          (λ _. record { numbers = numbers_error S top h p.numbers 0; error = refl; keys = p.keys })
          (λ _. record { numbers = numbers_error S top (with_floor h.version h) (numbers_floor S top h p.numbers h.version) 0; error = refl; keys = p.keys })

      unload_kept : (i : ℕ) → Kept (unload_key h i)
      unload_kept i =
          chosen Kept (leb 1 i && eqb i h.loaded) _ _
          (λ _. record {
            numbers = numbers_error S top (with_loaded 0 h) (numbers_loaded S top h p.numbers 0 (omega arith)) 0;
            error = refl;
            keys = keys_unloaded h.count h.loaded d.kinds d.sizes d.locks p.keys;
          })
          (λ _. failed_kept NotLoaded)

      load_kept : (i : ℕ) → Kept (load_key h (look d.kinds d.locks i) i)
      unfolding load_key
      load_kept i =
          chosen Kept (stored_key h i) _ _
          (λ stored.
          chosen Kept (eqb (get_or d.locks i 0) 0) _ _
          (λ _.
          chosen Kept (not (eqb (get_or d.kinds i 0) 3) || eqb (get_or d.kinds 0 0) 2) _ _
          (λ lawful. record {
            numbers = numbers_error S top (with_loaded i h) (numbers_loaded S top h p.numbers i (leb-true i h.count (and_right (leb 1 i) (leb i h.count) stored))) 0;
            error = refl;
            keys = keys_loaded h.count h.loaded d.kinds d.sizes d.locks p.keys i lawful;
          })
          (λ _. failed_kept NoMaster))
          (λ _. failed_kept KeyLocked))
          (λ _. failed_kept NotStored)

      upgrade_kept : (checked : Checked) → CheckedLawful S h.boundary checked → Kept (upgrade h checked)
      upgrade_kept (Good q size version) lawful =
          let job = Upgrade q size version 0 in
          let e : mode_sound S top job h.present h.boundary h.made ≡ true = rw (lawful.0, lawful.1, lawful.2, begun _ h.made none_made) in
          record { numbers = numbers_error S top (with_mode job h) (begins job e) 0; error = refl; keys = p.keys }
      upgrade_kept (Fails failure) lawful = failed_kept failure
      upgrade_kept (Erases failure q) lawful = failed_kept failure

      module _ (shaped : Shaped d) where
        lock_kept : (i : ℕ) → Kept (lock_key h i)
        lock_kept i =
            chosen Kept (stored_key h i) _ _
            (λ stored. record {
              numbers = numbers_error S top h p.numbers 0;
              error = refl;
              keys = keys_locked h.count h.loaded d.kinds d.sizes d.locks p.keys i shaped.locks (leb-true 1 i (and_left (leb 1 i) (leb i h.count) stored)) (leb-true i h.count (and_right (leb 1 i) (leb i h.count) stored)) p.numbers.count;
            })
            (λ _. failed_kept NotStored)

        store_kept : (kind i : ℕ) → Kept (store_key h (look d.kinds d.locks i) kind (length k))
        unfolding store_key
        store_kept kind i =
            chosen Kept (type_lawful kind) _ _
            (λ type.
            chosen Kept (key_lawful kind (length k)) _ _
            (λ lawful.
            chosen Kept (eqb kind 2) _ _
            (λ is.
            chosen Kept (eqb (get_or d.kinds 0 0) 2) _ _
            (λ _. failed_kept SecondMaster)
            (λ _. record {
              numbers = numbers_error S top h p.numbers 0;
              error = refl;
              keys = keys_mastered h.count h.loaded d.kinds d.sizes d.locks p.keys shaped.kinds shaped.sizes kind (length k) lawful is;
            }))
            (λ is.
            chosen Kept (leb 100 h.count) _ _
            (λ _. failed_kept StoreFull)
            (λ full.
            let few : h.count < 100 = leb-false 100 h.count full in
            record {
              numbers = numbers_error S top (with_count (h.count + 1) h) (numbers_count S top h p.numbers few) 0;
              error = refl;
              keys = keys_stored h.count h.loaded d.kinds d.sizes d.locks p.keys shaped.kinds shaped.sizes kind (length k) lawful type is p.numbers.loaded few;
            })))
            (λ _. failed_kept BadSize))
            (λ _. failed_kept BadType)

        idle_kept : (checked : Checked) → CheckedLawful S h.boundary checked → (command : Command) (i : ℕ)
            → Kept (idle h (look d.kinds d.locks i) checked command i (length k))
        idle_kept checked lawful GetState i = get_kept
        idle_kept checked lawful FwUpgrade i = upgrade_kept checked lawful
        idle_kept checked lawful FwDelete i = delete_kept
        idle_kept checked lawful UpdateAuthKey i = update_kept
        idle_kept checked lawful LockAuthKey i = lock_auth_kept
        idle_kept checked lawful StoreUsrKey i = store_kept i i
        idle_kept checked lawful LoadUsrKey i = load_kept i
        idle_kept checked lawful StartWs i = start_kept
        idle_kept checked lawful LockUsrKey i = lock_kept i
        idle_kept checked lawful UnloadUsrKey i = unload_kept i
        idle_kept checked lawful ActivateAntirollback i = antirollback_kept

  -- what is decided on a command with the first payload byte i and the key bytes k
  abbrev pub decided_on : Checked → Command → ℕ → List ℕ → Step
  decided_on checked command i k = decided d.head (look d.kinds d.locks i) checked command i (length k)

  module _ (k : List ℕ) (p : Parts S top d) (shaped : Shaped d) (checked : Checked) (lawful : CheckedLawful S d.head.boundary checked) (command : Command) (i : ℕ) where
    by_mode : (m : Mode) → d.head.mode ≡ m
        → Parts S top (carried (situated m (stack_running d.head command) (job_under_way d.head command) (idle d.head (look d.kinds d.locks i) checked command i (length k))) k d)
    by_mode Stack m = running_kept k p command m
    by_mode Idle m = idle_kept k p m shaped checked lawful command i
    by_mode (Upgrade q size version recorded) m = under_kept k p command
    by_mode (Delete recorded) m = under_kept k p command

    decided_parts : Parts S top (carried (decided_on checked command i k) k d)
    unfolding decided
    decided_parts = by_mode d.head.mode refl

  pub decided_sound : (k : List ℕ) → sound S top d ≡ true → Shaped d → (checked : Checked) → CheckedLawful S d.head.boundary checked → (command : Command) (i : ℕ)
      → sound S top (carried (decided_on checked command i k) k d) ≡ true
  decided_sound k e shaped checked lawful command i =
      whole S top (carried (decided_on checked command i k) k d) (decided_parts k (parts S top d e) shaped checked lawful command i)
