-- CALLS IN A ROW. A fine device stays fine: every call keeps soundness, the lengths of the arrays, and words that are words. So it has bytes
-- of its own, and a call on them leaves the bytes of what the call by value leaves.
-- Assumes nothing.
use Rattle.std.specs.Prelude.{Option, Some, None, Result, Err}
use Prim.Native.Nat.{ℕ, ◌+◌, ◌-◌, ◌*◌, ◌≤◌, ◌<◌}
use mathlib.Core.Bool.{true}
use mathlib.Core.Path.{◌≡◌, refl, subst, sym, ap, ◌∙◌}
use mathlib.Core.List.{List, [], ◌∷◌}
use native.Mathlib.Omega.{arith}
use borrow.Author.Tests.{leb-true, leb-false, le-leb, eqb-true, eq-eqb}
use lib.Dec.{leb, eqb}
use lib.ListN.{length, drop, set, length-set, length-append, length-take, length-drop}
use Rattle.basics.specs.Choice.{pick, and_left, and_right}
use Rattle.basics.specs.Words.{byte_at, half_at, zeros, put_at}
use Rattle.basics.proofs.Words.{length_zeros}
use Rattle.packet.specs.declared.Refusal.{Refusal}
use Rattle.packet.specs.declared.Refusal.TheVariants.{PacketShort, NoCommand, LengthDiffers, OpcodeUnlisted, PayloadLength, InnerSize}
use Rattle.packet.specs.declared.Command.{Command}
use Rattle.packet.specs.declared.Command.TheVariants.{GetState, FwUpgrade, FwDelete, UpdateAuthKey, LockAuthKey, StoreUsrKey, LoadUsrKey, StartWs, LockUsrKey, UnloadUsrKey, ActivateAntirollback}
use Rattle.packet.specs.declared.Request.{Request}
use Rattle.packet.specs.Packets.{lawful_of, command_of, length_allowed, inner_allowed, judged as read, read_of}
use Rattle.answer.specs.declared.Checked.{Checked}
use Rattle.image.specs.declared.Terms.{Terms}
use Rattle.image.specs.Images.{find, decided as checks, judged, after_find, checked_of}
use Rattle.plan.specs.declared.Store.{Store}
use Rattle.plan.specs.Stores.{Progress, going, ended, onward, cut_short}
use Rattle.device.specs.declared.Head.{Head}
use Rattle.device.specs.Types.{Device, Step, Look, Effect, Keep, Drop, Lock, Put, Auth}
use Rattle.device.specs.declared.Mode.{Mode}
use Rattle.device.specs.declared.Mode.TheVariants.{Stack, Idle, Upgrade, Delete}
use Rattle.device.specs.Kind.{fresh_device}
use Rattle.device.specs.Modes.{has_job, recorded_in, with_recorded}
use Rattle.device.specs.Heads.{lost_head}
use Rattle.device.specs.Whole.{Shaped, with_head, with_locks, fits, look, apply, lost}
use Rattle.device.specs.Layout.{Word, p_of, size_of, version_of, Bounded, encode, decode, Bytes, record_length, mode_at, version_at, image_version_at, floor_at, locks_at, key_at, kinds_at, sizes_at, keys_at, mode_in, part, head_in}
use Rattle.device.proofs.RoundTrip.{decode_encode}
use Rattle.keys.specs.Keys.{type_lawful, key_lawful, store_key, load_key}
use Rattle.keys.proofs.Laws.{small}
use Rattle.commands.specs.Commands.{stack_running, job_under_way, upgrade}
use Rattle.decisions.specs.Decisions.{idle, situated, decided, searches}
use Rattle.soundness.specs.Sound.{job_of}
use Rattle.soundness.proofs.Clauses.{sound_means}
use Rattle.soundness.proofs.Keeps.{fresh_sound}
use Rattle.soundness.proofs.Laws.{chosen}
use Rattle.soundness.proofs.Record.{encode_sound, record_length_lem}
use Rattle.jobs.specs.Jobs.{committed, progressed, next_store}
use Rattle.jobs.proofs.Turns.{recorded_few}
use Rattle.services.specs.Calls.{Numbers, Sensible, first, terms_of, checked_for, key_in, step_for, handled, restarted, worked, cut_off}
use Rattle.services.specs.InPlace.{HandlePlaced, RestartPlaced, WorkPlaced, CutPlaced, handle_in_bytes, restart_in_bytes, work_in_bytes, cut_in_bytes, sound_for, fresh_in_place, handled_in_place, restarted_in_place, worked_in_place, cut_in_place}
use Rattle.services.proofs.Laws.{boundary_low, first_sensible}
use Rattle.services.proofs.Doings.{doing}
use Rattle.services.proofs.Outcomes.{sound_in, unchanged}
use Rattle.promises.specs.Demand.{Event, packet, restart, work, cut, State, called}
use Rattle.promises.specs.InBytes.{Worded, Fine, Held, Bytewise, bytes_of, called_in, in_turn, Filled, AllFilled}
use Rattle.promises.proofs.Still.{by_test, either, Leaves, by_call, no_search}
use Rattle.promises.proofs.Kept.{kept}
use Rattle.promises.proofs.Flash.{drop_bytes, checked_bytes, stored_bytes, spoilt_bytes, word_of}

zero_word : Word 0
zero_word = omega arith

-- ---- a step has room for what it puts, and leaves words that are words
module _ (n : ℕ) (h : Head) (w : Worded h) (l : Look) where
  abbrev Keeps : Step → Type 0
  Keeps s = (fits s.effect n ≡ true) × Worded s.head

  store_keeps : (kind : ℕ) → Keeps (store_key h l kind n)
  unfolding store_key
  store_keeps kind =
      either Keeps (type_lawful kind) _ _
      (chosen Keeps (key_lawful kind n) _ _
      (λ lawful.
      let few : leb n 44 ≡ true = le-leb n 44 (small kind n lawful) in
      either Keeps (eqb kind 2) _ _ (either Keeps (eqb l.master 2) _ _ (refl, w) (few, w))
      (chosen Keeps (leb 100 h.count) _ _ (λ _. (refl, w))
      (λ full.
      let less : h.count < 100 = leb-false 100 h.count full in
      (rw (le-leb (h.count + 1) 100 (omega arith), few), w))))
      (λ _. (refl, w))) (refl, w)

  -- the version of an image that the checks take is a word
  module _ (S : ℕ) (terms : Terms) (key F : List ℕ) (b : Bytes F) where
    found_keeps : (f : Option ℕ) → Keeps (upgrade h (after_find S terms key F f))
    unfolding judged checks
    found_keeps None = (refl, w)
    found_keeps (Some p) =
        let Q : Checked → Type 0 = λ c. Keeps (upgrade h c) in
        let v = word_of (drop (p * S) F) 12 (drop_bytes (p * S) F b) in
        either Q _ _ _ (either Q _ _ _ (either Q _ _ _ (either Q _ _ _ (either Q _ _ _ (either Q _ _ _ (refl, (w.0, v, w.2)) (refl, w)) (refl, w)) (refl, w)) (refl, w)) (refl, w)) (refl, w)

    checked_keeps : Keeps (upgrade h (checked_of S terms key F))
    unfolding checked_of
    checked_keeps = found_keeps (find S F terms.boundary)

  module _ (c : Checked) (v : Keeps (upgrade h c)) (command : Command) (i : ℕ) (auth : command ≡ UpdateAuthKey → n ≡ 64) where
    idle_keeps : (x : Command) → command ≡ x → Keeps (idle h l c x i n)
    unfolding load_key
    idle_keeps GetState e = (refl, w)
    idle_keeps FwUpgrade e = v
    idle_keeps FwDelete e = either Keeps _ _ _ (refl, (w.0, zero_word, w.2)) (refl, w)
    idle_keeps UpdateAuthKey e = either Keeps _ _ _ (refl, w) (eq-eqb n 64 (auth e), w)
    idle_keeps LockAuthKey e = either Keeps _ _ _ (refl, w) (refl, w)
    idle_keeps StoreUsrKey e = store_keeps i
    idle_keeps LoadUsrKey e = either Keeps _ _ _ (either Keeps _ _ _ (either Keeps _ _ _ (refl, w) (refl, w)) (refl, w)) (refl, w)
    idle_keeps StartWs e = either Keeps _ _ _ (refl, (w.0, zero_word, w.2)) (refl, w)
    idle_keeps LockUsrKey e = either Keeps _ _ _ (refl, w) (refl, w)
    idle_keeps UnloadUsrKey e = either Keeps _ _ _ (refl, w) (refl, w)
    -- the floor becomes the stack version
    idle_keeps ActivateAntirollback e = either Keeps _ _ _ (refl, w) (refl, (w.0, w.1, w.0))

    by_mode : (m : Mode) → Keeps (situated m (stack_running h command) (job_under_way h command) (idle h l c command i n))
    unfolding stack_running job_under_way
    by_mode Stack = either Keeps _ _ _ (either Keeps _ _ _ (refl, (w.0, zero_word, w.2)) (refl, w)) (refl, w)
    by_mode Idle = idle_keeps command refl
    by_mode (Upgrade p size version recorded) = either Keeps _ _ _ (refl, w) (refl, w)
    by_mode (Delete recorded) = either Keeps _ _ _ (refl, w) (refl, w)

    decided_keeps : Keeps (decided h l c command i n)
    unfolding decided
    decided_keeps = by_mode h.mode

-- ---- the arrays' lengths, and the words
abbrev Formed : Device → Type 0
Formed d = Shaped d × Worded d.head

module _ (d : Device) (s : Shaped d) where
  shape : (h : Head) (l : List ℕ) → length l ≡ 101 → Shaped (with_locks l (with_head h d))
  shape h l e = record { locks = e; key = s.key; kinds = s.kinds; sizes = s.sizes; bytes = s.bytes }

  -- after an effect
  applied : (x : Effect) (h : Head) (key : List ℕ) → fits x (length key) ≡ true → Worded h → Formed (apply x key (with_head h d))
  applied Keep h key e w = (shape h d.locks s.locks, w)
  applied Drop h key e w = (shape h (zeros 101) (length_zeros 101), w)
  applied (Lock i) h key e w = (shape h (set d.locks i 1) (simp length-set s.locks), w)
  applied (Put i kind) h key e w =
      let slot : i ≤ 100 = leb-true _ _ (and_left (leb i 100) _ e) in
      let few : length key ≤ 44 = leb-true _ _ (and_right (leb i 100) _ e) in
      let long : length (put_at d.bytes (i * 44) key) ≡ 4444 = simp (length-append, length-take, length-drop, s.bytes) (omega arith) in
      (record { locks = s.locks; key = s.key; kinds = simp length-set s.kinds; sizes = simp length-set s.sizes; bytes = long }, w)
  applied Auth h key e w = (record { locks = s.locks; key = eqb-true (length key) 64 e; kinds = s.kinds; sizes = s.sizes; bytes = s.bytes }, w)

  lost_so : Worded d.head → Formed (lost d)
  lost_so w = (shape (lost_head d.head) (zeros 101) (length_zeros 101), w)

  -- at a point of a job, and at its end: the stack's version is then the image's, and the floor too
  going_word : (n : ℕ) (m : Mode) → Word (version_of m) → Word (version_of (with_recorded n m))
  going_word n Stack v = v
  going_word n Idle v = v
  going_word n (Upgrade p size version recorded) v = v
  going_word n (Delete recorded) v = v

  ended_words : (S top : ℕ) (h : Head) → Worded h → (m : Mode) → Word (version_of m) → Worded (committed S top m h)
  ended_words S top h w Stack v = w
  ended_words S top h w Idle v = w
  ended_words S top h w (Upgrade p size version recorded) v = (v, zero_word, either Word h.rollback version h.floor v w.2)
  ended_words S top h w (Delete recorded) v = (omega arith, zero_word, w.2)

  progressed_so : (S top : ℕ) → Worded d.head → (to : Progress) → Formed (progressed S top d to)
  progressed_so S top w (going n m) = (shape _ d.locks s.locks, (w.0, going_word n d.head.mode w.1, w.2))
  progressed_so S top w ended = (shape _ (zeros 101) (length_zeros 101), ended_words S top d.head w d.head.mode w.1)

-- ---- a packet that is read as a new authentication key has 69 bytes, whatever its numbers are
module _ (s : List ℕ) (n : ℕ) where
  abbrev Long : Result Request Refusal → Type 0
  Long r = r ≡ lawful_of UpdateAuthKey n → length s ≡ 69

  no : (r : Refusal) → Long (Err r)
  no r e = let z : ◌≡◌ {A = ℕ} 0 1 = cc in absurd (omega arith)

  same_command : (x y : Command) (m : ℕ) → ◌≡◌ {A = Result Request Refusal} (lawful_of x m) (lawful_of y n) → x ≡ y
  same_command x y m e =
      let q : ◌≡◌ {A = Request} (record { command = x; length = m }) (record { command = y; length = n }) = cc in
      ap (λ (r : Request). r.command) q

  by_opcode : eqb (byte_at s 3 + 4) (length s) ≡ true → (o : Option Command) → Long (read o s (byte_at s 3))
  by_opcode l None = no OpcodeUnlisted
  by_opcode l (Some x) =
      by_test Long (length_allowed x (byte_at s 3)) _ _
      (λ a.
      either Long (inner_allowed x s (byte_at s 3)) _ _
      (λ e.
      let c : x ≡ UpdateAuthKey = same_command x UpdateAuthKey (byte_at s 3) e in
      let m = subst (λ (y : Command). length_allowed y (byte_at s 3) ≡ true) c a in
      omega (arith, eqb-true (byte_at s 3 + 4) (length s) l, eqb-true (byte_at s 3) 65 m)) (no InnerSize)) (no PayloadLength)

  read_long : Long (read_of s)
  unfolding read_of
  read_long = either Long _ _ _ (no PacketShort) (either Long _ _ _ (by_test Long _ _ _ (λ l. by_opcode l (command_of (half_at s 1))) (no LengthDiffers)) (no NoCommand))

  auth_length : (command : Command) → read_of s ≡ lawful_of command n → command ≡ UpdateAuthKey → length (key_in command s) ≡ 64
  unfolding pick
  auth_length command e u = rw (u, length-drop 5 s, read_long (rw u at e))

-- ---- the calls
module _ (k : Numbers) (sensible : Sensible k) (d : Device) (f : Fine k d) where
  abbrev next : Store
  next = next_store k.size k.top d.head

  module _ (F : List ℕ) where
    abbrev found : Command → Checked
    found command = checked_for k d.head command d.key F

    module _ (checked : (n : ℕ) (l : Look) (command : Command) → Keeps n d.head f.worded l (upgrade d.head (found command))) where
      taken_formed : (v : Event) → Leaves k d F (λ (s : State). Formed s.0) v
      taken_formed (packet s R) =
          λ command m e.
          let t : Step = step_for d command s (found command) in
          let l : Look = look d.kinds d.locks (byte_at s 4) in
          let n : ℕ = length (key_in command s) in
          let q = decided_keeps n d.head f.worded l (found command) (checked n l command) command (byte_at s 4) (auth_length s m command e) in
          applied d f.shaped t.effect t.head (key_in command s) q.0 q.1
      taken_formed (restart R) = lost_so d f.shaped f.worded
      taken_formed work = λ j. progressed_so d f.shaped k.size k.top f.worded (onward next (recorded_in d.head.mode) d.head.made)
      taken_formed (cut x through R) =
          let to : Progress = cut_short next through (recorded_in d.head.mode) in
          let p = progressed_so d f.shaped k.size k.top f.worded to in
          (λ j e. lost_so (progressed k.size k.top d to) p.0 p.1, lost_so d f.shaped f.worded)

      fine : (v : Event) → Fine k (called k v (d, F)).0
      fine v =
          let q : Formed (called k v (d, F)).0 = by_call k d F (λ (s : State). Formed s.0) (f.shaped, f.worded) v (taken_formed v) in
          record { is_sound = kept k sensible d f.is_sound F f.shaped v; shaped = q.0; worded = q.1 }

    -- during a job nothing is asked of the flash: no image is looked for
    pub fine_busy : has_job d.head.mode ≡ true → (v : Event) → Fine k (called k v (d, F)).0
    unfolding pick
    fine_busy j v = fine (λ n l command. rw (no_search d.head.mode command j) (refl, f.worded)) v

    module _ (b : Bytes F) where
      -- every call, with any arguments, leaves a fine device from one, where the flash is bytes: an image's version is read from it
      pub fine_called : (v : Event) → Fine k (called k v (d, F)).0
      fine_called v =
          fine (λ n l command. either (λ (c : Checked). Keeps n d.head f.worded l (upgrade d.head c)) (searches d.head.mode command) _ _ (checked_keeps n d.head f.worded l k.size (terms_of d.head) d.key F b) (refl, f.worded)) v

      taken_bytes : (v : Event) → Filled v → Leaves k d F (λ (s : State). Bytes s.1) v
      taken_bytes (packet s R) x = λ command n e. checked_bytes k.size F b (found command)
      taken_bytes (restart R) x = b
      taken_bytes work x = λ j. stored_bytes k.size F b next
      taken_bytes (cut filler through R) x = (λ j e. spoilt_bytes k.size F b next filler x, b)

      -- and flash bytes stay bytes
      pub flash_called : (v : Event) → Filled v → Bytes (called k v (d, F)).1
      flash_called v x = by_call k d F (λ (s : State). Bytes s.1) b v (taken_bytes v x)

  -- ---- what is fine has bytes of its own. A mode's numbers are its job's, and 0 without one
  mode_words : (b : ℕ) (m : Mode) → (has_job m ≡ true → Word (job_of b m).p × Word (job_of b m).size × Word (recorded_in m)) → Word (p_of m) × Word (size_of m) × Word (recorded_in m)
  mode_words b Stack g = (zero_word, zero_word, zero_word)
  mode_words b Idle g = (zero_word, zero_word, zero_word)
  mode_words b (Upgrade p size version recorded) g = g refl
  mode_words b (Delete recorded) g = g refl

  pub bounded : Bounded d.head
  bounded =
      let h : Head = d.head in
      let low : h.boundary ≤ k.top = boundary_low k.size k.top d f.is_sound in
      let top : k.top ≤ 65536 = omega (arith, sensible.below, sensible.few) in
      let sectors : h.sectors ≡ k.top - h.boundary = (sound_means k.size k.top (omega (arith, sensible.header)) d f.is_sound).sectors in
      let m = mode_words h.boundary h.mode (λ j. let a = doing k d sensible f.is_sound j in (omega (arith, a.able.room, a.able.under), a.range.image, omega (arith, recorded_few a))) in
      record { version = f.worded.0; sectors = omega arith; boundary = omega arith; p = m.0; size = m.1; image = f.worded.1; recorded = m.2; floor = f.worded.2 }

  pub there_and_back : decode (encode d) ≡ d
  there_and_back = decode_encode d f.shaped bounded

  pub passes : sound_for k (encode d) ≡ true
  passes = encode_sound d f.shaped bounded k.size k.top f.is_sound

-- a fresh device is fine
pub fresh_fine : Fine first fresh_device
unfolding fresh_device
fresh_fine =
    let s : Shaped fresh_device = record { locks = length_zeros 101; key = length_zeros 64; kinds = length_zeros 101; sizes = length_zeros 101; bytes = length_zeros 4444 } in
    record { is_sound = fresh_sound; shaped = s; worded = (omega arith, zero_word, zero_word) }

-- ---- a slice's bytes that pass the test hold a device
module _ (l : List ℕ) where
  decoded_shaped : length l ≡ record_length → Shaped (decode l)
  unfolding decode
  decoded_shaped e =
      record { locks = long locks_at 101 (omega arith); key = long key_at 64 (omega arith); kinds = long kinds_at 101 (omega arith); sizes = long sizes_at 101 (omega arith); bytes = long keys_at 4444 (omega arith) }
    where
      long : (at n : ℕ) → at + n ≤ length l → length (part at n l) ≡ n
      long at n h = simp (length-take, length-drop) (omega arith)

  decoded_worded : Bytes l → Worded (decode l).head
  unfolding decode head_in
  decoded_worded b = (word_of l version_at b, image, word_of l floor_at b)
    where
      image : Word (version_of (mode_in l))
      image =
          let Q : Mode → Type 0 = λ m. Word (version_of m) in
          either Q (eqb (byte_at l mode_at) 0) _ _ (omega arith) (either Q (eqb (byte_at l mode_at) 1) _ _ (omega arith) (either Q (eqb (byte_at l mode_at) 2) _ _ (word_of l image_version_at b) (omega arith)))

  pub held_by : (k : Numbers) → Bytes l → sound_for k l ≡ true → Held k l
  held_by k b s =
      let long : length l ≡ record_length = record_length_lem k.size k.top l s in
      record { device = record { is_sound = sound_in k l s; shaped = decoded_shaped long; worded = decoded_worded b }; one_to_one = unchanged k l s b }

module _ (k : Numbers) (sensible : Sensible k) where
  -- ---- a device's bytes hold it
  pub held_of : (d : Device) → Fine k d → Held k (encode d)
  held_of d f =
      let q : decode (encode d) ≡ d = there_and_back k sensible d f in
      record { device = subst (Fine k) (sym q) f; one_to_one = ap encode q }

  -- and bytes that hold one pass the test
  pub held_passes : (l : List ℕ) → Held k l → sound_for k l ≡ true
  held_passes l h = subst (λ (x : List ℕ). sound_for k x ≡ true) h.one_to_one (passes k sensible (decode l) h.device)

  -- ---- a call
  module _ (d : Device) (f : Fine k d) (F : List ℕ) where
    -- on a device's bytes, what a call makes of the device: answer, reply and all
    pub placed : {A : Type 0} (call : Device → A) (x : A) → pick (sound_for k (encode d)) (call (decode (encode d))) x ≡ call d
    unfolding pick
    placed call x = rw (passes k sensible d f, there_and_back k sensible d f)

    pub called_same : (v : Event) → called_in k v (encode d, F) ≡ bytes_of (called k v (d, F))
    unfolding handled_in_place restarted_in_place worked_in_place cut_in_place
    called_same (packet s R) = ap (λ (r : HandlePlaced). (r.bytes, r.flash)) (placed (λ e. handle_in_bytes (handled k e F s R)) _)
    called_same (restart R) = ap (λ (r : RestartPlaced). (r.bytes, F)) (placed (λ e. restart_in_bytes (restarted k e R)) _)
    called_same work = ap (λ (r : WorkPlaced). (r.bytes, r.flash)) (placed (λ e. work_in_bytes (worked k e F)) _)
    called_same (cut x through R) = ap (λ (r : CutPlaced). (r.bytes, r.flash)) (placed (λ e. cut_in_bytes (cut_off k e F x through R)) _)

  -- ---- calls in a row, on a flash of bytes: those on bytes leave what those by value do, and what the next call asks is there again
  pub chain : (es : List Event) (s : State) → Fine k s.0 → Bytes s.1 → AllFilled es
      → (in_turn (called_in k) es (bytes_of s) ≡ bytes_of (in_turn (called k) es s)) × Fine k (in_turn (called k) es s).0 × Bytes (in_turn (called k) es s).1
  unfolding in_turn AllFilled
  chain [] s f b x = (refl, f, b)
  chain (v ∷ es) (d, F) f b x =
      let g = chain es (called k v (d, F)) (fine_called k sensible d f F b v) (flash_called k sensible d f F b v x.0) x.1 in
      (rw (called_same d f F v) g.0, g.1, g.2)

  -- and from any bytes that hold a device
  module _ (l F : List ℕ) (h : Held k l) (es : List Event) (b : Bytes F) (x : AllFilled es) where
    pub calls_bytes : in_turn (called_in k) es (l, F) ≡ bytes_of (in_turn (called k) es (decode l, F))
    calls_bytes = ap (λ (m : List ℕ). in_turn (called_in k) es (m, F)) (sym h.one_to_one) ∙ (chain es (decode l, F) h.device b x).0

    pub calls_held : Held k (in_turn (called_in k) es (l, F)).0 × Bytes (in_turn (called_in k) es (l, F)).1
    calls_held =
        let g = chain es (decode l, F) h.device b x in
        subst (λ (s : Bytewise). Held k s.0 × Bytes s.1) (sym calls_bytes) (held_of (in_turn (called k) es (decode l, F)).0 g.1, g.2)

-- ---- a fresh record
pub fresh_held : (l : List ℕ) → length l ≡ record_length → Held first (fresh_in_place l).bytes
unfolding fresh_in_place pick
fresh_held l e = rw (eq-eqb (length l) record_length e) (held_of first first_sensible fresh_device fresh_fine)
