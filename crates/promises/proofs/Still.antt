-- One law for all calls; and what each call does to a sound device with a job.
-- Assumes nothing.
use lib.Dec.{leb, eqb}
use Prim.Native.Nat.{ℕ, ◌*◌, ◌≤◌}
use mathlib.Core.Bool.{Bool, true, false}
use mathlib.Core.Path.{◌≡◌, refl}
use mathlib.Core.List.{List, [], ◌∷◌}
use borrow.Author.Tests.{le-leb, eqb-true, eq-eqb}
use lib.ListN.{length}
use Rattle.basics.specs.Choice.{pick}
use Rattle.packet.specs.declared.Command.{Command}
use Rattle.packet.specs.declared.Command.TheVariants.{GetState}
use Rattle.packet.specs.declared.Request.{Request}
use Rattle.packet.specs.Packets.{lawful_of, command_of, read_of}
use Rattle.std.specs.Prelude.{Result, Ok, Err}
use Rattle.reply.specs.Replies.{response, event, replied}
use Rattle.answer.specs.declared.Checked.{Checked}
use Rattle.device.specs.Types.{Step, Look, Device}
use Rattle.device.specs.declared.Mode.{Mode}
use Rattle.device.specs.declared.Mode.TheVariants.{Stack, Idle, Upgrade, Delete}
use Rattle.commands.specs.Commands.{is_get_state, job_under_way}
use Rattle.decisions.specs.Decisions.{situated, decided, searches}
use Rattle.device.specs.Whole.{carried, lost}
use Rattle.soundness.specs.Sound.{sound}
use Rattle.packet.specs.declared.Refusal.{Refusal}
use Rattle.services.specs.Calls.{Numbers, Verdict, granted, HandleResult, RestartResult, WorkResult, CutResult, gated, passed, lent, key_in, handle_refused, answered, by_reading, handled, restart_result, restart_refused, event_for, restarted, worked_on, working, work_result, work_refused, worked, cut_in, cutting, restarting, cut_refused, cut_off}
use Rattle.device.specs.Modes.{has_job}
use Rattle.services.proofs.Gated.{opens, all_open}
use Rattle.services.proofs.Laws.{handled_by}
use Rattle.promises.specs.Demand.{Event, packet, restart, work, cut, State, called}
use Rattle.promises.proofs.Under.{fus_runs, never}

-- a test that picks: what holds of both holds of the pick
pub by_test : {A : Type 0} (Q : A → Type 0) (t : Bool) (x y : A) → (t ≡ true → Q x) → Q y → Q (pick t x y)
unfolding pick
by_test Q true x y p q = p refl
by_test Q false x y p q = q

pub either : {A : Type 0} (Q : A → Type 0) (t : Bool) (x y : A) → Q x → Q y → Q (pick t x y)
either Q t x y p q = by_test Q t x y (λ e. p) q

-- what holds of a taken call and of every refusal holds of the call
by_verdict : {A : Type 0} (Q : A → Type 0) (v : Verdict) (x : A) (back : Refusal → A) → (v ≡ granted → Q x) → ((r : Refusal) → Q (back r)) → Q (passed v x back)
by_verdict Q (Ok done) x back p q = p refl
by_verdict Q (Err r) x back p q = q r

-- THE LAW: what holds of device and flash before a call, and of what the call leaves where it is taken, holds of what it leaves
module _ (k : Numbers) (d : Device) (F : List ℕ) (Q : State → Type 0) where
  abbrev job : Bool
  job = has_job d.head.mode

  abbrev pub Leaves : Event → Type 0
  Leaves (packet s R) = (command : Command) (n : ℕ) → read_of s ≡ lawful_of command n → Q ((answered k d F s R command).device, (answered k d F s R command).flash)
  Leaves (restart R) = Q (lost d, F)
  Leaves work = job ≡ true → Q ((worked_on k d F).device, (worked_on k d F).flash)
  Leaves (cut x through R) = (job ≡ true → length x ≡ k.size → Q ((cut_in k d F x through R).device, (cut_in k d F x through R).flash)) × Q (lost d, F)

  module _ (same : Q (d, F)) where
    abbrev whole : Bool
    whole = sound k.size k.top d

    by_reading_lem : (s R : List ℕ) (r : Result Request Refusal) → read_of s ≡ r → Leaves (packet s R) → Q ((by_reading r k d F s R).device, (by_reading r k d F s R).flash)
    by_reading_lem s R (Ok request) e t = t request.command request.length e
    by_reading_lem s R (Err r) e t = same

    pub by_call : (v : Event) → Leaves v → Q (called k v (d, F))
    unfolding handled restarted worked cut_off
    by_call (packet s R) t =
        by_verdict (λ (r : HandleResult). Q (r.device, r.flash)) (gated whole (lent k F) (leb 8 (length R)) true) (by_reading (read_of s) k d F s R) (handle_refused d F R)
        (λ o. by_reading_lem s R (read_of s) refl t) (λ r. same)
    by_call (restart R) t =
        by_verdict (λ (r : RestartResult). Q (r.device, F)) (gated whole true (leb 6 (length R)) true) (restart_result granted (lost d) (event_for d (length R))) (restart_refused d R) (λ o. t) (λ r. same)
    by_call work t =
        let P : WorkResult → Type 0 = λ r. Q (r.device, r.flash) in
        by_verdict P (gated whole (lent k F) true true) (working k d F) (work_refused d F) (λ o. by_test P job (worked_on k d F) (work_result granted d F 0) t same) (λ r. same)
    by_call (cut x through R) t =
        let P : CutResult → Type 0 = λ r. Q (r.device, r.flash) in
        let fits : Bool = leb 6 (length R) in
        let filled : Bool = eqb (length x) k.size in
        by_verdict P (gated whole (lent k F) fits filled) (cutting k d F x through R) (cut_refused d F R)
        (λ o. by_test P job (cut_in k d F x through R) (restarting d F R) (λ j. t.0 j (eqb-true _ _ (opens whole (lent k F) fits filled o).filler)) t.1) (λ r. same)

-- the situation is that of a job, and no image is looked for
under_way : (mode : Mode) (a b c : Step) → has_job mode ≡ true → situated mode a b c ≡ b
under_way Stack a b c j = absurd (never j)
under_way Idle a b c j = absurd (never j)
under_way (Upgrade p size version recorded) a b c j = refl
under_way (Delete recorded) a b c j = refl

pub no_search : (mode : Mode) (command : Command) → has_job mode ≡ true → searches mode command ≡ false
no_search Stack command j = refl
no_search Idle command j = absurd (never j)
no_search (Upgrade p size version recorded) command j = refl
no_search (Delete recorded) command j = refl

module _ (k : Numbers) (d : Device) (F : List ℕ) (job : has_job d.head.mode ≡ true) where
  decided_under : (l : Look) (checked : Checked) (command : Command) (i n : ℕ) → decided d.head l checked command i n ≡ job_under_way d.head command
  unfolding decided
  decided_under l checked command i n = under_way d.head.mode _ _ _ job

  carried_still : (command : Command) (key : List ℕ) → carried (job_under_way d.head command) key d ≡ d
  unfolding job_under_way
  carried_still command key = either (λ (s : Step). carried s key d ≡ d) (is_get_state command) _ _ refl refl

  -- a packet, lawful or not, changes neither device nor flash
  pub packet_still : (bytes R : List ℕ) → ((handled k d F bytes R).device ≡ d) × ((handled k d F bytes R).flash ≡ F)
  unfolding pick
  packet_still bytes R =
      by_call k d F (λ (s : State). (s.0 ≡ d) × (s.1 ≡ F)) (refl, refl) (packet bytes R)
      (λ command n e. (rw (decided_under _ _ command _ _) (carried_still command (key_in command bytes)), rw (no_search d.head.mode command job)))

  module _ (s : sound k.size k.top d ≡ true) (e : length F ≡ k.count * k.size) where
    -- a state request is answered 0x10 0x00
    pub asked_so : (R : List ℕ) → 8 ≤ length R → (handled k d F (0x10 ∷ 0x52 ∷ 0xFC ∷ 0x00 ∷ []) R).reply ≡ replied 8 (length R) (response GetState 0x10 0x00)
    unfolding read_of command_of pick job_under_way
    asked_so R h = rw (handled_by k d F (0x10 ∷ 0x52 ∷ 0xFC ∷ 0x00 ∷ []) R s e h) (rw (decided_under _ _ GetState _ _))

    -- the start event says FUS
    pub started_so : (R : List ℕ) → 6 ≤ length R → (restarted k d R).reply ≡ replied 6 (length R) (event false)
    unfolding restarted
    started_so R h = rw (all_open _ true _ true s refl (le-leb _ _ h) refl, fus_runs d.head.mode job)

    pub worked_so : worked k d F ≡ worked_on k d F
    unfolding worked pick
    worked_so = rw (all_open _ _ true true s (eq-eqb _ _ e) refl refl, job)
