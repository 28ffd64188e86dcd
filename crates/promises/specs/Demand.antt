-- DEMAND 3. Once an upgrade or delete is accepted, power may be cut during any store, any number of times, with restarts and any packets
-- between. What is assumed of the world is what an event can be: a call, with any arguments; nobody else changes flash or device.
use Rattle.std.specs.Prelude.{ℕ, suc, ◌*◌, ◌≤◌, Bool, true, false, ◌≡◌, List, [], ◌∷◌, length}
use Rattle.basics.specs.Choice.{pick}
use Rattle.packet.specs.declared.Command.TheVariants.{GetState}
use Rattle.reply.specs.Replies.{response, event, replied}
use Rattle.plan.specs.declared.Job.{Job}
use Rattle.plan.specs.Placement.{store_count}
use Rattle.plan.specs.Stores.{going, left}
use Rattle.plan.specs.Final.{final_flash}
use Rattle.device.specs.Types.{Device}
use Rattle.device.specs.Whole.{lost}
use Rattle.soundness.specs.Sound.{job_of, plan_for, sound}
use Rattle.services.specs.Calls.{Numbers, handled, restarted, worked, cut_off}
use Rattle.device.specs.Modes.{has_job, recorded_in}
use Rattle.jobs.specs.Jobs.{progressed, finished}

-- an event: a call with any arguments. A packet may be lawful, damaged or rubbish, a filler or a reply buffer of any length: what breaks the
-- rules is a refused call
pub data Event : Type 0 where
  packet : (bytes reply : List ℕ) → Event
  restart : (reply : List ℕ) → Event
  work : Event
  cut : (filler : List ℕ) (through : Bool) (reply : List ℕ) → Event

-- device and flash
abbrev pub State : Type 0
State = Device × List ℕ

-- what a call leaves: the definitions that the calls' contracts cite
abbrev pub called : Numbers → Event → State → State
called k (packet s R) (d, F) = ((handled k d F s R).device, (handled k d F s R).flash)
called k (restart R) (d, F) = ((restarted k d R).device, F)
called k work (d, F) = ((worked k d F).device, (worked k d F).flash)
called k (cut x through R) (d, F) = ((cut_off k d F x through R).device, (cut_off k d F x through R).flash)

-- a job is under way
abbrev pub busy : State → Bool
busy (d, F) = has_job d.head.mode

-- the calls in turn, up to the job's end
unfoldable pub ran : Numbers → List Event → State → State
ran k [] s = s
ran k (e ∷ es) s = pick (busy s) (ran k es (called k e s)) s

-- the works in a list of events, and a list with no cut and no restart
unfoldable pub works_in : List Event → ℕ
works_in [] = 0
works_in (work ∷ es) = suc (works_in es)
works_in (packet s R ∷ es) = works_in es
works_in (restart R ∷ es) = works_in es
works_in (cut x through R ∷ es) = works_in es

unfoldable pub NoCut : List Event → Type 0
NoCut [] = Unit {0}
NoCut (work ∷ es) = NoCut es
NoCut (packet s R ∷ es) = NoCut es
NoCut (restart R ∷ es) = ⊥
NoCut (cut x through R ∷ es) = ⊥

-- the job of a device, and its number of stores: 3b + 2c + 1
abbrev pub job_in : Device → Job
job_in d = job_of d.head.boundary d.head.mode

abbrev pub stores : Numbers → Device → ℕ
stores k d = store_count k.size k.top (job_in d)

-- the stores that a device has still to do
abbrev pub to_do : Numbers → Device → ℕ
to_do k d = pick (has_job d.head.mode) (left (plan_for k.size k.top d.head) (recorded_in d.head.mode) d.head.made) 0

-- just accepted: a sound record with a job of which nothing is done, and the lent flash
pub record Accepted (k : Numbers) (d : Device) (F : List ℕ) : Type 0 where
  pub record_sound : sound k.size k.top d ≡ true
  pub lent_flash : length F ≡ k.count * k.size
  pub job : has_job d.head.mode ≡ true
  pub none_recorded : recorded_in d.head.mode ≡ 0
  pub none_made : d.head.made ≡ 0

-- under way: the device is the accepted one but for the lost things and the job's progress; so all that is kept is as it was and FUS runs.
-- Every state request is answered 0x10 0x00, and every start event says FUS
pub record UnderWay (k : Numbers) (d₀ d : Device) (F : List ℕ) : Type 0 where
  pub origin : Device
  pub kept : lost origin ≡ lost d₀
  pub recorded : ℕ
  pub made : ℕ
  pub device_is : d ≡ progressed k.size k.top origin (going recorded made)
  pub job : has_job d.head.mode ≡ true
  pub record_sound : sound k.size k.top d ≡ true
  pub lent_flash : length F ≡ k.count * k.size
  pub asked : (R : List ℕ) → 8 ≤ length R
      → (handled k d F (0x10 ∷ 0x52 ∷ 0xFC ∷ 0x00 ∷ []) R).reply ≡ replied 8 (length R) (response GetState 0x10 0x00)
  pub started : (R : List ℕ) → 6 ≤ length R → (restarted k d R).reply ≡ replied 6 (length R) (event false)

-- ended: device and flash are what the rules say of the job as it was accepted
abbrev pub final : Numbers → State → State
final k (d, F) = (finished k.size k.top d, final_flash k.size k.top (job_in d) F)

-- at any time the job is under way, or it has ended as the rules say
pub data Safely (k : Numbers) (s₀ s : State) : Type 0 where
  under : UnderWay k s₀.0 s.0 s.1 → Safely k s₀ s
  over : s ≡ final k s₀ → Safely k s₀ s
