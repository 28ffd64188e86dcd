-- DEMAND 3, over the definitions that the calls' contracts cite, for every kind's numbers; upgrade and delete alike.
-- Assumes nothing.
use Prim.Native.Nat.{ℕ, zero, suc, ◌≤◌, ◌<◌}
use mathlib.Core.Bool.{Bool, true, false}
use mathlib.Core.Path.{◌≡◌, refl, sym, ap, ◌∙◌, subst}
use mathlib.Core.List.{List, [], ◌∷◌, ◌++◌}
use native.Mathlib.Omega.{arith}
use lib.ListN.{replicate}
use Rattle.basics.specs.Choice.{pick}
use Rattle.plan.specs.declared.Store.{Store}
use Rattle.plan.specs.Safe.{Safe}
use Rattle.plan.specs.Uncut.{after}
use Rattle.plan.specs.Stores.{Plan, Progress, going, ended, plan_of, steps, left, left_at, next, onward, cut_short, stored, spoilt}
use Rattle.plan.proofs.Aims.{job_safe}
use Rattle.plan.proofs.Done.{job_done}
use Rattle.plan.proofs.Counting.{left_less, left_some, left_most}
use Rattle.plan.proofs.Invariant.{Inv, Good, started, work_good, cut_good, restart_good}
use Rattle.device.specs.declared.Head.{Head}
use Rattle.device.specs.Types.{Device}
use Rattle.device.specs.declared.Mode.{Mode}
use Rattle.device.specs.declared.Mode.TheVariants.{Stack, Idle, Upgrade, Delete}
use Rattle.device.specs.Whole.{lost}
use Rattle.soundness.specs.Sound.{plan_for, sound}
use Rattle.soundness.proofs.Keeps.{lost_sound}
use Rattle.services.specs.Calls.{Numbers, WorkResult, Sensible, worked}
use Rattle.device.specs.Modes.{has_job, recorded_in, with_recorded}
use Rattle.jobs.specs.Jobs.{committed, progressed, finished, next_store, Doing}
use Rattle.services.proofs.Doings.{doing}
use Rattle.promises.specs.Demand.{Event, packet, restart, work, cut, State, called, busy, ran, works_in, NoCut, stores, to_do, Accepted, final, Safely, under, over}
use Rattle.promises.proofs.Under.{never, job_stays, job_same, recorded_is, progressed_again, finished_progressed, finished_lost, sound_progressed}
use Rattle.promises.proofs.Still.{by_call, packet_still, asked_so, started_so, worked_so}

-- an ended job is no longer under way
ended_idle : (S top : ℕ) (mode : Mode) (h : Head) → has_job mode ≡ true → has_job (committed S top mode h).mode ≡ false
ended_idle S top Stack h j = absurd (never j)
ended_idle S top Idle h j = absurd (never j)
ended_idle S top (Upgrade p size version recorded) h j = refl
ended_idle S top (Delete recorded) h j = refl

module _ (k : Numbers) (kind : Sensible k) (d₀ : Device) (F₀ : List ℕ) (accepted : Accepted k d₀ F₀) where
  abbrev S : ℕ
  S = k.size

  abbrev N : ℕ
  N = k.count

  abbrev top : ℕ
  top = k.top

  abbrev P : Plan
  P = plan_for S top d₀.head

  job₀ : Doing S top d₀.head
  job₀ = doing k d₀ kind accepted.record_sound accepted.job

  safe : Safe S N P
  safe = job_safe job₀.able kind.below

  -- the device that was accepted, with its lost things or without them
  data Origin : Device → Type 0 where
    same : Origin d₀
    reset : Origin (lost d₀)

  origin_sound : {e : Device} → Origin e → sound S top e ≡ true
  origin_sound same = accepted.record_sound
  origin_sound reset = lost_sound S top d₀ accepted.record_sound

  origin_job : {e : Device} → Origin e → has_job e.head.mode ≡ true
  origin_job same = accepted.job
  origin_job reset = accepted.job

  origin_plan : {e : Device} → Origin e → plan_for S top e.head ≡ P
  origin_plan same = refl
  origin_plan reset = refl

  origin_kept : {e : Device} → Origin e → lost e ≡ lost d₀
  origin_kept same = refl
  origin_kept reset = refl

  origin_end : {e : Device} → Origin e → finished S top e ≡ finished S top d₀
  origin_end same = refl
  origin_end reset = finished_lost S top d₀

  origin_lost : {e : Device} → Origin e → Origin (lost e)
  origin_lost same = reset
  origin_lost reset = reset

  -- the device e at a point of its job
  at : Device → ℕ → ℕ → Device
  at e n m = progressed S top e (going n m)

  -- the states that calls reach
  data Reached : State → Type 0 where
    midway : {e : Device} → Origin e → (n m : ℕ) (F : List ℕ) → Inv S N P F₀ n m F → Reached (at e n m, F)
    done : Reached (final k (d₀, F₀))

  module _ {e : Device} (o : Origin e) (n m : ℕ) (F : List ℕ) (i : Inv S N P F₀ n m F) where
    at_job : has_job (at e n m).head.mode ≡ true
    unfolding at
    at_job = job_stays n e.head.mode ∙ origin_job o

    at_sound : sound S top (at e n m) ≡ true
    unfolding at
    at_sound =
        sound_progressed S top e n m (origin_sound o) (origin_job o) (rw (origin_plan o) i.low) (rw (origin_plan o) i.most)

    at_plan : plan_for S top (at e n m).head ≡ P
    unfolding at
    at_plan = ap (plan_of S top) (job_same e.head.boundary n e.head.mode) ∙ origin_plan o

    at_recorded : recorded_in (at e n m).head.mode ≡ n
    unfolding at
    at_recorded = recorded_is n e.head.mode (origin_job o)

    at_made : (at e n m).head.made ≡ m
    unfolding at
    at_made = refl

    at_next : next_store S top (at e n m).head ≡ next P n m
    at_next = rw (at_plan, at_recorded, at_made)

    -- an ended job's device and flash
    ending : (x : Device) (G : List ℕ) → x ≡ finished S top d₀ → G ≡ after S P F₀ (steps P) → Reached (x, G)
    ending x G p q = rw (p, q, job_done job₀.able kind.below F₀ accepted.lent_flash) done

    at_end : finished S top (at e n m) ≡ finished S top d₀
    unfolding at
    at_end = finished_progressed S top e n m (origin_job o) ∙ origin_end o

    -- from there to a point that the plan's invariant allows
    arrive : (to : Progress) (G : List ℕ) → Good S N P F₀ to G → Reached (progressed S top (at e n m) to, G)
    unfolding Good at
    arrive (going n' m') G g = rw (progressed_again S top e n m n' m') (midway o n' m' G g)
    arrive ended G g = ending _ G at_end g

    -- the same with a restart behind it
    arrive_lost : (to : Progress) (G : List ℕ) → Good S N P F₀ to G → Reached (lost (progressed S top (at e n m) to), G)
    unfolding Good at
    arrive_lost (going n' m') G g =
        subst (λ (x : Device). Reached (x, G)) (sym (ap lost (progressed_again S top e n m n' m'))) (midway (origin_lost o) n' 0 G (restart_good g))
    arrive_lost ended G g = ending _ G (ap lost at_end) g

    -- the store that a call makes or breaks off is the plan's next one
    by_store : (f : Store → Progress × List ℕ) (Q : Progress → List ℕ → Type 0) → Q (f (next P n m)).0 (f (next P n m)).1
        → Q (f (next_store S top (at e n m).head)).0 (f (next_store S top (at e n m).head)).1
    by_store f Q q = subst (λ (x : Store). Q (f x).0 (f x).1) (sym at_next) q

    abbrev D : Device
    D = at e n m

    here : Reached (D, F)
    here = midway o n m F i

    lost_here : Reached (lost D, F)
    unfolding at
    lost_here = midway (origin_lost o) n 0 F (restart_good i)

    event_reached : (v : Event) → Reached (called k v (D, F))
    event_reached (packet s R) = let q = packet_still k D F at_job s R in rw (q.0, q.1) here
    event_reached (restart R) = by_call k D F Reached here (restart R) lost_here
    event_reached work =
        by_call k D F Reached here work
        (λ j.
        let q : onward (next P n m) (recorded_in D.head.mode) D.head.made ≡ onward (next P n m) n m = cc (at_recorded, at_made) in
        let g : Good S N P F₀ (onward (next P n m) (recorded_in D.head.mode) D.head.made) (stored S (next P n m) F) = rw q (work_good safe F₀ accepted.lent_flash i) in
        by_store (λ x. (onward x (recorded_in D.head.mode) D.head.made, stored S x F)) (λ to G. Reached (progressed S top D to, G)) (arrive _ _ g))
    event_reached (cut x through R) =
        by_call k D F Reached here (cut x through R) (
          λ j f.
              let q : cut_short (next P n m) through (recorded_in D.head.mode) ≡ cut_short (next P n m) through n = cc at_recorded in
              let g : Good S N P F₀ (cut_short (next P n m) through (recorded_in D.head.mode)) (spoilt S (next P n m) x F) = rw q (cut_good safe F₀ accepted.lent_flash x f through i) in
              by_store (λ y. (cut_short y through (recorded_in D.head.mode), spoilt S y x F)) (λ to G. Reached (lost (progressed S top D to), G)) (arrive_lost _ _ g),
          lost_here,
        )

    -- the stores still to do there
    left_at_lem : to_do k (at e n m) ≡ left P n m
    unfolding pick
    left_at_lem = rw at_job (cc (at_plan, at_recorded, at_made))

    some_left : 0 < to_do k (at e n m)
    some_left = omega (arith, left_at_lem, left_some P n m i.most)

    most_left : to_do k (at e n m) ≤ stores k d₀
    unfolding plan_of
    most_left = omega (arith, left_at_lem, left_most P n m)

    -- what work answers, and that it is one less
    answer_is : (worked k (at e n m) F).left ≡ left_at P (onward (next P n m) n m)
    answer_is =
        ap (λ (r : WorkResult). r.left) (worked_so k D F at_job at_sound i.len)
        ∙ cc (at_next, at_plan, at_recorded, at_made)

    answer_less : suc (worked k (at e n m) F).left ≡ to_do k (at e n m)
    answer_less = ap suc answer_is ∙ left_less P n m i.low i.most ∙ sym left_at_lem

  -- the answer is what the device has then still to do
  left_to : {e : Device} (o : Origin e) (n m : ℕ) (F : List ℕ) (i : Inv S N P F₀ n m F) (to : Progress) (G : List ℕ) → Good S N P F₀ to G
      → left_at P to ≡ to_do k (progressed S top (at e n m) to)
  unfolding Good at left_at
  left_to {e} o n m F i (going n' m') G g =
      sym (left_at_lem o n' m' G g) ∙ ap (to_do k) (sym (progressed_again S top e n m n' m'))
  left_to o n m F i ended G g =
      let q : to_do k (finished S top d₀) ≡ 0 = unfold pick in rw (ended_idle S top d₀.head.mode d₀.head accepted.job) in
      sym (ap (to_do k) (at_end o n m F i) ∙ q)

  done_idle : busy (final k (d₀, F₀)) ≡ false
  done_idle = ended_idle S top d₀.head.mode d₀.head accepted.job

  event_kept : (v : Event) (s : State) → Reached s → busy s ≡ true → Reached (called k v s)
  event_kept v s (midway o n m F i) b = event_reached o n m F i v
  event_kept v s done b = absurd (never (sym done_idle ∙ b))

  run_reached : (es : List Event) (s : State) (t : Bool) → busy s ≡ t → Reached s → Reached (ran k es s)
  unfolding ran pick
  run_reached [] s t b r = r
  run_reached (v ∷ es) s true b r = rw b (run_reached es (called k v s) (busy (called k v s)) refl (event_kept v s r b))
  run_reached (v ∷ es) s false b r = rw b r

  -- where it begins
  begun : Reached (d₀, F₀)
  begun = subst (λ (x : Device). Reached (x, F₀)) start (midway same 0 0 F₀ (unfold Good in started safe F₀ accepted.lent_flash))
    where
      still : (mode : Mode) → recorded_in mode ≡ 0 → with_recorded 0 mode ≡ mode
      still Stack z = refl
      still Idle z = refl
      still (Upgrade p size version recorded) z = ap (Upgrade p size version) (sym z)
      still (Delete recorded) z = ap Delete (sym z)

      start : at d₀ 0 0 ≡ d₀
      start = unfold at in rw (still d₀.head.mode accepted.none_recorded, ← accepted.none_made)

  -- what a reader asks of a state that was reached
  told : (s : State) → Reached s → Safely k (d₀, F₀) s
  told s (midway {e} o n m F i) =
      under (record {
        origin = e;
        kept = origin_kept o;
        recorded = n;
        made = m;
        device_is = unfold at in refl;
        job = at_job o n m F i;
        record_sound = at_sound o n m F i;
        lent_flash = i.len;
        asked = asked_so k (at e n m) F (at_job o n m F i) (at_sound o n m F i) i.len;
        started = started_so k (at e n m) F (at_job o n m F i) (at_sound o n m F i) i.len;
      })
  told s done = over refl

  -- DEMAND 3: whatever is called, in whatever order, the job is under way with all that is kept as it was, or has ended as the rules say
  pub demand_3 : (es : List Event) → Safely k (d₀, F₀) (ran k es (d₀, F₀))
  demand_3 es = told _ (run_reached es (d₀, F₀) (busy (d₀, F₀)) refl begun)

  -- THE COUNT: what work answers is what the device has then still to do, one less than before
  count_reached : (s : State) → Reached s → busy s ≡ true → ((worked k s.0 s.1).left ≡ to_do k (worked k s.0 s.1).device) × (suc (worked k s.0 s.1).left ≡ to_do k s.0)
  count_reached s (midway {e} o n m F i) b =
      let D : Device = at e n m in
      let w : (worked k D F).device ≡ progressed S top D (onward (next P n m) n m) =
      ap (λ (r : WorkResult). r.device) (worked_so k D F (at_job o n m F i) (at_sound o n m F i) i.len) ∙ cc (at_next o n m F i, at_recorded o n m F i, at_made o n m F i) in
      (answer_is o n m F i ∙ left_to o n m F i (onward (next P n m) n m) _ (work_good safe F₀ accepted.lent_flash i) ∙ ap (to_do k) (sym w), answer_less o n m F i)
  count_reached s done b = absurd (never (sym done_idle ∙ b))

  pub demand_3_count : (es : List Event) → busy (ran k es (d₀, F₀)) ≡ true
      → ((worked k (ran k es (d₀, F₀)).0 (ran k es (d₀, F₀)).1).left ≡ to_do k (worked k (ran k es (d₀, F₀)).0 (ran k es (d₀, F₀)).1).device)
      × (suc (worked k (ran k es (d₀, F₀)).0 (ran k es (d₀, F₀)).1).left ≡ to_do k (ran k es (d₀, F₀)).0)
  demand_3_count es b = count_reached _ (run_reached es (d₀, F₀) (busy (d₀, F₀)) refl begun) b

  stays : (es : List Event) (s : State) → busy s ≡ false → ran k es s ≡ s
  unfolding ran pick
  stays [] s b = refl
  stays (v ∷ es) s b = rw b

  -- with no cut and no restart, as many works as there are stores to do end the job
  ends_from : (es : List Event) → NoCut es → (s : State) → Reached s → to_do k s.0 ≤ works_in es → ran k es s ≡ final k (d₀, F₀)
  unfolding ran pick works_in NoCut
  ends_from [] q s done h = stays [] s done_idle
  ends_from [] q s (midway o n m F i) h = absurd (omega (arith, some_left o n m F i))
  ends_from (work ∷ es) q s done h = stays (work ∷ es) s done_idle
  ends_from (work ∷ es) q s (midway {e} o n m F i) h =
      let c = count_reached s (midway o n m F i) (at_job o n m F i) in
      let l : to_do k (called k work s).0 ≤ works_in es = omega (arith, c.0, c.1) in
      rw (at_job o n m F i) (ends_from es q (called k work s) (event_reached o n m F i work) l)
  ends_from (packet x R ∷ es) q s done h = stays (packet x R ∷ es) s done_idle
  ends_from (packet x R ∷ es) q s (midway {e} o n m F i) h =
      let p = packet_still k (at e n m) F (at_job o n m F i) x R in
      let l : to_do k (called k (packet x R) s).0 ≤ works_in es = rw p.0 h in
      rw (at_job o n m F i) (ends_from es q (called k (packet x R) s) (event_reached o n m F i (packet x R)) l)
  ends_from (restart R ∷ es) q s r h = absurd q
  ends_from (cut x through R ∷ es) q s r h = absurd q

  few_left : (s : State) → Reached s → to_do k s.0 ≤ stores k d₀
  few_left s (midway o n m F i) = most_left o n m F i
  few_left s done = unfold pick in rw (ended_idle S top d₀.head.mode d₀.head accepted.job) (omega arith)

  ran_append : (es es' : List Event) (s : State) (t : Bool) → busy s ≡ t → ran k (es ++ es') s ≡ ran k es' (ran k es s)
  unfolding ran pick
  ran_append [] es' s t b = refl
  ran_append (v ∷ es) es' s true b = rw b (ran_append es es' (called k v s) (busy (called k v s)) refl)
  ran_append (v ∷ es) es' s false b = rw b (sym (stays es' s b))

  -- THE BOUND: after the last cut or restart 3b + 2c + 1 works end it
  pub demand_3_ends : (es es' : List Event) → NoCut es' → stores k d₀ ≤ works_in es' → ran k (es ++ es') (d₀, F₀) ≡ final k (d₀, F₀)
  demand_3_ends es es' q h =
      let s : State = ran k es (d₀, F₀) in
      let r : Reached s = run_reached es (d₀, F₀) (busy (d₀, F₀)) refl begun in
      ran_append es es' (d₀, F₀) (busy (d₀, F₀)) refl ∙ ends_from es' q s r (omega (arith, few_left s r))

  uncut : (n : ℕ) → NoCut (replicate n work) × (works_in (replicate n work) ≡ n)
  unfolding NoCut works_in
  uncut zero = (tt, refl)
  uncut (suc n) = ((uncut n).0, ap suc (uncut n).1)

  ended_so : (s : State) → Reached s → busy s ≡ false → s ≡ final k (d₀, F₀)
  ended_so s (midway o n m F i) b = absurd (never (sym b ∙ at_job o n m F i))
  ended_so s done b = refl

  -- so a job that was cut ends as the same job never cut
  pub demand_3_same : (es : List Event) → busy (ran k es (d₀, F₀)) ≡ false → ran k es (d₀, F₀) ≡ ran k (replicate (stores k d₀) work) (d₀, F₀)
  demand_3_same es b =
      let u = uncut (stores k d₀) in
      ended_so _ (run_reached es (d₀, F₀) (busy (d₀, F₀)) refl begun) b
      ∙ sym (demand_3_ends [] (replicate (stores k d₀) work) u.0 (omega (arith, u.1)))
