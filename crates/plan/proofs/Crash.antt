-- However often it is cut, a job ends with the flash of the same job never cut, and after enough stores it ends.
use Prim.Native.Nat.{ℕ, ◌+◌, ◌-◌, ◌*◌, ◌≤◌}
use mathlib.Core.Path.{◌≡◌, refl, ap, ◌∙◌}
use mathlib.Core.List.{List, [], ◌∷◌, ◌++◌}
use native.Mathlib.Omega.{arith}
use lib.ListN.{length}
use Rattle.plan.specs.Stores.{Plan, steps, Progress, going, ended, left_at}
use Rattle.plan.specs.Safe.{Safe}
use Rattle.plan.specs.Uncut.{after}
use Rattle.plan.specs.Events.{Event, work, cut, restart, quiet, stepped, ran, works_in, NoCut}
use Rattle.plan.proofs.Invariant.{Good, work_good, cut_good, restart_good}
use Rattle.plan.proofs.Counting.{left_less, left_some, left_most}

pub ran_append : {S : ℕ} (P : Plan) (es es' : List (Event S)) (r : Progress × List ℕ) → ran S P (es ++ es') r ≡ ran S P es' (ran S P es r)
unfolding ran
ran_append P [] es' r = refl
ran_append {S} P (e ∷ es) es' r = ran_append P es es' (stepped S P e r.0 r.1)

left_at_most : (P : Plan) (p : Progress) → left_at P p ≤ 3 * P.moved + 2 * P.cleared + 1
unfolding left_at
left_at_most P (going k m) = left_most P k m
left_at_most P ended = omega arith

module _ {S N : ℕ} {P : Plan} (safe : Safe S N P) (F₀ : List ℕ) (sized : length F₀ ≡ N * S) where
  -- the progress and the flash after an event, and after any events
  pub event_good : (e : Event S) (p : Progress) (F : List ℕ) → Good S N P F₀ p F → Good S N P F₀ (stepped S P e p F).0 (stepped S P e p F).1
  unfolding Good stepped
  event_good e ended F g = g
  event_good work (going k m) F i = work_good safe F₀ sized i
  event_good (cut x e through) (going k m) F i = cut_good safe F₀ sized x e through i
  event_good restart (going k m) F i = restart_good i
  event_good quiet (going k m) F i = i

  pub crash : (es : List (Event S)) (r : Progress × List ℕ) → Good S N P F₀ r.0 r.1 → Good S N P F₀ (ran S P es r).0 (ran S P es r).1
  unfolding ran
  crash [] r g = g
  crash (e ∷ es) r g = crash es (stepped S P e r.0 r.1) (event_good e r.0 r.1 g)

  -- with no cut and no restart, each work takes one off the stores that are still to do
  worked : (e : Event S) (es : List (Event S)) → NoCut (e ∷ es) → (p : Progress) (F : List ℕ) → Good S N P F₀ p F
      → NoCut es × (left_at P (stepped S P e p F).0 - works_in es ≡ left_at P p - works_in (e ∷ es))
  unfolding Good NoCut stepped works_in left_at
  worked work es q (going k m) F i = (q, omega (arith, left_less P k m i.low i.most))
  worked quiet es q (going k m) F i = (q, refl)
  worked work es q ended F g = (q, omega arith)
  worked quiet es q ended F g = (q, refl)
  worked (cut x e t) es q p F g = absurd q
  worked restart es q p F g = absurd q

  pub counted : (es : List (Event S)) → NoCut es → (r : Progress × List ℕ) → Good S N P F₀ r.0 r.1
      → left_at P (ran S P es r).0 ≡ left_at P r.0 - works_in es
  unfolding ran
  counted [] q r g = unfold works_in in omega arith
  counted (e ∷ es) q r g =
      let w : NoCut es × (left_at P (stepped S P e r.0 r.1).0 - works_in es ≡ left_at P r.0 - works_in (e ∷ es)) = worked e es q r.0 r.1 g in
      counted es w.0 (stepped S P e r.0 r.1) (event_good e r.0 r.1 g) ∙ w.1

  -- a job with no store left to do has ended
  over : (r : Progress × List ℕ) → Good S N P F₀ r.0 r.1 → left_at P r.0 ≡ 0 → r ≡ (ended, after S P F₀ (steps P))
  unfolding Good left_at
  over (going k m, F) i e = absurd (omega (arith, left_some P k m i.most))
  over (ended, F) g e = ap (λ (G : List ℕ). (ended, G)) g

  -- whatever happened before, that many works with no cut and no restart among them end the job
  pub finish : (es es' : List (Event S)) (r : Progress × List ℕ) → Good S N P F₀ r.0 r.1 → NoCut es'
      → 3 * P.moved + 2 * P.cleared + 1 ≤ works_in es' → ran S P (es ++ es') r ≡ (ended, after S P F₀ (steps P))
  finish es es' r g q h =
      let r' : Progress × List ℕ = ran S P es r in
      let g' : Good S N P F₀ r'.0 r'.1 = crash es r g in
      rw (ran_append P es es' r) (over _ (crash es' r' g') (counted es' q r' g' ∙ omega (arith, left_at_most P r'.0)))
