-- The flash while a job is under way, and that every store, cut or not, keeps it so.
use Prim.Native.Nat.{ℕ, suc, ◌*◌, ◌≤◌, ◌<◌}
use mathlib.Core.Bool.{Bool, true, false}
use mathlib.Core.Path.{◌≡◌, refl, sym, ap, ◌∙◌}
use mathlib.Core.Logic.{◌≢◌}
use mathlib.Core.List.{List}
use native.Mathlib.Omega.{arith}
use lib.ListN.{length}
use Rattle.sectors.specs.Sectors.{sector, put_sector, erased, fit}
use Rattle.sectors.proofs.Laws.{length_put, put_put, sector_put_other, length_erased}
use Rattle.plan.specs.declared.Store.{Store}
use Rattle.plan.specs.declared.Store.TheVariants.{Erase, Write, Record, Last}
use Rattle.plan.specs.Stores.{Plan, steps, next, wants, stored, spoilt, Progress, going, ended, onward, cut_short}
use Rattle.plan.specs.Safe.{Safe}
use Rattle.plan.specs.Uncut.{content, after}
use Rattle.plan.proofs.Due.{wants_is, Due, due}
use Rattle.plan.proofs.Uncut.{content_copy, content_clear, length_content, length_after, after_other}

module _ (S N : ℕ) (P : Plan) (F₀ : List ℕ) where
  -- but for the sector of the next step, the flash is that of the job never cut
  pub record Inv (k m : ℕ) (F : List ℕ) : Type 0 where
    pub len : length F ≡ N * S
    pub low : k ≤ steps P
    pub most : m ≤ wants P k
    pub off : k < steps P → (x : List ℕ) → length x ≡ S → put_sector S F (P.target k) x ≡ put_sector S (after S P F₀ k) (P.target k) x
    pub done : k < steps P → m ≡ wants P k → F ≡ after S P F₀ (suc k)
    pub all : steps P ≤ k → F ≡ after S P F₀ k

  -- under way so, or ended with the flash of the job never cut
  unfoldable pub Good : Progress → List ℕ → Type 0
  Good (going k m) F = Inv k m F
  Good ended F = F ≡ after S P F₀ (steps P)

-- progress inside a sector is lost
pub restart_good : {S N : ℕ} {P : Plan} {F₀ : List ℕ} {k m : ℕ} {F : List ℕ} → Inv S N P F₀ k m F → Inv S N P F₀ k 0 F
restart_good {P = P} {k = k} i = record {
  len = i.len;
  low = i.low;
  most = omega arith;
  off = i.off;
  done = λ l e. absurd (omega (arith, wants_is P k));
  all = i.all;
}

module _ {S N : ℕ} {P : Plan} (safe : Safe S N P) (F₀ : List ℕ) (sized : length F₀ ≡ N * S) where
  -- after a whole step
  clean : (k : ℕ) → k ≤ steps P → Inv S N P F₀ k 0 (after S P F₀ k)
  clean k h = record {
    len = length_after safe F₀ sized k h;
    low = h;
    most = omega arith;
    off = λ l x e. refl;
    done = λ l e. absurd (omega (arith, wants_is P k));
    all = λ l. refl;
  }

  pub started : Good S N P F₀ (going 0 0) F₀
  unfolding Good after
  started = clean 0 (omega arith)

  recorded : {k m : ℕ} {F : List ℕ} → k < steps P → m ≡ wants P k → Inv S N P F₀ k m F → Inv S N P F₀ (suc k) 0 F
  recorded {k} l e i = rw (i.done l e) (clean (suc k) l)

  -- any store to the sector of the next step
  onto : {k m : ℕ} {F : List ℕ} (t n : ℕ) (x : List ℕ) → t ≡ P.target k → length x ≡ S → k < steps P → n ≤ wants P k
      → (n ≡ wants P k → x ≡ content S P k F₀) → Inv S N P F₀ k m F → Inv S N P F₀ k n (put_sector S F t x)
  unfolding after
  onto {k} {m} {F} t n x e-t e h most whole i = rw e-t (record {
    len = length_put S N F i.len (P.target k) (safe.targets k h) x e;
    low = i.low;
    most = most;
    off = λ l y e'. put_put S N F i.len (P.target k) (safe.targets k h) x e y ∙ i.off h y e';
    done = λ l e'. i.off h x e ∙ ap (put_sector S (after S P F₀ k) (P.target k)) (whole e');
    all = λ l. absurd (omega arith);
  })

  -- what is still to be read is as it was
  unread : {k m : ℕ} {F : List ℕ} → Inv S N P F₀ k m F → k < P.moved → sector S F (P.source k) ≡ sector S F₀ (P.source k)
  unread {k} {m} {F} i h =
      let l : k < steps P = omega arith in
      let e : length (erased S) ≡ S = length_erased S in
      let t : P.target k < N = safe.targets k l in
      let ne : P.source k ≢ P.target k = safe.apart k k (omega arith) h in
      sym (sector_put_other S N F i.len (P.target k) t (erased S) e (P.source k) ne)
      ∙ ap (λ (G : List ℕ). sector S G (P.source k)) (i.off l (erased S) e)
      ∙ sector_put_other S N (after S P F₀ k) (length_after safe F₀ sized k i.low) (P.target k) t (erased S) e (P.source k) ne
      ∙ after_other safe F₀ sized (P.source k) k i.low λ j j<k. safe.apart j k (omega arith) h

  -- what the store of a copy puts there
  copied : {k m : ℕ} {F : List ℕ} (s n : ℕ) → k < P.moved → s ≡ P.source k → n ≡ P.kept k → Inv S N P F₀ k m F → fit S n (sector S F s) ≡ content S P k F₀
  copied {k} {F = F} s n h e-s e-n i = rw (e-s, e-n) (ap (fit S (P.kept k)) (unread i h) ∙ sym (content_copy S P k F₀ h))

  stored_good : (s : Store) {k m : ℕ} {F : List ℕ} → Due P k m s → Inv S N P F₀ k m F → Good S N P F₀ (onward s k m) (stored S s F)
  unfolding Good Due onward stored
  stored_good (Erase t) {k} {m} (l, e, e-t) i =
      onto t (suc m) (erased S) e-t (length_erased S) l (omega (arith, wants_is P k))
      (λ e'. sym (content_clear S P k F₀ (omega (arith, wants_is P k)))) i
  stored_good (Write t s n) {k} {m} (l, e, e-t, e-s, e-n) i =
      let c : fit S n (sector S _ s) ≡ content S P k F₀ = copied s n l e-s e-n i in
      onto t (suc m) _ e-t (rw c (length_content safe F₀ sized k)) (omega arith) (omega (arith, wants_is P k)) (λ e'. c) i
  stored_good Record (l, e) i = recorded l e i
  stored_good Last (e, e') i = i.all (omega arith) ∙ ap (after S P F₀) e

  spoilt_good : (s : Store) (x : List ℕ) → length x ≡ S → (through : Bool) {k m : ℕ} {F : List ℕ} → Due P k m s → Inv S N P F₀ k m F
      → Good S N P F₀ (cut_short s through k) (spoilt S s x F)
  unfolding Good Due cut_short spoilt
  spoilt_good (Erase t) x e through {k} (l, e-m, e-t) i = onto t _ x e-t e l (omega arith) (λ e'. absurd (omega (arith, wants_is P k))) i
  spoilt_good (Write t s n) x e through {k} (l, e-m, e-t, e-s, e-n) i =
      onto t _ x e-t e (omega arith) (omega arith) (λ e'. absurd (omega (arith, wants_is P k))) i
  spoilt_good Record x e true (l, e-m) i = recorded l e-m i
  spoilt_good Record x e false d i = restart_good i
  spoilt_good Last x e true (e-k, e-m) i = i.all (omega arith) ∙ ap (after S P F₀) e-k
  spoilt_good Last x e false d i = restart_good i

  -- after any store, and after any store that was cut
  pub work_good : {k m : ℕ} {F : List ℕ} → Inv S N P F₀ k m F → Good S N P F₀ (onward (next P k m) k m) (stored S (next P k m) F)
  work_good {k} {m} i = stored_good (next P k m) (due P k m i.low i.most) i

  pub cut_good : {k m : ℕ} {F : List ℕ} (x : List ℕ) → length x ≡ S → (through : Bool) → Inv S N P F₀ k m F
      → Good S N P F₀ (cut_short (next P k m) through k) (spoilt S (next P k m) x F)
  cut_good {k} {m} x e through i = spoilt_good (next P k m) x e through (due P k m i.low i.most) i
