-- Bounds that each image with room, each job and each key keeps. No contract says them: what the code needs of them, its check finds alone.
-- Assumes nothing.
use Rattle.std.proofs.Common.{◌≡◌, ℕ, ◌+◌, ◌-◌, ◌*◌, ◌%◌, ◌<◌, ◌≤◌, Bool, true, false, ◌&&◌, ◌||◌, eqb, leb, List, mul-le-mul_right, mod-lt, one-mul, div-add-mod', div-le_self, arith, leb-true, eqb-true}
use mathlib.Core.Bool.{or-false}
use Rattle.basics.specs.Choice.{pick}
use Rattle.basics.specs.Words.{byte_at, word_at}
use Rattle.sectors.specs.Sectors.{sectors_for}
use Rattle.image.specs.Images.{room_for}
use Rattle.device.specs.declared.Head.{Head}
use Rattle.device.specs.declared.Mode.TheVariants.{Upgrade}
use Rattle.device.specs.Layout.{mode_at, size_at, head_in, mode_of}
use Rattle.soundness.specs.Sound.{user_in}
use Rattle.jobs.specs.Jobs.{Doing}
use Rattle.jobs.specs.OnJob.{OnJob}

-- n bytes lie in their sectors
covers : (S n : ℕ) → 0 < S → n ≤ sectors_for S n * S
covers S n h = let r : (n + (S - 1)) % S < S = mod-lt (n + (S - 1)) h in omega (arith, div-add-mod' (n + (S - 1)) S)

-- and are no fewer than these
pub few : (S n : ℕ) → sectors_for S n ≤ n + (S - 1)
few S n = div-le_self (n + (S - 1)) S

-- what has room lies inside
pub room : (S n p b l : ℕ) → 0 < S → room_for S p n b ≡ true → (b - p) * S ≤ l → n ≤ l
room S n p b l h fits all =
    let most : p + sectors_for S n + 1 ≤ b = leb-true (p + sectors_for S n + 1) b fits in
    omega (arith, covers S n h, mul-le-mul_right {m = sectors_for S n} {n = b - p} S (omega arith))

pub a_sector : (S p b l : ℕ) → p < b → (b - p) * S ≤ l → S ≤ l
a_sector S p b l h all = omega (arith, one-mul S, mul-le-mul_right {m = 1} {n = b - p} S (omega arith))

-- the new stack lies below FUS
pub stack_low : (S top : ℕ) (h : Head) (p size version recorded : ℕ) → Doing S top h → h.mode ≡ Upgrade p size version recorded → (sectors_for S size ≤ top) × (top ≤ 65536)
stack_low S top h p size version recorded d e =
    let room = rw e at d.able.room in
    let under = rw e at d.able.under in
    (omega arith, omega (arith, d.range.count))

upgrade_by : (tag p size version recorded : ℕ) → tag ≡ 2 → mode_of tag p size version recorded ≡ Upgrade p size version recorded
unfolding pick
upgrade_by tag p size version recorded e = rw e

module _ (S top : ℕ) (l : List ℕ) (o : OnJob S top l) where
  pub job_low : byte_at l mode_at ≡ 2 → (sectors_for S (word_at l size_at) ≤ top) × (top ≤ 65536)
  unfolding head_in
  job_low t = stack_low S top (head_in l) _ (word_at l size_at) _ _ o.doing (upgrade_by (byte_at l mode_at) _ (word_at l size_at) _ _ t)

-- a user key that is not encrypted
pub plain_user : (kind size lock : ℕ) (t : Bool) → eqb kind 1 ≡ t → eqb kind 3 ≡ false
    → ((eqb kind 1 || eqb kind 3) && (eqb size 16 || eqb size 32) && leb lock 1) ≡ user_in kind size lock
plain_user kind size lock true e n = let k : kind ≡ 1 = eqb-true kind 1 e in rw (k, or-false (eqb size 16 || eqb size 32))
plain_user kind size lock false e n = rw (e, n)
