-- Paper 01, "Sound means", in words: a clause for each of its clauses, in its order. S is the size of a sector, `top` the first sector of
-- FUS (the paper's 244). It is not made from the test that computes; `proofs/Clauses.antt` shows that the two say the same.
use Rattle.std.specs.Prelude.{ℕ, ◌+◌, ◌-◌, ◌%◌, ◌≤◌, ◌<◌, ◌≡◌, true, false, ◌⊎◌, get_or}
use Rattle.sectors.specs.Sectors.{sectors_for}
use Rattle.plan.specs.Placement.{cleared_count}
use Rattle.device.specs.Types.{Device}
use Rattle.device.specs.declared.Mode.TheVariants.{Stack, Idle, Upgrade, Delete}

-- sizes of a key by its type: 16 or 32 bytes for 1 and 2, 28 or 44 for 3
pub data KeySize (kind size : ℕ) : Type 0 where
  plain : (kind ≡ 1) ⊎ (kind ≡ 2) → (size ≡ 16) ⊎ (size ≡ 32) → KeySize kind size
  encrypted : kind ≡ 3 → (size ≡ 28) ⊎ (size ≡ 44) → KeySize kind size

-- the errors that the commands make pending
pub data Listed (e : ℕ) : Type 0 where
  e01 : e ≡ 0x01 → Listed e
  e02 : e ≡ 0x02 → Listed e
  e03 : e ≡ 0x03 → Listed e
  e04 : e ≡ 0x04 → Listed e
  e0_a : e ≡ 0x0A → Listed e
  e11 : e ≡ 0x11 → Listed e
  e_ff : e ≡ 0xFF → Listed e

-- how far a job of b image sectors and c cleared ones may be
pub record Progress (b c recorded made : ℕ) : Type 0 where
  -- at most b + c sectors recorded
  pub within : recorded ≤ b + c
  -- stores made in the next one 0 to 2
  pub copying : recorded < b → made ≤ 2
  -- when clearing 0 or 1
  pub clearing : b ≤ recorded → recorded < b + c → made ≤ 1
  -- before the last store 0
  pub last : recorded ≡ b + c → made ≡ 0

pub record SoundDevice (S top : ℕ) (d : Device) : Type 0 where
  -- boundary 1 to 244
  pub low : 1 ≤ d.head.boundary
  pub high : d.head.boundary ≤ top
  -- 244 exactly with no stack
  pub no_stack : d.head.present ≡ false → d.head.boundary ≡ top
  pub a_stack : d.head.present ≡ true → d.head.boundary ≡ top → ⊥
  -- stack version 0xFFFFFFFF exactly with none
  pub no_version : d.head.present ≡ false → d.head.version ≡ 0xFFFFFFFF
  pub a_version : d.head.present ≡ true → d.head.version ≡ 0xFFFFFFFF → ⊥
  -- stack sectors = 244 - boundary
  pub sectors : d.head.sectors ≡ top - d.head.boundary
  -- stack runs only if present (a mode is one of four, so then there is no job)
  pub runs : d.head.mode ≡ Stack → d.head.present ≡ true
  -- at most 100 user keys
  pub few : d.head.count ≤ 100
  -- of type 1 or 3
  pub types : (i : ℕ) → 1 ≤ i → i ≤ d.head.count → (get_or d.kinds i 0 ≡ 1) ⊎ (get_or d.kinds i 0 ≡ 3)
  -- and of a lawful size
  pub sizes : (i : ℕ) → 1 ≤ i → i ≤ d.head.count → KeySize (get_or d.kinds i 0) (get_or d.sizes i 0)
  -- like the master, where there is one
  pub master : ((get_or d.kinds 0 0 ≡ 0) × (get_or d.sizes 0 0 ≡ 0)) ⊎ ((get_or d.kinds 0 0 ≡ 2) × KeySize (get_or d.kinds 0 0) (get_or d.sizes 0 0))
  -- loaded index stored; 0 is none
  pub loaded : d.head.loaded ≤ d.head.count
  -- locked indices stored
  pub locked : (i : ℕ) → i < 101 → 1 ≤ get_or d.locks i 0 → (1 ≤ i) × (i ≤ d.head.count)
  -- an encrypted one loaded only with a master key
  pub encrypted : get_or d.kinds d.head.loaded 0 ≡ 3 → get_or d.kinds 0 0 ≡ 2
  -- authentication lock only with a key
  pub lock : d.head.locked ≡ true → d.head.auth ≡ true
  -- state-request mark only while the stack runs
  pub mark : d.head.asked ≡ true → d.head.mode ≡ Stack
  -- pending error one of those below, and only with FUS idle
  pub error : 1 ≤ d.head.error → Listed d.head.error × (d.head.mode ≡ Idle)
  -- floor 0 with anti-rollback off
  pub floor : d.head.rollback ≡ false → d.head.floor ≡ 0
  -- a job either an upgrade with size at least 84 and a multiple of 4, version not 0xFFFFFFFF and check 3 met
  pub upgrade : (p size version recorded : ℕ) → d.head.mode ≡ Upgrade p size version recorded
      → (84 ≤ size) × (size % 4 ≡ 0) × (version ≡ 0xFFFFFFFF → ⊥) × (p + sectors_for S size + 1 ≤ d.head.boundary)
  -- or a delete with a stack
  pub delete : (recorded : ℕ) → d.head.mode ≡ Delete recorded → d.head.present ≡ true
  -- at most b + c sectors recorded; stores made
  pub upgrading : (p size version recorded : ℕ) → d.head.mode ≡ Upgrade p size version recorded
      → Progress (sectors_for S size) (cleared_count S top (record { p = p; size = size; boundary = d.head.boundary })) recorded d.head.made
  -- (a delete has b = 0 and clears the old stack)
  pub deleting : (recorded : ℕ) → d.head.mode ≡ Delete recorded → Progress 0 (top - d.head.boundary) recorded d.head.made
  -- and, as devices and records are one to one: with no job no store is made, slots past the count hold nothing, a lock is 0 or 1
  pub unmade : (d.head.mode ≡ Stack) ⊎ (d.head.mode ≡ Idle) → d.head.made ≡ 0
  pub unused : (i : ℕ) → i < 101 → d.head.count < i → (get_or d.kinds i 0 ≡ 0) × (get_or d.sizes i 0 ≡ 0)
  pub flags : (i : ℕ) → i < 101 → get_or d.locks i 0 ≤ 1
