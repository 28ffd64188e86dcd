-- Paper 02 §2: for each of the four key commands, its list of causes in the paper's order, each with its number; and which of a list comes first.
-- Any other answer has no reason.
use Rattle.std.specs.Prelude.{ℕ, Bool, true, false, not, ◌&&◌, List, [], ◌∷◌, leb, eqb}
use Rattle.packet.specs.declared.Command.{Command}
use Rattle.packet.specs.declared.Command.TheVariants.{GetState, FwUpgrade, FwDelete, UpdateAuthKey, LockAuthKey, StoreUsrKey, LoadUsrKey, StartWs, LockUsrKey, UnloadUsrKey, ActivateAntirollback}
use Rattle.device.specs.declared.Head.{Head}
use Rattle.device.specs.declared.Mode.{Mode}
use Rattle.device.specs.declared.Mode.TheVariants.{Stack, Idle, Upgrade, Delete}
use Rattle.device.specs.Types.{Look}
use Rattle.keys.specs.Keys.{type_lawful, key_lawful, stored_key}

-- a cause: does it hold, and its number
abbrev pub Cause : Type 0
Cause = Bool × ℕ

-- the causes of a command, in the paper's order: STORE's bad type, bad size, second master, store full; LOAD's not stored, locked, no master;
-- LOCK's not stored; UNLOAD's not loaded
abbrev pub causes_of : Head → Look → Command → ℕ → ℕ → List Cause
causes_of h l GetState i n = []
causes_of h l FwUpgrade i n = []
causes_of h l FwDelete i n = []
causes_of h l UpdateAuthKey i n = []
causes_of h l LockAuthKey i n = []
causes_of h l StoreUsrKey i n =
    (not (type_lawful i), 1)
    ∷ (not (key_lawful i n), 2)
    ∷ (eqb i 2 && eqb l.master 2, 3)
    ∷ (not (eqb i 2) && leb 100 h.count, 4)
    ∷ []
causes_of h l LoadUsrKey i n =
    (not (stored_key h i), 5) ∷ (not (eqb l.lock 0), 6) ∷ (eqb l.kind 3 && not (eqb l.master 2), 7) ∷ []
causes_of h l StartWs i n = []
causes_of h l LockUsrKey i n = (not (stored_key h i), 5) ∷ []
causes_of h l UnloadUsrKey i n = (not (leb 1 i && eqb i h.loaded), 8) ∷ []
causes_of h l ActivateAntirollback i n = []

-- only while FUS is idle
abbrev pub causes_in : Mode → Head → Look → Command → ℕ → ℕ → List Cause
causes_in Stack h l command i n = []
causes_in Idle h l command i n = causes_of h l command i n
causes_in (Upgrade p size version recorded) h l command i n = []
causes_in (Delete recorded) h l command i n = []

-- r is the number of the first cause that holds, and 0 if none does
pub data First : List Cause → ℕ → Type 0 where
  none : First [] 0
  here : (r : ℕ) (rest : List Cause) → First ((true, r) ∷ rest) r
  later : (q r : ℕ) (rest : List Cause) → First rest r → First ((false, q) ∷ rest) r
