-- Paper 01, "FUS idle", the user keys: STORE, LOAD, LOCK and UNLOAD on a head and what was looked up.
use Rattle.std.specs.Prelude.{ℕ, ◌+◌, Result, Ok, Err, Bool, not, ◌&&◌, ◌||◌, leb, eqb}
use Rattle.basics.specs.Choice.{pick}
use Rattle.answer.specs.declared.Failure.{Failure}
use Rattle.answer.specs.declared.Failure.TheVariants.{BadType, BadSize, SecondMaster, StoreFull, NotStored, KeyLocked, NoMaster, NotLoaded}
use Rattle.answer.specs.declared.Answer.TheVariants.{Stored, Accepted}
use Rattle.device.specs.declared.Head.{Head}
use Rattle.keys.specs.declared.KeyType.{KeyType}
use Rattle.keys.specs.declared.KeyType.TheVariants.{Simple, Master, Encrypted}
use Rattle.device.specs.Types.{Step, Look, Keep, Lock, Put}
use Rattle.device.specs.Heads.{with_loaded, with_count}
use Rattle.device.specs.Steps.{failed, accepted}

-- STORE: types 1 simple, 2 master, 3 encrypted; N is 16 or 32 for 1 and 2, 28 or 44 for 3
abbrev pub type_lawful : ℕ → Bool
type_lawful kind = eqb kind 1 || eqb kind 2 || eqb kind 3

abbrev pub key_lawful : ℕ → ℕ → Bool
key_lawful kind n =
    ((eqb kind 1 || eqb kind 2) && (eqb n 16 || eqb n 32)) || (eqb kind 3 && (eqb n 28 || eqb n 44))

-- the byte of a type, and the type of a byte
abbrev pub kind_of : KeyType → ℕ
kind_of Simple = 1
kind_of Master = 2
kind_of Encrypted = 3

unfoldable pub type_of : ℕ → Result KeyType Failure
type_of kind = pick (eqb kind 1) (Ok Simple) (pick (eqb kind 2) (Ok Master) (pick (eqb kind 3) (Ok Encrypted) (Err BadType)))

-- in this order: bad type, bad size, second master, 100 keys already (types 1 and 3). The master's index is 0; others get 1 to 100 in order
unfoldable pub store_key : Head → Look → ℕ → ℕ → Step
store_key h l kind n =
    pick (type_lawful kind)
    (pick (key_lawful kind n)
    (pick (eqb kind 2)
    (pick (eqb l.master 2) (failed h SecondMaster) (accepted h (Stored 0) (Put 0 kind)))
    (pick (leb 100 h.count) (failed h StoreFull)
    (accepted (with_count (h.count + 1) h) (Stored (h.count + 1)) (Put (h.count + 1) kind))))
    (failed h BadSize))
    (failed h BadType)

-- a stored 1 to 100
abbrev pub stored_key : Head → ℕ → Bool
stored_key h i = leb 1 i && leb i h.count

-- LOAD fails if the index isn't a stored 1 to 100, is locked, or is an encrypted key with no master. It replaces any loaded key
unfoldable pub load_key : Head → Look → ℕ → Step
load_key h l i =
    pick (stored_key h i)
    (pick (eqb l.lock 0)
    (pick (not (eqb l.kind 3) || eqb l.master 2) (accepted (with_loaded i h) Accepted Keep) (failed h NoMaster))
    (failed h KeyLocked))
    (failed h NotStored)

-- LOCK: not a stored 1 to 100, E FF; it does not unload
abbrev pub lock_key : Head → ℕ → Step
lock_key h i = pick (stored_key h i) (accepted h Accepted (Lock i)) (failed h NotStored)

-- UNLOAD: not the loaded index, E FF; 0 is no key's
abbrev pub unload_key : Head → ℕ → Step
unload_key h i =
    pick (leb 1 i && eqb i h.loaded) (accepted (with_loaded 0 h) Accepted Keep) (failed h NotLoaded)
