-- Why a key was turned down, in words.
use Rattle.std.specs.Prelude.{ℕ, List, codes}
use Rattle.answer.specs.declared.Reason.{Reason}
use Rattle.answer.specs.declared.Reason.TheVariants.{BadType, BadSize, SecondMaster, StoreFull, NotStored, KeyLocked, NoMaster, NotLoaded}

abbrev pub reason_text : Reason → List ℕ
reason_text BadType = codes "bad type"
reason_text BadSize = codes "bad size"
reason_text SecondMaster = codes "second master"
reason_text StoreFull = codes "store full"
reason_text NotStored = codes "not stored"
reason_text KeyLocked = codes "locked"
reason_text NoMaster = codes "no master"
reason_text NotLoaded = codes "not loaded"
