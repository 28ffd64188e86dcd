use native.Mathlib.Omega.{arith}
use Rattle.serial.proofs.Readers.{reader, taken_in}
use Rattle.serial.proofs.take_in.Goals as goal

pub bounds-reader-n : goal.bounds-reader-n
bounds-reader-n c = let x = reader c.args.reader.now c.requires in omega (arith, x.few)

pub overflow_add-reader-2 : goal.overflow_add-reader-2
overflow_add-reader-2 c = let x = reader c.args.reader.now c.requires in omega (arith, x.few)

pub returns : goal.returns
returns c = taken_in _ _ c.requires
