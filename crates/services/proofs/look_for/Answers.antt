use Rattle.std.proofs.Common.{arith}
use Rattle.basics.specs.Choice.{cases}
use Rattle.device.specs.Layout.{head_in, decode}
use Rattle.services.specs.Calls.{numbers_of}
use Rattle.services.proofs.Laws.{sensible, below_boundary}
use Rattle.services.proofs.look_for.Goals as goal

pub check-requires : goal.check-requires
unfolding decode head_in
check-requires c =
    let board = c.args.board in
    rw c.word.ensures (record {
      le_size = (board.header, board.small, omega (arith, board.below, board.few, c.requires.0));
      size_in_bounds = below_boundary (numbers_of board) _ c.args.flash.now (sensible board) c.requires.0 c.requires.1;
    })

pub returns : goal.returns
unfolding decode head_in
returns c = rw (c.check.ensures, c.auth_key.ensures, c.word-2.ensures, c.flag-2.ensures, c.flag.ensures, c.word.ensures) (search cases)
