use Rattle.std.proofs.Common.{◌≡◌, true, false, eqb, eq-eqb, ne_eqb, length}
use Rattle.basics.specs.Choice.{via}
use Rattle.device.specs.Layout.{record_length, is_head, head_in, decode}
use Rattle.soundness.specs.Sound.{head_sound, sound, sound_record}
use Rattle.soundness.proofs.is_sound.Goals as goal

pub returns-in_default : goal.returns-in_default
unfolding sound_record
returns-in_default c = rw (ne_eqb (length c.args.rec.now) record_length c.in_default.ensures.cases)

pub invariant_of-head_sound : goal.invariant_of-head_sound
invariant_of-head_sound c =
    record {
      in_range = record {
        some = c.requires.size_nonzero.0;
        bytes = c.requires.size_nonzero.1;
        count = c.requires.top_bound;
        image = c.job_of-job.ensures.small;
      };
    }

pub returns-then-head_sound : goal.returns-then-head_sound
unfolding sound_record sound decode
returns-then-head_sound c =
    let w = c.in-Some.ensures.cases in
    let n : eqb (length c.args.rec.now) record_length ≡ true = eq-eqb _ _ w.long in
    let h : is_head c.args.rec.now ≡ true = rw w.same at (via _ _ _ c.is_head.ensures c.if-is_head.true) in
    let s : head_sound c.args.size c.args.top (head_in c.args.rec.now) ≡ true = rw (c.read_head-h.ensures, w.same) at (via _ _ _ c.head_sound.ensures c.if-head_sound.true) in
    rw (n, h, s, c.keys_sound.ensures, c.read_head-h.ensures, w.same)

pub returns-else-head_sound : goal.returns-else-head_sound
unfolding sound_record sound decode
returns-else-head_sound c =
    let w = c.in-Some.ensures.cases in
    let n : eqb (length c.args.rec.now) record_length ≡ true = eq-eqb _ _ w.long in
    let h : is_head c.args.rec.now ≡ true = rw w.same at (via _ _ _ c.is_head.ensures c.if-is_head.true) in
    let s : head_sound c.args.size c.args.top (head_in c.args.rec.now) ≡ false = rw (c.read_head-h.ensures, w.same) at (via _ _ _ c.head_sound.ensures c.if-head_sound.false) in
    rw (c.if-head_sound.false, n, h, s)

pub returns-else-is_head : goal.returns-else-is_head
unfolding sound_record
returns-else-is_head c =
    let w = c.in-Some.ensures.cases in
    let n : eqb (length c.args.rec.now) record_length ≡ true = eq-eqb _ _ w.long in
    let h : is_head c.args.rec.now ≡ false = rw w.same at (via _ _ _ c.is_head.ensures c.if-is_head.false) in
    rw (c.if-is_head.false, n, h)
