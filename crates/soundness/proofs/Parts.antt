-- The parts of soundness: the head's numbers, the pending error, the keys.
use Prim.Native.Nat.{ℕ, ◌≤◌, ◌<◌}
use mathlib.Core.Path.{◌≡◌}
use mathlib.Core.Bool.{true, not, ◌&&◌, ◌||◌}
use mathlib.Core.List.{List}
use borrow.Author.Tests.{leb-true, le-leb}
use lib.Dec.{leb, eqb}
use lib.ListN.{get_or}
use Rattle.basics.specs.Choice.{and_left, and_right}
use Rattle.device.specs.declared.Head.{Head}
use Rattle.device.specs.Types.{Device}
use Rattle.device.specs.Modes.{is_idle, stack_runs}
use Rattle.soundness.specs.Sound.{stack_sound, parts_sound, error_sound, mode_sound, head_sound, slot_test, slots_sound, loaded_sound, sound}
use Rattle.soundness.proofs.Laws.{all_below_lem, each_below}
use Rattle.soundness.proofs.Slots.{Slot, slot_of, slot_sound_lem}

-- all that the head says but the pending error
pub record Numbers (S top : ℕ) (h : Head) : Type 0 where
  pub stack : stack_sound top h ≡ true
  pub auth : (not h.locked || h.auth) ≡ true
  pub mark : (not h.asked || stack_runs h.mode) ≡ true
  pub floor : (h.rollback || eqb h.floor 0) ≡ true
  pub count : h.count ≤ 100
  pub loaded : h.loaded ≤ h.count
  pub job : mode_sound S top h.mode h.present h.boundary h.made ≡ true

-- all that the arrays say
pub record Keys (count loaded : ℕ) (kinds sizes locks : List ℕ) : Type 0 where
  pub slots : (i : ℕ) → i < 101 → Slot i count (get_or kinds i 0) (get_or sizes i 0) (get_or locks i 0)
  pub encrypted : loaded_sound (get_or kinds loaded 0) (get_or kinds 0 0) ≡ true

pub record Parts (S top : ℕ) (d : Device) : Type 0 where
  pub numbers : Numbers S top d.head
  pub error : error_sound d.head.error (is_idle d.head.mode) ≡ true
  pub keys : Keys d.head.count d.head.loaded d.kinds d.sizes d.locks

module _ (S top : ℕ) (h : Head) where
  numbers_of : stack_sound top h ≡ true → parts_sound h (stack_runs h.mode) ≡ true → mode_sound S top h.mode h.present h.boundary h.made ≡ true → Numbers S top h
  numbers_of stack rest job =
      let a = not h.locked || h.auth in
      let m = not h.asked || stack_runs h.mode in
      let f = h.rollback || eqb h.floor 0 in
      let n = leb h.count 100 in
      let l = leb h.loaded h.count in
      let e4 = and_left (a && m && f && n) l rest in
      let e3 = and_left (a && m && f) n e4 in
      let e2 = and_left (a && m) f e3 in
      record {
        stack = stack;
        auth = and_left a m e2;
        mark = and_right a m e2;
        floor = and_right (a && m) f e3;
        count = leb-true h.count 100 (and_right (a && m && f) n e4);
        loaded = leb-true h.loaded h.count (and_right (a && m && f && n) l rest);
        job = job;
      }

  parts_sound_lem : Numbers S top h → parts_sound h (stack_runs h.mode) ≡ true
  parts_sound_lem n =
      rw (n.auth, n.mark, n.floor, le-leb h.count 100 n.count, le-leb h.loaded h.count n.loaded)

module _ (S top : ℕ) (d : Device) where
  pub parts : sound S top d ≡ true → Parts S top d
  unfolding sound head_sound slots_sound
  parts e =
      let h = d.head in
      let stack = stack_sound top h in
      let rest = parts_sound h (stack_runs h.mode) in
      let error = error_sound h.error (is_idle h.mode) in
      let job = mode_sound S top h.mode h.present h.boundary h.made in
      let slots = slots_sound h.count d.kinds d.sizes d.locks in
      let lawful = loaded_sound (get_or d.kinds h.loaded 0) (get_or d.kinds 0 0) in
      let e0 = and_left (stack && rest && error && job) (slots && lawful) e in
      let k = and_right (stack && rest && error && job) (slots && lawful) e in
      let e1 = and_left (stack && rest && error) job e0 in
      let e2 = and_left (stack && rest) error e1 in
      record {
        numbers = numbers_of S top h (and_left stack rest e2) (and_right stack rest e2) (and_right (stack && rest && error) job e0);
        error = and_right (stack && rest) error e1;
        keys = record {
          slots = λ i g. slot_of i h.count (get_or d.kinds i 0) (get_or d.sizes i 0) (get_or d.locks i 0) (each_below 101 (slot_test h.count d.kinds d.sizes d.locks) (and_left slots lawful k) i g);
          encrypted = and_right slots lawful k;
        };
      }

  pub whole : Parts S top d → sound S top d ≡ true
  unfolding sound head_sound slots_sound
  whole p =
      let h = d.head in
      let rest : parts_sound h (stack_runs h.mode) ≡ true = parts_sound_lem S top h p.numbers in
      let slots = all_below_lem 101 (slot_test h.count d.kinds d.sizes d.locks) (λ i g. slot_sound_lem i h.count (get_or d.kinds i 0) (get_or d.sizes i 0) (get_or d.locks i 0) (p.keys.slots i g)) in
      rw (p.numbers.stack, rest, p.error, p.numbers.job, slots, p.keys.encrypted)
