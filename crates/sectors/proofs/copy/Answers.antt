use Rattle.std.proofs.Common.{◌≡◌, ℕ, ◌+◌, ◌-◌, ◌*◌, ◌≤◌, List, ◌++◌, length, take, drop, replicate, ◌∙◌, sym, arith, length-take, length-drop}
use lib.Seq.{take-take}
use Rattle.sectors.specs.Sectors.{sector, put_sector, fit}
use Rattle.sectors.proofs.Laws.{inside, part}
use Rattle.sectors.proofs.copy.Goals as goal

-- the first n bytes of what is at a, which lies in the front of F
read : (S a n to : ℕ) (F front : List ℕ) → front ≡ take to F → a + n ≤ to → n ≤ S → take (a + n - a) (drop a front) ≡ take n (take S (drop a F))
read S a n to F front is h l =
    let e : a + n - a ≡ n = omega arith in
    rw (e, is) (sym (part a to n F h) ∙ sym (take-take n S (drop a F) l))

-- what is stored at `to`, where F is split
stored : (S a n to : ℕ) (F front back y : List ℕ) → front ≡ take to F → back ≡ drop to F → a + n ≤ to → to + S ≤ length F → n ≤ S
    → y ≡ take (a + n - a) (drop a front) ++ replicate (length (take S back) - length (take (a + n - a) (drop a front))) 0xFF
    → front ++ (y ++ drop S back) ≡ take to F ++ (fit S n (take S (drop a F)) ++ drop S (drop to F))
unfolding fit
stored S a n to F front back y is is' h fits l e =
    let wide : length (take S back) ≡ S = rw is' (simp (length-take, length-drop) (omega arith)) in
    let long : length (take n (take S (drop a F))) ≡ n = simp (length-take, length-drop) (omega arith) in
    rw (e, wide, read S a n to F front is h l, long, is, is')

pub returns-then-source-target : goal.returns-then-source-target
unfolding sector put_sector
returns-then-source-target c =
    let a = c.args in
    let before = inside a.size c.if-source-target.true in
    stored a.size (a.source * a.size) a.count (a.target * a.size) a.flash.now _ _ _ c.split_at_mut-front.ensures.front c.split_at_mut-front.ensures.back (omega arith) (omega arith) (omega arith) c.store.ensures
