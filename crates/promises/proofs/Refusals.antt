-- DEMAND 1: a call is refused by exactly the least number that applies; then device and flash are as given and the reply is all zeros.
-- Assumes nothing.
use Prim.Native.Nat.{ℕ, ◌*◌, ◌≤◌, ◌<◌}
use mathlib.Core.Bool.{Bool, true, false}
use mathlib.Core.Path.{◌≡◌, refl, sym, ap, ◌∙◌, subst}
use mathlib.Core.List.{List}
use native.Mathlib.Omega.{arith}
use borrow.Author.Tests.{leb-true, leb-false, lt-leb, eqb-true, eqb-false, ne_eqb}
use lib.Dec.{leb, eqb}
use lib.ListN.{length}
use Rattle.basics.specs.Choice.{pick}
use Rattle.packet.specs.declared.Refusal.{Refusal}
use Rattle.packet.specs.declared.Refusal.TheVariants.{UnsoundRecord, FlashLength, ReplyShort, PacketShort, NoCommand, LengthDiffers, OpcodeUnlisted, PayloadLength, InnerSize, FillerLength}
use Rattle.packet.specs.declared.Command.{Command}
use Rattle.packet.specs.declared.Request.{Request}
use Rattle.std.specs.Prelude.{Result, Ok, Err}
use Rattle.packet.specs.Packets.{number_of, read_of}
use Rattle.packet.specs.Lawful.{Bytes, Applies, LawfulPacket, Given as GivenOf}
use Rattle.packet.proofs.Lawful.{taken, none, least}
use Rattle.device.specs.Types.{Device}
use Rattle.soundness.specs.Sound.{sound}
use Rattle.services.specs.Calls.{Numbers, Verdict, granted, HandleResult, CutResult, RestartResult, WorkResult, gated, passed, handle_refused, restart_refused, work_refused, cut_refused, working, lent, answered, by_reading, handled, restarted, worked, cutting, cut_off}
use Rattle.services.proofs.Gated.{differ, same_refusal}
use Rattle.device.specs.Modes.{has_job}
use Rattle.promises.specs.Refusals.{Unsound, Short, OfHandle, Rows, OfRestart, OfWork, OfCut, Given}
use Rattle.promises.proofs.Under.{never}
use Rattle.promises.proofs.Still.{either}

-- 1 is the least number, below 2 stands only 1, below 3 only 1 and 2
least_one : (q : Refusal) → 1 ≤ number_of q
least_one UnsoundRecord = omega arith
least_one FlashLength = omega arith
least_one ReplyShort = omega arith
least_one PacketShort = omega arith
least_one NoCommand = omega arith
least_one LengthDiffers = omega arith
least_one OpcodeUnlisted = omega arith
least_one PayloadLength = omega arith
least_one InnerSize = omega arith
least_one FillerLength = omega arith

module _ (applies : Refusal → Type 0) where
  first : (q : Refusal) → number_of q < 1 → applies q → ⊥
  first q l a = omega (arith, least_one q)

  module _ (one : applies UnsoundRecord → ⊥) where
    second : (q : Refusal) → number_of q < 2 → applies q → ⊥
    second UnsoundRecord l a = one a
    second FlashLength l a = omega arith
    second ReplyShort l a = omega arith
    second PacketShort l a = omega arith
    second NoCommand l a = omega arith
    second LengthDiffers l a = omega arith
    second OpcodeUnlisted l a = omega arith
    second PayloadLength l a = omega arith
    second InnerSize l a = omega arith
    second FillerLength l a = omega arith

    third : (applies FlashLength → ⊥) → (q : Refusal) → number_of q < 3 → applies q → ⊥
    third two UnsoundRecord l a = one a
    third two FlashLength l a = two a
    third two ReplyShort l a = omega arith
    third two PacketShort l a = omega arith
    third two NoCommand l a = omega arith
    third two LengthDiffers l a = omega arith
    third two OpcodeUnlisted l a = omega arith
    third two PayloadLength l a = omega arith
    third two InnerSize l a = omega arith
    third two FillerLength l a = omega arith

-- what a test says of its row
sound_so : (k : Numbers) (d : Device) → sound k.size k.top d ≡ true → Unsound k d → ⊥
sound_so k d e a = never (sym a ∙ e)

-- ---- handle
module _ (k : Numbers) (d : Device) (F bytes R : List ℕ) (b : Bytes bytes) where
  abbrev Applying : Refusal → Type 0
  Applying = OfHandle k d F bytes R

  -- what handle finds: the least refusal, or a lawful command on a sound record and fitting buffers
  data Handled : HandleResult → Type 0 where
    no : (r : Refusal) → Given Applying r → Handled (handle_refused d F R r)
    yes : (command : Command) → sound k.size k.top d ≡ true → length F ≡ k.count * k.size → 8 ≤ length R → LawfulPacket bytes → Handled (answered k d F bytes R command)

  module _ (s : sound k.size k.top d ≡ true) (e : length F ≡ k.count * k.size) (h : 8 ≤ length R) where
    lower : (n : ℕ) → ((q : Refusal) → number_of q < n → Applies q bytes → ⊥) → (q : Refusal) → number_of q < n → Applying q → ⊥
    lower n low UnsoundRecord l a = sound_so k d s a
    lower n low FlashLength l a = a e
    lower n low ReplyShort l a = omega arith
    lower n low PacketShort l a = low PacketShort l a
    lower n low NoCommand l a = low NoCommand l a
    lower n low LengthDiffers l a = low LengthDiffers l a
    lower n low OpcodeUnlisted l a = low OpcodeUnlisted l a
    lower n low PayloadLength l a = low PayloadLength l a
    lower n low InnerSize l a = low InnerSize l a
    lower n low FillerLength l a = a

    there : (r : Refusal) → Applies r bytes → Applying r
    there UnsoundRecord a = absurd a
    there FlashLength a = absurd a
    there ReplyShort a = absurd a
    there PacketShort a = a
    there NoCommand a = a
    there LengthDiffers a = a
    there OpcodeUnlisted a = a
    there PayloadLength a = a
    there InnerSize a = a
    there FillerLength a = absurd a

    by_reading_lem : (r : Result Request Refusal) → read_of bytes ≡ r → Handled (by_reading r k d F bytes R)
    by_reading_lem (Ok request) q = yes request.command s e h ((taken bytes b).0 (request.command, request.length, q))
    by_reading_lem (Err r) q =
        let g : GivenOf r bytes = (least bytes b r).0 q in
        no r (there r g.0, lower (number_of r) g.1)

  judged : Handled (handled k d F bytes R)
  unfolding handled gated pick
  judged = go (sound k.size k.top d) refl (lent k F) refl (leb 8 (length R)) refl
    where
      go : (t : Bool) → sound k.size k.top d ≡ t → (u : Bool) → lent k F ≡ u → (v : Bool) → leb 8 (length R) ≡ v
          → Handled (passed (gated t u v true) (by_reading (read_of bytes) k d F bytes R) (handle_refused d F R))
      go false s u e v h = no UnsoundRecord (s, first Applying)
      go true s false e v h = no FlashLength (eqb-false _ _ e, second Applying (sound_so k d s))
      go true s true e false h = no ReplyShort (leb-false _ _ h, third Applying (sound_so k d s) (λ a. a (eqb-true _ _ e)))
      go true s true e true h = by_reading_lem s (eqb-true _ _ e) (leb-true _ _ h) (read_of bytes) refl

  -- a refusal is the least number that applies, gives the device back, leaves flash untouched and fills the reply buffer with zeros
  refused_by_lem : (r : Refusal) (x : HandleResult) → Handled x → x.verdict ≡ Err r → Given Applying r × (x ≡ handle_refused d F R r)
  refused_by_lem r x (no q g) e = let f : q ≡ r = cc in (subst (Given Applying) f g, ap (λ (p : Refusal). handle_refused d F R p) f)
  refused_by_lem r x (yes command s l h p) e = let z : ◌≡◌ {A = ℕ} 0 1 = cc in absurd (omega arith)

  pub handle_refused_lem : (r : Refusal) → (handled k d F bytes R).verdict ≡ Err r → Given Applying r × (handled k d F bytes R ≡ handle_refused d F R r)
  handle_refused_lem r e = refused_by_lem r _ judged e

  -- on a sound record and fitting buffers a packet is taken exactly when lawful
  taken_by : (x : HandleResult) → Handled x → x.verdict ≡ granted → (sound k.size k.top d ≡ true) × (length F ≡ k.count * k.size) × (8 ≤ length R) × LawfulPacket bytes
  taken_by x (no q g) e = let z : ◌≡◌ {A = ℕ} 0 1 = cc in absurd (omega arith)
  taken_by x (yes command s l h p) e = (s, l, h, p)

  pub handle_taken : (handled k d F bytes R).verdict ≡ granted → (sound k.size k.top d ≡ true) × (length F ≡ k.count * k.size) × (8 ≤ length R) × LawfulPacket bytes
  handle_taken e = taken_by _ judged e

  lawful_taken : (x : HandleResult) → Handled x → sound k.size k.top d ≡ true → length F ≡ k.count * k.size → 8 ≤ length R → LawfulPacket bytes → x.verdict ≡ granted
  lawful_taken x (yes command s' l' h' p') s l h p = refl
  lawful_taken x (no q g) s l h p = absurd (lower s l h 11 (λ r n a. none bytes p r a) q (few q) g.0)
    where
      few : (r : Refusal) → number_of r < 11
      few UnsoundRecord = omega arith
      few FlashLength = omega arith
      few ReplyShort = omega arith
      few PacketShort = omega arith
      few NoCommand = omega arith
      few LengthDiffers = omega arith
      few OpcodeUnlisted = omega arith
      few PayloadLength = omega arith
      few InnerSize = omega arith
      few FillerLength = omega arith

  pub handle_lawful : sound k.size k.top d ≡ true → length F ≡ k.count * k.size → 8 ≤ length R → LawfulPacket bytes → (handled k d F bytes R).verdict ≡ granted
  handle_lawful = lawful_taken _ judged

-- ---- restart, work and cut
fourth : (unsound flash reply filler : Type 0) → (unsound → ⊥) → (flash → ⊥) → (reply → ⊥) → (q : Refusal) → number_of q < 10 → Rows unsound flash reply filler q → ⊥
fourth unsound flash reply filler one two three UnsoundRecord l a = one a
fourth unsound flash reply filler one two three FlashLength l a = two a
fourth unsound flash reply filler one two three ReplyShort l a = three a
fourth unsound flash reply filler one two three PacketShort l a = a
fourth unsound flash reply filler one two three NoCommand l a = a
fourth unsound flash reply filler one two three LengthDiffers l a = a
fourth unsound flash reply filler one two three OpcodeUnlisted l a = a
fourth unsound flash reply filler one two three PayloadLength l a = a
fourth unsound flash reply filler one two three InnerSize l a = a
fourth unsound flash reply filler one two three FillerLength l a = omega arith

-- the gate gives the least number whose test fails
gate_given : (s l f x : Bool) (r : Refusal) → gated s l f x ≡ Err r → Given (Rows (s ≡ false) (l ≡ false) (f ≡ false) (x ≡ false)) r
unfolding gated pick
gate_given s l f x r = go s l f x
  where
    told : (s l f x : Bool) (q : Refusal) → Given (Rows (s ≡ false) (l ≡ false) (f ≡ false) (x ≡ false)) q → ◌≡◌ {A = Verdict} (Err q) (Err r) → Given (Rows (s ≡ false) (l ≡ false) (f ≡ false) (x ≡ false)) r
    told s l f x q g e = subst (Given (Rows (s ≡ false) (l ≡ false) (f ≡ false) (x ≡ false))) (same_refusal q r e) g

    no : true ≡ false → ⊥
    no e = never (sym e)

    go : (s l f x : Bool) → gated s l f x ≡ Err r → Given (Rows (s ≡ false) (l ≡ false) (f ≡ false) (x ≡ false)) r
    go false l f x e = told false l f x UnsoundRecord (refl, first _) e
    go true false f x e = told true false f x FlashLength (refl, second _ no) e
    go true true false x e = told true true false x ReplyShort (refl, third _ no no) e
    go true true true false e = told true true true false FillerLength (refl, fourth _ _ _ _ no no no) e
    go true true true true e = differ r e

-- rows that say the same
pub record Same (A B : Type 0) : Type 0 where
  pub to : A → B
  pub from : B → A

itself : (A : Type 0) → Same A A
itself A = record { to = λ a. a; from = λ a. a }

unused : Same (true ≡ false) ⊥
unused = record { to = λ e. never (sym e); from = λ z. absurd z }

short_so : (least : ℕ) (R : List ℕ) → Same (leb least (length R) ≡ false) (Short least R)
short_so least R = record { to = leb-false _ _; from = λ h. lt-leb _ _ h }

other_so : (m n : ℕ) → Same (eqb m n ≡ false) (m ≡ n → ⊥)
other_so m n = record { to = eqb-false _ _; from = λ h. ne_eqb _ _ h }

module _ {a b c d a' b' c' d' : Type 0} (p : Same a a') (q : Same b b') (u : Same c c') (v : Same d d') where
  row_to : (r : Refusal) → Rows a b c d r → Rows a' b' c' d' r
  row_to UnsoundRecord x = p.to x
  row_to FlashLength x = q.to x
  row_to ReplyShort x = u.to x
  row_to PacketShort x = x
  row_to NoCommand x = x
  row_to LengthDiffers x = x
  row_to OpcodeUnlisted x = x
  row_to PayloadLength x = x
  row_to InnerSize x = x
  row_to FillerLength x = v.to x

  row_from : (r : Refusal) → Rows a' b' c' d' r → Rows a b c d r
  row_from UnsoundRecord x = p.from x
  row_from FlashLength x = q.from x
  row_from ReplyShort x = u.from x
  row_from PacketShort x = x
  row_from NoCommand x = x
  row_from LengthDiffers x = x
  row_from OpcodeUnlisted x = x
  row_from PayloadLength x = x
  row_from InnerSize x = x
  row_from FillerLength x = v.from x

  given_same : (r : Refusal) → Given (Rows a b c d) r → Given (Rows a' b' c' d') r
  given_same r g = (row_to r g.0, λ s l x. g.1 s l (row_from s x))

-- a call that is refused was refused by the gate, and gives back what a refusal gives
module _ {A : Type 0} (verdict : A → Verdict) (x : A) (back : Refusal → A) (taken : verdict x ≡ granted) (turned : (q : Refusal) → verdict (back q) ≡ Err q) where
  by_gate : (v : Verdict) (r : Refusal) → verdict (passed v x back) ≡ Err r → (v ≡ Err r) × (passed v x back ≡ back r)
  by_gate (Ok done) r e = differ r (sym taken ∙ e)
  by_gate (Err q) r e = let f : q ≡ r = same_refusal q r (sym (turned q) ∙ e) in (ap Err f, ap back f)

module _ (k : Numbers) (d : Device) where
  pub restart_refused_lem : (R : List ℕ) (r : Refusal) → (restarted k d R).verdict ≡ Err r → Given (OfRestart k d R) r × (restarted k d R ≡ restart_refused d R r)
  unfolding restarted
  restart_refused_lem R r e =
      let g = by_gate (λ (x : RestartResult). x.verdict) _ (restart_refused d R) refl (λ q. refl) _ r e in
      (given_same (itself (Unsound k d)) unused (short_so 6 R) unused r (gate_given _ true _ true r g.0), g.1)

  pub work_refused_lem : (F : List ℕ) (r : Refusal) → (worked k d F).verdict ≡ Err r → Given (OfWork k d F) r × (worked k d F ≡ work_refused d F r)
  unfolding worked
  work_refused_lem F r e =
      let t : (working k d F).verdict ≡ granted = either (λ (x : WorkResult). x.verdict ≡ granted) (has_job d.head.mode) _ _ refl refl in
      let g = by_gate (λ (x : WorkResult). x.verdict) _ (work_refused d F) t (λ q. refl) _ r e in
      (given_same (itself (Unsound k d)) (other_so _ _) unused unused r (gate_given _ _ true true r g.0), g.1)

  pub cut_refused_lem : (F filler : List ℕ) (through : Bool) (R : List ℕ) (r : Refusal) → (cut_off k d F filler through R).verdict ≡ Err r
      → Given (OfCut k d F filler R) r × (cut_off k d F filler through R ≡ cut_refused d F R r)
  unfolding cut_off
  cut_refused_lem F filler through R r e =
      let t : (cutting k d F filler through R).verdict ≡ granted = either (λ (x : CutResult). x.verdict ≡ granted) (has_job d.head.mode) _ _ refl refl in
      let g = by_gate (λ (x : CutResult). x.verdict) _ (cut_refused d F R) t (λ q. refl) _ r e in
      (given_same (itself (Unsound k d)) (other_so _ _) (short_so 6 R) (other_so _ _) r (gate_given _ _ _ _ r g.0), g.1)
