-- Reading takes exactly the lawful packets, and gives the refusal with the lowest number that applies.
use Prim.Native.Nat.{ℕ, suc, ◌+◌, ◌-◌, ◌<◌, ◌≤◌}
use mathlib.Core.Bool.{Bool, true, false}
use mathlib.Core.Path.{◌≡◌, refl, sym, ap, subst, ◌∙◌}
use mathlib.Core.Logic.{◌≢◌, inl, inr, ◌↔◌}
use mathlib.Core.List.{List, [], ◌∷◌}
use native.Mathlib.Omega.{arith}
use lib.Dec.{eqb, ltb}
use lib.ListN.{length, get_or, length-drop}
use borrow.Author.Tests.{ltb-true, ltb-false, leb-true, leb-false, eqb-true, eqb-false}
use Rattle.basics.specs.Choice.{pick}
use Rattle.basics.specs.Words.{byte_at, half_at, low, high}
use Rattle.packet.specs.declared.Refusal.{Refusal}
use Rattle.packet.specs.declared.Refusal.TheVariants.{UnsoundRecord, FlashLength, ReplyShort, PacketShort, NoCommand, LengthDiffers, OpcodeUnlisted, PayloadLength, InnerSize, FillerLength}
use Rattle.packet.specs.declared.Command.{Command}
use Rattle.packet.specs.declared.Command.TheVariants.{GetState, FwUpgrade, FwDelete, UpdateAuthKey, LockAuthKey, StoreUsrKey, LoadUsrKey, StartWs, LockUsrKey, UnloadUsrKey, ActivateAntirollback}
use Rattle.std.specs.Prelude.{Option, Some, None, Result, Ok, Err}
use Rattle.packet.specs.declared.Request.{Request}
use Rattle.packet.specs.Packets.{number_of, opcode_of, command_of, lawful_of, length_allowed, inner_allowed, judged, read_of}
use Rattle.packet.specs.Lawful.{Payload, empty, index, auth_key, user_key, payload_of, shortest, longest, Holds, Allowed, packet_of, LawfulPacket, lawful, Bytes, LengthListed, Applies, NoneBelow, Given}

-- what holds of both answers of a test, by what the test says, holds of the answer
split : {A : Type 0} (P : A → Type 0) (t : Bool) (x y : A) → (t ≡ true → P x) → (t ≡ false → P y) → P (pick t x y)
unfolding pick
split P true x y p q = p refl
split P false x y p q = q refl

-- the same where the answer does not show the test
decide : {A : Type 0} (t : Bool) → (t ≡ true → A) → (t ≡ false → A) → A
decide true p q = p refl
decide false p q = q refl

never : {A : Type 0} → true ≡ false → A
never e = let z : ◌≡◌ {A = ℕ} 0 1 = cc in absurd (omega arith)

-- ---- a command is known by its opcode, a refusal by its number

listed : (c : Command) → command_of (opcode_of c) ≡ Some c
unfolding command_of pick
listed GetState = refl
listed FwUpgrade = refl
listed FwDelete = refl
listed UpdateAuthKey = refl
listed LockAuthKey = refl
listed StoreUsrKey = refl
listed LoadUsrKey = refl
listed StartWs = refl
listed LockUsrKey = refl
listed UnloadUsrKey = refl
listed ActivateAntirollback = refl

same_command : (c d : Command) → opcode_of c ≡ opcode_of d → c ≡ d
same_command c d e =
    let f : Some c ≡ Some d = sym (listed c) ∙ ap command_of e ∙ listed d in
    cc

abbrev Names : ℕ → Option Command → Type 0
Names opcode (Some c) = opcode_of c ≡ opcode
Names opcode None = Unit

named : (opcode : ℕ) (c : Command) (o : Option Command) → Names opcode o → Names opcode (pick (eqb opcode (opcode_of c)) (Some c) o)
named opcode c o n = split (Names opcode) (eqb opcode (opcode_of c)) (Some c) o (λ e. sym (eqb-true _ _ e)) (λ e. n)

names : (opcode : ℕ) → Names opcode (command_of opcode)
unfolding command_of
names op =
    named op GetState _ (named op FwUpgrade _ (named op FwDelete _ (named op UpdateAuthKey _ (named op LockAuthKey _
    (named op StoreUsrKey _ (named op LoadUsrKey _ (named op StartWs _ (named op LockUsrKey _ (named op UnloadUsrKey _
    (named op ActivateAntirollback None tt))))))))))

-- the refusal at its number
abbrev in_order : List Refusal
in_order = UnsoundRecord ∷ UnsoundRecord ∷ FlashLength ∷ ReplyShort ∷ PacketShort ∷ NoCommand ∷ LengthDiffers ∷ OpcodeUnlisted ∷ PayloadLength ∷ InnerSize ∷ FillerLength ∷ []

at_number : (r : Refusal) → get_or in_order (number_of r) UnsoundRecord ≡ r
at_number UnsoundRecord = refl
at_number FlashLength = refl
at_number ReplyShort = refl
at_number PacketShort = refl
at_number NoCommand = refl
at_number LengthDiffers = refl
at_number OpcodeUnlisted = refl
at_number PayloadLength = refl
at_number InnerSize = refl
at_number FillerLength = refl

same_refusal : (q r : Refusal) → number_of q ≡ number_of r → q ≡ r
same_refusal q r e = sym (at_number q) ∙ ap (λ (n : ℕ). get_or in_order n UnsoundRecord) e ∙ at_number r

-- ---- none applies below a number, one number at a time

none_below_4 : (s : List ℕ) → NoneBelow 4 s
none_below_4 s UnsoundRecord h a = a
none_below_4 s FlashLength h a = a
none_below_4 s ReplyShort h a = a
none_below_4 s PacketShort h a = omega arith
none_below_4 s NoCommand h a = omega arith
none_below_4 s LengthDiffers h a = omega arith
none_below_4 s OpcodeUnlisted h a = omega arith
none_below_4 s PayloadLength h a = omega arith
none_below_4 s InnerSize h a = omega arith
none_below_4 s FillerLength h a = a

next : (s : List ℕ) (r : Refusal) → NoneBelow (number_of r) s → (Applies r s → ⊥) → NoneBelow (number_of r + 1) s
next s r below here q h a =
    decide (ltb (number_of q) (number_of r))
    (λ e. below q (ltb-true _ _ e) a)
    (λ e.
    let g : number_of r ≤ number_of q = ltb-false _ _ e in
    let f : number_of q ≡ number_of r = omega arith in
    here (subst (λ (x : Refusal). Applies x s) (same_refusal q r f) a))

-- ---- the two tables of lengths and sizes say the same

exact : (k n : ℕ) → eqb n k ≡ true → (k ≤ n) × (n ≤ k)
exact k n e = let h = eqb-true n k e in (omega arith, omega arith)

inexact : (k n : ℕ) → eqb n k ≡ false → (k ≤ n) × (n ≤ k) → ⊥
inexact k n e h = eqb-false n k e (omega arith)

length_listed : (c : Command) (n : ℕ) → n < 256 → length_allowed c n ≡ true → LengthListed c n
length_listed GetState n b e = exact 0 n e
length_listed FwUpgrade n b e = exact 0 n e
length_listed FwDelete n b e = exact 0 n e
length_listed UpdateAuthKey n b e = exact 65 n e
length_listed LockAuthKey n b e = exact 0 n e
length_listed StoreUsrKey n b e = (leb-true 2 n e, omega arith)
length_listed LoadUsrKey n b e = exact 1 n e
length_listed StartWs n b e = exact 0 n e
length_listed LockUsrKey n b e = exact 1 n e
length_listed UnloadUsrKey n b e = exact 1 n e
length_listed ActivateAntirollback n b e = exact 0 n e

length_unlisted : (c : Command) (n : ℕ) → length_allowed c n ≡ false → LengthListed c n → ⊥
length_unlisted GetState n e = inexact 0 n e
length_unlisted FwUpgrade n e = inexact 0 n e
length_unlisted FwDelete n e = inexact 0 n e
length_unlisted UpdateAuthKey n e = inexact 65 n e
length_unlisted LockAuthKey n e = inexact 0 n e
length_unlisted StoreUsrKey n e = λ h. let g = leb-false 2 n e in omega arith
length_unlisted LoadUsrKey n e = inexact 1 n e
length_unlisted StartWs n e = inexact 0 n e
length_unlisted LockUsrKey n e = inexact 1 n e
length_unlisted UnloadUsrKey n e = inexact 1 n e
length_unlisted ActivateAntirollback n e = inexact 0 n e

inner_wrong : (c : Command) (s : List ℕ) → opcode_of c ≡ half_at s 1 → LengthListed c (byte_at s 3) → inner_allowed c s (byte_at s 3) ≡ false → Applies InnerSize s
inner_wrong GetState s o l e = never e
inner_wrong FwUpgrade s o l e = never e
inner_wrong FwDelete s o l e = never e
inner_wrong UpdateAuthKey s o l e = inr (o, eqb-false _ _ e)
inner_wrong LockAuthKey s o l e = never e
inner_wrong StoreUsrKey s o l e = inl (o, λ h. eqb-false (byte_at s 5 + 2) (byte_at s 3) e (omega arith))
inner_wrong LoadUsrKey s o l e = never e
inner_wrong StartWs s o l e = never e
inner_wrong LockUsrKey s o l e = never e
inner_wrong UnloadUsrKey s o l e = never e
inner_wrong ActivateAntirollback s o l e = never e

-- ---- payloads by their length

is_empty : (p : List ℕ) → length p ≡ 0 → Holds empty p
is_empty [] h = refl
is_empty (x ∷ p) h = absurd (omega arith)

is_index : (p : List ℕ) → length p ≡ 1 → Holds index p
is_index [] h = absurd (omega arith)
is_index (i ∷ []) h = (i, refl)
is_index (i ∷ x ∷ p) h = absurd (omega arith)

is_auth : (p : List ℕ) → length p ≡ 65 → byte_at p 0 ≡ 64 → Holds auth_key p
is_auth [] h i = absurd (omega arith)
is_auth (x ∷ key) h i = (key, ap (λ (y : ℕ). y ∷ key) i, omega arith)

is_user : (p : List ℕ) → length p < 256 → byte_at p 1 + 2 ≡ length p → Holds user_key p
is_user [] h i = absurd (omega arith)
is_user (kind ∷ []) h i = absurd (omega arith)
is_user (kind ∷ n ∷ key) h i =
    let f : n ≡ length key = omega arith in
    (kind, key, ap (λ (y : ℕ). kind ∷ y ∷ key) f, omega arith)

module _ (w x y n : ℕ) (p : List ℕ) (b : n < 256) (h : n ≡ length p) where
  allowed : (c : Command) → length_allowed c n ≡ true → inner_allowed c (w ∷ x ∷ y ∷ n ∷ p) n ≡ true → Allowed c p
  allowed GetState l i = is_empty p (sym h ∙ eqb-true n 0 l)
  allowed FwUpgrade l i = is_empty p (sym h ∙ eqb-true n 0 l)
  allowed FwDelete l i = is_empty p (sym h ∙ eqb-true n 0 l)
  allowed UpdateAuthKey l i = is_auth p (sym h ∙ eqb-true n 65 l) (eqb-true (byte_at p 0) 64 i)
  allowed LockAuthKey l i = is_empty p (sym h ∙ eqb-true n 0 l)
  allowed StoreUsrKey l i = is_user p (omega arith) (eqb-true (byte_at p 1 + 2) n i ∙ h)
  allowed LoadUsrKey l i = is_index p (sym h ∙ eqb-true n 1 l)
  allowed StartWs l i = is_empty p (sym h ∙ eqb-true n 0 l)
  allowed LockUsrKey l i = is_index p (sym h ∙ eqb-true n 1 l)
  allowed UnloadUsrKey l i = is_index p (sym h ∙ eqb-true n 1 l)
  allowed ActivateAntirollback l i = is_empty p (sym h ∙ eqb-true n 0 l)

-- the lengths of a payload are those in the list
holds_length : (k : Payload) (p : List ℕ) → Holds k p → (shortest k ≤ length p) × (length p ≤ longest k)
holds_length empty p e = let h : length p ≡ 0 = ap length e in (omega arith, omega arith)
holds_length index p (i, e) = let h : length p ≡ 1 = ap length e in (omega arith, omega arith)
holds_length auth_key p (key, e, l) = let h : length p ≡ suc (length key) = ap length e in (omega arith, omega arith)
holds_length user_key p (kind, key, e, l) = let h : length p ≡ suc (suc (length key)) = ap length e in (omega arith, l)

-- ---- what reading finds

-- a packet that is taken is the command's, with a payload that it allows; a refusal is given as the table says
abbrev Outcome : List ℕ → Result Request Refusal → Type 0
Outcome s (Ok l) = (p : List ℕ) × Allowed l.command p × (length p ≡ l.length) × (s ≡ packet_of l.command p)
Outcome s (Err r) = Given r s

-- the bytes of a packet that has a head, a command's opcode and a right length
assembled : (c : Command) (s : List ℕ) → Bytes s → 4 ≤ length s → byte_at s 0 ≡ 0x10 → byte_at s 3 + 4 ≡ length s → opcode_of c ≡ half_at s 1 → length_allowed c (byte_at s 3) ≡ true → inner_allowed c s (byte_at s 3) ≡ true → Outcome s (lawful_of c (byte_at s 3))
assembled c [] b h f m o l i = absurd (omega arith)
assembled c (w ∷ []) b h f m o l i = absurd (omega arith)
assembled c (w ∷ x ∷ []) b h f m o l i = absurd (omega arith)
assembled c (w ∷ x ∷ y ∷ []) b h f m o l i = absurd (omega arith)
assembled c (w ∷ x ∷ y ∷ n ∷ p) b h f m o l i =
    let bx : x < 256 = b 1 in
    let bn : n < 256 = b 3 in
    let e : n ≡ length p = omega arith in
    let ex : x ≡ low (opcode_of c) = omega arith in
    let ey : y ≡ high (opcode_of c) = omega arith in
    (p, allowed w x y n p bn e c l i, sym e, cc)

module _ (s : List ℕ) (b : Bytes s) where
  module _ (h : 4 ≤ length s) where
    below_5 : NoneBelow 5 s
    below_5 = next s PacketShort (none_below_4 s) (λ a. omega arith)

    module _ (f : byte_at s 0 ≡ 0x10) where
      below_6 : NoneBelow 6 s
      below_6 = next s NoCommand below_5 (λ a. a f)

      module _ (m : byte_at s 3 + 4 ≡ length s) where
        below_7 : NoneBelow 7 s
        below_7 = next s LengthDiffers below_6 (λ a. a (omega (arith, length-drop 4 s)))

        known : (c : Command) → opcode_of c ≡ half_at s 1 → Outcome s (judged (Some c) s (byte_at s 3))
        known c o =
            let below-8 : NoneBelow 8 s = next s OpcodeUnlisted below_7 (λ a. a c o) in
            split (Outcome s) (length_allowed c (byte_at s 3)) _ _
            (λ l.
            let n : LengthListed c (byte_at s 3) = length_listed c (byte_at s 3) (b 3) l in
            let below-9 : NoneBelow 9 s = next s PayloadLength below-8 (λ a. a.2 (subst (λ (d : Command). LengthListed d (byte_at s 3)) (same_command c a.0 (o ∙ sym a.1)) n)) in
            split (Outcome s) (inner_allowed c s (byte_at s 3)) _ _
            (λ i. assembled c s b h f m o l i)
            (λ i. (inner_wrong c s o n i, below-9)))
            (λ l. ((c, o, length_unlisted c (byte_at s 3) l), below-8))

        unknown : command_of (half_at s 1) ≡ None → Given OpcodeUnlisted s
        unknown e = (λ c o. let z : Some c ≡ None = sym (listed c) ∙ ap command_of o ∙ e in let y : ◌≡◌ {A = ℕ} 0 1 = cc in omega arith, below_7)

        by_opcode : (o : Option Command) → command_of (half_at s 1) ≡ o → Outcome s (judged o s (byte_at s 3))
        by_opcode None e = unknown e
        by_opcode (Some c) e = known c (subst (Names (half_at s 1)) e (names (half_at s 1)))

  outcome : Outcome s (read_of s)
  unfolding read_of
  outcome =
      split (Outcome s) (ltb (length s) 4) _ _
      (λ e. (ltb-true (length s) 4 e, none_below_4 s))
      (λ e.
      let h = ltb-false (length s) 4 e in
      split (Outcome s) (eqb (byte_at s 0) 0x10) _ _
      (λ e.
      let f = eqb-true (byte_at s 0) 0x10 e in
      split (Outcome s) (eqb (byte_at s 3 + 4) (length s)) _ _
      (λ e. by_opcode h f (eqb-true (byte_at s 3 + 4) (length s) e) (command_of (half_at s 1)) refl)
      (λ e. (λ d. eqb-false (byte_at s 3 + 4) (length s) e (omega (arith, length-drop 4 s)), below_6 h f)))
      (λ e. (eqb-false (byte_at s 0) 0x10 e, below_5 h)))

-- ---- of a lawful packet no refusal applies

user_size : (p : List ℕ) → Holds user_key p → byte_at p 1 ≢ length p - 2 → ⊥
user_size p (kind, key, e, l) x =
    let h : byte_at p 1 ≡ length key = ap (λ (t : List ℕ). byte_at t 1) e in
    let m : length p ≡ suc (suc (length key)) = ap length e in
    x (omega arith)

auth_size : (p : List ℕ) → Holds auth_key p → byte_at p 0 ≢ 64 → ⊥
auth_size p (key, e, l) x = x (ap (λ (t : List ℕ). byte_at t 0) e)

module _ (c : Command) (p : List ℕ) (a : Allowed c p) where
  opcode_kept : half_at (packet_of c p) 1 ≡ opcode_of c
  opcode_kept = omega arith

  none_applies : (r : Refusal) → Applies r (packet_of c p) → ⊥
  none_applies UnsoundRecord x = x
  none_applies FlashLength x = x
  none_applies ReplyShort x = x
  none_applies PacketShort x = omega arith
  none_applies NoCommand x = x refl
  none_applies LengthDiffers x = x refl
  none_applies OpcodeUnlisted x = x c (sym opcode_kept)
  none_applies PayloadLength (d, o, x) = x (subst (λ (d : Command). LengthListed d (length p)) (same_command c d (sym (o ∙ opcode_kept))) (holds_length (payload_of c) p a))
  none_applies InnerSize (inl (o, x)) = user_size p (subst (λ (d : Command). Allowed d p) (same_command c StoreUsrKey (sym (o ∙ opcode_kept))) a) x
  none_applies InnerSize (inr (o, x)) = auth_size p (subst (λ (d : Command). Allowed d p) (same_command c UpdateAuthKey (sym (o ∙ opcode_kept))) a) x
  none_applies FillerLength x = x

-- a lawful packet is read as what it is
module _ (s : List ℕ) (c : Command) (p : List ℕ) (a : Allowed c p) (e : s ≡ packet_of c p) where
  found : (r : Result Request Refusal) → Outcome s r → r ≡ lawful_of c (length p)
  found (Ok r) (q, x, l, f) =
      let o : opcode_of r.command ≡ opcode_of c = sym (opcode_kept r.command q x) ∙ ap (λ (t : List ℕ). half_at t 1) (sym f ∙ e) ∙ opcode_kept c p a in
      let m : length q ≡ length p = ap (λ (t : List ℕ). byte_at t 3) (sym f ∙ e) in
      ap (λ (d : Command). lawful_of d r.length) (same_command r.command c o) ∙ ap (lawful_of c) (sym l ∙ m)
  found (Err r) g = absurd (none_applies c p a r (subst (Applies r) e g.0))

-- one refusal at most is given
same_given : (s : List ℕ) (q r : Refusal) → Given q s → Given r s → q ≡ r
same_given s q r g h =
    same_refusal q r
    (decide (ltb (number_of q) (number_of r)) (λ e. absurd (h.1 q (ltb-true _ _ e) g.0))
    (λ e.
    decide (ltb (number_of r) (number_of q)) (λ f. absurd (g.1 r (ltb-true _ _ f) h.0))
    (λ f.
    let x : number_of r ≤ number_of q = ltb-false _ _ e in
    let y : number_of q ≤ number_of r = ltb-false _ _ f in
    omega arith)))

refused_as : (s : List ℕ) (r : Refusal) → Given r s → (q : Result Request Refusal) → Outcome s q → q ≡ Err r
refused_as s r g (Ok m) (p, a, l, e) = absurd (none_applies m.command p a r (subst (Applies r) e g.0))
refused_as s r g (Err q) h = ap Err (same_given s q r h g)

-- ---- the theorems

-- the packet of a command and of a payload that it allows is read as that command with that length
pub read_as : (c : Command) (p : List ℕ) → Allowed c p → Bytes (packet_of c p) → read_of (packet_of c p) ≡ lawful_of c (length p)
read_as c p a b = found (packet_of c p) c p a refl (read_of (packet_of c p)) (outcome (packet_of c p) b)

-- and what is read as a command with a length is such a packet
pub read_from : (s : List ℕ) (c : Command) (n : ℕ) → Bytes s → read_of s ≡ lawful_of c n → (p : List ℕ) × Allowed c p × (length p ≡ n) × (s ≡ packet_of c p)
read_from s c n b e = subst (Outcome s) e (outcome s b)

read_back : (s : List ℕ) → Bytes s → LawfulPacket s → (c : Command) × (n : ℕ) × (read_of s ≡ lawful_of c n)
read_back s b (lawful c p a) = (c, length p, read_as c p a b)

-- exactly the lawful packets are taken
pub taken : (s : List ℕ) → Bytes s → ((c : Command) × (n : ℕ) × (read_of s ≡ lawful_of c n)) ↔ LawfulPacket s
taken s b =
    (λ r. let f = read_from s r.0 r.1 b r.2 in subst LawfulPacket (sym f.3) (lawful r.0 f.0 f.1), read_back s b)

-- of a lawful packet no refusal applies
pub none : (s : List ℕ) → LawfulPacket s → (r : Refusal) → Applies r s → ⊥
none s (lawful c p a) = none_applies c p a

-- exactly the refusal that applies while no lower number does is given
pub least : (s : List ℕ) → Bytes s → (r : Refusal) → (read_of s ≡ Err r) ↔ Given r s
least s b r = (λ e. subst (Outcome s) e (outcome s b), λ g. refused_as s r g (read_of s) (outcome s b))
