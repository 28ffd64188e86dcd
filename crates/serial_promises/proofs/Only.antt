-- (e) ONLY WELL-FORMED COMMANDS reach handle from a new reader. Assumes nothing.
use Rattle.std.specs.Prelude.{Option, Some, None}
use Prim.Native.Nat.{ℕ, suc, ◌+◌, ◌-◌, ◌*◌, ◌<◌, ◌≤◌}
use mathlib.Core.Path.{◌≡◌, refl, ap, sym, subst, ◌∙◌}
use mathlib.Core.Bool.{Bool, true, false, ◌&&◌}
use mathlib.Core.List.{List, [], ◌∷◌, ◌++◌, append_assoc}
use native.Mathlib.Omega.{arith}
use lib.Bits.{bit_xor, xor_zero_l}
use lib.Dec.{leb, eqb, ltb}
use lib.ListN.{length, take, drop, length-append, take-append-drop, drop_of_length-le}
use lib.Seq.{take_at, drop-cons, length-take-le, get_or-take, get_or-append-add, take-append-add}
use borrow.Author.Tests.{eqb-true, leb-true, ltb-true, ltb-false, le-ltb, eq-eqb, ne_eqb}
use Rattle.basics.specs.Choice.{pick, and_left, and_right, or_either}
use Rattle.basics.specs.Words.{byte_at}
use Rattle.packet.specs.declared.Command.{Command}
use Rattle.packet.specs.declared.Command.TheVariants.{GetState, FwUpgrade, FwDelete, UpdateAuthKey, LockAuthKey, StoreUsrKey, LoadUsrKey, StartWs}
use Rattle.serial.specs.declared.Fate.TheVariants.{More, Right, Whole, Wrong}
use Rattle.serial.specs.Line.{pair_right, opcode_right, address_checked, data_checked, is_write, is_listed, judged, opening_fate, address_fate, data_fate, line_command, size_in, size_allowed, command_in, data_in, whole_if, xor_of}
use Rattle.serial.proofs.Readers.{by_pick, more_whole, right_whole, wrong_whole, opening_never}
use Rattle.serial_promises.specs.WellFormed.{Written, delete, upgrade, update, lock, store, load, start, WellFormed, read, write, kept, Reaches, last, on}

-- every part of the string that is not all of it goes on, and all of it is whole
step_on : (s bs : List ℕ) (b n : ℕ) → kept (judged (s ++ (b ∷ []))) ≡ true → length s < n
    → (length (s ++ (b ∷ [])) < n → kept (judged (take n ((s ++ (b ∷ [])) ++ bs))) ≡ true) → kept (judged (take n (s ++ (b ∷ bs)))) ≡ true
step_on s bs b n e lo later = rw append_assoc at (by (ltb (length t) n) refl)
  where
    t : List ℕ
    t = s ++ (b ∷ [])

    by : (q : Bool) → ltb (length t) n ≡ q → kept (judged (take n (t ++ bs))) ≡ true
    by true q = later (ltb-true _ _ q)
    by false q =
        let len : length t ≡ n = omega (arith, length-append s (b ∷ []), ltb-false (length t) n q) in
        rw (take_at t bs n len) e

pub goes_on : (s bs : List ℕ) (c : Command) → Reaches s bs c → (n : ℕ) → length s < n → n < length s + length bs → kept (judged (take n (s ++ bs))) ≡ true
goes_on s [] c r n lo hi = elim r [ ]
goes_on s (b ∷ []) c (last e) n lo hi = absurd (omega arith)
goes_on s (b ∷ bs) c (on e r) n lo hi =
    step_on s bs b n e lo (λ h. goes_on (s ++ (b ∷ [])) bs c r n h (omega (arith, length-append s (b ∷ []))))

pub ends_whole : (s bs : List ℕ) (c : Command) → Reaches s bs c → judged (s ++ bs) ≡ Whole c
ends_whole s [] c r = elim r [ ]
ends_whole s (b ∷ []) c (last e) = e
ends_whole s (b ∷ bs) c (on e r) = rw append_assoc at (ends_whole (s ++ (b ∷ [])) bs c r)

-- a test that a fate goes by
pub kept_right : (t : Bool) → kept (pick t Right Wrong) ≡ true → t ≡ true
unfolding pick
kept_right true e = refl
kept_right false e = e

pub kept_more : (t : Bool) → kept (pick t More Wrong) ≡ true → t ≡ true
unfolding pick
kept_more true e = refl
kept_more false e = e

never_kept : (o : Option Command) → kept (whole_if o) ≡ true → ⊥
never_kept (Some c) e = let z : ◌≡◌ {A = ℕ} 0 1 = cc in omega arith
never_kept None e = let z : ◌≡◌ {A = ℕ} 0 1 = cc in omega arith

pub kept_address : (t w : Bool) (o : Option Command) → kept (pick t (pick w Right (whole_if o)) Wrong) ≡ true → (t ≡ true) × (w ≡ true)
unfolding pick
kept_address true true o e = (refl, refl)
kept_address true false o e = absurd (never_kept o e)
kept_address false w o e = absurd (let z : ◌≡◌ {A = ℕ} 0 1 = cc in omega arith)

whole_listed : (o : Option Command) (c : Command) → whole_if o ≡ Whole c → o ≡ Some c
whole_listed (Some d) c e = ap Some (let q : d ≡ c = cc in q)
whole_listed None c e = wrong_whole c e

pub true_not_false : {P : Type 0} (t : Bool) → t ≡ true → t ≡ false → P
true_not_false t p q = absurd (let z : ◌≡◌ {A = ℕ} 0 1 = cc in omega arith)

-- the opcode of a read, and of a write with its size
read_opcode_lem : (opcode : ℕ) (c : Command) → line_command false opcode ≡ Some c → (opcode ≡ 0x54) × (c ≡ GetState)
unfolding line_command pick
read_opcode_lem opcode c e = by (eqb opcode 0x54) refl e
  where
    by : (t : Bool) → eqb opcode 0x54 ≡ t → pick t (Some GetState) None ≡ Some c → (opcode ≡ 0x54) × (c ≡ GetState)
    by true q h = (eqb-true opcode 0x54 q, (let z : c ≡ GetState = cc in z))
    by false q h = absurd (let z : ◌≡◌ {A = ℕ} 0 1 = cc in omega arith)

-- the first six bytes
record Opened (a b d e f g : ℕ) : Type 0 where
  pair : pair_right (a ∷ b ∷ []) ≡ true
  high : f ≡ 255 - d
  low : g ≡ 255 - e
  listed : is_listed (command_in (a ∷ b ∷ d ∷ e ∷ f ∷ g ∷ [])) ≡ true

module _ (a b d e f g h i j : ℕ) (rest : List ℕ) (c : Command) (r : Reaches [] (a ∷ b ∷ d ∷ e ∷ f ∷ g ∷ h ∷ i ∷ j ∷ rest) c) where
  opened : Opened a b d e f g
  unfolding judged opening_fate pick
  opened =
      let two : pair_right (a ∷ b ∷ []) ≡ true = kept_right _ (goes_on [] _ c r 2 (omega arith) (omega arith)) in
      let six : opcode_right (a ∷ b ∷ d ∷ e ∷ f ∷ g ∷ []) ≡ true = kept_right _ (goes_on [] _ c r 6 (omega arith) (omega arith)) in
      record {
        pair = two;
        high = eqb-true _ _ (and_left (eqb f (255 - d)) _ (and_left _ (is_listed (command_in (a ∷ b ∷ d ∷ e ∷ f ∷ g ∷ []))) six));
        low = eqb-true _ _ (and_right (eqb f (255 - d)) _ (and_left _ (is_listed (command_in (a ∷ b ∷ d ∷ e ∷ f ∷ g ∷ []))) six));
        listed = and_right (eqb f (255 - d) && eqb g (255 - e)) (is_listed (command_in (a ∷ b ∷ d ∷ e ∷ f ∷ g ∷ []))) six;
      }

  address : 256 * h + i ≡ 0
  unfolding judged address_fate pick
  address = eqb-true _ _ (kept_more _ (goes_on [] _ c r 8 (omega arith) (omega arith)))

whole_address : (t w : Bool) (o : Option Command) (c : Command) → pick t (pick w Right (whole_if o)) Wrong ≡ Whole c
    → (t ≡ true) × (w ≡ false) × (whole_if o ≡ Whole c)
unfolding pick
whole_address true true o c e = right_whole c e
whole_address true false o c e = (refl, refl, e)
whole_address false w o c e = wrong_whole c e

-- A READ
read_only : (a b d e f g h i j : ℕ) (c : Command) → Reaches [] (a ∷ b ∷ d ∷ e ∷ f ∷ g ∷ h ∷ i ∷ j ∷ []) c
    → WellFormed (a ∷ b ∷ d ∷ e ∷ f ∷ g ∷ h ∷ i ∷ j ∷ []) c (data_in (a ∷ b ∷ d ∷ e ∷ f ∷ g ∷ h ∷ i ∷ j ∷ []))
unfolding judged address_fate pick
read_only a b d e f g h i j c r =
    let s = a ∷ b ∷ d ∷ e ∷ f ∷ g ∷ h ∷ i ∷ j ∷ [] in
    let o : Opened a b d e f g = opened a b d e f g h i j [] c r in
    let z : 256 * h + i ≡ 0 = address a b d e f g h i j [] c r in
    let w = whole_address (address_checked s) (is_write s) (command_in s) c (ends_whole [] s c r) in
    let listed : line_command false (256 * d + e) ≡ Some c = rw w.1 at (whole_listed (command_in s) c w.2) in
    let k = read_opcode_lem (256 * d + e) c listed in
    let ec : c ≡ GetState = k.1 in
    let ab : (a ≡ 0x50) × (b ≡ 0xAF) =
    or_either (eqb a 0x50 && eqb b 0xAF) (eqb a 0x51 && eqb b 0xAE) o.pair
    (λ p. (eqb-true a 0x50 (and_left _ (eqb b 0xAF) p), eqb-true b 0xAF (and_right (eqb a 0x50) _ p)))
    (λ p. true_not_false (eqb a 0x51) (and_left (eqb a 0x51) (eqb b 0xAE) p) w.1) in
    let ed : d ≡ 0 = omega (arith, k.0) in
    let ee : e ≡ 0x54 = omega (arith, k.0) in
    let ef : f ≡ 0xFF = omega (arith, o.high) in
    let eg : g ≡ 0xAB = omega (arith, o.low) in
    let eh : h ≡ 0 = omega arith in
    let ei : i ≡ 0 = omega arith in
    let ej : j ≡ 0 = eqb-true j (bit_xor h i) w.0 ∙ ap (λ (x : ℕ). bit_xor x i) eh ∙ xor_zero_l i ∙ ei in
    rw (ab.0, ab.1, ed, ee, ef, eg, eh, ei, ej, ec) read

-- A WRITE: which command it is, and the sizes that it allows
pub record Fits (c : Command) (opcode n : ℕ) : Type 0 where
  pub least : ℕ
  pub most : ℕ
  pub written : Written c opcode least most
  pub lo : least ≤ n
  pub hi : n ≤ most
  pub small : n ≤ 65
  pub low : opcode < 256

fits : {c : Command} {opcode : ℕ} {least most : ℕ} (n : ℕ) → Written c opcode least most → size_allowed (Some c) n ≡ true → Fits c opcode n
fits n delete e = let q : n ≡ 0 = eqb-true n 0 e in record { least = 0; most = 0; written = delete; lo = omega arith; hi = omega arith; small = omega arith; low = omega arith }
fits n upgrade e = let q : n ≡ 0 = eqb-true n 0 e in record { least = 0; most = 0; written = upgrade; lo = omega arith; hi = omega arith; small = omega arith; low = omega arith }
fits n update e = let q : n ≡ 65 = eqb-true n 65 e in record { least = 65; most = 65; written = update; lo = omega arith; hi = omega arith; small = omega arith; low = omega arith }
fits n lock e = let q : n ≡ 0 = eqb-true n 0 e in record { least = 0; most = 0; written = lock; lo = omega arith; hi = omega arith; small = omega arith; low = omega arith }
fits n store e =
    let p : 2 ≤ n = leb-true 2 n (and_left (leb 2 n) (leb n 46) e) in
    let q : n ≤ 46 = leb-true n 46 (and_right (leb 2 n) (leb n 46) e) in
    record { least = 2; most = 46; written = store; lo = p; hi = q; small = omega arith; low = omega arith }
fits n load e = let q : n ≡ 1 = eqb-true n 1 e in record { least = 1; most = 1; written = load; lo = omega arith; hi = omega arith; small = omega arith; low = omega arith }
fits n start e = let q : n ≡ 0 = eqb-true n 0 e in record { least = 0; most = 0; written = start; lo = omega arith; hi = omega arith; small = omega arith; low = omega arith }

-- the line's opcode of a command is in the table
named : (c x : Command) (opcode at n least most : ℕ) → eqb opcode at ≡ true → Some x ≡ Some c → Written x at least most
    → size_allowed (Some c) n ≡ true → Fits c opcode n
named c x opcode at n least most q e w s =
    let same : x ≡ c = cc in
    let op : opcode ≡ at = eqb-true opcode at q in
    rw (op, ← same) (fits n w (rw same s))

write_opcode : (opcode n : ℕ) (c : Command) → line_command true opcode ≡ Some c → size_allowed (Some c) n ≡ true → Fits c opcode n
unfolding line_command
write_opcode opcode n c e s =
    by_pick _ _ _ _ e (λ t _. true_not_false false t refl)
    (λ _ a. by_pick _ _ _ _ a (λ t q. named c FwDelete opcode 0x52 n 0 0 t q delete s)
    (λ _ b. by_pick _ _ _ _ b (λ t q. named c FwUpgrade opcode 0x53 n 0 0 t q upgrade s)
    (λ _ d. by_pick _ _ _ _ d (λ t q. named c UpdateAuthKey opcode 0x56 n 65 65 t q update s)
    (λ _ f. by_pick _ _ _ _ f (λ t q. named c LockAuthKey opcode 0x57 n 0 0 t q lock s)
    (λ _ g. by_pick _ _ _ _ g (λ t q. named c StoreUsrKey opcode 0x58 n 2 46 t q store s)
    (λ _ h. by_pick _ _ _ _ h (λ t q. named c LoadUsrKey opcode 0x59 n 1 1 t q load s)
    (λ _ i. by_pick _ _ _ _ i (λ t q. named c StartWs opcode 0x5A n 0 0 t q start s) (λ _ q. unlisted q))))))))
  where
    unlisted : None ≡ Some c → Fits c opcode n
    unlisted q = absurd (let z : ◌≡◌ {A = ℕ} 0 1 = cc in omega arith)

-- the fate from the data's size on
late : (s : List ℕ) → 10 ≤ length s → judged s ≡ data_fate s
unfolding judged pick
late s h = rw (le-ltb (length s) 7 (omega arith), le-ltb (length s) 10 h)

record Ended (s : List ℕ) (c : Command) : Type 0 where
  enough : 12 + size_in s ≤ length s
  checked : data_checked s ≡ true
  command : whole_if (command_in s) ≡ Whole c

ended : (s : List ℕ) (c : Command) → data_fate s ≡ Whole c → Ended s c
unfolding data_fate
ended s c e =
    by_pick _ _ _ _ e (λ _ q. more_whole c q)
    (λ _ a. by_pick _ _ _ _ a (λ _ q. by_pick _ _ _ _ q (λ _ p. more_whole c p) (λ _ p. wrong_whole c p))
    (λ _ b. by_pick _ _ _ _ b (λ _ q. more_whole c q)
    (λ t d. by_pick _ _ _ _ d (λ u q. record { enough = ltb-false _ _ t; checked = u; command = q }) (λ _ p. wrong_whole c p))))

-- a string with all its data does not go on
pub full : (s : List ℕ) → 12 + size_in s ≤ length s → kept (judged s) ≡ true → ⊥
unfolding data_fate pick
full s h e = by (data_checked s) (rw (late s (omega arith), le-ltb (length s) 11 (omega arith), ne_eqb (length s) 11 (λ q. omega arith), le-ltb (length s) (12 + size_in s) h) at e)
  where
    by : (t : Bool) → kept (pick t (whole_if (command_in s)) Wrong) ≡ true → ⊥
    by true q = never_kept (command_in s) q
    by false q = let z : ◌≡◌ {A = ℕ} 0 1 = cc in omega arith

exact : (s : List ℕ) (c : Command) → Reaches [] s c → 10 ≤ length s → length s ≡ 12 + size_in s
exact s c r h = by (ltb (12 + size_in s) (length s)) refl
  where
    x : Ended s c
    x = ended s c (sym (late s h) ∙ ends_whole [] s c r)

    by : (t : Bool) → ltb (12 + size_in s) (length s) ≡ t → length s ≡ 12 + size_in s
    by false q = omega (arith, x.enough, ltb-false (12 + size_in s) (length s) q)
    by true q =
        let n : ℕ = 12 + size_in s in
        let more : n < length s = ltb-true n (length s) q in
        let p = take n s in
        let size : size_in p ≡ size_in s = rw (get_or-take n s 9 0 (omega arith), get_or-take n s 10 0 (omega arith)) in
        let len : length p ≡ n = length-take-le n s (omega arith) in
        absurd (full p (omega (arith, size, len)) (goes_on [] s c r n (omega arith) (omega arith)))

assembled : (a b d e f g h i j m n op : ℕ) (t p u : List ℕ) → a ≡ 0x51 → b ≡ 0xAE → d ≡ 0 → e ≡ op → f ≡ 0xFF → g ≡ 255 - op → h ≡ 0 → i ≡ 0 → j ≡ 0
    → m ≡ 0 → n ≡ length p → t ≡ u
    → a ∷ b ∷ d ∷ e ∷ f ∷ g ∷ h ∷ i ∷ j ∷ m ∷ n ∷ t ≡ 0x51 ∷ 0xAE ∷ 0x00 ∷ op ∷ 0xFF ∷ (255 - op) ∷ 0x00 ∷ 0x00 ∷ 0x00 ∷ 0x00 ∷ length p ∷ u
assembled a b d e f g h i j m n op t p u ea eb ed ee ef eg eh ei ej em en et = cc

write_only : (a b d e f g h i j m n : ℕ) (t : List ℕ) (c : Command) → 1 ≤ length t → Reaches [] (a ∷ b ∷ d ∷ e ∷ f ∷ g ∷ h ∷ i ∷ j ∷ m ∷ n ∷ t) c
    → WellFormed (a ∷ b ∷ d ∷ e ∷ f ∷ g ∷ h ∷ i ∷ j ∷ m ∷ n ∷ t) c (take (256 * m + n) t)
unfolding judged address_fate data_fate pick
write_only a b d e f g h i j m n t c some r =
    let s = a ∷ b ∷ d ∷ e ∷ f ∷ g ∷ h ∷ i ∷ j ∷ m ∷ n ∷ t in
    let z : ℕ = 256 * m + n in
    let p = take z t in
    let o : Opened a b d e f g = opened a b d e f g h i j (m ∷ n ∷ t) c r in
    let empty : 256 * h + i ≡ 0 = address a b d e f g h i j (m ∷ n ∷ t) c r in
    let nine = kept_address (eqb j (bit_xor h i)) (eqb a 0x51) (line_command (eqb a 0x51) (256 * d + e)) (goes_on [] s c r 9 (omega arith) (omega arith)) in
    let size : size_allowed (line_command (eqb a 0x51) (256 * d + e)) z ≡ true = kept_more _ (goes_on [] s c r 11 (omega arith) (omega arith)) in
    let x : Ended s c = ended s c (sym (late s (omega arith)) ∙ ends_whole [] s c r) in
    let named : line_command true (256 * d + e) ≡ Some c = rw nine.1 at (whole_listed (command_in s) c x.command) in
    let allowed : size_allowed (Some c) z ≡ true = rw (nine.1, named) at size in
    let k : Fits c (256 * d + e) z = write_opcode (256 * d + e) z c named allowed in
    let len : length t ≡ z + 1 = omega (arith, exact s c r (omega arith)) in
    let much : length p ≡ z = length-take-le z t (omega arith) in
    let end : drop z t ≡ byte_at t z ∷ [] = drop-cons t z 0 (omega arith) ∙ ap (λ (u : List ℕ). byte_at t z ∷ u) (drop_of_length-le t (let q : length t ≤ suc z = omega arith in q)) in
    let seen : byte_at s (11 + z) ≡ byte_at t z = get_or-append-add (a ∷ b ∷ d ∷ e ∷ f ∷ g ∷ h ∷ i ∷ j ∷ m ∷ n ∷ []) t z 0 in
    let parts : take (2 + z) (m ∷ n ∷ t) ≡ m ∷ n ∷ p = take-append-add (m ∷ n ∷ []) t z in
    let em : m ≡ 0 = omega (arith, k.small) in
    let en : n ≡ length p = omega (arith, much, em) in
    let xor : byte_at t z ≡ xor_of (0x00 ∷ length p ∷ p) =
    sym seen ∙ eqb-true (byte_at s (11 + z)) (xor_of (take (2 + z) (m ∷ n ∷ t))) x.checked ∙ ap xor_of (parts ∙ ap (λ (y : ℕ). y ∷ n ∷ p) em ∙ ap (λ (y : ℕ). 0x00 ∷ y ∷ p) en) in
    let et : t ≡ p ++ (xor_of (0x00 ∷ length p ∷ p) ∷ []) = sym (take-append-drop z t) ∙ ap (λ (u : List ℕ). p ++ u) (end ∙ ap (λ (y : ℕ). y ∷ []) xor) in
    let ea : a ≡ 0x51 = eqb-true a 0x51 nine.1 in
    let eb : b ≡ 0xAE =
    or_either (eqb a 0x50 && eqb b 0xAF) (eqb a 0x51 && eqb b 0xAE) o.pair
    (λ q. absurd (omega (arith, eqb-true a 0x50 (and_left (eqb a 0x50) (eqb b 0xAF) q))))
    (λ q. eqb-true b 0xAE (and_right (eqb a 0x51) (eqb b 0xAE) q)) in
    let ed : d ≡ 0 = omega (arith, k.low) in
    let ee : e ≡ 256 * d + e = omega (arith, ed) in
    let ef : f ≡ 0xFF = omega (arith, o.high) in
    let eg : g ≡ 255 - (256 * d + e) = o.low ∙ ap (λ (y : ℕ). 255 - y) ee in
    let eh : h ≡ 0 = omega arith in
    let ei : i ≡ 0 = omega arith in
    let ej : j ≡ 0 = eqb-true j (bit_xor h i) nine.0 ∙ ap (λ (y : ℕ). bit_xor y i) eh ∙ xor_zero_l i ∙ ei in
    subst (λ (u : List ℕ). WellFormed u c p)
    (sym (assembled a b d e f g h i j m n (256 * d + e) t p _ ea eb ed ee ef eg eh ei ej em en et))
    (write p k.written (rw much k.lo) (rw much k.hi))

-- no shorter string
short : (s : List ℕ) (c : Command) → Reaches [] s c → length s ≤ 8 → ⊥
unfolding judged address_fate
short s c r h =
    by_pick _ _ _ _ (ends_whole [] s c r) (λ _ q. opening_never s c q)
    (λ _ a. by_pick _ _ _ _ a
    (λ _ b. by_pick _ _ _ _ b (λ _ q. more_whole c q)
    (λ t d. by_pick _ _ _ _ d (λ _ q. by_pick _ _ _ _ q (λ _ p. more_whole c p) (λ _ p. wrong_whole c p))
    (λ u _. true_not_false (eqb (length s) 8) (eq-eqb (length s) 8 (omega (arith, ltb-false (length s) 8 t))) u)))
    (λ t _. omega (arith, ltb-false (length s) 10 t)))

-- a string that reaches handle from a new reader is well formed
pub only : (s : List ℕ) (c : Command) → Reaches [] s c → WellFormed s c (data_in s)
only [] c r = absurd (short [] c r (omega arith))
only (a ∷ []) c r = absurd (short (a ∷ []) c r (omega arith))
only (a ∷ b ∷ []) c r = absurd (short (a ∷ b ∷ []) c r (omega arith))
only (a ∷ b ∷ d ∷ []) c r = absurd (short (a ∷ b ∷ d ∷ []) c r (omega arith))
only (a ∷ b ∷ d ∷ e ∷ []) c r = absurd (short (a ∷ b ∷ d ∷ e ∷ []) c r (omega arith))
only (a ∷ b ∷ d ∷ e ∷ f ∷ []) c r = absurd (short (a ∷ b ∷ d ∷ e ∷ f ∷ []) c r (omega arith))
only (a ∷ b ∷ d ∷ e ∷ f ∷ g ∷ []) c r = absurd (short (a ∷ b ∷ d ∷ e ∷ f ∷ g ∷ []) c r (omega arith))
only (a ∷ b ∷ d ∷ e ∷ f ∷ g ∷ h ∷ []) c r = absurd (short (a ∷ b ∷ d ∷ e ∷ f ∷ g ∷ h ∷ []) c r (omega arith))
only (a ∷ b ∷ d ∷ e ∷ f ∷ g ∷ h ∷ i ∷ []) c r = absurd (short (a ∷ b ∷ d ∷ e ∷ f ∷ g ∷ h ∷ i ∷ []) c r (omega arith))
only (a ∷ b ∷ d ∷ e ∷ f ∷ g ∷ h ∷ i ∷ j ∷ []) c r = read_only a b d e f g h i j c r
only (a ∷ b ∷ d ∷ e ∷ f ∷ g ∷ h ∷ i ∷ j ∷ m ∷ []) c r = absurd (omega (arith, exact (a ∷ b ∷ d ∷ e ∷ f ∷ g ∷ h ∷ i ∷ j ∷ m ∷ []) c r (omega arith)))
only (a ∷ b ∷ d ∷ e ∷ f ∷ g ∷ h ∷ i ∷ j ∷ m ∷ n ∷ []) c r = absurd (omega (arith, exact (a ∷ b ∷ d ∷ e ∷ f ∷ g ∷ h ∷ i ∷ j ∷ m ∷ n ∷ []) c r (omega arith)))
only (a ∷ b ∷ d ∷ e ∷ f ∷ g ∷ h ∷ i ∷ j ∷ m ∷ n ∷ x ∷ t) c r = write_only a b d e f g h i j m n (x ∷ t) c (omega arith) r
