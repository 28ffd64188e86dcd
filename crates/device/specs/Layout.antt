-- Paper 01, "There the device record is bytes, in one layout": 4,853 bytes, the head's 42 and then the arrays. Where each field stands has its
-- one home in the names here.
use Rattle.std.specs.Prelude.{ℕ, ◌*◌, ◌<◌, Bool, ◌&&◌, ◌||◌, List, ◌∷◌, ◌++◌, leb, eqb, length, take, drop, set}
use Rattle.basics.specs.Choice.{pick}
use Rattle.basics.specs.Words.{byte_at, word_at, flag, word_bytes, zeros, put_at}
use Rattle.device.specs.declared.Head.{Head}
use Rattle.device.specs.declared.Mode.{Mode}
use Rattle.device.specs.declared.Mode.TheVariants.{Stack, Idle, Upgrade, Delete}
use Rattle.device.specs.Types.{Device, Effect, Keep, Drop, Lock, Put, Auth}
use Rattle.device.specs.Modes.{recorded_in}

abbrev pub record_length : ℕ
record_length = 4853

-- ten bytes
abbrev pub present_at : ℕ
present_at = 0

abbrev pub mode_at : ℕ
mode_at = 1

abbrev pub count_at : ℕ
count_at = 2

abbrev pub auth_at : ℕ
auth_at = 3

abbrev pub locked_at : ℕ
locked_at = 4

abbrev pub rollback_at : ℕ
rollback_at = 5

abbrev pub loaded_at : ℕ
loaded_at = 6

abbrev pub asked_at : ℕ
asked_at = 7

abbrev pub error_at : ℕ
error_at = 8

abbrev pub made_at : ℕ
made_at = 9

-- eight words
abbrev pub version_at : ℕ
version_at = 10

abbrev pub sectors_at : ℕ
sectors_at = 14

abbrev pub boundary_at : ℕ
boundary_at = 18

abbrev pub image_at : ℕ
image_at = 22

abbrev pub size_at : ℕ
size_at = 26

abbrev pub image_version_at : ℕ
image_version_at = 30

abbrev pub recorded_at : ℕ
recorded_at = 34

abbrev pub floor_at : ℕ
floor_at = 38

-- the locks, the authentication key, and the types, the sizes and the bytes of the keys
abbrev pub locks_at : ℕ
locks_at = 42

abbrev pub key_at : ℕ
key_at = 143

abbrev pub kinds_at : ℕ
kinds_at = 207

abbrev pub sizes_at : ℕ
sizes_at = 308

abbrev pub keys_at : ℕ
keys_at = 409

-- A DEVICE'S BYTES
-- the mode as a number, and the numbers of its job: 0 where there is no such job
abbrev pub tag_of : Mode → ℕ
tag_of Stack = 0
tag_of Idle = 1
tag_of (Upgrade p size version recorded) = 2
tag_of (Delete recorded) = 3

abbrev pub p_of : Mode → ℕ
p_of Stack = 0
p_of Idle = 0
p_of (Upgrade p size version recorded) = p
p_of (Delete recorded) = 0

abbrev pub size_of : Mode → ℕ
size_of Stack = 0
size_of Idle = 0
size_of (Upgrade p size version recorded) = size
size_of (Delete recorded) = 0

abbrev pub version_of : Mode → ℕ
version_of Stack = 0
version_of Idle = 0
version_of (Upgrade p size version recorded) = version
version_of (Delete recorded) = 0

-- ten bytes, then eight words, low byte first
abbrev pub head_with : Head → (tag p size version recorded : ℕ) → List ℕ
head_with h tag p size version recorded =
    flag h.present ∷ tag ∷ h.count ∷ flag h.auth ∷ flag h.locked ∷ flag h.rollback
    ∷ h.loaded ∷ flag h.asked ∷ h.error ∷ h.made
    ∷ (word_bytes h.version ++ (word_bytes h.sectors ++ (word_bytes h.boundary
    ++ (word_bytes p ++ (word_bytes size ++ (word_bytes version ++ (word_bytes recorded ++ word_bytes h.floor)))))))

unfoldable pub head_bytes : Head → List ℕ
head_bytes h =
    head_with h (tag_of h.mode) (p_of h.mode) (size_of h.mode) (version_of h.mode) (recorded_in h.mode)

unfoldable pub encode : Device → List ℕ
encode d = head_bytes d.head ++ (d.locks ++ (d.key ++ (d.kinds ++ (d.sizes ++ d.bytes))))

-- the numbers that are words fit in four bytes, as those of every device of the code do
abbrev pub Word : ℕ → Type 0
Word n = n < 4294967296

pub record Bounded (h : Head) : Type 0 where
  pub version : Word h.version
  pub sectors : Word h.sectors
  pub boundary : Word h.boundary
  pub p : Word (p_of h.mode)
  pub size : Word (size_of h.mode)
  pub image : Word (version_of h.mode)
  pub recorded : Word (recorded_in h.mode)
  pub floor : Word h.floor

-- THE DEVICE THAT BYTES ARE
abbrev pub mode_of : (tag p size version recorded : ℕ) → Mode
mode_of tag p size version recorded =
    pick (eqb tag 0) Stack (pick (eqb tag 1) Idle (pick (eqb tag 2) (Upgrade p size version recorded) (Delete recorded)))

abbrev pub mode_in : List ℕ → Mode
mode_in l = mode_of (byte_at l mode_at) (word_at l image_at) (word_at l size_at) (word_at l image_version_at) (word_at l recorded_at)

-- a flag that is set
abbrev pub flag_in : ℕ → List ℕ → Bool
flag_in at l = eqb (byte_at l at) 1

unfoldable pub head_in : List ℕ → Head
head_in l = record {
  present = flag_in present_at l;
  version = word_at l version_at;
  sectors = word_at l sectors_at;
  boundary = word_at l boundary_at;
  mode = mode_in l;
  count = byte_at l count_at;
  auth = flag_in auth_at l;
  locked = flag_in locked_at l;
  rollback = flag_in rollback_at l;
  floor = word_at l floor_at;
  loaded = byte_at l loaded_at;
  asked = flag_in asked_at l;
  error = byte_at l error_at;
  made = byte_at l made_at;
}

-- the n bytes from an offset on
abbrev pub part : ℕ → ℕ → List ℕ → List ℕ
part at n l = take n (drop at l)

abbrev pub locks_in : List ℕ → List ℕ
locks_in l = part locks_at 101 l

abbrev pub auth_in : List ℕ → List ℕ
auth_in l = part key_at 64 l

abbrev pub kinds_in : List ℕ → List ℕ
kinds_in l = part kinds_at 101 l

abbrev pub sizes_in : List ℕ → List ℕ
sizes_in l = part sizes_at 101 l

abbrev pub keys_in : List ℕ → List ℕ
keys_in l = part keys_at 4444 l

unfoldable pub decode : List ℕ → Device
decode l =
    record { head = head_in l; locks = locks_in l; key = auth_in l; kinds = kinds_in l; sizes = sizes_in l; bytes = keys_in l }

-- each byte is below 256, as those of every slice are
abbrev pub Bytes : List ℕ → Type 0
Bytes l = (i : ℕ) → byte_at l i < 256

-- are the first 42 bytes a head's? Flags are 0 or 1, the mode is known, and the words of a job that is not there are 0
unfoldable pub is_head : List ℕ → Bool
is_head l =
    leb (byte_at l present_at) 1
    && leb (byte_at l auth_at) 1
    && leb (byte_at l locked_at) 1
    && leb (byte_at l rollback_at) 1
    && leb (byte_at l asked_at) 1
    && leb (byte_at l mode_at) 3
    && (eqb (byte_at l mode_at) 2 || (eqb (word_at l image_at) 0 && eqb (word_at l size_at) 0 && eqb (word_at l image_version_at) 0))
    && (leb 2 (byte_at l mode_at) || eqb (word_at l recorded_at) 0)

-- are these the bytes of a device, sound or not?
abbrev pub is_record : List ℕ → Bool
is_record l = eqb (length l) record_length && is_head l

-- WHAT AN EFFECT DOES TO THE BYTES
abbrev pub key_put : ℕ → ℕ → List ℕ → List ℕ → List ℕ
key_put i kind key l =
    take kinds_at l ++ (set (kinds_in l) i kind ++ (set (sizes_in l) i (length key) ++ put_at (keys_in l) (i * 44) key))

abbrev pub applied : Effect → List ℕ → List ℕ → List ℕ
applied Keep key l = l
applied Drop key l = put_at l locks_at (zeros 101)
applied (Lock i) key l = put_at l locks_at (set (locks_in l) i 1)
applied (Put i kind) key l = key_put i kind key l
applied Auth key l = put_at l key_at key
