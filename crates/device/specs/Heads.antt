-- A head with one thing changed, and what of a head is lost.
use Rattle.std.specs.Prelude.{ℕ, Bool, true, false}
use Rattle.device.specs.declared.Head.{Head}
use Rattle.device.specs.declared.Mode.{Mode}

abbrev pub with_error : ℕ → Head → Head
with_error e h =
    record { present = h.present; version = h.version; sectors = h.sectors; boundary = h.boundary; mode = h.mode; count = h.count; auth = h.auth; locked = h.locked; rollback = h.rollback; floor = h.floor; loaded = h.loaded; asked = h.asked; error = e; made = h.made }

abbrev pub with_loaded : ℕ → Head → Head
with_loaded i h =
    record { present = h.present; version = h.version; sectors = h.sectors; boundary = h.boundary; mode = h.mode; count = h.count; auth = h.auth; locked = h.locked; rollback = h.rollback; floor = h.floor; loaded = i; asked = h.asked; error = h.error; made = h.made }

abbrev pub with_count : ℕ → Head → Head
with_count n h =
    record { present = h.present; version = h.version; sectors = h.sectors; boundary = h.boundary; mode = h.mode; count = n; auth = h.auth; locked = h.locked; rollback = h.rollback; floor = h.floor; loaded = h.loaded; asked = h.asked; error = h.error; made = h.made }

abbrev pub with_mode : Mode → Head → Head
with_mode m h =
    record { present = h.present; version = h.version; sectors = h.sectors; boundary = h.boundary; mode = m; count = h.count; auth = h.auth; locked = h.locked; rollback = h.rollback; floor = h.floor; loaded = h.loaded; asked = h.asked; error = h.error; made = h.made }

abbrev pub with_asked : Bool → Head → Head
with_asked a h =
    record { present = h.present; version = h.version; sectors = h.sectors; boundary = h.boundary; mode = h.mode; count = h.count; auth = h.auth; locked = h.locked; rollback = h.rollback; floor = h.floor; loaded = h.loaded; asked = a; error = h.error; made = h.made }

abbrev pub with_made : ℕ → Head → Head
with_made m h =
    record { present = h.present; version = h.version; sectors = h.sectors; boundary = h.boundary; mode = h.mode; count = h.count; auth = h.auth; locked = h.locked; rollback = h.rollback; floor = h.floor; loaded = h.loaded; asked = h.asked; error = h.error; made = m }

abbrev pub with_auth : Head → Head
with_auth h =
    record { present = h.present; version = h.version; sectors = h.sectors; boundary = h.boundary; mode = h.mode; count = h.count; auth = true; locked = h.locked; rollback = h.rollback; floor = h.floor; loaded = h.loaded; asked = h.asked; error = h.error; made = h.made }

abbrev pub with_locked : Head → Head
with_locked h =
    record { present = h.present; version = h.version; sectors = h.sectors; boundary = h.boundary; mode = h.mode; count = h.count; auth = h.auth; locked = true; rollback = h.rollback; floor = h.floor; loaded = h.loaded; asked = h.asked; error = h.error; made = h.made }

abbrev pub with_floor : ℕ → Head → Head
with_floor v h =
    record { present = h.present; version = h.version; sectors = h.sectors; boundary = h.boundary; mode = h.mode; count = h.count; auth = h.auth; locked = h.locked; rollback = true; floor = v; loaded = h.loaded; asked = h.asked; error = h.error; made = h.made }

-- the stack, where it begins, the floor and the mode, as a job's last store puts them in
abbrev pub with_stack : (present : Bool) (version sectors boundary floor : ℕ) (mode : Mode) → Head → Head
with_stack present version sectors boundary floor mode h =
    record { present = present; version = version; sectors = sectors; boundary = boundary; mode = mode; count = h.count; auth = h.auth; locked = h.locked; rollback = h.rollback; floor = floor; loaded = h.loaded; asked = h.asked; error = h.error; made = h.made }

-- lost: loaded key, pending error, first-state-request mark, progress inside one sector (and the key locks, which are no part of the head)
abbrev pub lost_head : Head → Head
lost_head h =
    record { present = h.present; version = h.version; sectors = h.sectors; boundary = h.boundary; mode = h.mode; count = h.count; auth = h.auth; locked = h.locked; rollback = h.rollback; floor = h.floor; loaded = 0; asked = false; error = 0; made = 0 }
