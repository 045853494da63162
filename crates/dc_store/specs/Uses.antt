-- How calls use the devices.
use Rattle.std.specs.Prelude.{◌≡◌, ◌⊎◌, ℕ, ◌+◌, ◌≤◌, IsTrue, length, nat_lt, if◌then◌else◌}
use Rattle.std.specs.FinMap.{keys}
use Rattle.record_key.specs.declared.refusal.Refusal.{Refusal}
use Rattle.record_key.specs.declared.refusal.Refusal.TheVariants.{Device}
use Rattle.stable.specs.PagesState.{Pages}
use Rattle.stable.specs.Usage.{Usage, is_due, called, called_often}
use Rattle.framed_log.specs.Refused.{refused_use}

-- the device fails only in a call that was due to
abbrev pub FailsWhenDue : Usage → Refusal → Type 0
FailsWhenDue u r = r ≡ Device → IsTrue (is_due u)

-- at most so many calls succeeded, and none failed
pub record UsesUpTo (most : ℕ) (old new : Usage) : Type 0 where
  pub calls : ℕ
  pub within : calls ≤ most
  pub after : new ≡ called_often calls old

-- at most so many calls succeeded, and then, where it was refused as the device failed, one failed that was due to
pub record StopsWithin (most : ℕ) (r : Refusal) (old new : Usage) : Type 0 where
  pub calls : ℕ
  pub within : calls ≤ most
  pub due : FailsWhenDue (called_often calls old) r
  pub after : new ≡ refused_use (called_often calls old) r

-- ---- devices that are opened

-- the calls of the log's device: it is read, and cut where it holds more bytes than those of the whole frames
abbrev pub log_calls : ℕ → ℕ → ℕ
log_calls whole all = if nat_lt whole all then 2 else 1

-- the calls of the pages' device: it is asked for the numbers, and each page is read
abbrev pub page_calls : Pages → ℕ
page_calls pages = 1 + length (keys pages)

-- how a refused opening used the log's device and the pages': the log was read, and then the pages' failed, or neither;
-- or the log's failed
abbrev pub StopsOpening : Refusal → Pages → Usage → Usage → Usage → Usage → Type 0
StopsOpening r pages log log' paged paged' =
    ((log' ≡ called log) × StopsWithin (page_calls pages) r paged paged')
    ⊎ ((r ≡ Device) × StopsWithin 1 r log log' × UsesUpTo (page_calls pages) paged paged')
