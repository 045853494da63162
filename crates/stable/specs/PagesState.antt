-- A page device in memory as its callers see it.
use Rattle.std.specs.Prelude.{ℕ, ◌∷◌, Bool, false, nat_le, List, [], map, Option, Some, None, Result, refl, if◌then◌else◌}
use Rattle.std.specs.Ordering.{nat_cmp}
use Rattle.std.specs.FinMap.{FinMap, from_entries, empty, insert, remove, get, code}
use Rattle.std.specs.Coded.{Coded, code_by, coded×, coded_ℕ, coded_list, coded_option, coded_bool}
use Rattle.std.specs.Vec.{vec_capacity}
use Rattle.stable.specs.Usage.{Usage, used}
use Rattle.stable.specs.declared.error.DeviceError.{DeviceError}
use Rattle.stable.specs.declared.mem_pages.Page.{Page}

-- the image of each page, by the page's number
abbrev pub Pages : Type 0
Pages = FinMap nat_cmp (List ℕ)

-- its pages; how long an image may be that is put in the place of one without more memory, where there is a place; and
-- how it was used
pub record PagesState : Type 0 where
  pub pages : Pages
  pub rooms : FinMap nat_cmp ℕ
  pub usage : Usage

abbrev pub usage_code : Coded Usage
usage_code =
    code_by (ℕ × (ℕ × (Option ℕ × Bool))) (coded× coded_ℕ (coded× coded_ℕ (coded× (coded_option coded_ℕ) coded_bool)))
    (λ u. (u.calls, (u.failures, (u.failing, u.freely))))
    (λ p. record { calls = p.0; failures = p.1.0; failing = p.1.1.0; freely = p.1.1.1 }) (λ _. refl)

abbrev pub pages_state_code : Coded PagesState
pages_state_code =
    code_by (Pages × (FinMap nat_cmp ℕ × Usage))
    (coded× (code coded_ℕ (coded_list coded_ℕ)) (coded× (code coded_ℕ coded_ℕ) usage_code))
    (λ s. (s.pages, (s.rooms, s.usage))) (λ p. record { pages = p.0; rooms = p.1.0; usage = p.1.1 }) (λ _. refl)

-- an image of this length may be put there
abbrev pub fits : Option ℕ → ℕ → Bool
fits None len = false
fits (Some room) len = nat_le len room

abbrev pub has_room : FinMap nat_cmp ℕ → ℕ → ℕ → Bool
has_room rooms id len = fits (get rooms id) len

-- the images that were written, among the places of pages
abbrev pub pages_of : List (ℕ × Page) → Pages
pages_of [] = empty
pages_of (e ∷ es) = if e.1.is_written then insert (pages_of es) e.0 e.1.image.items else remove (pages_of es) e.0

abbrev pub rooms_of : List (ℕ × Page) → FinMap nat_cmp ℕ
rooms_of entries = from_entries (map (λ e. (e.0, vec_capacity e.1.image)) entries)

-- the device after a call that gave this answer, its pages as they were
abbrev pub pages_after : {T : Type 0} → PagesState → Result T DeviceError → PagesState
pages_after device answer = record device { usage = used device.usage answer }
