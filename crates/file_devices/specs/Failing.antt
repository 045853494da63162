-- How a device is used whose calls the system may refuse at any time.
use Rattle.std.specs.Prelude.{◌≡◌, ◌+◌, false, true, None}
use Rattle.stable.specs.Usage.{Usage, unused}

-- never used, and each of its calls may fail
abbrev pub freely_unused : Usage
freely_unused = record unused { freely = true }

-- after a call that was counted as one that succeeded, and that the system refused
abbrev pub refused : Usage → Usage
refused u = record u { failures = u.failures + 1 }

-- none of its calls fails for another cause than memory
pub record NeverFails (u : Usage) : Type 0 where
  pub unset : u.failing ≡ None
  pub unfree : u.freely ≡ false
