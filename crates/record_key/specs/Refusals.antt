-- The number and the name of each refusal, as they are printed.
use Rattle.std.specs.Prelude.{ℕ, List, codes}
use Rattle.record_key.specs.declared.refusal.Refusal.{Refusal}
use Rattle.record_key.specs.declared.refusal.Refusal.TheVariants.{NoMemory, Busy, NotOpen, Unanswered, RollingBack, Redoing, BadSavepoint, Stale, NotConnected, Device, EmptyKey, TooLong, BadRange, Full, BeyondStable, Unsent, BadScript, NotNow, BadBytes, NumbersSpent}

abbrev pub number_of : Refusal → ℕ
number_of NoMemory = 1
number_of (Busy holder) = 2
number_of NotOpen = 3
number_of Unanswered = 4
number_of RollingBack = 5
number_of Redoing = 6
number_of BadSavepoint = 7
number_of Stale = 8
number_of NotConnected = 9
number_of Device = 10
number_of EmptyKey = 11
number_of TooLong = 12
number_of BadRange = 13
number_of Full = 14
number_of BeyondStable = 15
number_of Unsent = 16
number_of (BadScript line) = 17
number_of NotNow = 18
number_of (BadBytes place) = 19
number_of NumbersSpent = 20

abbrev pub name_of : Refusal → List ℕ
name_of NoMemory = codes "NoMemory"
name_of (Busy holder) = codes "Busy"
name_of NotOpen = codes "NotOpen"
name_of Unanswered = codes "Unanswered"
name_of RollingBack = codes "RollingBack"
name_of Redoing = codes "Redoing"
name_of BadSavepoint = codes "BadSavepoint"
name_of Stale = codes "Stale"
name_of NotConnected = codes "NotConnected"
name_of Device = codes "Device"
name_of EmptyKey = codes "EmptyKey"
name_of TooLong = codes "TooLong"
name_of BadRange = codes "BadRange"
name_of Full = codes "Full"
name_of BeyondStable = codes "BeyondStable"
name_of Unsent = codes "Unsent"
name_of (BadScript line) = codes "BadScript"
name_of NotNow = codes "NotNow"
name_of (BadBytes place) = codes "BadBytes"
name_of NumbersSpent = codes "NumbersSpent"
