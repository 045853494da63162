-- A crash leaves whole frames, and perhaps a part of one; and what is opened from them is the log of these.
use Rattle.std.proofs.Common.{◌<◌, ◌^◌, List, ◌∷◌, length, arith, inl, inr}
use Rattle.framed_log.proofs.Beginning.{of_beginning}
use Rattle.framed_log.proofs.Crashed as framed
use Rattle.framed_log.proofs.Opened.{MayAllFollow, none_bad}
use Rattle.framed_log.proofs.ReadOnce.{once}
use Rattle.history.specs.declared.record.Record.{Record}
use Rattle.history.specs.Legal.{Fits, IsLegal}
use Rattle.log_laws.proofs.LegalLogs.{legal_end}
use Rattle.tc_log.specs.Crashed.{CrashesLeaveLogs, OpensOnce, NeverBad}
use Rattle.tc_log.specs.Opening.{IsLogOf}
use Rattle.tc_log.proofs.Spelled.{log_framing}

-- what beginnings have of a log
abbrev IsShort : List Record → Type 0
IsShort log = IsLegal log × (length log < 2 ^ 48)

pub crash_leaves : CrashesLeaveLogs
crash_leaves log stable forced pending left legal records numbered within stored covered leaves =
    framed.crash_leaves log_framing IsLogOf log stable forced pending left records within stored covered leaves
    (λ n frames.
    let short = of_beginning IsShort n (λ r l more h. (h.0.1, omega (arith, h.1))) log (legal, numbered) in
    record { legal = short.0; numbered = short.1; frames = frames })

-- bytes are those of one log
pub opens_once : OpensOnce
opens_once bytes log other h o = once log_framing bytes log other h.frames o.frames

fits_each : MayAllFollow IsLegal Fits
fits_each newer r older legal = (legal_end newer (r ∷ older) legal).0

-- and opening isn't refused for what they are
pub never_bad : NeverBad
never_bad bytes log r h (inl device) = inr device
never_bad bytes log r h (inr (inl memory)) = inl memory
never_bad bytes log r h (inr (inr (place, is, bad))) =
    absurd (none_bad log_framing IsLegal Fits bytes log place fits_each h.legal h.numbered h.frames bad)
