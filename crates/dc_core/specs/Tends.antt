-- What the calls that split, merge and write leaves give.
use Rattle.std.specs.Prelude.{◌≡◌, ◌==◌, ◌&&◌, ℕ, Bool, not, Result, Err}
use Rattle.std.specs.Bool.{MatchBool}
use Rattle.record_key.specs.declared.refusal.Refusal.{Refusal}
use Rattle.record_key.specs.declared.refusal.Refusal.TheVariants.{NotNow}
use Rattle.record_key.specs.Table.{Bytes}
use Rattle.dc_store.specs.SystemView.{SystemView}
use Rattle.dc_store.specs.Gives.{SplitGives, MergeGives, TendGives, FlushGives}
use Rattle.dc_store.specs.declared.tended.Neighbours.{Neighbours}
use Rattle.dc_store.specs.declared.tended.Tended.{Tended}
use Rattle.dc_core.specs.DcView.{DcView}
use Rattle.dc_core.specs.Serves.{with_system}

-- a merge is let only in a session past its redo: then each leaf has captured what it must
abbrev pub may_merge : DcView → Bool
may_merge w = not (w.session == 0) && not w.redo

-- the leaves and their devices are changed so, and nothing else is
abbrev pub Changes : (SystemView → Type 0) → DcView → DcView → Type 0
Changes Gives old new = Gives new.system × (new ≡ with_system old new.system)

abbrev pub IsNotNow : {T : Type 0} → DcView → Result T Refusal → DcView → Type 0
IsNotNow old result new = (result ≡ Err NotNow) × (new ≡ old)

abbrev pub SplitsTo : DcView → Bytes → Result Neighbours Refusal → DcView → Type 0
SplitsTo old k result new = Changes (SplitGives old.system k old.known result) old new

abbrev pub MergesTo : DcView → Bytes → Result Neighbours Refusal → DcView → Type 0
MergesTo old k result new =
    MatchBool (may_merge old) (Changes (MergeGives old.system k old.known result) old new) (IsNotNow old result new)

abbrev pub TendsTo : DcView → Result Tended Refusal → DcView → Type 0
TendsTo old result new = Changes (TendGives old.system (may_merge old) old.known result) old new

abbrev pub FlushesTo : DcView → Bytes → Result ℕ Refusal → DcView → Type 0
FlushesTo old k result new = Changes (FlushGives old.system k old.known result) old new
