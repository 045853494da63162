-- What the records of a log say, whatever the pages hold: which leaves are there, and which record may come next.
use Rattle.std.specs.Prelude.{◌≡◌, ◌&&◌, ◌||◌, ◌==◌, ℕ, ◌+◌, ◌<◌, ◌^◌, Bool, true, not, List, [], ◌∷◌}
use Rattle.std.specs.BTreeSet.{contains}
use Rattle.std.specs.Ordering.{nat_cmp}
use Rattle.codec.specs.declared.dc_record.DcRecord.{DcRecord}
use Rattle.codec.specs.declared.dc_record.DcRecord.TheVariants as is
use Rattle.dc_recovery.specs.Shape.{named}
use Rattle.dc_recovery.specs.Recovery.{stored_session}
use Rattle.dc_store.specs.declared.known.Known.{Known}

-- a leaf of this number is there after the record, where this says whether it was before
abbrev pub lives_after : DcRecord → ℕ → Bool → Bool
lives_after (is.Accept session) id before = before
lives_after (is.Split left cut right) id before = (id == right.id) || before
lives_after (is.Merge left right merged) id before = not (id == right) && before

-- and after a log, the newest record first
abbrev pub lives : List DcRecord → ℕ → Bool
lives [] id = id == 1
lives (r ∷ log) id = lives_after r id (lives log id)

-- the leaves that the record names are there, and a new one has the next number
abbrev pub may_follow : List DcRecord → DcRecord → Bool
may_follow log (is.Accept session) = true
may_follow log (is.Split left cut right) = lives log left && (right.id == named log + 1)
may_follow log (is.Merge left right merged) = lives log left && lives log right

-- what is known is so after the log
pub record IsKnown (log : List DcRecord) (known : Known) : Type 0 where
  pub leaves : (id : ℕ) → contains nat_cmp known.leaves id ≡ lives log id
  pub next : known.next_id ≡ named log + 1
  pub below : named log < 2 ^ 48
  pub stored : known.stored_session ≡ stored_session log
