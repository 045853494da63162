-- A file of blocks, and the log that it keeps, as docs/STORE.md has them.
use Rattle.std.specs.Prelude.{◌≡◌, ℕ, ◌+◌, ◌-◌, ◌*◌, ◌/◌, ◌%◌, ◌<◌, ◌≤◌, ◌^◌, ◌==◌, ⊤, Bool, true, false, List, [], ◌∷◌, ◌++◌, length, take, drop, slice_index, replicate}
use Rattle.std.specs.Int.{w64, to_be_bytes}
use Rattle.md5.specs.Md5.{md5}
use Rattle.sqlite_wal.specs.Format.{checksum}
use Rattle.log_blocks.specs.declared.before.Before.{Before}

-- what one block writes, spelled as version 1 spells it or as version 2 does: these bytes go behind the first `start` of
-- the log, which has no others behind these
pub data Write : Type 0 where
  Old : (start : ℕ) → (bytes : List ℕ) → Write
  New : (start : ℕ) → (bytes : List ℕ) → Write

abbrev pub start_of : Write → ℕ
start_of (Old start bytes) = start
start_of (New start bytes) = start

abbrev pub bytes_of : Write → List ℕ
bytes_of (Old start bytes) = bytes
bytes_of (New start bytes) = bytes

abbrev pub is_old : Write → Bool
is_old (Old start bytes) = true
is_old (New start bytes) = false

-- ---- checksums

-- eight bytes, the highest first
unfoldable pub number : ℕ → List ℕ
number n = to_be_bytes w64 n

-- the checksum of SQLite's log, going on from `sum`, of all words of four bytes that stand in pairs
unfoldable pub pairs_summed : ℕ → List ℕ → ℕ
pairs_summed sum bytes = let s = checksum true (sum / 2 ^ 32, sum % 2 ^ 32) bytes in s.0 * 2 ^ 32 + s.1

-- the bytes behind these, up to seven, and as many zeros as make them eight
abbrev pub filled : List ℕ → List ℕ
filled bytes = let rest = drop (length bytes / 8 * 8) bytes in rest ++ replicate (8 - length rest) 0

-- the checksum of all bytes
unfoldable pub summed : ℕ → List ℕ → ℕ
summed sum bytes = pairs_summed (pairs_summed sum bytes) (filled bytes)

-- ---- version 2

-- the first 16 bytes of a head: the first one is the version
unfoldable pub fields : ℕ → ℕ → List ℕ
fields start len = 2 ∷ drop 1 (number start) ++ number len

-- the checksum of these
abbrev pub seal : ℕ → ℕ → ℕ → ℕ
seal sum start len = pairs_summed sum (fields start len)

-- its first 24
abbrev pub sealed : ℕ → ℕ → ℕ → List ℕ
sealed sum start len = fields start len ++ number (seal sum start len)

-- the checksum of the block
abbrev pub sum_of : ℕ → ℕ → List ℕ → ℕ
sum_of sum start bytes = summed (seal sum start (length bytes)) bytes

-- all 32
abbrev pub head_at : ℕ → ℕ → List ℕ → List ℕ
head_at sum start bytes = sealed sum start (length bytes) ++ number (sum_of sum start bytes)

-- ---- version 1

-- the first 16 bytes of a head
abbrev pub old_fields : ℕ → ℕ → List ℕ
old_fields start len = number start ++ number len

-- its first 24: also the checksum of its place in the file and of its fields
unfoldable pub old_sealed : ℕ → ℕ → ℕ → List ℕ
old_sealed place start len = old_fields start len ++ take 8 (md5 (number place ++ old_fields start len))

-- the checksum of the block
abbrev pub old_sum : ℕ → ℕ → List ℕ → List ℕ
old_sum place start bytes = md5 (old_sealed place start (length bytes) ++ bytes)

-- all 40
abbrev pub old_head_at : ℕ → ℕ → List ℕ → List ℕ
old_head_at place start bytes = old_sealed place start (length bytes) ++ old_sum place start bytes

-- ---- either

abbrev pub head_len : Write → ℕ
head_len (Old start bytes) = 40
head_len (New start bytes) = 32

-- the first 24 bytes of a block
abbrev pub front_of : Before → Write → List ℕ
front_of before (Old start bytes) = old_sealed before.place start (length bytes)
front_of before (New start bytes) = sealed before.sum start (length bytes)

-- its checksum, as it stands in the head
abbrev pub sum_in : Before → Write → List ℕ
sum_in before (Old start bytes) = old_sum before.place start bytes
sum_in before (New start bytes) = number (sum_of before.sum start bytes)

-- the block
unfoldable pub block_of : Before → Write → List ℕ
block_of before w = (front_of before w ++ sum_in before w) ++ bytes_of w

-- the checksum of all up to its end: it covers a block of version 1 by that block's own
abbrev pub sum_past : Before → Write → ℕ
sum_past before (Old start bytes) = pairs_summed before.sum (old_sum before.place start bytes)
sum_past before (New start bytes) = sum_of before.sum start bytes

-- what stands before the next block: one of version 1 only follows others of it
abbrev pub past : Before → Write → Before
past before w = record { place = before.place + head_len w + length (bytes_of w); sum = sum_past before w; takes_old = is_old w }

-- ---- a file

-- what stands before the first block of a store of this number, which is 0 where it began as version 1
abbrev pub beginning : ℕ → Before
beginning store = record { place = 0; sum = store; takes_old = store == 0 }

-- the blocks of these writes, one right behind the other
abbrev pub packed : Before → List Write → List ℕ
packed before [] = []
packed before (w ∷ ws) = block_of before w ++ packed (past before w) ws

-- what stands before a block that comes next
abbrev pub passed : Before → List Write → Before
passed before [] = before
passed before (w ∷ ws) = passed (past before w) ws

-- the log after these writes
abbrev pub written : List ℕ → List Write → List ℕ
written log [] = log
written log (w ∷ ws) = written (take (start_of w) log ++ bytes_of w) ws

-- seven bytes have room for where it begins; and one of version 1 follows no other
abbrev pub CanStand : Before → Write → Type 0
CanStand before w = (start_of w < 2 ^ 56) × (is_old w ≡ true → before.takes_old ≡ true)

-- each can stand and begins within the log that stands before it, the first one within so many bytes
abbrev pub FitIn : ℕ → Before → List Write → Type 0
FitIn len before [] = ⊤
FitIn len before (w ∷ ws) =
    CanStand before w × (start_of w ≤ len) × FitIn (start_of w + length (bytes_of w)) (past before w) ws

-- the first bytes of a block, and not all of them
pub record IsTorn (before : Before) (bytes : List ℕ) : Type 0 where
  pub block : Write
  pub stands : CanStand before block
  pub count : ℕ
  pub front : bytes ≡ take count (block_of before block)
  pub short : count < head_len block + length (bytes_of block)
  pub length_fits : length (bytes_of block) < 2 ^ 64

-- a file of a store of this number has the blocks of these writes, and behind them at most a torn one
pub record Keeps (store : ℕ) (file : List ℕ) (ws : List Write) : Type 0 where
  pub torn : List ℕ
  pub blocks : file ≡ packed (beginning store) ws ++ torn
  pub fit : FitIn 0 (beginning store) ws
  pub ends : IsTorn (passed (beginning store) ws) torn

-- no whole block stands here: what is left is shorter than a head, or than the block whose first 24 bytes these are
pub data EndsWithin (before : Before) (bytes : List ℕ) : Type 0 where
  InHead : length bytes < 32 → EndsWithin before bytes
  InOldHead : before.takes_old ≡ true → slice_index bytes 0 ≡ 0 → length bytes < 40 → EndsWithin before bytes
  InBlock : (block : Write) → CanStand before block → take 24 bytes ≡ front_of before block
      → length (bytes_of block) < 2 ^ 64 → length bytes < head_len block + length (bytes_of block) → EndsWithin before bytes

-- what a file has up to here is the blocks of these writes
pub record Found (store : ℕ) (ws : List Write) (file : List ℕ) (before : Before) : Type 0 where
  pub blocks : file ≡ packed (beginning store) ws ++ drop before.place file
  pub before_is : before ≡ passed (beginning store) ws
  pub place_is : before.place ≡ length (packed (beginning store) ws)
  pub fit : FitIn 0 (beginning store) ws

-- a file has blocks until it ends within one, and the log is now the first bytes
pub record IsUnpacked (store : ℕ) (file new : List ℕ) (len end sum : ℕ) : Type 0 where
  pub ws : List Write
  pub before : Before
  pub found : Found store ws file before
  pub end_is : end ≡ before.place
  pub sum_is : sum ≡ before.sum
  pub ends : EndsWithin before (drop end file)
  pub len_is : len ≡ length (written [] ws)
  pub log : take len new ≡ written [] ws

-- a file has blocks up to a place, and there neither another one nor the file's end within one
pub record IsDamaged (store : ℕ) (file : List ℕ) (place : ℕ) : Type 0 where
  pub ws : List Write
  pub before : Before
  pub found : Found store ws file before
  pub place_is : place ≡ before.place
  pub no_block : (w : Write) (rest : List ℕ) → drop place file ≡ block_of before w ++ rest
      → CanStand before w → start_of w ≤ length (written [] ws) → ⊥
  pub no_end : EndsWithin before (drop place file) → ⊥
