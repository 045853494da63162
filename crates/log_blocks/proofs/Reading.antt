-- How far a file of blocks has been read, one block after another.
use Rattle.std.proofs.Common.{◌≡◌, ℕ, ◌+◌, ◌-◌, ◌<◌, ◌≤◌, Bool, true, List, [], ◌∷◌, ◌++◌, length, take, drop, Option, Some, None, Result, Ok, Err, sym, ap, subst, refl, ◌∙◌, arith}
use Rattle.std.specs.List.{copy_within}
use Rattle.std.proofs.Math.Seq.{paste}
use Rattle.std.proofs.lemmas.List.{append-nil, append_assoc, length-append, length-take, length-take-le, length-drop, drop_at, drop-drop, take_at, take-append-drop, take-take}
use Rattle.std.proofs.lemmas.List.Edits.{take-paste, drop-paste}
use Rattle.log_blocks.specs.declared.before.Before.{Before}
use Rattle.log_blocks.specs.declared.block.Block.{Block}
use Rattle.log_blocks.specs.declared.block.Damaged.{Damaged}
use Rattle.log_blocks.specs.Blocks.{Write, start_of, bytes_of, head_len, block_of, past, beginning, packed, passed, written, CanStand, FitIn, IsTorn, Keeps, EndsWithin, Found, IsUnpacked, IsDamaged}
use Rattle.log_blocks.specs.Steps.{found, IsFound}
use Rattle.log_blocks.proofs.Parts.{length-block_of, bytes_behind, torn_ends}

-- the blocks that are left begin here, and put their bytes behind the log, which is the file's first `len`
pub record IsLeft (left ws : List Write) (first : Before) (file : List ℕ) (len : ℕ) (before : Before) : Type 0 where
  pub torn : List ℕ
  pub here : drop before.place file ≡ packed before left ++ torn
  pub log : written (take len file) left ≡ written [] ws
  pub fit : FitIn len before left
  pub ends : passed before left ≡ passed first ws
  pub size : before.place + length (packed before left) ≡ length (packed first ws)
  pub short : IsTorn (passed first ws) torn

abbrev pub Reads : List Write → Before → List ℕ → ℕ → Before → Type 0
Reads ws first file len before = (left : List Write) × IsLeft left ws first file len before

-- what `block_at` says of what it found
pub record Looks (file : List ℕ) (len : ℕ) (before : Before) (at : Result (Option Block) Damaged) : Type 0 where
  pub whole : (w : Write) (rest : List ℕ) → drop before.place file ≡ block_of before w ++ rest → CanStand before w
      → start_of w ≤ len → at ≡ Ok (Some (found before w))
  pub ends : EndsWithin before (drop before.place file) → at ≡ Ok None

-- nothing is read yet
pub reads_start : (ws : List Write) (store : ℕ) (file : List ℕ) → Keeps store file ws
    → Reads ws (beginning store) file 0 (beginning store)
reads_start ws store file kept = (
  ws,
  record {
    torn = kept.torn;
    here = kept.blocks;
    log = refl;
    fit = kept.fit;
    ends = refl;
    size = omega arith;
    short = kept.ends;
  },
)

-- where a block is left, it is found
found_next : (w : Write) (left ws : List Write) (first : Before) (file : List ℕ) (len : ℕ) (before : Before)
    (at : Result (Option Block) Damaged) → Looks file len before at → IsLeft (w ∷ left) ws first file len before
    → at ≡ Ok (Some (found before w))
found_next w left ws first file len before at looks reads =
    let next = packed (past before w) left in
    looks.whole w (next ++ reads.torn) (reads.here ∙ append_assoc (block_of before w) next reads.torn) reads.fit.0 reads.fit.1

-- where none is left, none is found
found_none : (ws : List Write) (first : Before) (file : List ℕ) (len : ℕ) (before : Before) (at : Result (Option Block) Damaged)
    → Looks file len before at → IsLeft [] ws first file len before → at ≡ Ok None
found_none ws first file len before at looks reads =
    let here : reads.torn ≡ drop before.place file = sym reads.here in
    looks.ends (torn_ends before (drop before.place file)
    (subst (λ (b : Before). IsTorn b (drop before.place file)) (sym reads.ends)
    (subst (IsTorn (passed first ws)) here reads.short)))

-- no block is found damaged
pub never_damaged : (left ws : List Write) (first : Before) (file : List ℕ) (len : ℕ) (before : Before)
    (at : Result (Option Block) Damaged) (d : Damaged) → Looks file len before at → IsLeft left ws first file len before
    → at ≡ Err d → ⊥
never_damaged [] ws first file len before at d looks reads err =
    let none = found_none ws first file len before at looks reads in cc
never_damaged (w ∷ left) ws first file len before at d looks reads err =
    let some = found_next w left ws first file len before at looks reads in cc

-- all the blocks are read
pub record ReadsAll (ws : List Write) (first : Before) (file : List ℕ) (len : ℕ) (before : Before) : Type 0 where
  pub len_is : len ≡ length (written [] ws)
  pub end_is : before.place ≡ length (packed first ws)
  pub sum_is : before.sum ≡ (passed first ws).sum
  pub log : take len file ≡ written [] ws

-- so they are where no further one is found
pub reads_all : (left ws : List Write) (first : Before) (file : List ℕ) (len : ℕ) (before : Before)
    (at : Result (Option Block) Damaged) → Looks file len before at → IsLeft left ws first file len before
    → len ≤ length file → at ≡ Ok None → ReadsAll ws first file len before
reads_all [] ws first file len before at looks reads within none = record {
  len_is = sym (length-take-le len file within) ∙ ap length reads.log;
  end_is = omega (arith, reads.size);
  sum_is = ap (λ (b : Before). b.sum) reads.ends;
  log = reads.log;
}
reads_all (w ∷ left) ws first file len before at looks reads within none =
    let some = found_next w left ws first file len before at looks reads in absurd cc

-- what lies behind a paste is as it was
drop_behind : (file bytes : List ℕ) (start count place : ℕ) → start + count ≤ place → start ≤ length file
    → count ≤ length bytes → drop place (paste file start bytes count) ≡ drop place file
drop_behind file bytes start count place behind within enough =
    let copied = paste file start bytes count in
    let more = place - (start + count) in
    let parts : start + count + (place - (start + count)) ≡ place = omega arith in
    ap (λ (n : ℕ). drop n copied) (sym parts)
    ∙ (sym (drop-drop more (start + count) copied)
    ∙ (ap (drop more) (drop-paste file start bytes count within enough)
    ∙ (drop-drop more (start + count) file ∙ ap (λ (n : ℕ). drop n file) parts)))

-- the block of this write stands here and has room, and its bytes are put behind the log
pub record IsPut (w : Write) (rest file new : List ℕ) (len : ℕ) (before : Before) : Type 0 where
  pub here : drop before.place file ≡ block_of before w ++ rest
  pub start_within : start_of w ≤ len
  pub within : len ≤ before.place
  pub room : before.place + head_len w + length (bytes_of w) ≤ length file
  pub moved : new ≡ paste file (start_of w) (drop (before.place + head_len w) file) (length (bytes_of w))

-- its bytes
put_bytes : (w : Write) (rest file new : List ℕ) (len : ℕ) (before : Before) → IsPut w rest file new len before
    → drop (before.place + head_len w) file ≡ bytes_of w ++ rest
put_bytes w rest file new len before put =
    sym (drop-drop (head_len w) before.place file) ∙ (ap (drop (head_len w)) put.here ∙ bytes_behind before w rest)

-- what is behind it stays
put_behind : (w : Write) (rest file new : List ℕ) (len : ℕ) (before : Before) → IsPut w rest file new len before
    → drop (before.place + head_len w + length (bytes_of w)) new ≡ drop (before.place + head_len w + length (bytes_of w)) file
put_behind w rest file new len before put =
    let size = length (bytes_of w) in
    let from = before.place + head_len w in
    let start : start_of w ≤ len = put.start_within in
    let enough : length (bytes_of w) ≤ length (drop (before.place + head_len w) file) =
    omega (arith, length-drop (before.place + head_len w) file, put.room) in
    ap (drop (from + size)) put.moved
    ∙ drop_behind file (drop from file) (start_of w) size (from + size) (omega (arith, put.within, start))
    (omega (arith, start, put.within, put.room)) enough

-- and is the rest
put_rest : (w : Write) (rest file new : List ℕ) (len : ℕ) (before : Before) → IsPut w rest file new len before
    → drop (before.place + head_len w + length (bytes_of w)) new ≡ rest
put_rest w rest file new len before put =
    let size = length (bytes_of w) in
    put_behind w rest file new len before put
    ∙ (sym (drop-drop size (before.place + head_len w) file)
    ∙ (ap (drop size) (put_bytes w rest file new len before put) ∙ drop_at (bytes_of w) rest size refl))

-- the log ends with them
put_log : (w : Write) (rest file new : List ℕ) (len : ℕ) (before : Before) → IsPut w rest file new len before
    → take (start_of w + length (bytes_of w)) new ≡ take (start_of w) (take len file) ++ bytes_of w
put_log w rest file new len before put =
    let size = length (bytes_of w) in
    let from = before.place + head_len w in
    let start : start_of w ≤ len = put.start_within in
    let enough : length (bytes_of w) ≤ length (drop (before.place + head_len w) file) =
    omega (arith, length-drop (before.place + head_len w) file, put.room) in
    let front : take (start_of w) file ≡ take (start_of w) (take len file) = sym (take-take (start_of w) len file start) in
    ap (take (start_of w + size)) put.moved
    ∙ (take-paste file (start_of w) (drop from file) size (omega (arith, start, put.within, put.room)) enough
    ∙ rw (front, put_bytes w rest file new len before put, take_at (bytes_of w) rest size refl) refl)

-- the next of the blocks that are left is put there
puts_next : (w : Write) (left ws : List Write) (first : Before) (file new : List ℕ) (len : ℕ) (before : Before)
    → IsLeft (w ∷ left) ws first file len before → len ≤ before.place
    → before.place + head_len w + length (bytes_of w) ≤ length file
    → new ≡ paste file (start_of w) (drop (before.place + head_len w) file) (length (bytes_of w))
    → Reads ws first new (start_of w + length (bytes_of w)) (past before w)
puts_next w left ws first file new len before reads within room moved =
    let next = packed (past before w) left in
    let put : IsPut w (packed (past before w) left ++ reads.torn) file new len before = record {
      here = reads.here ∙ append_assoc (block_of before w) next reads.torn;
      start_within = reads.fit.1;
      within = within;
      room = room;
      moved = moved;
    } in (
      left,
      record {
        torn = reads.torn;
        here = put_rest w (next ++ reads.torn) file new len before put;
        log =
            ap (λ (bytes : List ℕ). written bytes left) (put_log w (next ++ reads.torn) file new len before put) ∙ reads.log;
        fit = reads.fit.2;
        ends = reads.ends;
        size = omega (arith, reads.size, length-append (block_of before w) next, length-block_of before w);
        short = reads.short;
      },
    )

-- how the code puts it
moved_is : (w : Write) (file new : List ℕ) (before : Before) (block : Block) → block ≡ found before w
    → new ≡ copy_within file block.from (block.from + block.len) block.start
    → new ≡ paste file (start_of w) (drop (before.place + head_len w) file) (length (bytes_of w))
moved_is w file new before block same moved =
    let count : before.place + head_len w + length (bytes_of w) - (before.place + head_len w) ≡ length (bytes_of w) =
    omega arith in
    rw (same, count) at moved

-- a block that was found is the next that is left
pub reads_next : (left ws : List Write) (first : Before) (file new : List ℕ) (len : ℕ) (before : Before)
    (at : Result (Option Block) Damaged) (block : Block) → Looks file len before at
    → IsLeft left ws first file len before → at ≡ Ok (Some block) → len ≤ before.place
    → block.after.place ≤ length file → new ≡ copy_within file block.from (block.from + block.len) block.start
    → Reads ws first new (block.start + block.len) block.after
reads_next [] ws first file new len before at block looks reads some within room moved =
    let none = found_none ws first file len before at looks reads in absurd cc
reads_next (w ∷ left) ws first file new len before at block looks reads some within room moved =
    let next = found_next w left ws first file len before at looks reads in
    let same : block ≡ found before w = cc in
    let room_is : before.place + head_len w + length (bytes_of w) ≤ length file = rw same at room in
    rw same (puts_next w left ws first file new len before reads within room_is (moved_is w file new before block same moved))

-- ---- whatever the file has

-- one more block stands behind the others
packed_more : (first : Before) (ws : List Write) (w : Write)
    → packed first (ws ++ w ∷ []) ≡ packed first ws ++ block_of (passed first ws) w
packed_more first [] w = append-nil (block_of first w)
packed_more first (v ∷ ws) w =
    ap (λ (xs : List ℕ). block_of first v ++ xs) (packed_more (past first v) ws w)
    ∙ sym (append_assoc (block_of first v) (packed (past first v) ws) _)

passed_more : (first : Before) (ws : List Write) (w : Write) → passed first (ws ++ w ∷ []) ≡ past (passed first ws) w
passed_more first [] w = refl
passed_more first (v ∷ ws) w = passed_more (past first v) ws w

-- one more write is made to what the others left
written_more : (log : List ℕ) (ws : List Write) (w : Write)
    → written log (ws ++ w ∷ []) ≡ take (start_of w) (written log ws) ++ bytes_of w
written_more log [] w = refl
written_more log (v ∷ ws) w = written_more (take (start_of v) log ++ bytes_of v) ws w

-- it fits where it can stand and begins within that
fits_more : (log : List ℕ) (first : Before) (ws : List Write) (w : Write) → FitIn (length log) first ws
    → CanStand (passed first ws) w → start_of w ≤ length (written log ws) → FitIn (length log) first (ws ++ w ∷ [])
fits_more log first [] w fit stands within = (stands, within, tt)
fits_more log first (v ∷ ws) w fit stands within =
    let next = take (start_of v) log ++ bytes_of v in
    let after = past first v in
    let start : start_of v ≤ length log = fit.1 in
    let long : length next ≡ start_of v + length (bytes_of v) =
    omega (arith, length-append (take (start_of v) log) (bytes_of v), length-take-le (start_of v) log start) in
    let more =
    fits_more next after ws w (subst (λ (n : ℕ). FitIn n after ws) (sym long) fit.2) stands within in
    (fit.0, fit.1, subst (λ (n : ℕ). FitIn n after (ws ++ w ∷ [])) long more)

-- the blocks of these writes were read, and the log is the file's first `len` bytes
pub record IsRead (store : ℕ) (ws : List Write) (old file : List ℕ) (len : ℕ) (before : Before) : Type 0 where
  pub found : Found store ws old before
  pub same : drop before.place file ≡ drop before.place old
  pub log : take len file ≡ written [] ws

-- nothing is read yet
pub none_read : (store : ℕ) (file : List ℕ) → IsRead store [] file file 0 (beginning store)
none_read store file = record {
  found = record { blocks = refl; before_is = refl; place_is = refl; fit = tt };
  same = refl;
  log = refl;
}

-- the block that stands next is behind those that were found
found_more : (store : ℕ) (ws : List Write) (old : List ℕ) (w : Write) (before : Before) → Found store ws old before
    → drop before.place old ≡ block_of before w ++ drop (before.place + head_len w + length (bytes_of w)) old
    → CanStand before w → start_of w ≤ length (written [] ws) → Found store (ws ++ w ∷ []) old (past before w)
found_more store ws old w before is here stands within =
    let first = beginning store in
    let past_end = before.place + head_len w + length (bytes_of w) in
    let more : packed (beginning store) (ws ++ w ∷ []) ≡ packed (beginning store) ws ++ block_of before w =
    packed_more first ws w ∙ ap (λ (b : Before). packed first ws ++ block_of b w) (sym is.before_is) in
    record {
      blocks =
          is.blocks
          ∙ (ap (λ (xs : List ℕ). packed first ws ++ xs) here
          ∙ (sym (append_assoc (packed first ws) (block_of before w) _)
          ∙ ap (λ (xs : List ℕ). xs ++ drop past_end old) (sym more)));
      before_is = ap (λ (b : Before). past b w) is.before_is ∙ sym (passed_more first ws w);
      place_is =
          omega (arith, is.place_is, ap length more, length-append (packed (beginning store) ws) (block_of before w), length-block_of before w);
      fit = fits_more [] first ws w is.fit (subst (λ (b : Before). CanStand b w) is.before_is stands) within;
    }

-- a block that was found is read
pub block_read : (store : ℕ) (ws : List Write) (old file new left : List ℕ) (len : ℕ) (before : Before) (block : Block)
    → IsRead store ws old file len before → len ≤ before.place → block.after.place ≤ length file
    → left ≡ drop before.place file → (is : IsFound before left len block)
    → new ≡ copy_within file block.from (block.from + block.len) block.start
    → IsRead store (ws ++ is.w ∷ []) old new (block.start + block.len) block.after
block_read store ws old file new left len before block read within room left_is is moved =
    let w = is.w in
    let from = before.place + head_len w in
    let size = length (bytes_of w) in
    let room_is : before.place + head_len w + length (bytes_of w) ≤ length file = rw is.block_is at room in
    let place : before.place ≤ length file = omega (arith, room_is) in
    let next : before.place + (head_len w + length (bytes_of w)) ≡ before.place + head_len w + length (bytes_of w) =
    omega arith in
    let rest : drop (head_len w + length (bytes_of w)) left ≡ drop (before.place + head_len w + length (bytes_of w)) file =
    ap (drop (head_len w + size)) left_is
    ∙ (drop-drop (head_len w + size) before.place file ∙ ap (λ (n : ℕ). drop n file) next) in
    let here : drop before.place file ≡ block_of before w ++ drop (before.place + head_len w + length (bytes_of w)) file =
    sym left_is ∙ (is.here ∙ ap (λ (xs : List ℕ). block_of before w ++ xs) rest) in
    let behind : drop (before.place + head_len w + length (bytes_of w)) file ≡ drop (before.place + head_len w + length (bytes_of w)) old =
    ap (λ (n : ℕ). drop n file) (sym next)
    ∙ (sym (drop-drop (head_len w + size) before.place file)
    ∙ (ap (drop (head_len w + size)) read.same
    ∙ (drop-drop (head_len w + size) before.place old ∙ ap (λ (n : ℕ). drop n old) next))) in
    let put : IsPut w (drop (before.place + head_len w + length (bytes_of w)) file) file new len before = record {
      here = here;
      start_within = is.within;
      within = within;
      room = room_is;
      moved = moved_is w file new before block is.block_is moved;
    } in
    let long : length (written [] ws) ≡ len =
    sym (ap length read.log) ∙ length-take-le len file (omega (arith, within, place)) in
    let result : IsRead store (ws ++ w ∷ []) old new (start_of w + length (bytes_of w)) (past before w) = record {
      found =
          found_more store ws old w before read.found
          (sym read.same ∙ (here ∙ ap (λ (xs : List ℕ). block_of before w ++ xs) behind)) is.stands
          (omega (arith, is.within, long));
      same = put_behind w _ file new len before put ∙ behind;
      log =
          put_log w _ file new len before put
          ∙ (ap (λ (xs : List ℕ). take (start_of w) xs ++ bytes_of w) read.log ∙ sym (written_more [] ws w));
    } in
    subst (λ (b : Block). IsRead store (ws ++ w ∷ []) old new (b.start + b.len) b.after) (sym is.block_is) result

-- all of the file is read where it ends within a block
pub file_read : (store : ℕ) (ws : List Write) (old file : List ℕ) (len : ℕ) (before : Before)
    → IsRead store ws old file len before → len ≤ length file → EndsWithin before (drop before.place file)
    → IsUnpacked store old file len before.place before.sum
file_read store ws old file len before read within ends = record {
  ws = ws;
  before = before;
  found = read.found;
  end_is = refl;
  sum_is = refl;
  ends = subst (EndsWithin before) read.same ends;
  len_is = sym (length-take-le len file within) ∙ ap length read.log;
  log = read.log;
}

-- a block is refused only where none stands
pub file_refused : (store : ℕ) (ws : List Write) (old file : List ℕ) (len : ℕ) (before : Before)
    (at : Result (Option Block) Damaged) (d : Damaged) → IsRead store ws old file len before → len ≤ length file
    → Looks file len before at → at ≡ Err d → IsDamaged store old before.place
file_refused store ws old file len before at d read within looks err =
    let len_is : len ≡ length (written [] ws) = sym (length-take-le len file within) ∙ ap length read.log in
    record {
      ws = ws;
      before = before;
      found = read.found;
      place_is = refl;
      no_block = λ w rest here stands start.
          let some = looks.whole w rest (read.same ∙ here) stands (omega (arith, start, len_is)) in cc;
      no_end = λ ends. let none = looks.ends (subst (EndsWithin before) (sym read.same) ends) in cc;
    }
