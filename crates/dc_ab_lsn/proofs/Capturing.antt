-- What a number more, a greater low number and other entries add to the captured ones.
use Rattle.std.proofs.Common.{◌≡◌, ℕ, ◌<◌, ◌≤◌, ◌==◌, ◌||◌, Bool, cond, List, [], ◌∷◌, refl, ap, arith, ne_eqb, lt-ltb}
use Rattle.std.specs.Prelude.{not, ◌&&◌, nat_le, nat_lt}
use Rattle.std.proofs.Math.Bool.{or_comm, or_assoc, or-true, or-false}
use Rattle.std.proofs.lemmas.Bool.{cases_lt, cases_Bool, le-ltb, le-leb, lt-leb, eqb-true, or_left}
use Rattle.record_key.specs.Table.{Bytes}
use Rattle.record_key.specs.declared.op.Answer.{Answer}
use Rattle.record_key.specs.declared.entry.Entry.{Entry}
use Rattle.record_key.specs.Entries.{RiseAbove}
use Rattle.dc_ab_lsn.specs.AbLsn.{AbLsnView, stands_in, captures, noted, raised, with_entry, above}
use Rattle.dc_ab_lsn.specs.Parting.{entries_with, stands_with, placed_above, placed_all, joined_with}
use Rattle.dc_ab_lsn.proofs.Rising.{filtered_rises}

or_swap : (a b c : Bool) → (a || (b || c)) ≡ (b || (a || c))
or_swap a b c = grind arith

-- one entry more
either_side : (b : Bool) (f e : Entry) (es fs : List Entry) (m : ℕ)
    → stands_in fs m ≡ ((m == f.number) || stands_in es m)
    → stands_in (cond b (e ∷ fs) (f ∷ e ∷ es)) m ≡ ((m == f.number) || stands_in (e ∷ es) m)
either_side b f e es fs m h = grind arith

pub placed_stands : (f : Entry) (es : List Entry) (m : ℕ)
    → stands_in (with_entry f es) m ≡ ((m == f.number) || stands_in es m)
placed_stands f [] m = refl
placed_stands f (e ∷ es) m = either_side (nat_lt e.number f.number) f e es (with_entry f es) m (placed_stands f es m)

pub noted_captures : (v : AbLsnView) (n : ℕ) (k : Bytes) (a : Answer) (m : ℕ)
    → captures (noted v n k a) m ≡ (captures v m || m == n)
noted_captures v n k a m = grind (arith, placed_stands, or_comm, or_assoc)

-- entries above a number are all that stand above it
pub above_stands : (l : ℕ) (es : List Entry) (m : ℕ) → l < m → stands_in (above l es) m ≡ stands_in es m
above_stands l [] m lt = refl
above_stands l (e ∷ es) m lt = grind (arith, above_stands l es m lt, cases_lt, lt-ltb, le-ltb, ne_eqb)

pub above_rises : (l k : ℕ) (es : List Entry) → RiseAbove k es → RiseAbove l (above l es)
above_rises l k [] h = tt
above_rises l k (e ∷ es) h = grind (arith, above_rises l e.number es h.1, cases_lt, lt-ltb, filtered_rises, le-ltb)

-- every number up to another captured besides
lifted : (v : AbLsnView) (l m : ℕ) → v.low < l
    → (nat_le m l || stands_in (above l v.entries) m) ≡ ((nat_le m v.low || stands_in v.entries m) || nat_le m l)
lifted v l m lt = grind (arith, cases_lt, lt-leb, above_stands, or-false, le-leb, or-true)

stays : (low l m : ℕ) (b : Bool) → l ≤ low → (nat_le m low || b) ≡ ((nat_le m low || b) || nat_le m l)
stays low l m b le = grind arith

pub raised_captures : (v : AbLsnView) (l m : ℕ) → captures (raised v l) m ≡ (captures v m || nat_le m l)
raised_captures v l m = grind (arith, cases_lt, lt-ltb, lifted, le-ltb, stays)

-- what stands there once an entry was put at its place, where its own number doesn't stand there yet
put_stood : (m : ℕ) (f : Entry) (es : List Entry) (b : Bool) → stands_in es f.number ≡ b
    → stands_in (cond (not b) (with_entry f es) es) m ≡ ((m == f.number) || stands_in es m)
put_stood m f es b out = grind (arith, placed_stands, cases_Bool, eqb-true)

-- the entries of another, those above a number
above_stood : (l m : ℕ) (f : Entry) (es : List Entry) → l < m
    → stands_in (placed_above l f es) m ≡ ((m == f.number) || stands_in es m)
above_stood l m f es lt = grind (arith, cases_lt, lt-ltb, put_stood, le-ltb, ne_eqb)

all_stood : (l m : ℕ) (fs es : List Entry) → l < m
    → stands_in (placed_all l fs es) m ≡ (stands_in fs m || stands_in es m)
all_stood l m [] es lt = refl
all_stood l m (f ∷ fs) es lt = grind (arith, all_stood l m fs (placed_above l f es) lt, above_stood, or_swap, or_assoc)

pub joined_captures : (v w : AbLsnView) (m : ℕ) → captures (joined_with v w) m ≡ (captures v m || captures w m)
joined_captures v w m = grind (arith, raised_captures, cases_lt, lt-leb, all_stood, or_comm, or_assoc, le-leb, or_left)

-- the invariant stays where the low number rises
pub raised_rises : (v : AbLsnView) (l : ℕ) → RiseAbove v.low v.entries → RiseAbove (raised v l).low (raised v l).entries
raised_rises v l h = grind (arith, cases_lt, lt-ltb, above_rises, le-ltb)

-- what stands in the entries whose keys pass a test
either_with : (m : ℕ) (e : Entry) (es fs : List Entry) (b : Bool) (rest : Bool) → stands_in fs m ≡ rest
    → stands_in (cond b (e ∷ fs) fs) m ≡ (((m == e.number) && b) || rest)
either_with m e es fs b rest is = grind arith

pub parted_stands : (test : Bytes → Bool) (es : List Entry) (m : ℕ)
    → stands_in (entries_with test es) m ≡ stands_with test es m
parted_stands test [] m = refl
parted_stands test (e ∷ es) m = grind (arith, parted_stands test es m, either_with)

pub parted_captures : (low : ℕ) (es : List Entry) (test : Bytes → Bool) (m : ℕ)
    → captures (record { low = low; entries = entries_with test es }) m ≡ (nat_le m low || stands_with test es m)
parted_captures low es test m = ap (λ (b : Bool). nat_le m low || b) (parted_stands test es m)
