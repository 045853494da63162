-- What the comparisons say of a head that passes them: it is the one that the block of its bytes has.
use Rattle.std.proofs.Common.{◌≡◌, ℕ, ◌+◌, ◌*◌, ◌-◌, ◌<◌, ◌≤◌, ◌^◌, Bool, true, eqb, List, ◌++◌, length, take, drop, slice_index, replicate, sym, ap, subst, refl, ◌∙◌, arith, inl, inr}
use Rattle.std.specs.List.{starts_with, ends_with}
use Rattle.std.proofs.lemmas.Bool.{cases_lt}
use Rattle.std.proofs.lemmas.Bool.Decides.{Decides-eqb}
use Rattle.std.proofs.lemmas.List.{append_assoc, length-append, get_or-take, get_or-drop, get_or_past, length-replicate, length-take, length-drop, take_at, drop_at, take-append-drop, take_rest, take-take, drop-drop}
use Rattle.std.proofs.lemmas.Slice.Eq.{starts_is, ends_is}
use Rattle.byteorder.specs.Endian.{big_from, big_number}
use Rattle.byteorder.specs.Numbers.{big_from-lt}
use Rattle.log_blocks.specs.declared.before.Before.{Before}
use Rattle.log_blocks.specs.declared.block.Block.{Block}
use Rattle.log_blocks.specs.Blocks.{Write, start_of, bytes_of, front_of, sum_in, head_len, block_of, CanStand, EndsWithin, InBlock}
use Rattle.log_blocks.specs.Steps.{found, IsFound}
use Rattle.log_blocks.proofs.Parts.{from_place, length-front_of, length-sum_in}

-- ---- numbers

-- each is a byte
abbrev pub AreBytes : List ℕ → Type 0
AreBytes xs = (i : ℕ) → slice_index xs i < 256

-- so are the first ones
bytes_front : (n : ℕ) (xs : List ℕ) → AreBytes xs → AreBytes (take n xs)
bytes_front n xs small i = elim (cases_lt i n) [
  | inl front ↦ rw (get_or-take n xs i 0 front) (small i)
  | inr past ↦ rw (get_or_past (take n xs) i 0 (omega (arith, past, length-take n xs))) (omega arith)
]

-- so are the last ones
bytes_behind_first : (n : ℕ) (xs : List ℕ) → AreBytes xs → AreBytes (drop n xs)
bytes_behind_first n xs small i = rw (get_or-drop n xs i 0) (small (n + i))

-- seven bytes of a head have room for the start that is read from them
pub new_start_fits : (n start : ℕ) (left head : List ℕ) → AreBytes left → head ≡ take n left
    → start ≡ big_number 7 (from_place head 1) → start < 2 ^ 56
new_start_fits n start left head small is read =
    let bytes : AreBytes head = subst AreBytes (sym is) (bytes_front n left small) in
    let below = big_from-lt 0 7 (drop 1 head) (bytes_behind_first 1 head bytes) in
    let same : start ≡ big_number 7 (drop 1 head) = read ∙ ap (big_number 7) (take_rest head 1) in
    subst (λ (m : ℕ). m < 2 ^ 56) (sym same) below

-- so they have where the eighth is 0
pub old_start_fits : (n start : ℕ) (left head : List ℕ) → AreBytes left → head ≡ take n left → 0 < n
    → slice_index left 0 ≡ 0 → start ≡ big_number 8 head → start < 2 ^ 56
old_start_fits n start left head small is some first read =
    let bytes : AreBytes head = subst AreBytes (sym is) (bytes_front n left small) in
    let below = big_from-lt 1 7 head bytes in
    let zero_is : slice_index head 0 ≡ 0 =
    ap (λ (xs : List ℕ). slice_index xs 0) is ∙ (get_or-take n left 0 0 some ∙ first) in
    omega (arith, below, read, zero_is)

-- ---- a head that passes

-- the rest of a file was parted, and its head begins with this front
pub record HasFront (left front head behind : List ℕ) (size : ℕ) : Type 0 where
  pub head_is : head ≡ take size left
  pub behind_is : behind ≡ drop size left
  pub enough : size ≤ length left
  pub long : 24 ≤ size
  pub begins : head ≡ front ++ drop (length front) head

pub has_front : (left front made head behind : List ℕ) (size : ℕ) (begins : Bool) → head ≡ take size left
    → behind ≡ drop size left → size ≤ length left → 24 ≤ size → made ≡ front → begins ≡ starts_with eqb head made
    → begins ≡ true → HasFront left front head behind size
has_front left front made head behind size begins first back enough long same compared right = record {
  head_is = first;
  behind_is = back;
  enough = enough;
  long = long;
  begins =
      let whole = (starts_is Decides-eqb head made begins compared).0 right in
      subst (λ (xs : List ℕ). head ≡ xs ++ drop (length xs) head) same whole;
}

-- its first bytes are the front
front_again : (left front head behind : List ℕ) (size : ℕ) → HasFront left front head behind size → length front ≡ 24
    → take 24 left ≡ front
front_again left front head behind size is eight =
    sym (take-take 24 size left is.long)
    ∙ (ap (take 24) (sym is.head_is)
    ∙ (ap (take 24) is.begins ∙ take_at front (drop (length front) head) 24 eight))

-- the file ends within the block that it begins
pub ends_within : (before : Before) (w : Write) (left head behind : List ℕ)
    → HasFront left (front_of before w) head behind (head_len w) → CanStand before w → length behind < length (bytes_of w)
    → length (bytes_of w) < 2 ^ 64 → EndsWithin before left
ends_within before w left head behind is stands short fits =
    let first = front_again left (front_of before w) head behind (head_len w) is (length-front_of before w) in
    InBlock w stands first fits (omega (arith, short, is.enough, ap length is.behind_is, length-drop (head_len w) left))

-- the block stands there where its head also ends with its checksum
pub block_again : (before : Before) (w : Write) (left head behind sum : List ℕ) (len : ℕ) (ended : Bool) (block : Block)
    → HasFront left (front_of before w) head behind (head_len w) → CanStand before w → start_of w ≤ len
    → length (bytes_of w) ≤ length behind → bytes_of w ≡ take (length (bytes_of w)) behind
    → ended ≡ ends_with eqb head sum → ended ≡ true → sum ≡ sum_in before w
    → block ≡ found before w → IsFound before left len block
unfolding block_of
block_again before w left head behind sum len ended block is stands within room bytes compared right sum_is block_is =
    let ends = (ends_is Decides-eqb head sum ended compared).0 right in
    let size : 24 + length sum ≡ head_len w = omega (arith, ap length sum_is, length-sum_in before w) in
    let n = length (bytes_of w) in
    let front = front_of before w in
    let first = front_again left (front_of before w) head behind (head_len w) is (length-front_of before w) in
    let long : length head ≡ head_len w = omega (arith, ap length is.head_is, length-take (head_len w) left, is.enough) in
    let at : length head - length sum ≡ 24 = omega (arith, long, size) in
    let begin : take 24 head ≡ front_of before w =
    ap (take 24) is.head_is ∙ (take-take 24 (head_len w) left is.long ∙ first) in
    let whole : head ≡ front_of before w ++ sum_in before w =
    ends ∙ (ap (λ (k : ℕ). take k head ++ sum) at ∙ rw (begin, sum_is) refl) in
    let rest : drop (length (bytes_of w)) behind ≡ drop (head_len w + length (bytes_of w)) left =
    ap (drop n) is.behind_is ∙ drop-drop n (head_len w) left in
    record {
      w = w;
      stands = stands;
      within = within;
      block_is = block_is;
      here =
          sym (take-append-drop (head_len w) left)
          ∙ (rw (← is.head_is, ← is.behind_is) refl
          ∙ (ap (λ (xs : List ℕ). xs ++ behind) whole
          ∙ (ap (λ (xs : List ℕ). (front ++ sum_in before w) ++ xs) (sym (take-append-drop n behind) ∙ rw (← bytes, rest) refl)
          ∙ sym (append_assoc (front ++ sum_in before w) (bytes_of w) _))));
    }
