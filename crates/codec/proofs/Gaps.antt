-- What moving bytes a block at a time has done so far.
use Rattle.std.proofs.Common.{◌≡◌, ℕ, ◌+◌, ◌-◌, ◌≤◌, List, ◌++◌, length, take, drop, refl, sym, ap, ◌∙◌, arith, append_assoc}
use Rattle.std.proofs.lemmas.List.{length-append, length-drop, length-take-le, take-take, take_at, take-append-le, take-append-drop, take_all, drop-drop, drop_at, drop-append-le, drop_all, drop-take}

-- of all bytes but the last so many those from here on have moved up to the end
pub record IsMovedUp (by left : ℕ) (old now : List ℕ) : Type 0 where
  pub count : length now ≡ length old
  pub within : left + by ≤ length old
  pub under : take left now ≡ take left old
  pub over : drop (left + by) now ≡ drop left (take (length old - by) old)

pub up_none : (by : ℕ) (old : List ℕ) → by ≤ length old → IsMovedUp by (length old - by) old old
up_none by old within = record {
  count = refl;
  within = omega (arith, within);
  under = refl;
  over = drop_all (length old - by + by) old (omega (arith, within))
      ∙ sym (drop_all (length old - by) (take (length old - by) old)
      (omega (arith, length-take-le (length old - by) old (omega (arith, within)))));
}

module _ (by left n : ℕ) (old now new : List ℕ) (some : n ≤ left) (h : IsMovedUp by left old now)
    (is : new ≡ take (left - n + by) now ++ (take n (drop (left - n) now) ++ drop (left - n + by + n) now)) where
  abbrev p : ℕ
  p = left - n

  abbrev all : List ℕ
  all = take (length old - by) old

  abbrev front : List ℕ
  front = take (p + by) now

  abbrev block : List ℕ
  block = take n (drop p now)

  abbrev back : List ℕ
  back = drop (p + by + n) now

  back_to : p + n ≡ left
  back_to = omega (arith, some)

  front_len : length front ≡ p + by
  front_len = length-take-le (p + by) now (omega (arith, some, h.within, h.count))

  block_len : length block ≡ n
  block_len = length-take-le n (drop p now) (omega (arith, some, h.within, h.count, length-drop p now))

  back_len : length back ≡ length now - (p + by + n)
  back_len = length-drop (p + by + n) now

  same_count : length new ≡ length old
  same_count = ap length is ∙ omega (
    arith,
    length-append front (block ++ back),
    length-append block back,
    front_len,
    block_len,
    back_len,
    h.count,
    h.within,
    some,
  )

  same_under : take p new ≡ take p old
  same_under =
      ap (take p) is ∙ take-append-le p front (block ++ back) (omega (arith, front_len))
      ∙ take-take p (p + by) now (omega arith) ∙ sym (take-take p left now (omega (arith, some))) ∙ ap (take p) h.under
      ∙ take-take p left old (omega (arith, some))

  block_is : block ≡ drop p (take left all)
  block_is =
      sym (drop-take p n now) ∙ ap (λ (k : ℕ). drop p (take k now)) back_to ∙ ap (drop p) h.under
      ∙ ap (drop p) (sym (take-take left (length old - by) old (omega (arith, h.within))))

  back_is : back ≡ drop left all
  back_is =
      (let same : p + by + n ≡ left + by = omega (arith, some) in ap (λ (k : ℕ). drop k now) same) ∙ h.over

  all_len : length all ≡ length old - by
  all_len = length-take-le (length old - by) old (omega (arith, h.within))

  moved_over : drop (p + by) new ≡ drop p all
  moved_over =
      ap (drop (p + by)) is ∙ drop_at front (block ++ back) (p + by) front_len
      ∙ (λ i. block_is i ++ back_is i)
      ∙ sym (drop-append-le p (take left all) (drop left all)
      (omega (arith, some, h.within, all_len, length-take-le left all (omega (arith, h.within, all_len)))))
      ∙ ap (drop p) (take-append-drop left all)

  pub up_more : IsMovedUp by (left - n) old new
  up_more = record {
    count = same_count;
    within = omega (arith, some, h.within);
    under = same_under;
    over = moved_over;
  }

-- without so many bytes from a place on
abbrev pub without : ℕ → ℕ → List ℕ → List ℕ
without to by old = take to old ++ drop (to + by) old

-- the bytes up to this place are those that are to stand there, and those behind stand as they did
pub record IsMovedDown (to by at : ℕ) (old now : List ℕ) : Type 0 where
  pub count : length now ≡ length old
  pub started : to ≤ at
  pub within : at + by ≤ length old
  pub under : take at now ≡ take at (without to by old)
  pub over : drop at now ≡ drop at old

module _ (to by : ℕ) (old : List ℕ) (within : to + by ≤ length old) where
  front_of : length (take to old) ≡ to
  front_of = length-take-le to old (omega (arith, within))

  pub down_none : IsMovedDown to by to old old
  down_none = record {
    count = refl;
    started = omega arith;
    within = within;
    under = sym (take_at (take to old) (drop (to + by) old) to front_of);
    over = refl;
  }

  without_len : length (without to by old) ≡ length old - by
  without_len = omega (
    arith,
    length-append (take to old) (drop (to + by) old),
    front_of,
    length-drop (to + by) old,
    within,
  )

  pub down_all : (at : ℕ) (now : List ℕ) → IsMovedDown to by at old now → length old - by ≤ at
      → take (length old - by) now ≡ without to by old
  down_all at now h all =
      let there : at ≡ length old - by = omega (arith, all, h.within) in
      ap (λ (k : ℕ). take k now) (sym there) ∙ h.under
      ∙ take_all at (without to by old) (omega (arith, without_len, all))

  -- what stands behind a place that was reached
  behind : (at : ℕ) → to ≤ at → drop at (without to by old) ≡ drop (at + by) old
  behind at started =
      let more : to + (at - to) ≡ at = omega (arith, started) in
      let same : to + by + (at - to) ≡ at + by = omega (arith, started) in
      ap (λ (k : ℕ). drop k (without to by old)) (sym more) ∙ sym (drop-drop (at - to) to (without to by old))
      ∙ ap (drop (at - to)) (drop_at (take to old) (drop (to + by) old) to front_of)
      ∙ drop-drop (at - to) (to + by) old ∙ ap (λ (k : ℕ). drop k old) same

-- a beginning in two parts
take_both : (a b : ℕ) (xs : List ℕ) → take (a + b) xs ≡ take a xs ++ take b (drop a xs)
take_both a b xs =
    sym (take-append-drop a (take (a + b) xs))
    ∙ (λ i. take-take a (a + b) xs (omega arith) i ++ drop-take a b xs i)

module _ (to by at n : ℕ) (old now new : List ℕ) (some : at + n + by ≤ length old) (h : IsMovedDown to by at old now)
    (is : new ≡ take at now ++ (take n (drop (at + by) now) ++ drop (at + n) now)) where
  abbrev down_front : List ℕ
  down_front = take at now

  abbrev down_block : List ℕ
  down_block = take n (drop (at + by) now)

  abbrev down_back : List ℕ
  down_back = drop (at + n) now

  down_front_len : length down_front ≡ at
  down_front_len = length-take-le at now (omega (arith, some, h.count))

  down_block_len : length down_block ≡ n
  down_block_len = length-take-le n (drop (at + by) now) (omega (arith, some, h.count, length-drop (at + by) now))

  both_len : length (down_front ++ down_block) ≡ at + n
  both_len = omega (arith, length-append down_front down_block, down_front_len, down_block_len)

  -- what is copied still stands where it stood
  source_is : drop (at + by) now ≡ drop at (without to by old)
  source_is =
      sym (drop-drop by at now) ∙ ap (drop by) h.over ∙ drop-drop by at old
      ∙ sym (behind to by old (omega (arith, h.started, h.within)) at h.started)

  in_two : new ≡ (down_front ++ down_block) ++ down_back
  in_two = is ∙ sym (append_assoc down_front down_block down_back)

  pub down_more : IsMovedDown to by (at + n) old new
  down_more = record {
    count = ap length in_two ∙ omega (
      arith,
      length-append (down_front ++ down_block) down_back,
      both_len,
      length-drop (at + n) now,
      h.count,
      some,
    );
    started = omega (arith, h.started);
    within = some;
    under = ap (take (at + n)) in_two ∙ take_at (down_front ++ down_block) down_back (at + n) both_len
        ∙ (λ i. h.under i ++ take n (source_is i)) ∙ sym (take_both at n (without to by old));
    over = ap (drop (at + n)) in_two ∙ drop_at (down_front ++ down_block) down_back (at + n) both_len
        ∙ sym (drop-drop n at now) ∙ ap (drop n) h.over ∙ drop-drop n at old;
  }
