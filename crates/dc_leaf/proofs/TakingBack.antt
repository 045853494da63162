-- An honest leaf whose entries above an end are taken back is honest for the log up to the end.
use Rattle.std.proofs.Common.{length-append, ◌≡◌, ◌≢◌, ℕ, ◌+◌, ◌<◌, ◌≤◌, ◌==◌, ◌⊎◌, Bool, true, false, List, [], ◌∷◌, ◌++◌, length, Option, Some, refl, sym, ap, ◌∙◌, subst, arith, inl, inr, eq-eqb, true≢false, lt-ltb, le-ltb}
use Rattle.std.specs.Prelude.{nat_le}
use Rattle.std.specs.List.{AllByRecursion}
use Rattle.std.specs.FinMap.{get}
use Rattle.std.proofs.lemmas.Bool.{cases_Bool, cases_lt, lt-leb, or_left, or_right}
use Rattle.record_key.specs.declared.op.Op.{Op}
use Rattle.record_key.specs.declared.entry.Entry.{Entry}
use Rattle.record_key.specs.Entries.{RiseAbove}
use Rattle.record_key.specs.Table.{Bytes, Table, AreAdds, key_of, answer_at, value_after}
use Rattle.inverse.specs.Inverse.{undo_of}
use Rattle.history.specs.declared.record.Record.{Record}
use Rattle.history.specs.declared.record.Record.TheVariants as is
use Rattle.history.specs.Log.{request_of, request_in, Requests}
use Rattle.history.specs.Values.{is_on, value_on}
use Rattle.history.specs.Honest.{Numbered, numbered_with, numbered_on, LeavesOutAdds, value_of, IsHonestAt}
use Rattle.log_laws.proofs.Records.{ARequest, at_newest, newest_at, before_new, kept_at}
use Rattle.log_laws.proofs.LegalLogs.{request_number}
use Rattle.dc_ab_lsn.specs.AbLsn.{stands_in, captures, up_to, popped}
use Rattle.dc_ab_lsn.proofs.Popping.{popped_same, popped_rises}
use Rattle.dc_leaf.specs.Leaf.{LeafView}
use Rattle.dc_leaf.specs.Honest.{IsSavedRight, IsHonestLeaf, AreSessions}
use Rattle.dc_leaf.proofs.OnKey.{all_done, value_alike, key_on, on_key, left_out_alike}
use Rattle.dc_leaf.proofs.Captured.{falls, stands_on, earlier_captured, answer_captured}
use Rattle.dc_leaf.specs.TakingBack.{undone_by, rows_back, taken_back}
use Rattle.dc_leaf.proofs.UpTo.{AreUpTo, all_stay, none_back, none_above, back_twice, up_to_twice}
use Rattle.dc_leaf.proofs.Honest.{saved_shorter, honest_shorter}
use Rattle.dc_leaf.proofs.Undoing.{undone_value, undone_here, undone_elsewhere, value_back}

-- of entries up to one past an end, this one alone is taken back
record IsTop (P : Entry → Type 0) (end : ℕ) (es : List Entry) : Type 0 where
  entry : Entry
  has : P entry
  number : entry.number ≡ end + 1
  stands : stands_in es (end + 1) ≡ true
  back : (m : Table) → rows_back end es m ≡ undone_by m entry
  stay : AreUpTo end (up_to end es)
  saved : AllByRecursion P (up_to end es)

none_over : (l : ℕ) (es : List Entry) → RiseAbove l es → AreUpTo l es → es ≡ []
none_over l [] h all = refl
none_over l (e ∷ es) h all = absurd (omega (arith, h.0, all.0))

top_or_none : (P : Entry → Type 0) (end l : ℕ) (es : List Entry) → RiseAbove l es → AreUpTo (end + 1) es
    → AllByRecursion P es → IsTop P end es ⊎ AreUpTo end es
top_or_none P end l [] rise all has = inr tt
top_or_none P end l (e ∷ es) rise all has =
    elim (cases_lt end e.number) [
      | inl less ↦
          let number : e.number ≡ end + 1 = omega (arith, less, all.0) in
          let empty : es ≡ [] = none_over (end + 1) es (subst (λ (n : ℕ). RiseAbove n es) number rise.1) all.1 in
          inl (subst (λ (fs : List Entry). IsTop P end (e ∷ fs)) (sym empty) (alone number less))
      | inr ge ↦
          elim (top_or_none P end e.number es rise.1 all.1 has.1) [
            | inl top ↦ inl (record {
              entry = top.entry;
              has = top.has;
              number = top.number;
              stands = or_right (end + 1 == e.number) (stands_in es (end + 1)) top.stands;
              back = λ m. rw (le-ltb end e.number ge) (top.back m);
              stay = rw (le-ltb end e.number ge) (ge, top.stay);
              saved = rw (le-ltb end e.number ge) (has.0, top.saved);
            })
            | inr none ↦ inr (ge, none)
          ]
    ]
  where
    alone : e.number ≡ end + 1 → end < e.number → IsTop P end (e ∷ [])
    alone number less = record {
      entry = e;
      has = has.0;
      number = number;
      stands = or_left (end + 1 == e.number) false (eq-eqb (end + 1) e.number (sym number));
      back = λ m. rw (lt-ltb end e.number less) refl;
      stay = rw (lt-ltb end e.number less) tt;
      saved = rw (lt-ltb end e.number less) tt;
    }

-- where the newest number on the key is captured: what is left out is left out of the others, and the value is what it
-- left
abbrev Newest : Bytes → (ℕ → Bool) → List Record → Op → Table → Type 0
Newest k cap log o rows = LeavesOutAdds cap (numbered_on k log)
    × (get rows k ≡ value_after o (value_of cap (numbered_on k log)))

newest_here : (cap : ℕ → Bool) (k : Bytes) (n : ℕ) (o : Op) (log : List Record) (rows : Table) → is_on k o ≡ true
    → cap n ≡ true → LeavesOutAdds cap (numbered_with k n (Some o) (numbered_on k log))
    → get rows k ≡ value_of cap (numbered_with k n (Some o) (numbered_on k log)) → Newest k cap log o rows
newest_here cap k n o log rows on got left right =
    ((rw on at left).1, rw (on, got) at right)

-- where it is on another key
elsewhere : (cap : ℕ → Bool) (k : Bytes) (n : ℕ) (o : Op) (rest : List Numbered) → is_on k o ≡ false
    → (LeavesOutAdds cap (numbered_with k n (Some o) rest) → LeavesOutAdds cap rest)
    × (value_of cap (numbered_with k n (Some o) rest) ≡ value_of cap rest)
elsewhere cap k n o rest off = rw off (λ h. h, refl)

module _ (r : Record) (log : List Record) (leaf : LeafView) (honest : IsHonestLeaf (r ∷ log) leaf) where
  abbrev end : ℕ
  end = length log

  abbrev old : ℕ → Bool
  old m = captures leaf.ab m

  abbrev new : ℕ → Bool
  new m = captures (popped leaf.ab end) m

  same : (k : Bytes) → AllByRecursion (λ d. old d.number ≡ new d.number) (numbered_on k log)
  same k = all_done (λ m. old m ≡ new m) k log
      (λ m o asks on. sym (popped_same leaf.ab end m ((request_number log m o asks).bounded)))

  module _ (top : IsTop (IsSavedRight (r ∷ log)) end leaf.ab.entries) where
    abbrev o : Op
    o = top.has.op

    asks : request_of r ≡ Some o
    asks = newest_at (ARequest o) r log top.entry.number top.number top.has.requests

    got : old (end + 1) ≡ true
    got = or_right (nat_le (end + 1) leaf.ab.low) (stands_in leaf.ab.entries (end + 1)) top.stands

    answered : top.entry.answer ≡ answer_at o (value_on (key_of o) log)
    answered = top.has.right o top.has.requests
        ∙ ap (λ x. answer_at o (value_on (key_of o) x)) (before_new r log top.entry.number top.number)

    -- the rows once it is taken back
    abbrev rows : Table
    rows = undone_by leaf.rows top.entry

    -- each other on the key was captured, or both are Adds
    others : (k : Bytes) → key_of o ≡ k → LeavesOutAdds old (numbered_on k (r ∷ log)) → (m : ℕ) (q : Op)
        → Requests log m q → key_of q ≡ k → (old m ≡ true) ⊎ AreAdds o q
    others k key left m q had on =
        let number = request_number log m q had in
        earlier_captured old (length (r ∷ log) + 1) (end + 1) m o q (numbered_on k (r ∷ log)) (falls k (r ∷ log)) left
        (stands_on k (r ∷ log) (end + 1) o (at_newest (ARequest o) r log (end + 1) refl asks) key)
        (stands_on k (r ∷ log) m q (kept_at (ARequest q) r log m number had) on)
        (let bounded = number.bounded in omega (arith, bounded)) got

    at_key : (k : Bytes) → is_on k o ≡ true → IsHonestAt (r ∷ log) old k (get leaf.rows k)
        → IsHonestAt log new k (get rows k)
    at_key k on h =
        let key : key_of o ≡ k = key_on k o on in
        let v : Option Bytes = value_of old (numbered_on k log) in
        let has : Newest k old log o leaf.rows =
        newest_here old k (end + 1) o log leaf.rows on got
        (subst (λ q. LeavesOutAdds old (numbered_with k (end + 1) q (numbered_on k log))) asks h.left_out)
        (h.right ∙ ap (λ q. value_of old (numbered_with k (end + 1) q (numbered_on k log))) asks) in
        let alike : answer_at o (value_on (key_of o) log) ≡ answer_at o v =
        ap (λ (x : Bytes). answer_at o (value_on x log)) key
        ∙ sym (answer_captured old k log o (others k key h.left_out)) in
        let saved : undo_of top.entry.key top.entry.answer ≡ undo_of (key_of o) (answer_at o v) =
        (λ i. undo_of (sym top.has.on_key i) ((answered ∙ alike) i)) in
        let there : get leaf.rows top.entry.key ≡ value_after o v =
        ap (get leaf.rows) (sym top.has.on_key ∙ key) ∙ has.1 in
        let back : get rows k ≡ v =
        ap (get rows) (sym key ∙ top.has.on_key) ∙ undone_here leaf.rows top.entry
        ∙ (λ i. undone_value (saved i) (there i)) ∙ value_back o v in
        record {
          left_out = left_out_alike old new (numbered_on k log) (same k) has.0;
          right = back ∙ value_alike old new (numbered_on k log) (same k);
        }

    at_other : (k : Bytes) → is_on k o ≡ false → IsHonestAt (r ∷ log) old k (get leaf.rows k)
        → IsHonestAt log new k (get rows k)
    at_other k off h =
        let less = elsewhere old k (end + 1) o (numbered_on k log) off in
        let apart : k ≢ top.entry.key = λ e. true≢false (sym (on_key k o (top.has.on_key ∙ sym e)) ∙ off) in
        let stays : get rows k ≡ get leaf.rows k = undone_elsewhere leaf.rows top.entry k apart in
        record {
          left_out = left_out_alike old new (numbered_on k log) (same k)
              (less.0 (subst (λ q. LeavesOutAdds old (numbered_with k (end + 1) q (numbered_on k log))) asks
              h.left_out));
          right = stays ∙ h.right
              ∙ ap (λ q. value_of old (numbered_with k (end + 1) q (numbered_on k log))) asks ∙ less.1
              ∙ value_alike old new (numbered_on k log) (same k);
        }

    one_back : IsHonestLeaf log (taken_back leaf end)
    one_back = record {
      at = λ k within. subst (λ (m : Table). IsHonestAt log new k (get m k)) (sym (top.back leaf.rows))
          (elim (cases_Bool (is_on k o)) [
            | inl on ↦ at_key k on (honest.at k within)
            | inr off ↦ at_other k off (honest.at k within)
          ]);
      saved = saved_shorter r log (up_to end leaf.ab.entries) top.stay top.saved;
    }

  -- where no entry has the newest number nothing is taken back
  none_taken : AreUpTo end leaf.ab.entries → ((o : Op) → request_of r ≡ Some o → leaf.ab.low < end + 1)
      → IsHonestLeaf log (taken_back leaf end)
  none_taken all over =
      let out : (o : Op) → request_of r ≡ Some o → captures leaf.ab (end + 1) ≡ false = λ o asks.
      rw (lt-leb (end + 1) leaf.ab.low (over o asks)) (none_above end (end + 1) leaf.ab.entries (omega arith) all) in
      subst (λ (es : List Entry). IsHonestLeaf log (record leaf {
        rows = rows_back end leaf.ab.entries leaf.rows;
        ab = record leaf.ab { entries = es };
      })) (sym (all_stay end leaf.ab.entries all))
      (subst (λ (m : Table). IsHonestLeaf log (record leaf { rows = m }))
      (sym (none_back end leaf.ab.entries leaf.rows all))
      (honest_shorter r log leaf all out honest))

  -- each entry's number is one of the log
  entries_within : (es : List Entry) → AllByRecursion (IsSavedRight (r ∷ log)) es → AreUpTo (end + 1) es
  entries_within [] all = tt
  entries_within (e ∷ es) all = (
    let bounded = (request_number (r ∷ log) e.number all.0.op all.0.requests).bounded in omega (arith, bounded),
    entries_within es all.1,
  )

  one_less : RiseAbove leaf.ab.low leaf.ab.entries → ((o : Op) → request_of r ≡ Some o → leaf.ab.low < end + 1)
      → IsHonestLeaf log (taken_back leaf end)
  one_less rising over =
      elim (top_or_none (IsSavedRight (r ∷ log)) end leaf.ab.low leaf.ab.entries rising
      (entries_within leaf.ab.entries honest.saved) honest.saved) [
        | inl top ↦ one_back top
        | inr none ↦ none_taken none over
      ]

-- no request stands above the end, up to the low number
abbrev AreIdle : List Record → ℕ → ℕ → Type 0
AreIdle log end low = (n : ℕ) (o : Op) → end < n → n ≤ low → Requests log n o → ⊥

idle_rest : (r : Record) (log : List Record) (e low : ℕ) → AreIdle (r ∷ log) e low → AreIdle log e low
idle_rest r log e low idle n o over le asks =
    idle n o over le (kept_at (ARequest o) r log n (request_number log n o asks) asks)

twice : (leaf : LeafView) (a b : ℕ) → a ≤ b → RiseAbove leaf.ab.low leaf.ab.entries
    → taken_back (taken_back leaf b) a ≡ taken_back leaf a
twice leaf a b le rising =
    (λ i. record leaf {
      rows = back_twice a b leaf.ab.low leaf.ab.entries leaf.rows le rising i;
      ab = record leaf.ab { entries = up_to_twice a b leaf.ab.entries le i };
    })

own_end : (older : List Record) (leaf : LeafView) → IsHonestLeaf older leaf → AreUpTo (length older) leaf.ab.entries
own_end older leaf h = go leaf.ab.entries h.saved
  where
    go : (es : List Entry) → AllByRecursion (IsSavedRight older) es → AreUpTo (length older) es
    go [] all = tt
    go (e ∷ es) all = ((request_number older e.number all.0.op all.0.requests).bounded, go es all.1)

nothing_back : (older : List Record) (leaf : LeafView) → IsHonestLeaf older leaf
    → taken_back leaf (length older) ≡ leaf
nothing_back older leaf h =
    let all : AreUpTo (length older) leaf.ab.entries = own_end older leaf h in
    (λ i. record leaf {
      rows = none_back (length older) leaf.ab.entries leaf.rows all i;
      ab = record leaf.ab { entries = all_stay (length older) leaf.ab.entries all i };
    })

taken_honest : (newer older : List Record) (leaf : LeafView) → RiseAbove leaf.ab.low leaf.ab.entries
    → IsHonestLeaf (newer ++ older) leaf → AreIdle (newer ++ older) (length older) leaf.ab.low
    → IsHonestLeaf older (taken_back leaf (length older))
taken_honest [] older leaf rising honest idle =
    subst (IsHonestLeaf older) (sym (nothing_back older leaf honest)) honest
taken_honest (r ∷ newer) older leaf rising honest idle =
    let le : length older ≤ length (newer ++ older) = omega (arith, length-append newer older) in
    let over : (o : Op) → request_of r ≡ Some o → leaf.ab.low < length (newer ++ older) + 1 = λ o asks.
    elim (cases_lt leaf.ab.low (length (newer ++ older) + 1)) [
      | inl less ↦ less
      | inr ge ↦ absurd (idle (length (newer ++ older) + 1) o (omega (arith, le)) ge
          (at_newest (ARequest o) r (newer ++ older) (length (newer ++ older) + 1) refl asks))
    ] in
    let first : IsHonestLeaf (newer ++ older) (taken_back leaf (length (newer ++ older))) =
    one_less r (newer ++ older) leaf honest rising over in
    subst (IsHonestLeaf older) (twice leaf (length older) (length (newer ++ older)) le rising)
    (taken_honest newer older (taken_back leaf (length (newer ++ older)))
    (popped_rises leaf.ab (length (newer ++ older)) rising) first
    (idle_rest r (newer ++ older) (length older) leaf.ab.low idle))

idle_sessions : (log : List Record) (end low : ℕ) → AreSessions log end low → AreIdle log end low
idle_sessions log end low h n o over le asks =
    let none : request_in (Some is.Session) ≡ Some o = subst (ARequest o) (h n over le) asks in cc

pub honest_back : (newer older : List Record) (leaf : LeafView) → RiseAbove leaf.ab.low leaf.ab.entries
    → IsHonestLeaf (newer ++ older) leaf → AreSessions (newer ++ older) (length older) leaf.ab.low
    → IsHonestLeaf older (taken_back leaf (length older))
honest_back newer older leaf rising honest sessions =
    taken_honest newer older leaf rising honest (idle_sessions (newer ++ older) (length older) leaf.ab.low sessions)
