-- What a span sees of a table: rows of a range, or whether an Add finds a number.
use Rattle.std.proofs.Common.{arith, ◌≡◌, ℕ, Bool, true, false, cond, List, [], ◌∷◌, Option, None, refl, sym, ap, ◌∙◌, subst, inl, inr, true≢false, eqb-true}
use Rattle.std.specs.Prelude.{◌==◌, ◌&&◌, filter, if◌then◌else◌}
use Rattle.std.specs.List.{AllByRecursion}
use Rattle.std.specs.FinMap.{get, entries, entries_sorted, get-entries}
use Rattle.std.specs.FinMap.Entries.{find, where_key, find-where_key, is_sorted-where_key, same_entries}
use Rattle.std.proofs.lemmas.Bool.{cases_Bool}
use Rattle.std.proofs.lemmas.Cmp.{nat_list_cmp_total}
use Rattle.std.proofs.lemmas.Map.Lookups.{exact_bytes}
use Rattle.record_key.specs.declared.op.Op.{Op}
use Rattle.record_key.specs.Table.{Bytes, Table, key_of, is_add, value_after, answer_at, answer_in, after}
use Rattle.record_key.specs.Laws.{key_cmp}
use Rattle.record_key.specs.Order.{Range, has_key, one_key, rows_in}
use Rattle.record_key.proofs.Tables.{is_same, is_same-true, get-with_record, get-with_record_other}
use Rattle.record_key.proofs.Adds.{SeenAlike, seen_same, seen_right, seen_after, answered_alike}
use Rattle.record_key.proofs.Lists.{all_from}
use Rattle.history.specs.History.{Entry, entries_of, is_among}
use Rattle.history.specs.Spans.{Increment, Exclusive, Span, Conflict, changed_span, do_conflict, mode_of}
use Rattle.serial_laws.specs.Replay.{replay}
use Rattle.serial_laws.specs.Serial.{in_turn}
use Rattle.serial_laws.proofs.Passing.{replay_append}
use Rattle.serial_laws.proofs.Listing.{among_here, among_there}
use Rattle.serial_laws.proofs.Keeping.{within_itself}

-- the operation changes what is held so
abbrev pub meets : Span → Op → Bool
meets s o = has_key s.range (key_of o) && do_conflict s.mode (mode_of o)

pub meets_conflict : (s : Span) (o : Op) → meets s o ≡ true → Conflict s (changed_span o)
meets_conflict s o h =
    let both = parts (has_key s.range (key_of o)) (do_conflict s.mode (mode_of o)) h in
    (key_of o, both.0, within_itself (key_of o), both.1)
  where
    parts : (a b : Bool) → (a && b) ≡ true → (a ≡ true) × (b ≡ true)
    parts true b h = (refl, h)
    parts false b h = absurd (true≢false (sym h))

pub free_meets : (s : Span) (o : Op) → (Conflict s (changed_span o) → ⊥) → meets s o ≡ false
free_meets s o free =
    elim (cases_Bool (meets s o)) [ inl met ↦ absurd (free (meets_conflict s o met)) | inr out ↦ out ]

-- tables that look alike
pub record IsView (s : Span) (R : Table → Table → Type 0) : Type 0 where
  pub itself : (m : Table) → R m m
  pub joined : (m n p : Table) → R m n → R n p → R m p
  pub alike : (m n : Table) (o : Op) → R m n → R (after m o) (after n o)
  pub passed : (m : Table) (o : Op) → meets s o ≡ false → R m (after m o)
  pub back : (m n : Table) → R m n → R n m

module _ (s : Span) (R : Table → Table → Type 0) (view : IsView s R) where
  pub same_view : (m n : Table) → m ≡ n → R m n
  same_view m n e = subst (R m) e (view.itself m)

  pub view_replay : (m n : Table) (h : List Entry) → R m n → R (replay m h) (replay n h)
  view_replay m n [] r = r
  view_replay m n (e ∷ h) r = view.alike (replay m h) (replay n h) e.op (view_replay m n h r)

  pub view_none : (m : Table) (h : List Entry) → AllByRecursion (λ e. meets s e.op ≡ false) h → R m (replay m h)
  view_none m [] all = view.itself m
  view_none m (e ∷ h) all = grind (arith, view_none m h all.1)

  pub view_fewer : (m : Table) (p : Entry → Bool) (h : List Entry)
      → AllByRecursion (λ e. p e ≡ false → meets s e.op ≡ false) h → R (replay m h) (replay m (filter p h))
  view_fewer m p [] all = view.itself m
  view_fewer m p (e ∷ h) all = pick (p e) all.0 (view_fewer m p h all.1)
    where
      pick : (b : Bool) → (b ≡ false → meets s e.op ≡ false) → R (replay m h) (replay m (filter p h))
          → R (after (replay m h) e.op) (replay m (cond b (e ∷ filter p h) (filter p h)))
      pick true out rest = view.alike (replay m h) (replay m (filter p h)) e.op rest
      pick false out rest =
          view.joined (after (replay m h) e.op) (replay m h) (replay m (filter p h))
          (view.back (replay m h) (after (replay m h) e.op) (view.passed (replay m h) e.op (out refl))) rest

  own_fewer : (m : Table) (p : Entry → Bool) (t : ℕ) (h : List Entry)
      → AllByRecursion (λ e. e.txn ≡ t → p e ≡ false → meets s e.op ≡ false) h
      → R (replay m (entries_of t h)) (replay m (entries_of t (filter p h)))
  own_fewer m p t [] all = view.itself m
  own_fewer m p t (e ∷ h) all = pick (p e) (e.txn == t) refl all.0 (own_fewer m p t h all.1)
    where
      pick : (b own : Bool) → (e.txn == t) ≡ own → (e.txn ≡ t → b ≡ false → meets s e.op ≡ false)
          → R (replay m (entries_of t h)) (replay m (entries_of t (filter p h)))
          → R (replay m (cond own (e ∷ entries_of t h) (entries_of t h)))
          (replay m (entries_of t (cond b (e ∷ filter p h) (filter p h))))
      pick true true is out rest =
          subst (λ (c : Bool). R (after (replay m (entries_of t h)) e.op)
          (replay m (cond c (e ∷ entries_of t (filter p h)) (entries_of t (filter p h))))) (sym is)
          (view.alike (replay m (entries_of t h)) (replay m (entries_of t (filter p h))) e.op rest)
      pick true false is out rest =
          subst (λ (c : Bool). R (replay m (entries_of t h))
          (replay m (cond c (e ∷ entries_of t (filter p h)) (entries_of t (filter p h))))) (sym is) rest
      pick false true is out rest =
          view.joined (after (replay m (entries_of t h)) e.op) (replay m (entries_of t h))
          (replay m (entries_of t (filter p h)))
          (view.back (replay m (entries_of t h)) (after (replay m (entries_of t h)) e.op)
          (view.passed (replay m (entries_of t h)) e.op (out (eqb-true e.txn t is) refl))) rest
      pick false false is out rest = rest

  pub turn_fewer : (m : Table) (p : Entry → Bool) (ts : List ℕ) (h : List Entry)
      → AllByRecursion (λ e. is_among e.txn ts ≡ true → p e ≡ false → meets s e.op ≡ false) h
      → R (replay m (in_turn ts h)) (replay m (in_turn ts (filter p h)))
  turn_fewer m p [] h all = view.itself m
  turn_fewer m p (t ∷ ts) h all =
      let b : Table = replay m (in_turn ts h) in
      let c : Table = replay m (in_turn ts (filter p h)) in
      let below : R b c = turn_fewer m p ts h
      (all_from (λ e. is_among e.txn (t ∷ ts) ≡ true → p e ≡ false → meets s e.op ≡ false)
      (λ e. is_among e.txn ts ≡ true → p e ≡ false → meets s e.op ≡ false)
      (λ e out among. out (among_there e.txn t ts among))
      h all) in
      let own : R (replay b (entries_of t h)) (replay b (entries_of t (filter p h))) = own_fewer b p t h
      (all_from (λ e. is_among e.txn (t ∷ ts) ≡ true → p e ≡ false → meets s e.op ≡ false)
      (λ e. e.txn ≡ t → p e ≡ false → meets s e.op ≡ false) (λ e out is. out (among_here e.txn t ts (sym is)))
      h all) in
      let both : R (replay b (entries_of t h)) (replay c (entries_of t (filter p h))) =
      view.joined (replay b (entries_of t h)) (replay b (entries_of t (filter p h)))
      (replay c (entries_of t (filter p h))) own (view_replay b c (entries_of t (filter p h)) below) in
      subst (λ x. R x (replay m (in_turn (t ∷ ts) (filter p h))))
      (sym (replay_append m (entries_of t h) (in_turn ts h)))
      (subst (R (replay b (entries_of t h)))
      (sym (replay_append m (entries_of t (filter p h)) (in_turn ts (filter p h)))) both)

-- the rows of a range
abbrev pub SameIn : Range → Table → Table → Type 0
SameIn r m n = (k : Bytes) → has_key r k ≡ true → get m k ≡ get n k

pub get_after : (m : Table) (o : Op) (k : Bytes)
    → get (after m o) k ≡ cond (is_same k (key_of o)) (value_after o (get m (key_of o))) (get m k)
get_after m o k = get-with_record m (key_of o) (value_after o (get m (key_of o))) k

and_out : (a b : Bool) → (a && b) ≡ false → b ≡ true → a ≡ false
and_out a b h is = grind arith

pub range_view : (s : Span) → ((o : Op) → do_conflict s.mode (mode_of o) ≡ true) → IsView s (SameIn s.range)
range_view s blocks = record {
  itself = λ m k h. refl;
  joined = λ m n p f g k h. f k h ∙ g k h;
  alike = λ m n o f k h. get_after m o k ∙ at m n o k f h (is_same k (key_of o)) refl ∙ sym (get_after n o k);
  passed = λ m o out k h. sym (get-with_record_other m (key_of o) k (value_after o (get m (key_of o)))
      (λ e. true≢false (sym h ∙ ap (has_key s.range) e
      ∙ and_out (has_key s.range (key_of o)) (do_conflict s.mode (mode_of o)) out (blocks o))));
  back = λ m n f k h. sym (f k h);
}
  where
    at : (m n : Table) (o : Op) (k : Bytes) → SameIn s.range m n → has_key s.range k ≡ true → (b : Bool)
        → is_same k (key_of o) ≡ b
        → cond b (value_after o (get m (key_of o))) (get m k) ≡ cond b (value_after o (get n (key_of o))) (get n k)
    at m n o k f h true is =
        ap (value_after o) (f (key_of o) (ap (has_key s.range) (sym (is_same-true k (key_of o) is)) ∙ h))
    at m n o k f h false is = f k h

pub same_rows : (r : Range) (m n : Table) → SameIn r m n → rows_in r m ≡ rows_in r n
same_rows r m n same =
    same_entries key_cmp nat_list_cmp_total exact_bytes (where_key key_cmp (has_key r) (entries m))
    (where_key key_cmp (has_key r) (entries n))
    (is_sorted-where_key key_cmp (has_key r) (entries m) (entries_sorted m))
    (is_sorted-where_key key_cmp (has_key r) (entries n) (entries_sorted n))
    (λ q. found m q ∙ at q (has_key r q) refl ∙ sym (found n q))
  where
    found : (m : Table) (q : Bytes)
        → find key_cmp q (where_key key_cmp (has_key r) (entries m)) ≡ cond (has_key r q) (get m q) None
    found m q =
        find-where_key key_cmp (has_key r) q (λ x tied. ap (has_key r) (sym (exact_bytes q x tied))) (entries m)
        ∙ ap (λ v. cond (has_key r q) v None) (sym (get-entries m q))

    at : (q : Bytes) (b : Bool) → has_key r q ≡ b → cond b (get m q) None ≡ cond b (get n q) None
    at q true is = same q is
    at q false is = refl

-- what an Add sees
abbrev pub SeenAt : Bytes → Table → Table → Type 0
SeenAt k m n = SeenAlike (get m k) (get n k)

seen_back : (v w : Option Bytes) → SeenAlike v w → SeenAlike w v
seen_back v w h = grind arith

seen_joined : (v w x : Option Bytes) → SeenAlike v w → SeenAlike w x → SeenAlike v x
seen_joined v w x g h = grind arith

adds_agree : (o : Op) → do_conflict Increment (mode_of o) ≡ false → is_add o ≡ true
adds_agree o h = grind arith

pub add_view : (k : Bytes) → IsView (record { range = one_key k; mode = Increment }) (SeenAt k)
add_view k = record {
  itself = λ m. seen_same (get m k);
  joined = λ m n p g h. seen_joined (get m k) (get n k) (get p k) g h;
  alike = λ m n o h. subst (λ v. SeenAlike v (get (after n o) k)) (sym (get_after m o k))
      (subst (SeenAlike (cond (is_same k (key_of o)) (value_after o (get m (key_of o))) (get m k)))
      (sym (get_after n o k)) (at m n o h (is_same k (key_of o)) refl));
  passed = λ m o out. subst (SeenAlike (get m k)) (sym (get_after m o k)) (by m o out (is_same k (key_of o)) refl);
  back = λ m n h. seen_back (get m k) (get n k) h;
}
  where
    at : (m n : Table) (o : Op) → SeenAt k m n → (b : Bool) → is_same k (key_of o) ≡ b
        → SeenAlike (cond b (value_after o (get m (key_of o))) (get m k))
        (cond b (value_after o (get n (key_of o))) (get n k))
    at m n o h true is =
        let same : k ≡ key_of o = is_same-true k (key_of o) is in
        seen_after o (get m (key_of o)) (get n (key_of o)) (subst (λ q. SeenAlike (get m q) (get n q)) same h)
    at m n o h false is = h

    by : (m : Table) (o : Op) → meets (record { range = one_key k; mode = Increment }) o ≡ false → (b : Bool)
        → is_same k (key_of o) ≡ b
        → SeenAlike (get m k) (cond b (value_after o (get m (key_of o))) (get m k))
    by m o out true is =
        let same : k ≡ key_of o = is_same-true k (key_of o) is in
        let here : has_key (one_key k) (key_of o) ≡ true = ap (has_key (one_key k)) (sym same) ∙ within_itself k in
        let add : is_add o ≡ true = adds_agree o
        (sym (ap (λ (b : Bool). b && do_conflict Increment (mode_of o)) here) ∙ out) in
        subst (λ q. SeenAlike (get m k) (value_after o (get m q))) same
        (seen_right o (get m k) (get m k) add (seen_same (get m k)))
    by m o out false is = seen_same (get m k)

-- so an operation's answer is seen by what it holds
pub answer_view : (o : Op) → (R : Table → Table → Type 0) × IsView (changed_span o) R
    × ((m n : Table) → R m n → answer_in m o ≡ answer_in n o)
answer_view o = by (is_add o) refl
  where
    by : (b : Bool) → is_add o ≡ b → (R : Table → Table → Type 0)
        × IsView (record { range = one_key (key_of o); mode = if b then Increment else Exclusive }) R
        × ((m n : Table) → R m n → answer_in m o ≡ answer_in n o)
    by true is = (
      SeenAt (key_of o),
      add_view (key_of o),
      λ m n h.
          answered_alike o (get m (key_of o)) (get n (key_of o)) is h,
    )
    by false is = (
      SameIn (one_key (key_of o)),
      range_view (record { range = one_key (key_of o); mode = Exclusive }) (λ q. refl),
      λ m n h. ap (answer_at o) (h (key_of o) (within_itself (key_of o))),
    )
