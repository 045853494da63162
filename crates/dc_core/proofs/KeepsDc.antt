-- What each call leaves of the data component is as it must be at every moment.
use Rattle.std.proofs.Common.{◌≡◌, ◌≢◌, ℕ, ◌<◌, ◌≤◌, ◌==◌, true, false, List, [], ◌∷◌, length, refl, sym, ap, ◌∙◌, subst, arith, inl, inr, true≢false, eq-eqb, append-nil}
use Rattle.std.specs.Prelude.{◌⊎◌, nat_le}
use Rattle.std.specs.List.{AllByRecursion}
use Rattle.std.proofs.lemmas.Bool.{cases_lt, le-leb, or_left, or_right}
use Rattle.record_key.proofs.Lists.{all_from}
use Rattle.record_key.specs.declared.op.Op.{Op}
use Rattle.record_key.specs.Rows.{table_of}
use Rattle.std.specs.FinMap as map
use Rattle.record_key.specs.Table.{Bytes, Table, key_of, AreAdds, answer_in, after}
use Rattle.record_key.specs.declared.entry.Entry.{Entry}
use Rattle.record_key.specs.Entries.{top_in}
use Rattle.dc_ab_lsn.specs.AbLsn.{stands_in, captures}
use Rattle.dc_leaf.specs.Leaf.{LeafView, IsLeaf, is_in_fences}
use Rattle.dc_leaf.proofs.Halves.{table_again}
use Rattle.dc_tree.specs.Leaves.{leaf_at, rows_of}
use Rattle.dc_tree.specs.Performs.{performed_at}
use Rattle.dc_tree.specs.TreeLaw.{PerformsOne}
use Rattle.dc_tree.proofs.AtKey.{captured_performed, captured_not_performed}
use Rattle.dc_tree.proofs.Carried.{AreLows, entries_performed}
use Rattle.dc_tree.proofs.Owning.{own_leaves}
use Rattle.dc_tree.proofs.Stays.{performs_one}
use Rattle.dc_recovery.specs.Recovery.{stored_session}
use Rattle.framed_log.specs.Beginning.{beginning}
use Rattle.stable.specs.Usage.{Usage}
use Rattle.dc_store.specs.SystemView.{SystemView, fresh_system}
use Rattle.dc_store.specs.Kept.{IsSystem}
use Rattle.dc_core.specs.declared.performance.Performance.{Performance}
use Rattle.dc_take_back.specs.Performed as laws
use Rattle.dc_take_back.specs.Listed as listing
use Rattle.dc_core.specs.DcView.{DcView, leaves, captures_at, top_of, top_low}
use Rattle.dc_core.specs.Serves.{MayPerform, with_system, performs, redone}
use Rattle.dc_core.specs.Kept.{IsDc, Saves, IsListed, AreListed, for_law, for_laws, IsPerformed, ArePerformed, IsShown, IsLevel}
use Rattle.dc_core.specs.Tends.{may_merge}
use Rattle.dc_core.proofs.LowNumbers.{all_each, shown_level, shown_performed, level_performed, level_redone}
use Rattle.dc_core.proofs.Stored.{stored_all}

-- what two facts give at each element
pub all_both : {X : Type 0} (P Q R : X → Type 0) → ((x : X) → P x → Q x → R x) → (xs : List X) → AllByRecursion P xs
    → AllByRecursion Q xs → AllByRecursion R xs
all_both P Q R from [] all also = tt
all_both P Q R from (x ∷ xs) all also = (from x all.0 also.0, all_both P Q R from xs all.1 also.1)

-- what performances have, they have for the laws
pub all_for : (P : laws.Performance → Type 0) (ps : List Performance)
    → AllByRecursion (λ (p : Performance). P (for_law p)) ps → AllByRecursion P (for_laws ps)
all_for P [] all = tt
all_for P (p ∷ ps) all = (all.0, all_for P ps all.1)

-- ---- the leaves and their devices change, and the records stay

-- the leaf of the performance's key has captured its number
abbrev pub IsCaptured : List LeafView → Performance → Type 0
IsCaptured ls p = captures (leaf_at ls (key_of p.op)).ab p.number ≡ true

-- an entry of the performance's number has its key and its answer, in whichever leaf
abbrev pub AllSave : List LeafView → Performance → Type 0
AllSave ls p = AllByRecursion (λ (leaf : LeafView). AllByRecursion (Saves p) leaf.ab.entries) ls

-- no performance is lost at its key, and what is saved is still listed
pub record Carries (w : DcView) (v : SystemView) : Type 0 where
  pub rows : rows_of v.leaves ≡ rows_of (leaves w)
  pub captured : (p : Performance) → IsCaptured (leaves w) p → AllSave (leaves w) p → IsCaptured v.leaves p
  pub saved : AllByRecursion (AreListed w.performed) v.leaves
  pub added : AllByRecursion (ArePerformed w.opened_to (for_laws w.performed)) v.leaves
  pub shown : AllByRecursion (IsShown w.redone_low v.leaves) w.performed
  pub level : may_merge w ≡ true
      → AllByRecursion (λ (leaf : LeafView). IsLevel w.redone_low v.leaves leaf.ab.low) v.leaves
  pub stored : stored_session (beginning w.system.log w.system.stable) ≤ stored_session (beginning v.log v.stable)

-- what each entry says of all performances, each performance says of all entries
saves_of : (ps : List Performance) (es : List Entry) → AllByRecursion (IsListed ps) es
    → AllByRecursion (λ (p : Performance). AllByRecursion (Saves p) es) ps
saves_of [] es all = tt
saves_of (p ∷ ps) es all = (
  all_from (IsListed (p ∷ ps)) (Saves p) (λ e listed. listed.0) es all,
  saves_of ps es (all_from (IsListed (p ∷ ps)) (IsListed ps) (λ e listed. listed.1) es all),
)

pub all_save : (ps : List Performance) (ls : List LeafView) → AllByRecursion (AreListed ps) ls
    → AllByRecursion (AllSave ls) ps
all_save ps [] all = each ps
  where
    each : (ps : List Performance) → AllByRecursion (AllSave []) ps
    each [] = tt
    each (p ∷ ps) = (tt, each ps)
all_save ps (leaf ∷ ls) all =
    all_both (λ (p : Performance). AllByRecursion (Saves p) leaf.ab.entries) (AllSave ls) (AllSave (leaf ∷ ls))
    (λ p here later. (here, later)) ps (saves_of ps leaf.ab.entries all.0) (all_save ps ls all.1)

pub keeps_carried : (w : DcView) (v : SystemView) → IsDc w → IsSystem v → Carries w v → IsDc (with_system w v)
keeps_carried w v k is c = record {
  system = is;
  rows = c.rows ∙ k.rows;
  once = k.once;
  captured =
      all_both (IsCaptured (leaves w)) (AllSave (leaves w)) (IsCaptured v.leaves) c.captured w.performed k.captured
      (all_save w.performed (leaves w) k.saved);
  saved = c.saved;
  answered = k.answered;
  falls = k.falls;
  added = c.added;
  shown = c.shown;
  level = c.level;
  session = k.session;
  stored = omega (arith, k.stored, c.stored);
}

-- the leaves stay
pub same_leaves : (w : DcView) (v : SystemView) → IsDc w → v.leaves ≡ leaves w
    → stored_session (beginning w.system.log w.system.stable) ≤ stored_session (beginning v.log v.stable) → Carries w v
same_leaves w v k same stored = record {
  rows = ap rows_of same;
  captured = λ p was saves. ap (λ (ls : List LeafView). captures (leaf_at ls (key_of p.op)).ab p.number) same ∙ was;
  saved = subst (AllByRecursion (AreListed w.performed)) (sym same) k.saved;
  added = subst (AllByRecursion (ArePerformed w.opened_to (for_laws w.performed))) (sym same) k.added;
  shown = subst (λ (ls : List LeafView). AllByRecursion (IsShown w.redone_low ls) w.performed) (sym same) k.shown;
  level = λ may. subst (λ (ls : List LeafView). AreLows (IsLevel w.redone_low ls) ls) (sym same) (k.level may);
  stored = stored;
}

-- ---- a new number

-- what isn't captured is above the low number
pub above_low : (leaf : LeafView) (n : ℕ) → captures leaf.ab n ≡ false → leaf.ab.low < n
above_low leaf n out =
    elim (cases_lt leaf.ab.low n) [
      | inl above ↦ above
      | inr within ↦
          absurd (true≢false (sym (or_left (nat_le n leaf.ab.low) (stands_in leaf.ab.entries n)
          (le-leb n leaf.ab.low within)) ∙ out))
    ]

module _ (w : DcView) (n : ℕ) (o : Op) (k : IsDc w) (may : MayPerform w n o)
    (out : captures_at w (key_of o) n ≡ false) where
  abbrev IsOther : Performance → Type 0
  IsOther q = q.number ≢ n

  apart : AllByRecursion IsOther w.performed
  apart =
      all_both (IsCaptured (leaves w)) (λ (q : Performance). q.number ≡ n → key_of q.op ≡ key_of o) IsOther
      (λ q was on same. true≢false (sym was ∙ ap (λ (z : Bytes). captures_at w z q.number) (on same)
      ∙ ap (captures_at w (key_of o)) same ∙ out)) w.performed k.captured (may out).0.listed

  abbrev now : Performance
  now = record { number = n; op = o; answer = answer_in (leaf_at (leaves w) (key_of o)).rows o }

  -- no entry has the number: it would lie in the leaf of the key, which hasn't captured it
  abbrev IsApart : LeafView → Type 0
  IsApart leaf = AllByRecursion (λ (e : Entry). n ≢ e.number) leaf.ab.entries

  abbrev IsOwn : LeafView → Type 0
  IsOwn leaf = (q : Bytes) → is_in_fences leaf q ≡ true → leaf_at (leaves w) q ≡ leaf

  abbrev IsOwnLeaf : LeafView → Type 0
  IsOwnLeaf leaf = IsOwn leaf × IsLeaf leaf

  -- where it stood, it would be on the key
  abbrev IsOn : Entry → Type 0
  IsOn e = e.number ≡ n → e.key ≡ key_of o

  entry_apart : (leaf : LeafView) → IsOwn leaf → IsLeaf leaf → AllByRecursion IsOn leaf.ab.entries → IsApart leaf
  entry_apart leaf own kept keys =
      by leaf.ab.entries (λ there. or_right (nat_le n leaf.ab.low) (stands_in leaf.ab.entries n) there) kept.entries
      keys
    where
      by : (es : List Entry) → (stands_in es n ≡ true → captures leaf.ab n ≡ true)
          → AllByRecursion (λ (e : Entry). is_in_fences leaf e.key ≡ true) es → AllByRecursion IsOn es
          → AllByRecursion (λ (e : Entry). n ≢ e.number) es
      by [] there inside on = tt
      by (e ∷ es) there inside on = (
        λ same.
            true≢false (sym (there (or_left (n == e.number) (stands_in es n) (eq-eqb n e.number same)))
            ∙ ap (λ (l : LeafView). captures l.ab n) (sym (own e.key inside.0))
            ∙ ap (λ (z : Bytes). captures_at w z n) (on.0 (sym same)) ∙ out),
        by es (λ later. there (or_right (n == e.number) (stands_in es n) later)) inside.1 on.1,
      )

  all_apart : AllByRecursion IsApart (leaves w)
  all_apart =
      all_both IsOwnLeaf (λ (leaf : LeafView). AllByRecursion IsOn leaf.ab.entries) IsApart
      (λ leaf is keys. entry_apart leaf is.0 is.1 keys) (leaves w)
      (all_both IsOwn IsLeaf IsOwnLeaf (λ leaf own kept. (own, kept)) (leaves w)
      (own_leaves (leaves w) k.system.leaves) k.system.leaves.each)
      (may out).0.saved

  saved_old : AllByRecursion (AreListed (now ∷ w.performed)) (leaves w)
  saved_old =
      all_both IsApart (AreListed w.performed) (AreListed (now ∷ w.performed))
      (λ leaf other listed.
      all_both (λ (e : Entry). n ≢ e.number) (IsListed w.performed) (IsListed (now ∷ w.performed))
      (λ e no was. (λ same. absurd (no same), was)) leaf.ab.entries other listed)
      (leaves w) all_apart k.saved

  saved_new : IsListed (now ∷ w.performed) (record { number = n; key = key_of o; answer = now.answer })
  saved_new = (
    λ same. (refl, refl),
    all_from IsOther (λ (q : Performance). q.number ≡ n → (key_of q.op ≡ key_of o) × (q.answer ≡ now.answer))
        (λ q other same. absurd (other same)) w.performed apart,
  )

  abbrev one : PerformsOne (leaves w) n o
  one = performs_one (leaves w) n o k.system.leaves out

  -- it is answered as the performances so far tell
  answered_now : now.answer ≡ answer_in (laws.replayed w.opened (for_laws w.performed)) o
  answered_now = one.answer ∙ ap (λ (rows : Table). answer_in rows o) k.rows

  falls_now : (q : Bytes) → listing.FallOn q (for_laws (now ∷ w.performed))
  falls_now q = (
    λ on. all_for (λ (p : laws.Performance). key_of p.op ≡ q → (p.number < n) ⊎ AreAdds o p.op) w.performed
        (all_from (λ (p : Performance). key_of p.op ≡ key_of o → (p.number < n) ⊎ AreAdds o p.op)
        (λ (p : Performance). key_of p.op ≡ q → (p.number < n) ⊎ AreAdds o p.op)
        (λ p next at. next (at ∙ sym on)) w.performed (may out).1),
    k.falls q,
  )

  abbrev IsAdded : Entry → Type 0
  IsAdded = IsPerformed w.opened_to (for_laws (now ∷ w.performed))

  added_old : AllByRecursion (ArePerformed w.opened_to (for_laws (now ∷ w.performed))) (leaves w)
  added_old =
      all_from (ArePerformed w.opened_to (for_laws w.performed))
      (ArePerformed w.opened_to (for_laws (now ∷ w.performed)))
      (λ leaf was.
      all_from (IsPerformed w.opened_to (for_laws w.performed)) IsAdded (λ e listed over. inr (listed over))
      leaf.ab.entries was) (leaves w) k.added

  added_new : IsAdded (record { number = n; key = key_of o; answer = now.answer })
  added_new over = inl (record { number = refl; key = refl; answer = refl })

  -- it wasn't captured, so its leaf's low number is below it
  shown_now : IsShown w.redone_low (performed_at (leaves w) n o) now
  shown_now =
      shown_performed (leaves w) k.system.leaves w.redone_low n o now
      (λ over. inl (above_low (leaf_at (leaves w) (key_of o)) n out))

  pub keeps_performed : IsSystem (performs w n o).system → IsDc (performs w n o)
  keeps_performed is = record {
    system = is;
    rows = one.rows ∙ ap (λ (rows : Table). after rows o) k.rows;
    once = (all_for (λ (q : laws.Performance). q.number ≢ n) w.performed apart, k.once);
    captured = (
      captured_performed (leaves w) k.system.leaves n o,
      all_both (λ (q : Performance). q.number ≢ n) (λ (q : Performance). captures_at w (key_of q.op) q.number ≡ true)
          (λ (q : Performance). captures_at (performs w n o) (key_of q.op) q.number ≡ true)
          (λ q other was. captured_not_performed (leaves w) k.system.leaves n o (key_of q.op) q.number other ∙ was)
          w.performed apart k.captured,
    );
    saved = entries_performed (IsListed (now ∷ w.performed)) (leaves w) n o saved_new saved_old;
    answered = (answered_now, k.answered);
    falls = falls_now;
    added = entries_performed IsAdded (leaves w) n o added_new added_old;
    shown = (
      shown_now,
      all_from (IsShown w.redone_low (leaves w)) (IsShown w.redone_low (performed_at (leaves w) n o))
          (shown_performed (leaves w) k.system.leaves w.redone_low n o) w.performed k.shown,
    );
    level = λ may. level_performed (leaves w) k.system.leaves w.redone_low n o (k.level may);
    session = k.session;
    stored = k.stored;
  }

-- ---- the end of redo

pub keeps_redone : (w : DcView) → IsDc w → IsDc (redone w)
keeps_redone w k =
    let level = level_redone (leaves w) in
    record {
      system = k.system;
      rows = k.rows;
      once = k.once;
      captured = k.captured;
      saved = k.saved;
      answered = k.answered;
      falls = k.falls;
      added = k.added;
      shown = all_each (IsShown (top_low (leaves w)) (leaves w))
          (shown_level (top_low (leaves w)) (leaves w) k.system.leaves level) w.performed;
      level = λ may. level;
      session = k.session;
      stored = k.stored;
    }

-- ---- what performing leaves is that

pub is_performed : (w : DcView) (n : ℕ) (o : Op) (v : SystemView) (ps : List Performance)
    → ps ≡ record { number = n; op = o; answer = answer_in (leaf_at (leaves w) (key_of o)).rows o } ∷ w.performed
    → v ≡ record w.system { leaves = performed_at (leaves w) n o }
    → record w { system = v; performed = ps } ≡ performs w n o
is_performed w n o v ps listed left = λ i. record w { system = left i; performed = listed i }

-- ---- a component in which nothing was performed yet

pub nothing_saved : (leaves : List LeafView) → AllByRecursion (AreListed []) leaves
nothing_saved [] = tt
nothing_saved (leaf ∷ leaves) = (each leaf.ab.entries, nothing_saved leaves)
  where
    each : (es : List Entry) → AllByRecursion (IsListed []) es
    each [] = tt
    each (e ∷ es) = (tt, each es)

-- an entry isn't above the top one
below_top : (n : ℕ) (es : List Entry) → top_in es ≤ n → AllByRecursion (λ (e : Entry). e.number ≤ n) es
below_top n [] le = tt
below_top n (e ∷ es) le = (omega (arith, le), below_top n es (omega (arith, le)))

pub below_tops : (n : ℕ) (ls : List LeafView) → top_of ls ≤ n
    → AllByRecursion (λ (leaf : LeafView). AllByRecursion (λ (e : Entry). e.number ≤ n) leaf.ab.entries) ls
below_tops n [] le = tt
below_tops n (leaf ∷ ls) le = (below_top n leaf.ab.entries (omega (arith, le)), below_tops n ls (omega (arith, le)))

none_added : (ps : List laws.Performance) (ls : List LeafView) → AllByRecursion (ArePerformed (top_of ls) ps) ls
none_added ps ls =
    all_from (λ (leaf : LeafView). AllByRecursion (λ (e : Entry). e.number ≤ top_of ls) leaf.ab.entries)
    (ArePerformed (top_of ls) ps)
    (λ leaf within. all_from (λ (e : Entry). e.number ≤ top_of ls) (IsPerformed (top_of ls) ps)
    (λ e le over. absurd (omega (arith, le, over))) leaf.ab.entries within) ls (below_tops (top_of ls) ls (omega arith))

pub keeps_opened : (v : SystemView) (stored known to : ℕ) (opened : Table) (ps : List Performance) → IsSystem v
    → v.stable ≡ length v.log → stored ≡ stored_session v.log → to ≡ top_of v.leaves → opened ≡ rows_of v.leaves
    → ps ≡ []
    → IsDc (record {
      stored = stored;
      session = 0;
      redo = false;
      known = known;
      opened_to = to;
      redone_low = 0;
      system = v;
      opened = opened;
      performed = ps;
    })
keeps_opened v stored known to opened ps is stable greatest top rows none =
    let P : List Performance → Type 0 = λ x. IsDc (record {
      stored = stored;
      session = 0;
      redo = false;
      known = known;
      opened_to = to;
      redone_low = 0;
      system = v;
      opened = opened;
      performed = x;
    }) in
    subst P (sym none) (record {
      system = is;
      rows = sym rows;
      once = tt;
      captured = tt;
      saved = nothing_saved v.leaves;
      answered = tt;
      falls = λ k. tt;
      added = subst (λ (n : ℕ). AllByRecursion (ArePerformed n []) v.leaves) (sym top) (none_added [] v.leaves);
      shown = tt;
      level = λ may. absurd (true≢false (sym may));
      session = inl refl;
      stored = omega (
        arith,
        greatest,
        stored_all v.log,
        ap (λ (n : ℕ). stored_session (beginning v.log n)) stable,
      );
    })

-- the first leaf has no records
pub first_rows : (v : SystemView) (opened : Table) (log_usage page_usage : Usage)
    → v ≡ fresh_system log_usage page_usage
    → opened ≡ rows_of v.leaves → opened ≡ map.empty
first_rows v opened log_usage page_usage same rows =
    rows ∙ ap (λ (x : SystemView). rows_of x.leaves) same ∙ ap table_of (append-nil (map.entries map.empty))
    ∙ table_again map.empty
