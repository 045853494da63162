-- The lock law: who holds which spans, when another is taken, and what a refusal says.
use Rattle.std.specs.Prelude.{◌≢◌, ℕ, suc, ◌≤◌, List, [], ◌∷◌, if◌then◌else◌}
use Rattle.std.specs.BTreeMap.{insert_entry, is_at}
use Rattle.std.specs.Map.{remove_entry}
use Rattle.std.specs.Ordering.{is_eq, nat_cmp}
use Rattle.record_key.specs.declared.refusal.Refusal.{Refusal}
use Rattle.record_key.specs.declared.refusal.Refusal.TheVariants.{BadRange, Busy, NoMemory}
use Rattle.record_key.specs.Order.{HasKeys}
use Rattle.history.specs.Spans.{Span, AnyConflict}

-- by transaction its spans, the newest first
abbrev pub LocksView : Type 0
LocksView = List (ℕ × List Span)

-- the spans of a transaction, none where it isn't listed
abbrev pub spans_of : LocksView → ℕ → List Span
spans_of [] t = []
spans_of (e ∷ es) t = if is_eq (nat_cmp t e.0) then e.1 else spans_of es t

-- with these spans of the transaction, at its place by the numbers; it isn't listed where there are none
abbrev pub set_spans : ℕ → List Span → LocksView → LocksView
set_spans t [] v = remove_entry (is_at (nat_cmp t)) v
set_spans t (s ∷ ss) v = insert_entry nat_cmp v t (s ∷ ss)

-- the numbers rise, the first is at least this one, and nobody is listed without a span
abbrev pub RisesFrom : ℕ → LocksView → Type 0
RisesFrom low [] = Unit {0}
RisesFrom low (e ∷ es) = (low ≤ e.0) × (e.1 ≢ []) × RisesFrom (suc e.0) es

-- the numbers rise, and nobody is listed without a span
abbrev pub IsTable : LocksView → Type 0
IsTable v = RisesFrom 0 v

-- no other transaction holds a conflicting span
abbrev pub IsGrantable : LocksView → ℕ → Span → Type 0
IsGrantable v t s = (u : ℕ) → u ≢ t → AnyConflict s (spans_of v u) → ⊥

-- of the other transactions that hold a conflicting span, this one has the least number
pub record IsLeastHolder (v : LocksView) (t : ℕ) (s : Span) (u : ℕ) : Type 0 where
  pub other : u ≢ t
  pub conflict : AnyConflict s (spans_of v u)
  pub least : (w : ℕ) → w ≢ t → AnyConflict s (spans_of v w) → u ≤ w

-- a take is refused for the first of these causes: no range, another's lock, no memory
abbrev pub Refuses : LocksView → ℕ → Span → Refusal → Type 0
Refuses v t s BadRange = HasKeys s.range → ⊥
Refuses v t s (Busy u) = HasKeys s.range × IsLeastHolder v t s u
Refuses v t s NoMemory = HasKeys s.range × IsGrantable v t s
Refuses v t s _ = ⊥
