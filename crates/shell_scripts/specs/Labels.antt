-- What the labels of a script stand for, and how rows are told.
use Rattle.std.specs.Prelude.{◌≡◌, ℕ, List, [], unwrap_or}
use Rattle.std.specs.Ordering.{nat_cmp}
use Rattle.std.specs.Cmp.Lexicographic.{slice_cmp}
use Rattle.std.specs.BTreeMap.{get}
use Rattle.shell_scripts.specs.declared.line.Look.{Look}
use Rattle.shell_scripts.specs.declared.looks.Scan.{Scan}
use Rattle.shell_scripts.specs.declared.label.Labels.{Labels}
use Rattle.shell_scripts.specs.Looks.{noted}

-- what each label stands for, and the scans of which it is known how their rows are told
pub record Bindings : Type 0 where
  pub number : List ℕ → ℕ
  pub scans : List Scan

-- no label is bound: each stands for 0; no scan was asked for
abbrev pub unbound : Bindings
unbound = record { number = λ label. 0; scans = [] }

-- those of a shell
abbrev pub bindings : Labels → Bindings
bindings labels = record {
  number = λ label. unwrap_or (get (slice_cmp nat_cmp) labels.numbers label) 0;
  scans = labels.looks.scans.items;
}

pub record AreSameBindings (old new : Bindings) : Type 0 where
  pub numbers : (label : List ℕ) → new.number label ≡ old.number label
  pub scans : new.scans ≡ old.scans

-- a label is bound to a number, and no other changes
pub record IsBound (old new : Bindings) (label : List ℕ) (number : ℕ) : Type 0 where
  pub here : new.number label ≡ number
  pub elsewhere : (other : List ℕ) → (other ≡ label → ⊥) → new.number other ≡ old.number other
  pub scans : new.scans ≡ old.scans

-- a transaction has asked for rows, which are to be told so
pub record IsNoted (old new : Bindings) (txn : ℕ) (look : Look) : Type 0 where
  pub numbers : (label : List ℕ) → new.number label ≡ old.number label
  pub scans : new.scans ≡ noted txn look old.scans
