-- Who waits for a read, as open transactions change: nobody waits for an earlier one anew.
use Rattle.std.proofs.Common.{◌≡◌, ℕ, ◌≤◌, List, ◌∷◌, Option, Some, None, sym, ap, ◌∙◌, subst, inl, inr}
use Rattle.std.proofs.lemmas.Bool.{cases_eq}
use Rattle.tc_locks.specs.declared.span.Span.{Span}
use Rattle.tc_core.specs.declared.open_txn.OpenTxn.{OpenTxn}
use Rattle.tc_core.specs.OpenTxns.{find, replace, without}
use Rattle.tc_core.specs.Changes.{begun_txn}
use Rattle.tc_core.proofs.Finding.{find_here, find_there, replaced_other, replaced_same, without_same, without_other}

-- somebody waits for the read of this number in this span
pub record IsAsked (os : List OpenTxn) (n : ℕ) (s : Span) : Type 0 where
  pub txn : ℕ
  pub open_txn : OpenTxn
  pub is : find txn os ≡ Some open_txn
  pub reading : open_txn.reading ≡ Some (record { number = n; span = s })

-- of the reads up to this number only those are waited for that were before
abbrev pub NoneAnew : ℕ → List OpenTxn → List OpenTxn → Type 0
NoneAnew reads os news =
    (t : ℕ) (o : OpenTxn) (n : ℕ) (s : Span) → find t news ≡ Some o → o.reading ≡ Some (record { number = n; span = s })
    → n ≤ reads → IsAsked os n s

pub some_txn : (x : Option OpenTxn) (o p : OpenTxn) → x ≡ Some o → x ≡ Some p → o ≡ p
some_txn x o p a b = let e : Some o ≡ Some p = sym a ∙ b in cc

pub none_same : (reads : ℕ) (os : List OpenTxn) → NoneAnew reads os os
none_same reads os t o n s found reading most = record { txn = t; open_txn = o; is = found; reading = reading }

-- what the new one waits for, the old one did
abbrev pub ReadsOnly : ℕ → OpenTxn → OpenTxn → Type 0
ReadsOnly reads o new = (n : ℕ) (s : Span) → new.reading ≡ Some (record { number = n; span = s }) → n ≤ reads
    → o.reading ≡ Some (record { number = n; span = s })

pub none_replaced : (reads : ℕ) (os : List OpenTxn) (o new : OpenTxn) → find new.txn os ≡ Some o
    → ReadsOnly reads o new → NoneAnew reads os (replace new os)
none_replaced reads os o new at only t p n s found reading most =
    elim (cases_eq t new.txn) [
      | inl e ↦
          let F : ℕ → Type 0 = λ u. find u (replace new os) ≡ Some p in
          let same : p ≡ new = some_txn (find new.txn (replace new os)) p new (subst F e found)
          (replaced_same new o os at) in
          record {
            txn = new.txn;
            open_txn = o;
            is = at;
            reading = only n s (sym (ap (λ (x : OpenTxn). x.reading) same) ∙ reading) most;
          }
      | inr apart ↦ record {
        txn = t;
        open_txn = p;
        is = sym (replaced_other new os t apart) ∙ found;
        reading = reading;
      }
    ]

pub none_without : (reads : ℕ) (os : List OpenTxn) (t : ℕ) → NoneAnew reads os (without t os)
none_without reads os t u p n s found reading most =
    elim (cases_eq u t) [
      | inl e ↦
          let F : ℕ → Type 0 = λ v. find v (without t os) ≡ Some p in
          let no : None ≡ Some p = sym (without_same t os) ∙ subst F e found in cc
      | inr apart ↦ record { txn = u; open_txn = p; is = sym (without_other t os u apart) ∙ found; reading = reading }
    ]

pub none_begun : (reads : ℕ) (os : List OpenTxn) (t : ℕ) → NoneAnew reads os (begun_txn t ∷ os)
none_begun reads os t u p n s found reading most =
    elim (cases_eq u t) [
      | inl e ↦
          let same : p ≡ begun_txn t =
          some_txn (find u (begun_txn t ∷ os)) p (begun_txn t) found (find_here (begun_txn t) os u (sym e)) in
          let no : None ≡ Some (record { number = n; span = s }) =
          sym (ap (λ (x : OpenTxn). x.reading) same) ∙ reading in cc
      | inr apart ↦ record {
        txn = u;
        open_txn = p;
        is = sym (find_there (begun_txn t) os u (λ e. apart (sym e))) ∙ found;
        reading = reading;
      }
    ]

-- a transaction that waits for the same read, or for none
pub reads_same : (reads : ℕ) (o new : OpenTxn) → new.reading ≡ o.reading → ReadsOnly reads o new
reads_same reads o new same n s reading most = sym same ∙ reading

pub reads_none : (reads : ℕ) (o new : OpenTxn) → new.reading ≡ None → ReadsOnly reads o new
reads_none reads o new none n s reading most = let no : None ≡ Some (record { number = n; span = s }) =
    sym none ∙ reading in absurd (cc)
