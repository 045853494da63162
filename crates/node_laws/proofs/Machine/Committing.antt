-- Transactions whose Commit isn't stable: who they are, and how a force tells them.
use Rattle.std.proofs.Common.{◌≡◌, ◌≢◌, ℕ, zero, suc, ◌+◌, ◌<◌, ◌≤◌, Bool, true, false, List, [], ◌∷◌, ◌++◌, length, Option, Some, refl, sym, ap, ◌∙◌, arith, inl, inr, true≢false, eqb-true, append_assoc, append-nil}
use Rattle.std.specs.Prelude.{◌==◌, ◌||◌, ◌⊎◌, nat_lt, if◌then◌else◌}
use Rattle.std.specs.List.{list_any}
use Rattle.std.proofs.lemmas.Bool.Decides.{nat_tests}
use Rattle.std.proofs.lemmas.List.{map-append}
use Rattle.std.proofs.lemmas.List.Folds.{list_any-append}
use Rattle.history.specs.declared.record.Record.{Record}
use Rattle.history.specs.declared.record.Record.TheVariants as is
use Rattle.history.specs.Log.{record_at}
use Rattle.history.specs.ListMachine.{Line, TellsCommitted}
use Rattle.log_laws.proofs.Records.{record_new, record_old}
use Rattle.log_laws.proofs.Strict.{end_number}
use Rattle.simulation.specs.View.{IsCommitAt}
use Rattle.simulation.specs.Laws.{told_at, told_after}
use Rattle.tc_core.specs.Kept.{commits_in}
use Rattle.tc_core.specs.Locking.{is_listed}
use Rattle.node_laws.specs.Simulation.{told_committed}
use Rattle.tc_core.proofs.Committing.{none_committing}

-- a Commit above the stable records
pub record IsUnstableCommit (log : List Record) (stable t : ℕ) : Type 0 where
  pub number : ℕ
  pub is : IsCommitAt log t number
  pub above : stable < number

in_longer : (r : Record) (log : List Record) (stable t : ℕ) → IsUnstableCommit log stable t
    → IsUnstableCommit (r ∷ log) stable t
in_longer r log stable t c =
    let bounded = (end_number log t c.number (inl c.is)).bounded in
    let apart : c.number ≢ length log + 1 = λ e. omega (arith, e, bounded) in
    record { number = c.number; is = record_old r log c.number apart ∙ c.is; above = c.above }

or_true : (a b : Bool) → (a || b) ≡ true → (a ≡ true) ⊎ (b ≡ true)
or_true true b h = inl refl
or_true false b h = inr h

-- the newest Commit, and those before it
newest_listed : (log : List Record) (stable t u : ℕ)
    → (is_listed (commits_in log stable) t ≡ true → IsUnstableCommit log stable t) → (b : Bool)
    → nat_lt stable (length log + 1) ≡ b
    → list_any (λ v. v == t) (if b then commits_in log stable ++ u ∷ [] else []) ≡ true
    → IsUnstableCommit (is.Commit u ∷ log) stable t
newest_listed log stable t u older false test any = absurd (true≢false (sym any))
newest_listed log stable t u older true test any =
    let above : stable < length log + 1 = grind (arith, nat_tests, test) in
    elim (or_true (list_any (λ v. v == t) (commits_in log stable)) ((u == t) || false)
    (sym (list_any-append (λ v. v == t) (commits_in log stable) (u ∷ [])) ∙ any)) [
      | inl before ↦ in_longer (is.Commit u) log stable t (older before)
      | inr last ↦ elim (or_true (u == t) false last) [
        | inl same ↦ record {
          number = length log + 1;
          is = record_new (is.Commit u) log ∙ ap (λ (v : ℕ). Some (is.Commit v)) (eqb-true u t same);
          above = above;
        }
        | inr never ↦ absurd (true≢false (sym never))
      ]
    ]

-- whoever is listed has one
pub listed_commit : (log : List Record) (stable t : ℕ) → is_listed (commits_in log stable) t ≡ true
    → IsUnstableCommit log stable t
listed_commit [] stable t h = absurd (true≢false (sym h))
listed_commit (is.Commit u ∷ log) stable t h =
    newest_listed log stable t u (listed_commit log stable t) (nat_lt stable (length log + 1)) refl h
listed_commit (r ∷ log) stable t h = in_longer r log stable t (listed_commit log stable t h)

-- what is told up to a number, and of the next
told_more : (log : List Record) (stable k : ℕ)
    → told_after log stable (suc k) ≡ told_after log stable k ++ told_at (record_at log (stable + k + 1))
told_more log stable zero =
    let e : stable + 1 ≡ stable + 0 + 1 = omega arith in
    append-nil (told_at (record_at log (stable + 1))) ∙ ap (λ (n : ℕ). told_at (record_at log n)) e
told_more log stable (suc k) =
    let e : stable + 1 + k + 1 ≡ stable + suc k + 1 = omega arith in
    ap (λ (lines : List Line). told_at (record_at log (stable + 1)) ++ lines)
    (told_more log (stable + 1) k ∙ ap (λ (n : ℕ). told_after log (stable + 1) k ++ told_at (record_at log n)) e)
    ∙ sym (append_assoc (told_at (record_at log (stable + 1))) (told_after log (stable + 1) k)
    (told_at (record_at log (stable + suc k + 1))))

-- a record more tells nothing of those before it
told_same : (r : Record) (log : List Record) (stable k : ℕ) → stable + k ≤ length log
    → told_after (r ∷ log) stable k ≡ told_after log stable k
told_same r log stable zero within = refl
told_same r log stable (suc k) within =
    let apart : stable + 1 ≢ length log + 1 = λ e. omega (arith, e, within) in
    ap (λ (x : Option Record). told_at x ++ told_after (r ∷ log) (stable + 1) k) (record_old r log (stable + 1) apart)
    ∙ ap (λ (lines : List Line). told_at (record_at log (stable + 1)) ++ lines)
    (told_same r log (stable + 1) k (omega (arith, within)))

-- the newest record tells of its Commit
one_more : (r : Record) (log : List Record) (stable : ℕ) → stable ≤ length log
    → told_committed (commits_in log stable) ++ told_at (Some r) ≡ told_committed (commits_in (r ∷ log) stable)
one_more (is.Commit t) log stable within =
    let above : nat_lt stable (length log + 1) ≡ true = grind (arith, nat_tests) in
    sym (map-append TellsCommitted (commits_in log stable) (t ∷ []))
    ∙ ap (λ b. told_committed (if b then commits_in log stable ++ t ∷ [] else [])) (sym above)
one_more is.Session log stable within = append-nil (told_committed (commits_in log stable))
one_more is.Begin log stable within = append-nil (told_committed (commits_in log stable))
one_more (is.Op t p o) log stable within = append-nil (told_committed (commits_in log stable))
one_more (is.Answer n a) log stable within = append-nil (told_committed (commits_in log stable))
one_more (is.Comp t u x i) log stable within = append-nil (told_committed (commits_in log stable))
one_more (is.End t) log stable within = append-nil (told_committed (commits_in log stable))
one_more (is.Checkpoint l) log stable within = append-nil (told_committed (commits_in log stable))

-- a force tells just those that are committing, in their order
pub told_commits : (log : List Record) (stable k : ℕ) → stable + k ≡ length log
    → told_after log stable k ≡ told_committed (commits_in log stable)
told_commits [] stable zero end = refl
told_commits [] stable (suc k) end = absurd (omega (arith, end))
told_commits (r ∷ log) stable zero end = sym (ap told_committed (none_committing (r ∷ log) stable (omega (arith, end))))
told_commits (r ∷ log) stable (suc k) end =
    let here : stable + k ≡ length log = omega (arith, end) in
    let place : stable + k + 1 ≡ length log + 1 = omega (arith, here) in
    told_more (r ∷ log) stable k
    ∙ ap (λ (lines : List Line). lines ++ told_at (record_at (r ∷ log) (stable + k + 1)))
    (told_same r log stable k (omega (arith, here)) ∙ told_commits log stable k here)
    ∙ ap (λ (n : ℕ). told_committed (commits_in log stable) ++ told_at (record_at (r ∷ log) n)) place
    ∙ ap (λ (x : Option Record). told_committed (commits_in log stable) ++ told_at x) (record_new r log)
    ∙ one_more r log stable (omega (arith, here))
