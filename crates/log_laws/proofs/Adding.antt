-- Which numbers of a log do an Add or undo one.
use Rattle.std.proofs.Common.{arith, ◌≡◌, ◌≢◌, ℕ, ◌+◌, cond, List, [], ◌∷◌, length, Option, Some, ap, ◌∙◌, inl, inr, eq-eqb, ne_eqb}
use Rattle.std.proofs.lemmas.Bool.{cases_eq}
use Rattle.record_key.specs.declared.op.Op.{Op}
use Rattle.record_key.specs.Table.{is_add}
use Rattle.history.specs.declared.record.Record.{Record}
use Rattle.history.specs.declared.record.Record.TheVariants as is
use Rattle.history.specs.Log.{IsOpBy}
use Rattle.history.specs.Chains.{is_add_by, adds_next, adds_at, BothAdd}
use Rattle.log_laws.proofs.Records.{AnOp, IsNumber, newest_at, older_at, not_newest}

-- the newest number does what the newest record does, any other what it did
pub adds_newest : (r : Record) (log : List Record) (n : ℕ) → n ≡ length log + 1
    → adds_at (r ∷ log) n ≡ adds_next log r
adds_newest r log n e = ap (λ b. cond b (adds_next log r) (adds_at log n)) (eq-eqb n (length log + 1) e)

pub adds_older : (r : Record) (log : List Record) (n : ℕ) → n ≢ length log + 1
    → adds_at (r ∷ log) n ≡ adds_at log n
adds_older r log n e = ap (λ b. cond b (adds_next log r) (adds_at log n)) (ne_eqb n (length log + 1) e)

pub adds_kept : (r : Record) (log : List Record) (n : ℕ) → IsNumber log n → adds_at (r ∷ log) n ≡ adds_at log n
adds_kept r log n number = adds_older r log n (not_newest log n number)

pub both_kept : (r : Record) (log : List Record) (n m : ℕ) → IsNumber log n → IsNumber log m → BothAdd log n m
    → BothAdd (r ∷ log) n m
both_kept r log n m one other both = (adds_kept r log n one ∙ both.0, adds_kept r log m other ∙ both.1)

-- an operation's number does an Add where it is one
op_adds_next : (r : Record) (log : List Record) (t : ℕ) (o : Op) → AnOp t o (Some r) → adds_next log r ≡ is_add o
op_adds_next r log t o h = grind arith

pub op_adds : (log : List Record) (n t : ℕ) (o : Op) → IsOpBy log n t o → adds_at log n ≡ is_add o
op_adds [] n t o h = absurd (cc)
op_adds (r ∷ log) n t o h =
    elim (cases_eq n (length log + 1)) [
      | inl e ↦ adds_newest r log n e ∙ op_adds_next r log t o (newest_at (AnOp t o) r log n e h)
      | inr e ↦ adds_older r log n e ∙ op_adds log n t o (older_at (AnOp t o) r log n e h)
    ]

-- and a compensation undoes one where its operation is one
pub comp_adds : (log : List Record) (t u x v : ℕ) (i : Option Op) (o : Op) → IsOpBy log u v o
    → adds_next log (is.Comp t u x i) ≡ is_add o
comp_adds log t u x v i o h = ap is_add_by h
