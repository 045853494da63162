-- The rows of a table, written from nothing: what the log tells of is that table.
use Rattle.std.proofs.Common.{◌≡◌, ℕ, Bool, true, false, List, [], ◌∷◌, Option, Some, None, refl, sym, ap, ◌∙◌, inl, inr, true≢false}
use Rattle.std.specs.Prelude.{map, not, ◌||◌, if◌then◌else◌}
use Rattle.std.specs.FinMap.{get}
use Rattle.std.specs.Option.{option_or}
use Rattle.std.proofs.lemmas.Bool.{cases_Bool, and_parts}
use Rattle.record_key.specs.Rows.{table_of}
use Rattle.record_key.specs.Table.{Bytes, after}
use Rattle.record_key.proofs.Rows.{get-table_of}
use Rattle.record_key.proofs.Tables.{same_table}
use Rattle.history.specs.declared.record.Record.{Record}
use Rattle.history.specs.declared.record.Record.TheVariants as is
use Rattle.history.specs.History.{Entry, plain}
use Rattle.history.specs.Honest.{Numbered, numbered_on, AreCaptured}
use Rattle.history.specs.ListMachine.{is_live}
use Rattle.history.specs.Log.{record_at, hist, has_ended}
use Rattle.history.specs.Values.{value_on}
use Rattle.log_laws.proofs.Records.{op_request}
use Rattle.log_laws.proofs.Plain.{settled_is_plain, value_of-captured}
use Rattle.simulation.specs.Reading.{has_committed, read_by, status_read}
use Rattle.simulation.specs.View.{is_begin, is_left_open}
use Rattle.tc_rewriting.specs.Written.{written, value_in, AllHaveEnded}
use Rattle.tc_rewriting.specs.Laws.{RewritingKeepsTheTable}
use Rattle.tc_rewriting.proofs.Alone.{empty_ended}
use Rattle.tc_rewriting.proofs.Rows.{writes_are_right}

-- all is captured where everything is
all_captured : (done : List Numbered) → AreCaptured (λ _. true) done
all_captured [] = tt
all_captured (d ∷ done) = (refl, all_captured done)

-- where all have ended the plain map of the history holds what the log leaves at each key
pub ended_is_plain : (log : List Record) → AllHaveEnded log → (k : Bytes) → get (plain (hist log)) k ≡ value_on k log
ended_is_plain log h k =
    let all = all_captured (numbered_on k log) in
    sym (settled_is_plain log h.legal h.right
    (λ n t o by. h.answered n o (op_request t o (record_at log n) by)) k (λ _. true) all)
    ∙ value_of-captured log k (λ _. true) all

-- and nobody is left open in it
begin_some : (r : Option Record) → is_begin r ≡ true → r ≡ Some is.Begin
begin_some None e = absurd (true≢false (sym e))
begin_some (Some is.Begin) e = refl
begin_some (Some _) e = absurd (true≢false (sym e))

negated : (b : Bool) → not b ≡ true → b ≡ false
negated true e = absurd (true≢false (sym e))
negated false e = refl

pub none_left : (log : List Record) → AllHaveEnded log → (t : ℕ) → is_left_open log t ≡ false
none_left log h t =
    elim (cases_Bool (is_left_open log t)) [
      | inl left ↦
          let parts = and_parts (is_begin (record_at log t)) (not (has_ended log t)) left in
          absurd (h.ended t (record {
            begun = begin_some (record_at log t) parts.0;
            goes_on = negated (has_ended log t) parts.1;
          }))
      | inr e ↦ e
    ]

-- so the machine that is read off it has the same plain map
or_false : (a b : Bool) → b ≡ false → (a || b) ≡ a
or_false true b e = refl
or_false false b e = e

pub read_plain : (loses : ℕ → Bool) → ((t : ℕ) → loses t ≡ false) → (h : List Entry)
    → plain (map (read_by loses) h) ≡ plain h
read_plain loses none [] = refl
read_plain loses none (e ∷ h) =
    ap (λ b. if b then plain (map (read_by loses) h) else after (plain (map (read_by loses) h)) e.op)
    (or_false e.crossed (loses e.txn) (none e.txn))
    ∙ ap (λ m. if e.crossed then m else after m e.op) (read_plain loses none h)

-- and nobody is live in it
never_live : (loses committed : Bool) → loses ≡ false → is_live (status_read loses committed) ≡ false
never_live true committed e = absurd (true≢false e)
never_live false true e = refl
never_live false false e = refl

-- rows that are written from nothing leave their values
no_more : (x was : Option Bytes) → was ≡ None → option_or x was ≡ x
no_more None was e = e
no_more (Some v) was e = refl

pub rewriting_keeps : RewritingKeepsTheTable
rewriting_keeps rows ordered =
    let wrote = writes_are_right [] rows empty_ended ordered (λ k some. refl) in
    let log : List Record = written rows [] in
    let values : (k : Bytes) → value_on k log ≡ get (table_of rows) k =
    λ k. wrote.values k ∙ no_more (value_in rows k) None refl ∙ sym (get-table_of rows k ordered) in
    let history : plain (hist log) ≡ table_of rows =
    same_table (plain (hist log)) (table_of rows) (λ k. ended_is_plain log wrote.ended k ∙ values k) in
    record {
      ended = wrote.ended;
      values = values;
      history = history;
      machine = read_plain (is_left_open log) (none_left log wrote.ended) (hist log) ∙ history;
      over = λ t. never_live (is_left_open log t) (has_committed log t) (none_left log wrote.ended t);
    }
