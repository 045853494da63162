-- How many rounds the undo of losers has left.
use Rattle.std.proofs.Common.{◌≡◌, ℕ, ◌+◌, ◌≤◌, Bool, true, false, List, [], ◌∷◌, length, Option, Some, refl, sym, ap, subst, arith, inl, inr, true≢false, eq-eqb}
use Rattle.std.specs.Prelude.{◌&&◌, ◌||◌, not, nat_lt, if◌then◌else◌}
use Rattle.std.proofs.lemmas.Bool.{cases_eq}
use Rattle.std.proofs.lemmas.Bool.Decides.{nat_tests}
use Rattle.record_key.specs.declared.op.Op.{Op}
use Rattle.history.specs.declared.record.Record.{Record}
use Rattle.history.specs.declared.record.Record.TheVariants as is
use Rattle.history.specs.Log.{is_crossed, has_ended, record_at, op_of, IsOpBy}
use Rattle.log_laws.proofs.Records.{AnOp, newest_at, older_at, both_same}
use Rattle.log_laws.proofs.LegalLogs.{crossed_push, ended_push}
use Rattle.tc_core.specs.tc_restart.specs.Losers.{IsLoser}
use Rattle.node_laws.specs.Bound.{is_lost, lost_op, lost_ops, lost_end, lost_ends, lost_rounds}

-- what has ended or is crossed stays so
abbrev Keeps : (ℕ → Bool) → (ℕ → Bool) → Type 0
Keeps a b = (n : ℕ) → b n ≡ true → a n ≡ true

flag_op : (l a b c d : Bool) → (b ≡ true → a ≡ true) → (d ≡ true → c ≡ true)
    → (if (l && not a) && not c then 1 else 0) ≤ (if (l && not b) && not d then 1 else 0)
flag_op false a b c d ended crossed = omega arith
flag_op true true b c d ended crossed = omega arith
flag_op true false true c d ended crossed = absurd (true≢false (sym (ended refl)))
flag_op true false false true d ended crossed = omega arith
flag_op true false false false true ended crossed = absurd (true≢false (sym (crossed refl)))
flag_op true false false false false ended crossed = omega arith

flag_end : (l a b : Bool) → (b ≡ true → a ≡ true) → (if l && not a then 1 else 0) ≤ (if l && not b then 1 else 0)
flag_end false a b ended = omega arith
flag_end true true b ended = omega arith
flag_end true false true ended = absurd (true≢false (sym (ended refl)))
flag_end true false false ended = omega arith

module _ (a b : List Record) (below : ℕ) (ended : Keeps (has_ended a) (has_ended b))
    (crossed : Keeps (is_crossed a) (is_crossed b)) where
  op_fewer : (n : ℕ) (r : Record) → lost_op a below n r ≤ lost_op b below n r
  op_fewer n (is.Op t p o) =
      flag_op (nat_lt t below) (has_ended a t) (has_ended b t) (is_crossed a n) (is_crossed b n) (ended t) (crossed n)
  op_fewer n is.Session = omega arith
  op_fewer n is.Begin = omega arith
  op_fewer n (is.Answer m x) = omega arith
  op_fewer n (is.Comp t u m i) = omega arith
  op_fewer n (is.Commit t) = omega arith
  op_fewer n (is.End t) = omega arith
  op_fewer n (is.Checkpoint l) = omega arith

  end_fewer : (n : ℕ) (r : Record) → lost_end a below n r ≤ lost_end b below n r
  end_fewer n (is.Op t p o) = omega arith
  end_fewer n is.Session = omega arith
  end_fewer n is.Begin = flag_end (nat_lt n below) (has_ended a n) (has_ended b n) (ended n)
  end_fewer n (is.Answer m x) = omega arith
  end_fewer n (is.Comp t u m i) = omega arith
  end_fewer n (is.Commit t) = omega arith
  end_fewer n (is.End t) = omega arith
  end_fewer n (is.Checkpoint l) = omega arith

  ops_fewer : (log : List Record) → lost_ops a below log ≤ lost_ops b below log
  ops_fewer [] = omega arith
  ops_fewer (r ∷ log) = let rest = ops_fewer log in let here = op_fewer (length log + 1) r in omega (arith, here, rest)

  ends_fewer : (log : List Record) → lost_ends a below log ≤ lost_ends b below log
  ends_fewer [] = omega arith
  ends_fewer (r ∷ log) = let rest = ends_fewer log in let here = end_fewer (length log + 1) r in
      omega (arith, here, rest)

  -- one that counts no more
  one_op : (log : List Record) (t u : ℕ) (o : Op) → IsOpBy log u t o → is_lost b below t ≡ true
      → is_crossed b u ≡ false → is_crossed a u ≡ true → lost_ops a below log + 1 ≤ lost_ops b below log
  one_op [] t u o by lost stands gone = absurd (cc)
  one_op (r ∷ log) t u o by lost stands gone = elim (cases_eq u (length log + 1)) [
    | inl e ↦ let rest = ops_fewer log in let here = newest r (newest_at (AnOp t o) r log u e by) e in
        omega (arith, here, rest)
    | inr apart ↦ let rest = one_op log t u o (older_at (AnOp t o) r log u apart by) lost stands gone in let here =
        op_fewer (length log + 1) r in omega (arith, here, rest)
  ]
    where
      newest : (r : Record) → op_of r ≡ Some (t, o) → u ≡ length log + 1
          → lost_op a below (length log + 1) r + 1 ≤ lost_op b below (length log + 1) r
      newest (is.Op v p q) is_by e =
          let own : is_lost b below v ≡ true =
          subst (λ (x : ℕ). is_lost b below x ≡ true) (sym (both_same v t q o is_by).0) lost in
          let was : is_crossed b (length log + 1) ≡ false = subst (λ (n : ℕ). is_crossed b n ≡ false) e stands in
          let now : is_crossed a (length log + 1) ≡ true = subst (λ (n : ℕ). is_crossed a n ≡ true) e gone in
          fall (is_lost a below v) (is_lost b below v) (is_crossed a (length log + 1)) (is_crossed b (length log + 1))
          own now was
        where
          fall : (x y c d : Bool) → y ≡ true → c ≡ true → d ≡ false
              → (if x && not c then 1 else 0) + 1 ≤ (if y && not d then 1 else 0)
          fall x false c d ey ec ed = absurd (true≢false (sym ey))
          fall x true false d ey ec ed = absurd (true≢false (sym ec))
          fall x true true true ey ec ed = absurd (true≢false ed)
          fall true true true false ey ec ed = omega arith
          fall false true true false ey ec ed = omega arith
      newest is.Session is_by e = absurd (cc)
      newest is.Begin is_by e = absurd (cc)
      newest (is.Answer n x) is_by e = absurd (cc)
      newest (is.Comp w m n j) is_by e = absurd (cc)
      newest (is.Commit w) is_by e = absurd (cc)
      newest (is.End w) is_by e = absurd (cc)
      newest (is.Checkpoint l) is_by e = absurd (cc)

  one_end : (log : List Record) (t : ℕ) → record_at log t ≡ Some is.Begin → is_lost b below t ≡ true
      → has_ended a t ≡ true → lost_ends a below log + 1 ≤ lost_ends b below log
  one_end [] t begun lost gone = absurd (cc)
  one_end (r ∷ log) t begun lost gone = elim (cases_eq t (length log + 1)) [
    | inl e ↦
        let one : Some r ≡ Some is.Begin = newest_at (λ x. x ≡ Some is.Begin) r log t e begun in
        let same : r ≡ is.Begin = cc in
        let was : is_lost b below (length log + 1) ≡ true = subst (λ (n : ℕ). is_lost b below n ≡ true) e lost in
        let now : has_ended a (length log + 1) ≡ true = subst (λ (n : ℕ). has_ended a n ≡ true) e gone in
        let rest = ends_fewer log in
        let here = fall (nat_lt (length log + 1) below) (has_ended a (length log + 1))
        (is_lost b below (length log + 1)) was now in
        rw (same) (omega (arith, here, rest))
    | inr apart ↦ let rest = one_end log t (older_at (λ x. x ≡ Some is.Begin) r log t apart begun) lost gone in
        let here = end_fewer (length log + 1) r in omega (arith, here, rest)
  ]
    where
      fall : (l x y : Bool) → y ≡ true → x ≡ true → (if l && not x then 1 else 0) + 1 ≤ (if y then 1 else 0)
      fall l x false ey ex = absurd (true≢false (sym ey))
      fall l false true ey ex = absurd (true≢false (sym ex))
      fall true true true ey ex = omega arith
      fall false true true ey ex = omega arith

-- a record that is no operation and no loser's beginning adds none
pub lost_later : (r : Record) (log : List Record) (below : ℕ) → lost_op (r ∷ log) below (length log + 1) r ≡ 0
    → lost_end (r ∷ log) below (length log + 1) r ≡ 0
    → lost_rounds (r ∷ log) below ≤ lost_rounds log below
lost_later r log below no_op no_end =
    let ops = ops_fewer (r ∷ log) log below (λ t. ended_push t r log) (λ n. crossed_push n r log) log in
    let ends = ends_fewer (r ∷ log) log below (λ t. ended_push t r log) (λ n. crossed_push n r log) log in
    omega (arith, ops, ends, no_op, no_end)

loser_counts : (log : List Record) (below t : ℕ) → IsLoser log below t → is_lost log below t ≡ true
loser_counts log below t loser =
    let early : nat_lt t below ≡ true = grind (arith, nat_tests, loser.early) in rw (early, loser.open_txn.goes_on) refl

-- a compensation leaves one operation less
pub lost_comp : (log : List Record) (below t u x : ℕ) (i : Option Op) (o : Op) → IsLoser log below t
    → IsOpBy log u t o → is_crossed log u ≡ false
    → lost_rounds (is.Comp t u x i ∷ log) below + 3 ≤ lost_rounds log below
lost_comp log below t u x i o loser by stands =
    let r : Record = is.Comp t u x i in
    let gone : is_crossed (r ∷ log) u ≡ true = ap (λ (b : Bool). b || is_crossed log u) (eq-eqb u u refl) in
    let ops = one_op (r ∷ log) log below (λ v. ended_push v r log) (λ n. crossed_push n r log) log t u o by
    (loser_counts log below t loser) stands gone in
    let ends = ends_fewer (r ∷ log) log below (λ v. ended_push v r log) (λ n. crossed_push n r log) log in
    omega (arith, ops, ends)

-- an end is one round less
pub lost_less : (log : List Record) (below t : ℕ) → IsLoser log below t
    → lost_rounds (is.End t ∷ log) below + 1 ≤ lost_rounds log below
lost_less log below t loser =
    let r : Record = is.End t in
    let gone : has_ended (r ∷ log) t ≡ true = ap (λ (b : Bool). b || has_ended log t) (eq-eqb t t refl) in
    let ops = ops_fewer (r ∷ log) log below (λ v. ended_push v r log) (λ n. crossed_push n r log) log in
    let ends = one_end (r ∷ log) log below (λ v. ended_push v r log) (λ n. crossed_push n r log) log t
    loser.open_txn.begun (loser_counts log below t loser) gone in
    omega (arith, ops, ends)
