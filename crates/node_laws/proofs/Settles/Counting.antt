-- How many requests a log has, and how many operations of a transaction are left to undo.
use Rattle.std.proofs.Common.{◌≡◌, ◌≢◌, ℕ, ◌+◌, ◌<◌, ◌≤◌, Bool, true, false, List, [], ◌∷◌, length, Option, Some, None, refl, sym, ap, ◌∙◌, subst, arith, inl, inr, true≢false, eq-eqb, ne_eqb}
use Rattle.std.specs.Prelude.{◌==◌, ◌&&◌, ◌||◌, not, nat_le, nat_lt, if◌then◌else◌}
use Rattle.std.proofs.lemmas.Bool.{cases_eq}
use Rattle.std.proofs.lemmas.Bool.Decides.{nat_tests}
use Rattle.record_key.specs.declared.op.Op.{Op}
use Rattle.history.specs.declared.record.Record.{Record}
use Rattle.history.specs.declared.record.Record.TheVariants as is
use Rattle.history.specs.Log.{is_crossed, request_of, op_of, Requests, IsOpBy}
use Rattle.log_laws.proofs.Records.{ARequest, AnOp, newest_at, older_at, both_same, no_request}
use Rattle.log_laws.proofs.LegalLogs.{crossed_push}
use Rattle.node_laws.specs.Bound.{asked, requests_in, left_in, steps_in}

-- requests: fewer from a later number on
flag_le : (a b m : ℕ) (c : Bool) (n : ℕ) → a ≤ b
    → (if nat_le b m && c then n else 0) ≤ (if nat_le a m && c then n else 0)
flag_le a b m c n le = pick (nat_le b m) (nat_le a m) refl refl c
  where
    pick : (x y : Bool) → nat_le b m ≡ x → nat_le a m ≡ y → (c : Bool)
        → (if x && c then n else 0) ≤ (if y && c then n else 0)
    pick false y ex ey c = omega arith
    pick true true ex ey c = omega arith
    pick true false ex ey c = absurd (true≢false (sym (grind (arith, nat_tests, ex, le)) ∙ ey))

pub fewer_later : (a b below : ℕ) (log : List Record) → a ≤ b → requests_in b below log ≤ requests_in a below log
fewer_later a b below [] le = omega arith
fewer_later a b below (r ∷ log) le =
    let rest = fewer_later a b below log le in
    let here = flag_le a b (length log + 1) (nat_lt (length log + 1) below) (asked (request_of r)) le in
    omega (arith, rest, here)

-- the request itself counts
pub one_fewer : (from n below : ℕ) (o : Op) (log : List Record) → from ≤ n → n < below → Requests log n o
    → requests_in (n + 1) below log + 1 ≤ requests_in from below log
one_fewer from n below o [] le lt asks = absurd (no_request o asks)
one_fewer from n below o (r ∷ log) le lt asks =
    elim (cases_eq n (length log + 1)) [
      | inl e ↦
          let here : request_of r ≡ Some o = newest_at (ARequest o) r log n e asks in
          let a : nat_le from (length log + 1) ≡ true = grind (arith, nat_tests, e, le) in
          let b : nat_lt (length log + 1) below ≡ true = grind (arith, nat_tests, e, lt) in
          let c : nat_le (n + 1) (length log + 1) ≡ false = grind (arith, nat_tests, e) in
          let rest = fewer_later from (n + 1) below log (omega (arith, le)) in
          rw (a, b, c, here) (omega (arith, rest))
      | inr apart ↦
          let rest = one_fewer from n below o log le lt (older_at (ARequest o) r log n apart asks) in
          let here = flag_le from (n + 1) (length log + 1) (nat_lt (length log + 1) below) (asked (request_of r))
          (omega (arith, le)) in omega (arith, rest, here)
    ]

-- a record at or above the bound doesn't count, nor one that asks for nothing
pub none_above : (from below : ℕ) (r : Record) (log : List Record) → below ≤ length log + 1
    → requests_in from below (r ∷ log) ≡ requests_in from below log
none_above from below r log le =
    let lt : nat_lt (length log + 1) below ≡ false = grind (arith, nat_tests, le) in
    pick (nat_le from (length log + 1)) (nat_lt (length log + 1) below) lt
  where
    pick : (a b : Bool) → b ≡ false
        → (if a && b then asked (request_of r) else 0) + requests_in from below log ≡ requests_in from below log
    pick true true e = absurd (true≢false e)
    pick true false e = omega arith
    pick false b e = omega arith

-- operations that are left: what is crossed stays so
flag_left : (t l x y : Bool) → (y ≡ true → x ≡ true)
    → (if t && (l && not x) then 1 else 0) ≤ (if t && (l && not y) then 1 else 0)
flag_left t l x y more = pick t l x y refl refl
  where
    pick : (t l a b : Bool) → x ≡ a → y ≡ b
        → (if t && (l && not a) then 1 else 0) ≤ (if t && (l && not b) then 1 else 0)
    pick false l a b ea eb = omega arith
    pick true false a b ea eb = omega arith
    pick true true true b ea eb = omega arith
    pick true true false false ea eb = omega arith
    pick true true false true ea eb = absurd (true≢false (sym (more eb) ∙ ea))

fewer_left : (a b : List Record) (t above : ℕ) (log : List Record)
    → ((n : ℕ) → is_crossed b n ≡ true → is_crossed a n ≡ true) → left_in a t above log ≤ left_in b t above log
fewer_left a b t above [] more = omega arith
fewer_left a b t above (is.Op u p o ∷ log) more =
    let here = flag_left (u == t) (nat_lt above (length log + 1)) (is_crossed a (length log + 1))
    (is_crossed b (length log + 1)) (more (length log + 1)) in
    omega (arith, here, fewer_left a b t above log more)
fewer_left a b t above (is.Session ∷ log) more = fewer_left a b t above log more
fewer_left a b t above (is.Begin ∷ log) more = fewer_left a b t above log more
fewer_left a b t above (is.Answer n x ∷ log) more = fewer_left a b t above log more
fewer_left a b t above (is.Comp u m n i ∷ log) more = fewer_left a b t above log more
fewer_left a b t above (is.Commit u ∷ log) more = fewer_left a b t above log more
fewer_left a b t above (is.End u ∷ log) more = fewer_left a b t above log more
fewer_left a b t above (is.Checkpoint l ∷ log) more = fewer_left a b t above log more

-- so no record but an operation adds to what is left of anyone
pub left_later : (r : Record) (log : List Record) (t above : ℕ) → op_of r ≡ None
    → left_in (r ∷ log) t above (r ∷ log) ≤ left_in log t above log
left_later (is.Op u p o) log t above none = absurd (cc)
left_later is.Session log t above none =
    fewer_left (is.Session ∷ log) log t above log (λ n. crossed_push n is.Session log)
left_later is.Begin log t above none = fewer_left (is.Begin ∷ log) log t above log (λ n. crossed_push n is.Begin log)
left_later (is.Answer m x) log t above none =
    fewer_left (is.Answer m x ∷ log) log t above log (λ n. crossed_push n (is.Answer m x) log)
left_later (is.Comp u m x i) log t above none =
    fewer_left (is.Comp u m x i ∷ log) log t above log (λ n. crossed_push n (is.Comp u m x i) log)
left_later (is.Commit u) log t above none =
    fewer_left (is.Commit u ∷ log) log t above log (λ n. crossed_push n (is.Commit u) log)
left_later (is.End u) log t above none =
    fewer_left (is.End u ∷ log) log t above log (λ n. crossed_push n (is.End u) log)
left_later (is.Checkpoint l) log t above none =
    fewer_left (is.Checkpoint l ∷ log) log t above log (λ n. crossed_push n (is.Checkpoint l) log)

-- and a bound takes none more in
pub flag_above : (t l c : Bool) → (if t && (l && c) then 1 else 0) ≤ (if t && c then 1 else 0)
flag_above false l c = omega arith
flag_above true false true = omega arith
flag_above true false false = omega arith
flag_above true true c = omega arith

-- a compensation crosses one: those above it and below it stay
module _ (whole : List Record) (t above v u x : ℕ) (i : Option Op) where
  abbrev crossed : List Record
  crossed = is.Comp v u x i ∷ whole

  op_apart : (w p : ℕ) (o : Op) (log : List Record) (n : ℕ) → u ≢ length log + 1
      → (if w == t && (nat_lt above (length log + 1) && not (is_crossed crossed (length log + 1))) then 1 else 0) + n
      ≡ (if w == t && (nat_lt above (length log + 1) && not (is_crossed whole (length log + 1))) then 1 else 0) + n
  op_apart w p o log n apart =
      ap (λ (b : Bool). (if w == t
      && (nat_lt above (length log + 1) && not (b || is_crossed whole (length log + 1))) then 1 else 0) + n)
      (ne_eqb (length log + 1) u (λ e. apart (sym e)))

  below_left : (log : List Record) → length log < u → left_in crossed t above log ≡ left_in whole t above log
  below_left [] lt = refl
  below_left (is.Op w p o ∷ log) lt =
      op_apart w p o log (left_in crossed t above log) (λ e. omega (arith, e, lt))
      ∙ ap (λ (n : ℕ). (if w == t
      && (nat_lt above (length log + 1) && not (is_crossed whole (length log + 1))) then 1 else 0) + n)
      (below_left log (omega arith))
  below_left (is.Session ∷ log) lt = below_left log (omega arith)
  below_left (is.Begin ∷ log) lt = below_left log (omega arith)
  below_left (is.Answer n a ∷ log) lt = below_left log (omega arith)
  below_left (is.Comp w m n j ∷ log) lt = below_left log (omega arith)
  below_left (is.Commit w ∷ log) lt = below_left log (omega arith)
  below_left (is.End w ∷ log) lt = below_left log (omega arith)
  below_left (is.Checkpoint l ∷ log) lt = below_left log (omega arith)

  -- the crossed one was left
  newest_left : (r : Record) (o : Op) (log : List Record) → op_of r ≡ Some (t, o) → u ≡ length log + 1
      → is_crossed whole u ≡ false → above < u
      → left_in crossed t above (r ∷ log) + 1 ≡ left_in whole t above (r ∷ log)
  newest_left (is.Op w p q) o log by e stands bound =
      let here : (w == t) ≡ true = eq-eqb w t (both_same w t q o by).0 in
      let is_it : (length log + 1 == u) ≡ true = eq-eqb (length log + 1) u (sym e) in
      let was : is_crossed whole (length log + 1) ≡ false = subst (λ (n : ℕ). is_crossed whole n ≡ false) e stands in
      let counts : nat_lt above (length log + 1) ≡ true = grind (arith, nat_tests, e, bound) in
      let rest = below_left log (omega (arith, e)) in
      rw (here, counts, is_it, was) (omega (arith, rest))
  newest_left is.Session o log by e stands bound = absurd (cc)
  newest_left is.Begin o log by e stands bound = absurd (cc)
  newest_left (is.Answer n a) o log by e stands bound = absurd (cc)
  newest_left (is.Comp w m n j) o log by e stands bound = absurd (cc)
  newest_left (is.Commit w) o log by e stands bound = absurd (cc)
  newest_left (is.End w) o log by e stands bound = absurd (cc)
  newest_left (is.Checkpoint l) o log by e stands bound = absurd (cc)

  above_left : (r : Record) (log : List Record) → u ≢ length log + 1
      → left_in crossed t above log + 1 ≡ left_in whole t above log
      → left_in crossed t above (r ∷ log) + 1 ≡ left_in whole t above (r ∷ log)
  above_left (is.Op w p q) log apart rest =
      let here = op_apart w p q log (left_in crossed t above log) apart in omega (arith, here, rest)
  above_left is.Session log apart rest = rest
  above_left is.Begin log apart rest = rest
  above_left (is.Answer n a) log apart rest = rest
  above_left (is.Comp w m n j) log apart rest = rest
  above_left (is.Commit w) log apart rest = rest
  above_left (is.End w) log apart rest = rest
  above_left (is.Checkpoint l) log apart rest = rest

  one_crossed : (o : Op) (log : List Record) → IsOpBy log u t o → is_crossed whole u ≡ false → above < u
      → left_in crossed t above log + 1 ≡ left_in whole t above log
  one_crossed o [] by stands bound = absurd (cc)
  one_crossed o (r ∷ log) by stands bound =
      elim (cases_eq u (length log + 1)) [
        | inl e ↦ newest_left r o log (newest_at (AnOp t o) r log u e by) e stands bound
        | inr apart ↦ above_left r log apart (one_crossed o log (older_at (AnOp t o) r log u apart by) stands bound)
      ]

pub one_less_left : (log : List Record) (t above u x : ℕ) (i : Option Op) (o : Op) → IsOpBy log u t o
    → is_crossed log u ≡ false → above < u
    → left_in (is.Comp t u x i ∷ log) t above (is.Comp t u x i ∷ log) + 1 ≡ left_in log t above log
one_less_left log t above u x i o by stands bound = one_crossed log t above t u x i o log by stands bound

-- each request is a step
pub requests_are_steps : (from below : ℕ) (log : List Record) → requests_in from below log ≤ steps_in log
requests_are_steps from below [] = omega arith
requests_are_steps from below (r ∷ log) =
    by r (nat_le from (length log + 1) && nat_lt (length log + 1) below) (requests_are_steps from below log)
  where
    one : (q : Option Op) (b : Bool) → (if b then asked q else 0) ≤ 1
    one None true = omega arith
    one (Some o) true = omega arith
    one q false = omega arith

    none : (b : Bool) → (if b then asked None else 0) ≤ 0
    none true = omega arith
    none false = omega arith

    by : (r : Record) (b : Bool) → requests_in from below log ≤ steps_in log
        → (if b then asked (request_of r) else 0) + requests_in from below log ≤ steps_in (r ∷ log)
    by (is.Op t p o) b rest = omega (arith, rest, one (Some o) b)
    by (is.Comp t u x i) b rest = omega (arith, rest, one i b)
    by is.Session b rest = omega (arith, rest, none b)
    by is.Begin b rest = omega (arith, rest, none b)
    by (is.Answer n a) b rest = omega (arith, rest, none b)
    by (is.Commit t) b rest = omega (arith, rest, none b)
    by (is.End t) b rest = omega (arith, rest, none b)
    by (is.Checkpoint l) b rest = omega (arith, rest, none b)
