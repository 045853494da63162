-- The index's order tells all entries apart.
use Rattle.std.proofs.Common.{arith, ◌≡◌, true, false, Option, Some, None, refl, sym, ap, ◌∙◌, true≢false}
use Rattle.std.specs.Cmp.{Equal-is}
use Rattle.std.specs.Option.{option_cmp}
use Rattle.std.specs.Ordering.{is_eq, nat_cmp, ordering_then}
use Rattle.std.specs.declared.cmp.Ordering.{Ordering}
use Rattle.std.specs.declared.cmp.Ordering.TheVariants.{Less, Equal, Greater}
use Rattle.std.proofs.lemmas.Cmp.{nat_list_cmp_total, nat_cmp_total, tied_itself}
use Rattle.std.proofs.lemmas.Map.Lookups.{exact_bytes, exact_unsigned}
use Rattle.record_key.specs.Table.{Bytes}
use Rattle.record_key.specs.Laws.{key_cmp}
use Rattle.tc_locks.specs.declared.span.Mode.{Mode}
use Rattle.tc_locks.specs.declared.span.Span.{Span}
use Rattle.tc_locks.specs.declared.span.Span.TheVariants.{Key, Range}
use Rattle.tc_locks.specs.declared.span.Lock.{Lock}
use Rattle.tc_locks.specs.declared.entry.Entry.{Entry}
use Rattle.tc_locks.specs.Order.{mode_cmp, span_cmp, lock_cmp, entry_cmp}

both_tied : (o p : Ordering) → ordering_then o p ≡ Equal → (o ≡ Equal) × (p ≡ Equal)
both_tied o p h = grind arith

untied : {P : Type 0} (o : Ordering) → is_eq o ≡ false → o ≡ Equal → P
untied o out h = absurd (true≢false (sym (ap is_eq h) ∙ out))

mode_exact : (a b : Mode) → mode_cmp a b ≡ Equal → a ≡ b
mode_exact a b h = grind arith

end_exact : (a b : Option Bytes) → option_cmp key_cmp a b ≡ Equal → a ≡ b
end_exact None None h = refl
end_exact None (Some b) h = untied Less refl h
end_exact (Some a) None h = untied Greater refl h
end_exact (Some a) (Some b) h = ap Some (exact_bytes a b h)

span_exact : (a b : Span) → span_cmp a b ≡ Equal → a ≡ b
span_exact (Range low high) (Range lo hi) h =
    let ties = both_tied (key_cmp low lo) (option_cmp key_cmp high hi) h in
    let lows : low ≡ lo = exact_bytes low lo ties.0 in
    let highs : high ≡ hi = end_exact high hi ties.1 in
    λ i. Range (lows i) (highs i)
span_exact (Range low high) (Key k) h = untied Less refl h
span_exact (Key k) (Range lo hi) h = untied Greater refl h
span_exact (Key k) (Key j) h = ap Key (exact_bytes k j h)

pub lock_exact : (a b : Lock) → is_eq (lock_cmp a b) ≡ true → a ≡ b
lock_exact a b h =
    let ties = both_tied (span_cmp a.span b.span) (mode_cmp a.mode b.mode) ((Equal-is (lock_cmp a b)).0 h) in
    let spans : a.span ≡ b.span = span_exact a.span b.span ties.0 in
    let modes : a.mode ≡ b.mode = mode_exact a.mode b.mode ties.1 in
    λ i. record { span = spans i; mode = modes i }

pub entry_exact : (a b : Entry) → is_eq (entry_cmp a b) ≡ true → a ≡ b
entry_exact a b h =
    let ties = both_tied (lock_cmp a.lock b.lock) (nat_cmp a.txn b.txn) ((Equal-is (entry_cmp a b)).0 h) in
    let locks : a.lock ≡ b.lock = lock_exact a.lock b.lock (ap is_eq ties.0) in
    let txns : a.txn ≡ b.txn = exact_unsigned a.txn b.txn ties.1 in
    λ i. record { lock = locks i; txn = txns i }

mode_tied : (m : Mode) → mode_cmp m m ≡ Equal
mode_tied m = grind arith

end_tied : (e : Option Bytes) → option_cmp key_cmp e e ≡ Equal
end_tied e = grind (arith, tied_itself, nat_list_cmp_total)

span_tied : (s : Span) → span_cmp s s ≡ Equal
span_tied s = grind (arith, tied_itself, nat_list_cmp_total, end_tied)

pub lock_tied : (l : Lock) → lock_cmp l l ≡ Equal
lock_tied l = ap (λ o. ordering_then o (mode_cmp l.mode l.mode)) (span_tied l.span) ∙ mode_tied l.mode

pub entry_tied : (e : Entry) → entry_cmp e e ≡ Equal
entry_tied e = ap (λ o. ordering_then o (nat_cmp e.txn e.txn)) (lock_tied e.lock) ∙ tied_itself nat_cmp_total e.txn
