use Rattle.std.proofs.Common.{◌≡◌, Some, refl, sym, ap, ◌∙◌, arith, inl, inr}
use Rattle.std.specs.FinMap as map
use Rattle.record_key.specs.declared.op.Op.TheVariants.{Add}
use Rattle.record_key.specs.Amounts.{amount_bytes, amount_in, summed}
use Rattle.record_key.specs.Table.{answer_at, value_after, after}
use Rattle.record_key.proofs.Tables.{get-with_record_same}
use Rattle.dc_take_back.specs.Listed.{IsListedAt}
use Rattle.dc_take_back.specs.Example.{key, small, opened, performances, leaf}
use Rattle.dc_take_back.proofs.Listed.{after_here, taken_replayed}
use Rattle.dc_take_back.proofs.laws.add_taken_back.Goals as goal

at_first : map.get opened key ≡ Some (small 5)
at_first = get-with_record_same map.empty key (Some (small 5))

three_more : map.get (after opened (Add key 3)) key ≡ Some (small 8)
unfolding summed amount_in amount_bytes
three_more = after_here opened (Add key 3) key refl ∙ ap (value_after (Add key 3)) at_first

are_listed : IsListedAt opened performances 4 key leaf
unfolding summed
are_listed = record {
  value = refl;
  answered = (ap (answer_at (Add key 10)) (sym three_more), (ap (answer_at (Add key 3)) (sym at_first), tt));
  once = ((λ e. omega (arith, e), tt), (tt, tt));
  falls = (λ on. (λ at. inr (refl, refl), tt), (λ on. tt, tt));
  rising = (omega arith, (omega arith, tt));
  listed = (
    λ on over. absurd (omega (arith, over)),
    (λ on over. inr (inl (record { number = refl; key = refl; answer = refl })), tt),
  );
  saved = (
    λ on over. absurd (omega (arith, over)),
    (λ on over. inr (inl (record { number = refl; key = refl; answer = refl })), tt),
  );
}

pub returns : goal.returns
unfolding summed amount_in amount_bytes
returns c = record {
  listed = are_listed;
  before = after_here (after opened (Add key 3)) (Add key 10) key refl ∙ ap (value_after (Add key 10)) three_more;
  value = taken_replayed opened performances 4 key leaf are_listed ∙ after_here opened (Add key 10) key refl
      ∙ ap (value_after (Add key 10)) at_first;
}
