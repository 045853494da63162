-- The order of keys.
use Rattle.std.proofs.Common.{◌≡◌, ◌≢◌, [], ◌∷◌, ◌++◌, refl, ap, ◌∙◌}
use Rattle.std.specs.Ordering.{ordering_then}
use Rattle.std.specs.declared.cmp.Ordering.TheVariants.{Less}
use Rattle.std.proofs.lemmas.Cmp.{nat_list_cmp_total}
use Rattle.std.proofs.lemmas.Map.Lookups.{exact_bytes}
use Rattle.record_key.specs.Table.{Bytes}
use Rattle.record_key.specs.Laws.{key_cmp, IsKeyOrder, WritesOneKey}
use Rattle.record_key.proofs.Numbers.{nat_cmp-itself}
use Rattle.record_key.proofs.Tables.{same_table, get-with_record_same, get-with_record_other}

pub key_cmp-beginning : (a b : Bytes) → b ≢ [] → key_cmp a (a ++ b) ≡ Less
key_cmp-beginning [] [] some = absurd (some refl)
key_cmp-beginning [] (y ∷ ys) some = refl
key_cmp-beginning (x ∷ xs) b some =
    ap (λ o. ordering_then o (key_cmp xs (xs ++ b))) (nat_cmp-itself x) ∙ key_cmp-beginning xs b some

pub is_key_order : IsKeyOrder
is_key_order = record { total = nat_list_cmp_total; tied = exact_bytes; beginning = key_cmp-beginning }

pub writes_one_key : WritesOneKey
writes_one_key = record { there = get-with_record_same; elsewhere = get-with_record_other; same = same_table }
