use Rattle.std.proofs.Common.{◌≡◌, ◌≤◌, ℕ, ◌+◌, ◌%◌, ◌^◌, true, List, Some, sym, ap, ◌∙◌, rules, eq-eqb, length, arith}
use Rattle.std.specs.Result.{result_ok}
use Rattle.std.proofs.lemmas.Bool.{and_from}
use Rattle.byteorder.specs.Endian.{big_bytes}
use Rattle.record_key.specs.Amounts.{amount_bytes, amount_in, is_number}
use Rattle.record_key.proofs.Amounts.{small_bytes, amount_length}
use Rattle.record_key.proofs.Adds.{summed_number}
use Rattle.record_key.proofs.value.Value.plus.Goals as goal

pub returns : goal.returns
unfolding amount_bytes amount_in
returns c =
    let v : List ℕ = c.args.self.now in
    let x : ℕ = c.args.amount in
    let eight : length v ≡ 8 = grind (arith, ap length c.as_bytes-bytes.ensures.bytes, c.if-bytes-ne8.false) in
    let number : is_number v ≡ true = and_from _ _ (eq-eqb (length v) 8 eight) (small_bytes v (search rules)) in
    let read : c.read_u64.result ≡ amount_in v =
    c.read_u64.ensures ∙ ap amount_in c.as_bytes-bytes.ensures.bytes in
    let bytes : c.to_be_bytes.result ≡ amount_bytes ((amount_in v + x) % 2 ^ 64) =
    c.to_be_bytes.ensures ∙ ap (λ (n : ℕ). big_bytes 8 ((n + x) % 2 ^ 64)) read in
    let short : length c.to_be_bytes.result ≤ 120 =
    omega (arith, ap length bytes, amount_length ((amount_in v + x) % 2 ^ 64)) in
    c.ok.ensures.value ∙ ap result_ok (c.new.ensures.ok short) ∙ ap Some bytes ∙ sym (summed_number v x number)
