-- Bytes are copied into the room that there is.
use Rattle.std.proofs.Common.{◌≡◌, ℕ, ◌≤◌, List, [], ◌++◌, length, take, drop, refl, sym, ap, ◌∙◌, arith}
use Rattle.std.proofs.lemmas.List.{take_all, drop_all, length-append}
use Rattle.jakumshe.specs.Logs.{Copies}

-- there are none from this one on
pub copies_none : (all room : List ℕ) (from : ℕ) → length all ≤ from → Copies all from room (length all)
copies_none all room from past = record {
  counted = refl;
  rest = room;
  copied = sym (ap (λ (xs : List ℕ). take (length room) xs ++ room) (drop_all from all past)
      ∙ ap (λ (xs : List ℕ). xs ++ room) (take_all (length room) [] (omega arith)));
}

-- they fit
pub copies_all : (all room rest : List ℕ) (from : ℕ) → room ≡ drop from all ++ rest → Copies all from room (length all)
copies_all all room rest from is =
    let fits : length (drop from all) ≤ length room = omega (arith, ap length is, length-append (drop from all) rest) in
    record {
      counted = refl;
      rest = rest;
      copied = is ∙ sym (ap (λ (xs : List ℕ). xs ++ rest) (take_all (length room) (drop from all) fits));
    }
