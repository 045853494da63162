use Rattle.std.proofs.Common.{◌≡◌, ℕ, None, vec_len}
use Rattle.dc_store.specs.Shelf.{leaf_on}
use Rattle.dc_store.proofs.shelf.Shelf.new.Given as goal

-- the places so far are empty
abbrev pub invariant-loop : goal.invariant-loop
invariant-loop l = record {
  count : vec_len l.slots ≡ l.counter;
  empty : (id : ℕ) → leaf_on l.slots.items id ≡ None;
}
