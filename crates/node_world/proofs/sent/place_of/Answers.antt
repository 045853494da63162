use Rattle.std.proofs.Common.{◌≡◌, ◌∙◌, ℕ, zero, suc, ◌-◌, ◌<◌, ◌≤◌, List, Some, None, refl, sym, ap, arith}
use Rattle.std.proofs.lemmas.Option.{slice_get-get_or, slice_get_past}
use Rattle.codec.specs.FrameIndex.{place_at, places_of}
use Rattle.codec.proofs.Indexed.{place_of, length-places_of}
use Rattle.node_sides.specs.node_laws.specs.Messages.{message_at}
use Rattle.node_world.proofs.sent.place_of.Goals as goal
use Rattle.node_world.proofs.sent.place_of.Goals.{then-number-eq0-via-then-number-eq0, then-number-eq0-via-else-number-eq0+then-number-len}

there : (bytes : List ℕ) (count n place : ℕ) → (n ≡ 0 → ⊥) → n ≤ count → place ≡ place_at bytes (n - 1)
    → message_at (places_of bytes count) n ≡ Some place
there bytes count zero place some within at = absurd (some refl)
there bytes count (suc n) place some within at =
    let less : n < count = omega (arith, within) in
    let before : suc n - 1 ≡ n = omega arith in
    slice_get-get_or (places_of bytes count) n 0 (omega (arith, less, length-places_of bytes count))
    ∙ ap Some (place_of bytes count n 0 less ∙ ap (place_at bytes) (sym before) ∙ sym at)

past : (bytes : List ℕ) (count n : ℕ) → count < n → message_at (places_of bytes count) n ≡ None
past bytes count zero more = absurd (omega (arith, more))
past bytes count (suc n) more =
    slice_get_past (places_of bytes count) n (omega (arith, more, length-places_of bytes count))

pub returns-then-number-eq0-clause-refused : goal.returns-then-number-eq0-clause-refused
returns-then-number-eq0-clause-refused c =
    elim c.then-number-eq0.branch [
      | then-number-eq0-via-then-number-eq0 w ↦
          (refl, ap (message_at (places_of c.args.bytes.now c.args.index.now.count)) w.if-number-eq0.true)
      | then-number-eq0-via-else-number-eq0+then-number-len w ↦ (
        refl,
        past c.args.bytes.now c.args.index.now.count c.args.number
            (omega (arith, w.if-number-len.true, w.len.ensures)),
      )
    ]

pub returns-clause-found : goal.returns-clause-found
returns-clause-found c =
    there c.args.bytes.now c.args.index.now.count c.args.number c.place.result c.if-number-eq0.false
    (omega (arith, c.if-number-len.false, c.len.ensures)) c.place.ensures
