-- Messages' bytes and places, and one message more.
use Rattle.std.proofs.Common.{◌≡◌, ◌∙◌, ℕ, ◌+◌, ◌<◌, ◌≤◌, ◌^◌, List, [], ◌∷◌, ◌++◌, length, drop, Some, refl, sym, ap, subst, arith, append_assoc}
use Rattle.std.specs.Prelude.{map}
use Rattle.std.specs.List.{AllByRecursion}
use Rattle.std.proofs.lemmas.List.{length-append, length-drop, drop-append-le, append-nil, map-append, drop_at}
use Rattle.codec.specs.Fields.{number}
use Rattle.codec.specs.FrameIndex.{place_at, places_of, Indexes}
use Rattle.codec.specs.Marks.{marked}
use Rattle.codec.specs.Frames.{frame}
use Rattle.codec.specs.Parted.{rows_of}
use Rattle.codec.specs.declared.reply.Reply.{Reply}
use Rattle.codec.specs.declared.reply.Reply.TheVariants as says
use Rattle.codec.specs.declared.taken.Taken.TheVariants as took
use Rattle.codec.proofs.Fields.{length-number}
use Rattle.codec.proofs.Indexed.{GoesOn, goes_on, indexes_none}
use Rattle.node_world.specs.Sent.{StandsAt, AllStand}
use Rattle.record_key.proofs.Lists.{all_from}
use Rattle.node_sides.specs.node_laws.proofs.Invariant.ByNumber.{all_push}

-- a reply that was found by its rows is that reply
pub rows_are : (r x : Reply) → Some x ≡ rows_of r → x ≡ r
rows_are (says.Rows session read rows) x found = cc
rows_are (says.Connected session) x found = absurd cc
rows_are (says.Answered session n a) x found = absurd cc
rows_are (says.Row session read value) x found = absurd cc
rows_are (says.Checkpointed session low) x found = absurd cc
rows_are (says.RedoEnded session) x found = absurd cc

pub record_is : {X : Type 0} {x y : X} {m n : ℕ} → took.Record x m ≡ took.Record y n → x ≡ y
record_is e = cc

-- an index of all bytes goes on with a frame behind them
goes_on_after : (bytes marks : List ℕ) (count : ℕ) (body : List ℕ) → Indexes bytes marks count
    → length bytes ≡ place_at bytes count → length body < 2 ^ 64
    → GoesOn bytes (bytes ++ frame body) marks count (length bytes) (length bytes + length (frame body))
goes_on_after bytes marks count body indexes ends short =
    goes_on bytes [] bytes (bytes ++ frame body) marks count body [] indexes ends (sym (append-nil bytes))
    (ap (λ (f : List ℕ). bytes ++ f) (sym (append-nil (frame body)))) short

-- what is written in a buffer is short enough for its length to be told
pub body_is_short : (longer bytes body : List ℕ) → longer ≡ bytes ++ frame body → length longer < 2 ^ 64
    → length body < 2 ^ 64
body_is_short longer bytes body is short =
    omega (arith, ap length is, length-append bytes (frame body), length-append (number (length body)) body, short)

-- no messages
pub none_stand : (X : Type 0) (spell : X → List ℕ) (Fits : X → Type 0) → AllStand X spell Fits [] [] 0
unfolding place_at places_of
none_stand X spell Fits = record { stand = tt; indexes = indexes_none []; ends = refl }

-- one message more
module _ (X : Type 0) (spell : X → List ℕ) (Fits : X → Type 0) (read_at : List ℕ → ℕ → X)
    (reads : (bytes : List ℕ) (place : ℕ) (there : StandsAt X spell Fits bytes place) → read_at bytes place
    ≡ there.message) where
  stands_longer : (bytes more : List ℕ) (place : ℕ) → StandsAt X spell Fits bytes place
      → StandsAt X spell Fits (bytes ++ more) place
  stands_longer bytes more place there =
      let len : length (drop place bytes) ≡ 8 + length (spell there.message) + length there.rest = ap length there.parts
      ∙ omega (
        arith,
        length-append (frame (spell there.message)) there.rest,
        length-append (number (length (spell there.message))) (spell there.message),
        length-number (length (spell there.message)),
      ) in
      let within : place ≤ length bytes = omega (arith, len, length-drop place bytes) in
      record {
        message = there.message;
        fits = there.fits;
        rest = there.rest ++ more;
        parts = drop-append-le place bytes more within ∙ ap (λ (l : List ℕ). l ++ more) there.parts
            ∙ append_assoc (frame (spell there.message)) there.rest more;
      }

  all_longer : (bytes more : List ℕ) (places : List ℕ) → AllByRecursion (StandsAt X spell Fits bytes) places
      → AllByRecursion (StandsAt X spell Fits (bytes ++ more)) places
  all_longer bytes more places all =
      all_from (StandsAt X spell Fits bytes) (StandsAt X spell Fits (bytes ++ more)) (stands_longer bytes more) places
      all

  same_longer : (bytes more : List ℕ) (places : List ℕ) → AllByRecursion (StandsAt X spell Fits bytes) places
      → map (read_at (bytes ++ more)) places ≡ map (read_at bytes) places
  unfolding stands_longer
  same_longer bytes more [] all = refl
  same_longer bytes more (place ∷ places) all =
      let here : read_at (bytes ++ more) place ≡ read_at bytes place =
      reads (bytes ++ more) place (stands_longer bytes more place all.0) ∙ sym (reads bytes place all.0) in
      let rest = same_longer bytes more places all.1 in
      λ i. here i ∷ rest i

  newest : (bytes : List ℕ) (x : X) → Fits x → StandsAt X spell Fits (bytes ++ frame (spell x)) (length bytes)
  newest bytes x fits = record {
    message = x;
    fits = fits;
    rest = [];
    parts = drop_at bytes (frame (spell x)) (length bytes) refl ∙ sym (append-nil (frame (spell x)));
  }

  -- the frame of a message was put at the end, and its place noted
  pub stand_more : (bytes : List ℕ) (places : List ℕ) (x : X) → Fits x
      → AllByRecursion (StandsAt X spell Fits bytes) places
      → AllByRecursion (StandsAt X spell Fits (bytes ++ frame (spell x))) (places ++ length bytes ∷ [])
  stand_more bytes places x fits all =
      all_push (StandsAt X spell Fits (bytes ++ frame (spell x))) places (length bytes)
      (all_longer bytes (frame (spell x)) places all) (newest bytes x fits)

  pub read_more : (bytes : List ℕ) (places : List ℕ) (x : X) → Fits x
      → AllByRecursion (StandsAt X spell Fits bytes) places
      → map (read_at (bytes ++ frame (spell x))) (places ++ length bytes ∷ []) ≡ map (read_at bytes) places ++ x ∷ []
  unfolding newest
  read_more bytes places x fits all =
      let last : read_at (bytes ++ frame (spell x)) (length bytes) ≡ x =
      reads (bytes ++ frame (spell x)) (length bytes) (newest bytes x fits) in
      let older = same_longer bytes (frame (spell x)) places all in
      map-append (read_at (bytes ++ frame (spell x))) places (length bytes ∷ []) ∙ λ i. older i ++ last i ∷ []

  -- and the index tells its place
  pub all_more : (bytes marks : List ℕ) (count : ℕ) (x : X) → AllStand X spell Fits bytes marks count → Fits x
      → length (spell x) < 2 ^ 64
      → AllStand X spell Fits (bytes ++ frame (spell x)) (marked marks count (length bytes)) (count + 1)
  all_more bytes marks count x h fits short =
      let longer : List ℕ = bytes ++ frame (spell x) in
      let on = goes_on_after bytes marks count (spell x) h.indexes h.ends short in
      record {
        stand = subst (AllByRecursion (StandsAt X spell Fits longer)) (sym on.places)
            (stand_more bytes (places_of bytes count) x fits h.stand);
        indexes = on.indexes;
        ends = length-append bytes (frame (spell x)) ∙ on.ends;
      }

  -- and the message is read there, after the others
  pub all_read_more : (bytes marks : List ℕ) (count : ℕ) (x : X) → AllStand X spell Fits bytes marks count → Fits x
      → length (spell x) < 2 ^ 64
      → map (read_at (bytes ++ frame (spell x))) (places_of (bytes ++ frame (spell x)) (count + 1))
      ≡ map (read_at bytes) (places_of bytes count) ++ x ∷ []
  all_read_more bytes marks count x h fits short =
      let on = goes_on_after bytes marks count (spell x) h.indexes h.ends short in
      ap (map (read_at (bytes ++ frame (spell x)))) on.places
      ∙ read_more bytes (places_of bytes count) x fits h.stand

-- nor is anything read there
pub none_read : (X : Type 0) (read_at : List ℕ → ℕ → X) → map (read_at []) (places_of [] 0) ≡ []
unfolding places_of
none_read X read_at = refl
