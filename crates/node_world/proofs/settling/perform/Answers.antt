use Rattle.std.proofs.Common.{◌≡◌, ◌∙◌, ap, sym, subst, inr, ℕ, List, ◌++◌, ◌∷◌, [], length, take, vec_len, arith}
use Rattle.std.proofs.lemmas.Grind.{common_steps}
use Rattle.std.specs.Prelude.{slice_set, get_or}
use Rattle.std.proofs.lemmas.List.{append-nil, get_or_push, set_at, take_at}
use Rattle.node_sides.specs.node_laws.specs.declared.event.Out.{Out}
use Rattle.node_sides.specs.node_laws.specs.Stepping.{IsStep}
use Rattle.node_sides.specs.node_laws.specs.declared.event.Out.TheVariants as out
use Rattle.node_sides.specs.node_laws.proofs.Settles.Playing.{done_if, one_done}
use Rattle.node_world.proofs.settling.perform.Goals as goal

-- an output that was pushed, and written by the event, is the one that is read
read_back : (old reserved pushed : List Out) (o read : Out) (n counted : ℕ) → reserved ≡ old → counted ≡ length reserved
    → n ≡ counted → pushed ≡ reserved ++ out.Nothing ∷ [] → read ≡ get_or (slice_set pushed n o) n read
    → (length old ≡ n) × (slice_set pushed n o ≡ old ++ o ∷ []) × (read ≡ o)
read_back old reserved pushed o read n counted same count number push index =
    let last : length old ≡ n = sym (number ∙ count ∙ ap (λ (xs : List Out). length xs) same) in
    let all : pushed ≡ old ++ out.Nothing ∷ [] = push ∙ ap (λ (xs : List Out). xs ++ out.Nothing ∷ []) same in
    let stands : slice_set pushed n o ≡ old ++ o ∷ [] =
    ap (λ (xs : List Out). slice_set xs n o) all ∙ set_at old out.Nothing [] o n last in
    (last, stands, index ∙ ap (λ (xs : List Out). get_or xs n read) stands ∙ get_or_push old o read n last)

pub returns-in_default : goal.returns-in_default
returns-in_default g c =
    let old : List Out = c.args.out.now.items in
    let o = c.step_into.new.out in
    let counted : vec_len c.reserve.new.self ≡ length c.reserve.new.self.items = grind (arith, common_steps) in
    let back = read_back old c.reserve.new.self.items c.push_reserved.new.self.items o c.index.result.now c.len-last.result
    (vec_len c.reserve.new.self) c.reserve.ensures.items counted c.len-last.ensures c.push_reserved.ensures.items
    c.index.ensures in
    one_done c.args.world.now c.step_into.new.self c.args.event.now o old
    (slice_set c.push_reserved.new.self.items c.len-last.result o) c.step_into.ensures
    (done_if o (λ r e. c.in_default.not-Refused r (back.2 ∙ e))) back.1

pub returns-in-Refused : goal.returns-in-Refused
returns-in-Refused g c =
    let old : List Out = c.args.out.now.items in
    let o = c.step_into.new.out in
    let n = c.len-last.result in
    let counted : vec_len c.reserve.new.self ≡ length c.reserve.new.self.items = grind (arith, common_steps) in
    let back = read_back old c.reserve.new.self.items c.push_reserved.new.self.items o c.index.result.now n
    (vec_len c.reserve.new.self) c.reserve.ensures.items counted c.len-last.ensures c.push_reserved.ensures.items
    c.index.ensures in
    let refused : o ≡ out.Refused c.in-Refused.refusal = sym back.2 ∙ c.in-Refused.is in
    record {
      outs = [];
      appended = c.truncate.ensures.items ∙ ap (λ (xs : List Out). take n xs) back.1
          ∙ take_at old (o ∷ []) n back.0 ∙ sym (append-nil old);
      stops = inr (subst (λ (x : Out). IsStep c.args.world.now c.args.event.now x c.step_into.new.self) refused
          c.step_into.ensures);
    }
