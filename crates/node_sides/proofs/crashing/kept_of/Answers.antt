use Rattle.std.proofs.Common.{◌≡◌, ℕ, ◌+◌, ◌∙◌, ap, length, arith}
use Rattle.node_laws.specs.Component.{lesser, dc_size}
use Rattle.framed_log.proofs.Spelled.{spelled_longer}
use Rattle.node_laws.specs.dc_store.specs.Devices.{framing}
use Rattle.node_laws.proofs.Restarts.Keeping.{lesser_next}
use Rattle.node_sides.proofs.crashing.kept_of.Goals as goal

pub with_part-requires : goal.with_part-requires
with_part-requires g c =
    omega (
      arith,
      spelled_longer framing c.args.dc.now.system.log c.whole_of-whole.result c.after.result c.after.ensures.next,
      c.end_of-end.ensures,
      c.end_of.ensures,
    )

pub returns : goal.returns
returns g c =
    let size : ℕ → ℕ = dc_size c.args.dc.now.system.log in
    let stable : ℕ = c.args.dc.now.system.stable in
    let count : ℕ = length c.args.dc.now.system.log in
    let whole : c.whole_of-whole.result ≡ lesser (stable + c.args.frames) count = c.whole_of-whole.ensures.least
    ∙ (λ i. lesser (c.stable_end.ensures i + c.args.frames) (c.records-records.ensures i)) in
    let next : c.after.result ≡ lesser (stable + c.args.frames + 1) count = c.after.ensures.least
    ∙ (λ i. lesser (whole i + 1) (c.records-records.ensures i)) ∙ lesser_next (stable + c.args.frames) count in
    let end : c.end_of-end.result ≡ size (lesser (stable + c.args.frames) count) =
    c.end_of-end.ensures ∙ ap size whole in
    let last : c.end_of.result ≡ size (lesser (stable + c.args.frames + 1) count) = c.end_of.ensures ∙ ap size next in
    c.with_part.ensures ∙ (λ i. lesser (end i + c.args.bytes) (last i))
