use Rattle.std.proofs.Common.{◌≡◌, ◌∙◌, List, ℕ, ◌++◌, ap, inr, append-nil}
use Rattle.std.proofs.lemmas.Result.{err_from_is_err_and}
use Rattle.dc_store.proofs.frames.read_log.Goals as goal

pub returns-in_err-read_frames-in-Ok-clause-stopped : goal.returns-in_err-read_frames-in-Ok-clause-stopped
returns-in_err-read_frames-in-Ok-clause-stopped g c =
    let forced : List ℕ = g.D.LogDevice.forced c.args.device.now in
    let all : c.in-Ok.bytes.now ≡ forced =
    c.in-Ok.ensures.value ∙ ap (λ (b : List ℕ). forced ++ b) c.requires ∙ append-nil forced in
    let p = err_from_is_err_and c.from_residual.result c.from_residual.ensures.1 in
    rw (p.1, p.2, ← all)
    (inr (rw c.in-Ok.is at c.bytes.follows.holds-at-none.2, c.in_err-read_frames-in-Ok.ensures.refused))
