use Rattle.std.proofs.Common.{◌≡◌, flat_map, take}
use Rattle.shell_pool.proofs.words.joined.Given as goal

-- those so far are joined
abbrev pub invariant-loop-part : goal.invariant-loop-part
invariant-loop-part l = l.word.bytes ≡ flat_map (λ p. p.now) (take l.part-index l.parts)
