use Rattle.std.proofs.Common.{sym, reverse, arith}
use Rattle.log_laws.proofs.Reading.{read_at}
use Rattle.log_laws.proofs.Records.{beyond}
use Rattle.log_laws.proofs.reader.numbered.Goals as goal

pub returns-then-number-eq0 : goal.returns-then-number-eq0
returns-then-number-eq0 c = sym (beyond (reverse c.args.log.now) c.args.number (λ _ h. omega arith))

pub returns-else-number-eq0 : goal.returns-else-number-eq0
returns-else-number-eq0 c = grind (arith, read_at)
