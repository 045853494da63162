-- What is seen of the parts of the transaction component.
use Rattle.tc_core.specs.declared.parts.Parts.{Parts}
use Rattle.tc_core.specs.TcView.{TcView}

abbrev pub seen : {D : Type 0} → Parts D → TcView
seen p = record {
  log = p.log.records;
  stable = p.log.stable;
  usage = p.log.usage;
  session = p.session;
  phase = p.phase;
  reads = p.reads;
  announced = p.announced;
  checkpointing = p.checkpointing;
  checkpointed = p.checkpointed;
  open_txns = p.open_txns;
  committing = p.committing.items;
  losers = p.losers;
  locks = p.locks;
}
