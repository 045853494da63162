-- Failures that were set.
use Rattle.stable.specs.Usage.{IsToCome}
use Rattle.node_laws.specs.Node.{NodeView}

-- each is still to come, of the log's device and of the data component's two: so no call that was due to fail has
-- succeeded
pub record AreToCome (w : NodeView) : Type 0 where
  pub log : IsToCome w.tc.usage
  pub changes : IsToCome w.dc.system.log_usage
  pub pages : IsToCome w.dc.system.page_usage
