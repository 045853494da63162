-- What is seen of the leaves, of their log and of their pages.
use Rattle.std.specs.Prelude.{List}
use Rattle.stable.specs.PagesState.{Pages}
use Rattle.stable.specs.Usage.{Usage}
use Rattle.dc_leaf.specs.Leaf.{LeafView}
use Rattle.dc_store.specs.LogView.{ChangeLogView}
use Rattle.dc_store.specs.SystemView.{SystemView}

abbrev pub seen : List LeafView → ChangeLogView → Pages → Usage → SystemView
seen leaves log pages usage = record {
  leaves = leaves;
  log = log.log;
  stable = log.stable;
  pages = pages;
  log_usage = log.usage;
  page_usage = usage;
}
