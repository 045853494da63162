-- What is seen of the data component's fields.
use Rattle.dc_core.specs.declared.dc.Dc.TheInside.{Inside}
use Rattle.dc_core.specs.DcView.{DcView}

abbrev pub seen : {D P : Type 0} → Inside D P → DcView
seen d = record {
  stored = d.stored;
  session = d.session;
  redo = d.redo;
  known = d.known;
  opened_to = d.opened_to;
  redone_low = d.redone_low;
  system = d.system;
  opened = d.opened.table;
  performed = d.performed.list.items;
}
