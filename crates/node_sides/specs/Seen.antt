-- What is seen of a component, which runs or is down.
use Rattle.std.specs.Prelude.{true, false, Option, Some, None}
use Rattle.stable.specs.Usage.{unused}
use Rattle.node_laws.specs.dc_core.specs.DcView.{fresh_dc}
use Rattle.node_laws.specs.tc_core.specs.TcView.{fresh_tc}
use Rattle.node_laws.specs.Component.{TcSide, DcSide}
use Rattle.node_sides.specs.declared.transaction_component.TransactionComponent.{TransactionComponent}
use Rattle.node_sides.specs.declared.transaction_component.TransactionComponent.TheVariants as tc_is
use Rattle.node_sides.specs.declared.data_component.DataComponent.{DataComponent}
use Rattle.node_sides.specs.declared.data_component.DataComponent.TheVariants as dc_is

abbrev pub tc_of : {D : Type 0} → TransactionComponent D → TcSide
tc_of (tc_is.Up component) = record { up = true; tc = component }
tc_of (tc_is.Down component) = record { up = false; tc = component }

abbrev pub dc_of : {D P : Type 0} → DataComponent D P → DcSide
dc_of (dc_is.Up component) = record { up = true; dc = component }
dc_of (dc_is.Down component) = record { up = false; dc = component }

-- a side, which has its component at every moment
abbrev pub tc_in : {D : Type 0} → Option (TransactionComponent D) → TcSide
tc_in (Some component) = tc_of component
tc_in None = record { up = false; tc = fresh_tc unused }

abbrev pub dc_in : {D P : Type 0} → Option (DataComponent D P) → DcSide
dc_in (Some component) = dc_of component
dc_in None = record { up = false; dc = fresh_dc unused unused }
