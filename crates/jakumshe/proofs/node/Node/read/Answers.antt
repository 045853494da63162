use Rattle.std.proofs.Common.{Ok, Err, refl, sym, ap, ◌∙◌, inl, inr, length, reverse, arith}
use Rattle.std.proofs.lemmas.List.{length-reverse}
use Rattle.jakumshe.specs.Calls.{first_end, lists}
use Rattle.jakumshe.specs.declared.fault.Fault.TheVariants.{Refused}
use Rattle.jakumshe.proofs.node.Node.read.Goals as goal

pub returns-in-Err : goal.returns-in-Err
returns-in-Err c = record {
  rows = Err (Refused c.in-Err.refusal);
  tells = inl (c.in-Err.refusal, refl, c.in-Err.ensures.refused);
  keeps = (ap (λ rows. rows.items) c.in-Err.ensures.rows, refl);
}

pub returns-in-Err-rows : goal.returns-in-Err-rows
returns-in-Err-rows c = record {
  rows = Err c.in-Err-rows.fault;
  tells = inr (
    c.in-Ok.told.items,
    c.in-Ok.ensures.told,
    sym c.in-Err-rows.ensures.none ∙ ap (first_end (lists c.args.txn)) c.deref.ensures.value,
  );
  keeps = (ap (λ rows. rows.items) c.in-Ok.ensures.rows, refl);
}

pub returns-in-Ok-to_rows : goal.returns-in-Ok-to_rows
returns-in-Ok-to_rows c = record {
  rows = Ok c.in-Ok-rows.found.now;
  tells = inr (
    c.in-Ok.told.items,
    c.in-Ok.ensures.told,
    sym c.in-Ok-rows.ensures.found ∙ ap (first_end (lists c.args.txn)) c.deref.ensures.value,
  );
  keeps = inl (
    c.reverse.ensures.items ∙ ap reverse c.in-Ok-to_rows.ensures,
    ap Ok (omega (
      arith,
      c.len.ensures,
      c.reverse.new.self.ok,
      ap length c.reverse.ensures.items,
      length-reverse c.in-Ok-to_rows.rows.items,
      ap length c.in-Ok-to_rows.ensures,
    )),
  );
}

pub returns : goal.returns
returns c = record {
  rows = Ok c.in-Ok-rows.found.now;
  tells = inr (
    c.in-Ok.told.items,
    c.in-Ok.ensures.told,
    sym c.in-Ok-rows.ensures.found ∙ ap (first_end (lists c.args.txn)) c.deref.ensures.value,
  );
  keeps = inr (ap (λ rows. rows.items) c.in-Ok.ensures.rows, refl);
}
