-- What an output tells a transaction, and the line that it is.
use Rattle.std.proofs.Common.{◌≡◌, ℕ, ◌==◌, Bool, true, false, Some, refl, ap, sym, ◌∙◌}
use Rattle.std.specs.Option.{option_map}
use Rattle.history.specs.History.{is_among}
use Rattle.engine_history.specs.node_laws.specs.declared.event.Out.{Out}
use Rattle.engine_history.specs.node_laws.specs.declared.event.Out.TheVariants as out
use Rattle.engine_history.specs.Sessions.{ends, line_to, only_if}
use Rattle.engine_guarded.specs.declared.heard.Heard.{Heard}
use Rattle.engine_guarded.specs.declared.heard.Heard.TheVariants as heard
use Rattle.engine_guarded.specs.Hearing.{as_line, heard_if, heard_to, is_end}

if_so : (t : ℕ) (b : Bool) (h : Heard) → option_map (as_line t) (heard_if b h) ≡ only_if b (as_line t h)
if_so t true h = refl
if_so t false h = refl

-- where the transactions are the same one the line is
same_txn : (u t : ℕ) (h : Heard) → only_if (u == t) (as_line t h) ≡ only_if (u == t) (as_line u h)
same_txn u t h = at (u == t) refl
  where
    at : (b : Bool) → (u == t) ≡ b → only_if b (as_line t h) ≡ only_if b (as_line u h)
    at true is = ap (λ (n : ℕ). Some (as_line n h)) (sym (Rattle.std.proofs.Common.eqb→eq u t (Rattle.std.proofs.Common.subst (lib.Dec.T) (sym is) tt)))
    at false is = refl

pub tells : (t : ℕ) (o : Out) → option_map (as_line t) (heard_to t o) ≡ line_to t o
tells t (out.Answered u a) = if_so t (u == t) (heard.Answer a) ∙ same_txn u t (heard.Answer a)
tells t (out.Row u value) = if_so t (u == t) (heard.Row value) ∙ same_txn u t (heard.Row value)
tells t (out.Rows u rows) = if_so t (u == t) (heard.Rows rows) ∙ same_txn u t (heard.Rows rows)
tells t (out.Back u s) = if_so t (u == t) (heard.Back s) ∙ same_txn u t (heard.Back s)
tells t (out.RolledBack u) = if_so t (u == t) heard.RolledBack ∙ same_txn u t heard.RolledBack
tells t (out.Lost u) = if_so t (u == t) heard.Lost ∙ same_txn u t heard.Lost
tells t (out.Stable end committed) = if_so t (is_among t committed) heard.Committed
tells t (out.Connects i committed) = if_so t (is_among t committed) heard.Committed
tells t _ = refl

pub end_is : (t : ℕ) (h : Heard) → ends (as_line t h) ≡ is_end h
end_is t (heard.Answer a) = refl
end_is t (heard.Row value) = refl
end_is t (heard.Rows rows) = refl
end_is t (heard.Back s) = refl
end_is t heard.RolledBack = refl
end_is t heard.Committed = refl
end_is t heard.Lost = refl
