-- A node that is made of an opened log and a data component of no records.
use Rattle.std.proofs.Common.{◌≡◌, ℕ, ◌+◌, ◌<◌, List, [], ◌∷◌, length, Bool, true, false, cond, Option, Some, None, refl, sym, ◌∙◌, arith, inl}
use Rattle.std.specs.Ordering.{nat_cmp}
use Rattle.std.specs.Cmp.Lexicographic.{slice_cmp}
use Rattle.std.specs.FinMap.{get-empty}
use Rattle.std.specs.FinMap as map
use Rattle.std.proofs.lemmas.Bool.Decides.{nat_tests}
use Rattle.std.proofs.lemmas.Bool.{true≢false}
use Rattle.record_key.specs.declared.op.Op.{Op}
use Rattle.record_key.specs.Table.{Bytes}
use Rattle.history.specs.declared.record.Record.{Record}
use Rattle.history.specs.Log.{request_of}
use Rattle.history.specs.Honest.{Numbered, numbered_with, numbered_on, LeavesOutAdds, value_of}
use Rattle.history.specs.Values.{is_on, HasRightAnswers}
use Rattle.dc_ab_lsn.specs.AbLsn.{captures}
use Rattle.dc_leaf.specs.Leaf.{LeafView, first}
use Rattle.dc_recovery.specs.Ready.{IsHonestTo}
use Rattle.stable.specs.Usage.{Usage}
use Rattle.dc_core.specs.dc_store.specs.Devices.{pages_of}
use Rattle.dc_core.specs.dc_store.proofs.Recoverable.{recoverable_fresh}
use Rattle.dc_core.specs.DcView.{fresh_dc}
use Rattle.dc_core.specs.Kept.{IsDc}
use Rattle.dc_core.proofs.Checked.{fresh_checked}
use Rattle.tc_core.specs.declared.phase.Phase.TheVariants as phase
use Rattle.tc_core.specs.Kept.{IsTc}
use Rattle.tc_core.specs.TcView.{TcView}
use Rattle.tc_core.proofs.Low.{may_none}
use Rattle.framed_log.specs.Beginning.{beginning}
use Rattle.node_laws.specs.Node.{joined}
use Rattle.node_laws.specs.Kept.{IsKept, IsAnsweredTo}
use Rattle.node_laws.specs.Source.{own}
use Rattle.node_laws.proofs.Invariant.LastRecord.{last_within}

-- a leaf that has captured nothing is honest for any log
captures_none : (n : ℕ) → 0 < n → captures first.ab n ≡ false
captures_none n some = grind (arith, nat_tests, some)

none_left_out : (k : Bytes) (n : ℕ) (o : Option Op) (done : List Numbered) → 0 < n
    → LeavesOutAdds (captures first.ab) done
    → LeavesOutAdds (captures first.ab) (numbered_with k n o done)
none_left_out k n None done some rest = rest
none_left_out k n (Some o) done some rest = by (is_on k o)
  where
    by : (b : Bool) → LeavesOutAdds (captures first.ab) (cond b (record { number = n; op = o } ∷ done) done)
    by true = (λ captured. absurd (true≢false (sym captured ∙ captures_none n some)), rest)
    by false = rest

left_out : (k : Bytes) (log : List Record) → LeavesOutAdds (captures first.ab) (numbered_on k log)
left_out k [] = tt
left_out k (r ∷ log) =
    none_left_out k (length log + 1) (request_of r) (numbered_on k log) (omega arith) (left_out k log)

no_value : (k : Bytes) (n : ℕ) (o : Option Op) (done : List Numbered) → 0 < n
    → None ≡ value_of (captures first.ab) done
    → None ≡ value_of (captures first.ab) (numbered_with k n o done)
no_value k n None done some rest = rest
no_value k n (Some o) done some rest = by (is_on k o)
  where
    by : (b : Bool)
        → None ≡ value_of (captures first.ab) (cond b (record { number = n; op = o } ∷ done) done)
    by true = rw (captures_none n some) rest
    by false = rest

nothing : (k : Bytes) (log : List Record) → None ≡ value_of (captures first.ab) (numbered_on k log)
nothing k [] = refl
nothing k (r ∷ log) = no_value k (length log + 1) (request_of r) (numbered_on k log) (omega arith) (nothing k log)

first_honest : (log : List Record) (end : ℕ) → IsHonestTo log end first
first_honest log end = record {
  honest = record {
    at = λ k within. record {
      left_out = left_out k log;
      right = get-empty (slice_cmp nat_cmp) k ∙ nothing k log;
    };
    saved = tt;
  };
  within = λ n captured. grind (arith, nat_tests, captured);
}

-- it keeps what a node keeps
pub kept_joined : (w : TcView) (log_usage page_usage : Usage) → IsTc w → HasRightAnswers w.log
    → w.stable ≡ length w.log → w.session ≡ 0 → w.phase ≡ phase.Unconnected → w.checkpointed ≡ 0
    → IsDc (fresh_dc log_usage page_usage)
    → IsKept (joined w (fresh_dc log_usage page_usage))
kept_joined w log_usage page_usage tc right stable session unconnected unchecked dc = record {
  tc = tc;
  right = right;
  dc = dc;
  recoverable = recoverable_fresh log_usage page_usage;
  source = own w;
  from = inl refl;
  true_to = record {
    leaves = ((first_honest w.log w.stable).honest, tt);
    low = (low_answered, tt);
    written = record {
      first_leaf = first_honest w.log w.stable;
      page = λ id page h. absurd (no_page id page h);
      logged = tt;
    };
    written_low = record {
      first_leaf = low_answered;
      page = λ id page h. absurd (no_page id page h);
      logged = tt;
    };
  };
  performed = tt;
  answered = λ may. absurd (cc);
  sent = tt;
  given = tt;
  sessions = record {
    begun = record { recorded = omega arith; most = λ some. omega (arith, some, session) };
    served = rw unconnected tt;
  };
  checked = rw unchecked (fresh_checked log_usage page_usage);
  known = omega arith;
  opened = omega arith;
  quiet = λ waits. omega (arith, last_within w.log, stable);
}
  where
    low_answered : IsAnsweredTo w 0
    low_answered = may_none (beginning w.log w.stable)

    no_page : (id : ℕ) (page : LeafView) → pages_of map.empty id ≡ Some page → ⊥
    no_page id page h = let none : None ≡ Some page = rw (get-empty nat_cmp id) at h in absurd (cc)
