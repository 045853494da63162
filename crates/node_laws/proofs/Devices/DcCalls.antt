-- What the calls of the data component leave where its devices don't fail.
use Rattle.std.proofs.Common.{◌≡◌, ℕ, Bool, true, false, List, [], ◌∷◌, Option, Some, None, refl, sym, ap, ◌∙◌, subst, inl, inr, true≢false}
use Rattle.std.specs.Prelude.{Result, Ok, Err, nat_le, if◌then◌else◌}
use Rattle.std.proofs.lemmas.Bool.{cases_Bool, MatchBool-at_true, MatchBool-at_false}
use Rattle.record_key.specs.Table.{Bytes, key_of}
use Rattle.record_key.specs.declared.refusal.Refusal.{Refusal}
use Rattle.record_key.specs.declared.refusal.Refusal.TheVariants.{Device, NoMemory, NotNow}
use Rattle.stable.specs.Usage.{Usage, called_often}
use Rattle.stable.specs.PagesState.{Pages}
use Rattle.dc_leaf.specs.Leaf.{LeafView}
use Rattle.dc_leaf.specs.Tops.{is_within, all_within}
use Rattle.dc_tree.specs.Leaves.{leaf_at, place_at}
use Rattle.codec.specs.declared.request.Request.{Request}
use Rattle.codec.specs.declared.request.Request.TheVariants as asks
use Rattle.codec.specs.declared.reply.Reply.{Reply}
use Rattle.dc_core.specs.dc_store.specs.SystemView.{SystemView}
use Rattle.dc_core.specs.dc_store.specs.Uses.{StopsWithin, StopsOpening, page_calls}
use Rattle.framed_log.specs.Refused.{refused_use}
use Rattle.dc_core.specs.dc_store.specs.Changes.{split_to, merged_to, covered, written_to, written_all, lowered, taken_back, accepted, forced}
use Rattle.dc_core.specs.dc_store.specs.Gives.{Splits, Merges, StopsAppend, SplitGives, MergeGives, TendGives, FlushGives, StopsWriting, CheckpointGives, StopsCheckpoint, AcceptGives, Tending, SplitsAt, MergesAt, Rests, tending, TendsTo, StopsTending, FailsWriting, FailsAmong, append_refusal, make_refusal}
use Rattle.dc_core.specs.dc_store.specs.declared.tended.Neighbours.{Neighbours}
use Rattle.dc_core.specs.dc_store.specs.declared.tended.Tended.{Tended}
use Rattle.dc_core.specs.dc_store.specs.declared.tended.Tended.TheVariants as tended
use Rattle.dc_core.specs.DcView.{DcView, captures_at}
use Rattle.dc_core.specs.Serves.{runs, connected, knows, performs, Serves, Stops, StopsUnless, ServeGives, serve_refusal}
use Rattle.dc_core.specs.Tends.{may_merge, IsNotNow, SplitsTo, MergesTo, TendsTo as TendsDcTo, FlushesTo}
use Rattle.node_laws.specs.Component.{IsDownWith, IsUp, LacksDevice}
use Rattle.node_laws.specs.Sound.{IsSound}
use Rattle.node_laws.proofs.Devices.Causes.{sound_called, sound_often, not_due, is_foreign, IsOther, may_other, append_other, make_other, split_other, merge_other, serve_other}
use Rattle.node_laws.proofs.Devices.TcCalls.{sound_opened}

-- both devices are sound
pub record AreSound (v : SystemView) : Type 0 where
  pub log : IsSound v.log_usage
  pub pages : IsSound v.page_usage

pub sound_as : (new v : SystemView) → new ≡ v → AreSound v → AreSound new
sound_as new v same s = subst AreSound (sym same) s

-- a call is refused for something else, and they are sound still
pub record Ends (r : Refusal) (new : SystemView) : Type 0 where
  pub other : is_foreign r ≡ false
  pub sound : AreSound new

-- what a call that gave this leaves
abbrev pub Leaves : {T : Type 0} → Result T Refusal → SystemView → Type 0
Leaves (Ok x) new = AreSound new
Leaves (Err r) new = Ends r new

-- ---- one call of a device

refused_same : (u : Usage) (r : Refusal) → is_foreign r ≡ false → refused_use u r ≡ u
refused_same u Device h = absurd (true≢false h)
refused_same u _ h = refl

ends_append : (cause : Option Refusal) (old : SystemView) (r : Refusal) (new : SystemView) → AreSound old
    → IsOther cause → StopsAppend cause old r new → Ends r new
ends_append cause old r new s o h =
    let other = may_other cause old.log_usage r s.log o h.0 h.2 in
    record {
      other = other;
      sound = sound_as new _ h.1
          (record { log = subst IsSound (sym (refused_same old.log_usage r other)) s.log; pages = s.pages });
    }

-- a refusal for another cause, by which nothing has changed
ends_same : (old : SystemView) (r : Refusal) (new : SystemView) (cause : Refusal) → is_foreign cause ≡ false
    → AreSound old → (r ≡ cause) × (new ≡ old) → Ends r new
ends_same old r new cause other s h = record { other = ap is_foreign h.0 ∙ other; sound = sound_as new old h.1 s }

-- ---- splits and merges

splits : (old : SystemView) (p : ℕ) (pair : Neighbours) (new : SystemView) → AreSound old → Splits old p pair new
    → AreSound new
splits old p pair new s h =
    sound_as new (split_to old p) h.after (record { log = sound_called old.log_usage s.log; pages = s.pages })

merges : (old : SystemView) (p : ℕ) (pair : Neighbours) (new : SystemView) → AreSound old → Merges old p pair new
    → AreSound new
merges old p pair new s h =
    sound_as new (merged_to old p) h.after (record { log = sound_called old.log_usage s.log; pages = s.pages })

sound_split : (old : SystemView) (k : Bytes) (known : ℕ) (result : Result Neighbours Refusal) (new : SystemView)
    → AreSound old
    → SplitGives old k known result new → Leaves result new
sound_split old k known (Ok pair) new s h = splits old (place_at old.leaves k) pair new s h.1
sound_split old k known (Err r) new s h = ends_append _ old r new s (split_other old k known) h

sound_merge : (old : SystemView) (k : Bytes) (known : ℕ) (result : Result Neighbours Refusal) (new : SystemView)
    → AreSound old
    → MergeGives old k known result new → Leaves result new
sound_merge old k known (Ok pair) new s h = merges old (place_at old.leaves k) pair new s h.1
sound_merge old k known (Err r) new s h = ends_append _ old r new s (merge_other old k known) h

tends : (old : SystemView) (known : ℕ) (what : Tending) (given : Tended) (new : SystemView) → AreSound old
    → TendsTo known old what given new → AreSound new
tends old known (SplitsAt p) (tended.Split pair) new s h = splits old p pair new s h.1
tends old known (SplitsAt p) (tended.Merged pair) new s h = absurd h
tends old known (SplitsAt p) tended.Nothing new s h = absurd h
tends old known (MergesAt p) (tended.Merged pair) new s h = merges old p pair new s h.1
tends old known (MergesAt p) (tended.Split pair) new s h = absurd h
tends old known (MergesAt p) tended.Nothing new s h = absurd h
tends old known Rests tended.Nothing new s h = sound_as new old h s
tends old known Rests (tended.Split pair) new s h = absurd h
tends old known Rests (tended.Merged pair) new s h = absurd h

ends_tending : (old : SystemView) (what : Tending) (r : Refusal) (new : SystemView) → AreSound old
    → StopsTending old what r new → Ends r new
ends_tending old (SplitsAt p) r new s h = ends_append (make_refusal old) old r new s (make_other old) h
ends_tending old (MergesAt p) r new s h = ends_append (append_refusal old) old r new s (append_other old) h
ends_tending old Rests r new s h = absurd h

sound_tend : (old : SystemView) (merges : Bool) (known : ℕ) (result : Result Tended Refusal) (new : SystemView)
    → AreSound old
    → TendGives old merges known result new → Leaves result new
sound_tend old merges known (Ok what) new s h = tends old known (tending old merges known) what new s h
sound_tend old merges known (Err r) new s h = ends_tending old (tending old merges known) r new s h

-- ---- writes

sound_forced : (v : SystemView) → AreSound v → AreSound (forced v)
sound_forced v s = record { log = sound_called v.log_usage s.log; pages = s.pages }

sound_covered : (v : SystemView) (leaf : LeafView) → AreSound v → AreSound (covered v leaf)
sound_covered v leaf s = by (nat_le leaf.last v.stable)
  where
    by : (b : Bool) → AreSound (if b then v else forced v)
    by true = s
    by false = sound_forced v s

sound_written : (v : SystemView) (leaf : LeafView) → AreSound v → AreSound (written_to v leaf)
sound_written v leaf s =
    record { log = (sound_covered v leaf s).log; pages = sound_called v.page_usage s.pages }

no_failed_write : (v : SystemView) (leaf : LeafView) (new : SystemView) → AreSound v → FailsWriting v leaf new → ⊥
no_failed_write v leaf new s (inl force) = not_due v.log_usage s.log force.1.1
no_failed_write v leaf new s (inr write) =
    not_due (covered v leaf).page_usage (sound_covered v leaf s).pages write.1

sound_flush : (old : SystemView) (k : Bytes) (known : ℕ) (result : Result ℕ Refusal) (new : SystemView) → AreSound old
    → FlushGives old k known result new → Leaves result new
sound_flush old k known (Ok id) new s h =
    sound_as new (written_to old (leaf_at old.leaves k)) h.after (sound_written old (leaf_at old.leaves k) s)
sound_flush old k known (Err r) new s h =
    elim (cases_Bool (is_within known (leaf_at old.leaves k))) [
      | inl within ↦ stops (MatchBool-at_true _ _ within h)
      | inr above ↦ ends_same old r new NotNow refl s (MatchBool-at_false _ _ above h)
    ]
  where
    stops : StopsWriting old (leaf_at old.leaves k) r new → Ends r new
    stops (inl h) = ends_same old r new NoMemory refl s h
    stops (inr h) = absurd (no_failed_write old (leaf_at old.leaves k) new s h.1)

sound_all_written : (v : SystemView) (leaves : List LeafView) → AreSound v → AreSound (written_all v leaves)
sound_all_written v [] s = s
sound_all_written v (leaf ∷ leaves) s =
    sound_all_written (written_to v leaf) leaves (sound_written v leaf s)

no_failed_writes : (v : SystemView) (leaves : List LeafView) (new : SystemView) → AreSound v
    → FailsAmong v leaves new → ⊥
no_failed_writes v [] new s h = h
no_failed_writes v (leaf ∷ leaves) new s (inl h) = no_failed_write v leaf new s h
no_failed_writes v (leaf ∷ leaves) new s (inr h) =
    no_failed_writes (written_to v leaf) leaves new (sound_written v leaf s) h.1

sound_lowered : (v : SystemView) (l : ℕ) → AreSound v → AreSound (lowered v l)
sound_lowered v l s = record { log = s.log; pages = s.pages }

sound_checkpoint : (old : SystemView) (l known : ℕ) (result : Result Unit Refusal) (new : SystemView) → AreSound old
    → CheckpointGives old l known result new → Leaves result new
sound_checkpoint old l known (Ok u) new s h =
    sound_as new _ h.after (sound_all_written (lowered old l) (lowered old l).leaves (sound_lowered old l s))
sound_checkpoint old l known (Err r) new s h =
    elim (cases_Bool (all_within known old.leaves)) [
      | inl within ↦ stops (MatchBool-at_true _ _ within h)
      | inr above ↦ ends_same old r new NotNow refl s (MatchBool-at_false _ _ above h)
    ]
  where
    stops : StopsCheckpoint old l r new → Ends r new
    stops (inl h) = ends_same old r new NoMemory refl s h
    stops (inr h) = absurd (no_failed_writes (lowered old l) (lowered old l).leaves new (sound_lowered old l s) h.1)

sound_back : (v : SystemView) (end : ℕ) → AreSound v → AreSound (taken_back v end)
sound_back v end s = record { log = s.log; pages = s.pages }

sound_accepted : (v : SystemView) (session : ℕ) → AreSound v → AreSound (accepted v session)
sound_accepted v session s = record { log = sound_called v.log_usage s.log; pages = s.pages }

ends_accepting : (old : SystemView) (session end : ℕ) (r : Refusal) (new : SystemView) → AreSound old
    → AcceptGives old session end (Err r) new → Ends r new
ends_accepting old session end r new s (inl h) = ends_append (append_refusal old) old r new s (append_other old) h
ends_accepting old session end r new s (inr h) =
    absurd (not_due (accepted old session).log_usage (sound_accepted old session s).log h.2.1)

-- ---- the component

pub parted : (old new : DcView) (k : Bytes) (result : Result Neighbours Refusal) → AreSound old.system
    → SplitsTo old k result new → Leaves result new.system
parted old new k result s h = sound_split old.system k old.known result new.system s h.0

pub joined : (old new : DcView) (k : Bytes) (result : Result Neighbours Refusal) → AreSound old.system
    → MergesTo old k result new → Leaves result new.system
joined old new k result s h = by (may_merge old) refl
  where
    refused : (result : Result Neighbours Refusal) → IsNotNow old result new → Leaves result new.system
    refused (Ok pair) h = cc
    refused (Err r) h = record {
      other = ap is_foreign_in h.0;
      sound = subst (λ (x : DcView). AreSound x.system) (sym h.1) s;
    }
      where
        is_foreign_in : Result Neighbours Refusal → Bool
        is_foreign_in (Ok pair) = false
        is_foreign_in (Err x) = is_foreign x

    by : (b : Bool) → may_merge old ≡ b → Leaves result new.system
    by true may = sound_merge old.system k old.known result new.system s (MatchBool-at_true _ _ may h).0
    by false may = refused result (MatchBool-at_false _ _ may h)

pub kept_up : (old new : DcView) (result : Result Tended Refusal) → AreSound old.system → TendsDcTo old result new
    → Leaves result new.system
kept_up old new result s h = sound_tend old.system (may_merge old) old.known result new.system s h.0

pub flushed : (old new : DcView) (k : Bytes) (result : Result ℕ Refusal) → AreSound old.system
    → FlushesTo old k result new → Leaves result new.system
flushed old new k result s h = sound_flush old.system k old.known result new.system s h.0

-- ---- requests

dc_as : (new dc : DcView) → new ≡ dc → AreSound dc.system → AreSound new.system
dc_as new dc same s = subst (λ (x : DcView). AreSound x.system) (sym same) s

serves_soundly : (old new : DcView) (q : Request) (reply : Option Reply) → AreSound old.system
    → Serves old q reply new → AreSound new.system
serves_soundly old new (asks.Connect session end) reply s h = by (runs old session) refl
  where
    by : (b : Bool) → runs old session ≡ b → AreSound new.system
    by true is = dc_as new old (MatchBool-at_true _ _ is h.1) s
    by false is =
        dc_as new (connected old session end) (MatchBool-at_false _ _ is h.1)
        (sound_back (forced (accepted old.system session)) end
        (sound_forced (accepted old.system session) (sound_accepted old.system session s)))
serves_soundly old new (asks.Perform session n stable o) reply s h = by (captures_at old (key_of o) n) refl
  where
    by : (b : Bool) → captures_at old (key_of o) n ≡ b → AreSound new.system
    by true is = dc_as new (knows old stable) (MatchBool-at_true _ _ is h).1 s
    by false is =
        dc_as new (knows (performs old n o) stable) (MatchBool-at_false _ _ is h).1
        (record { log = s.log; pages = s.pages })
serves_soundly old new (asks.Get session r k) reply s h = dc_as new old h.1 s
serves_soundly old new (asks.Scan session r lo hi) reply s h = dc_as new old h.1 s
serves_soundly old new (asks.LowWater session l) reply s h = dc_as new _ h.1 (sound_lowered old.system l s)
serves_soundly old new (asks.Checkpoint session l) reply s h =
    sound_checkpoint old.system l old.known (Ok tt) new.system s h.1
serves_soundly old new (asks.RedoEnd session) reply s h = dc_as new _ h.1 s
serves_soundly old new (asks.StableEnd session stable) reply s h = dc_as new (knows old stable) h.1 s

stops_soundly : (old new : DcView) (q : Request) (r : Refusal) → AreSound old.system → Stops old q r new
    → Ends r new.system
stops_soundly old new (asks.Connect session end) r s h = ends_accepting old.system session end r new.system s h.1
stops_soundly old new (asks.Perform session n stable o) r s h =
    record { other = ap is_foreign h.1.0; sound = dc_as new old h.1.1 s }
stops_soundly old new (asks.Scan session n lo hi) r s h =
    record { other = ap is_foreign h.0; sound = dc_as new old h.1 s }
stops_soundly old new (asks.Checkpoint session l) r s h =
    sound_checkpoint old.system l old.known (Err r) new.system s h.0
stops_soundly old new (asks.Get session n k) r s h = absurd h
stops_soundly old new (asks.LowWater session l) r s h = absurd h
stops_soundly old new (asks.RedoEnd session) r s h = absurd h
stops_soundly old new (asks.StableEnd session stable) r s h = absurd h

stops_unless : (cause : Option Refusal) (old new : DcView) (q : Request) (r : Refusal) → AreSound old.system
    → IsOther cause → StopsUnless cause old q r new → Ends r new.system
stops_unless (Some c) old new q r s o h =
    record { other = ap is_foreign h.0 ∙ o; sound = dc_as new old h.1 s }
stops_unless None old new q r s o h = stops_soundly old new q r s h

pub served : (old new : DcView) (q : Request) (result : Result (Option Reply) Refusal) → AreSound old.system
    → ServeGives old q result new → Leaves result new.system
served old new q (Ok reply) s h = serves_soundly old new q reply s h.1
served old new q (Err r) s h = stops_unless (serve_refusal old q) old new q r s (serve_other old q) h

-- ---- restarts

pub restarted_up : (old new : DcView) → AreSound old.system → IsUp old new → AreSound new.system
restarted_up old new s h = record {
  log = sound_opened old.system.log_usage new.system.log_usage s.log h.log;
  pages = subst IsSound (sym h.pages) (sound_often (page_calls old.system.pages) old.system.page_usage s.pages);
}

stopped_within : (most : ℕ) (r : Refusal) (old new : Usage) → IsSound old → LacksDevice r
    → StopsWithin most r old new → is_foreign r ≡ false
stopped_within most r old new s (inl memory) h = ap is_foreign memory
stopped_within most r old new s (inr device) h =
    absurd (not_due (called_often h.calls old) (sound_often h.calls old s) (h.due device))

stopped_opening : (r : Refusal) (pages : Pages) (log log' paged paged' : Usage) → IsSound log → IsSound paged
    → LacksDevice r → StopsOpening r pages log log' paged paged'
    → (is_foreign r ≡ false) × IsSound log' × IsSound paged'
stopped_opening r pages log log' paged paged' s p lacks (inl h) =
    let other = stopped_within (page_calls pages) r paged paged' p lacks h.1 in
    let calls : ℕ = h.1.calls in (
      other,
      subst IsSound (sym h.0) (sound_called log s),
      subst IsSound (sym (h.1.after ∙ refused_same (called_often calls paged) r other)) (sound_often calls paged p),
    )
stopped_opening r pages log log' paged paged' s p lacks (inr h) =
    let other = stopped_within 1 r log log' s lacks h.1 in absurd (true≢false (sym (ap is_foreign h.0) ∙ other))

pub restarted_down : (old new : DcView) (r : Refusal) → AreSound old.system → IsDownWith old r new
    → Ends r new.system
restarted_down old new r s h =
    let e = stopped_opening r old.system.pages old.system.log_usage new.system.log_usage old.system.page_usage
    new.system.page_usage s.log s.pages h.lacks h.used in
    record { other = e.0; sound = record { log = e.1; pages = e.2 } }
