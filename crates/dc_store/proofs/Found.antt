-- What both devices give, and what is made of it.
use Rattle.std.proofs.Common.{◌≡◌, ◌≢◌, ℕ, List, length, take, refl, sym, ap, ◌∙◌, subst, inl, inr, arith}
use Rattle.std.specs.Prelude.{IsTrue}
use Rattle.std.proofs.lemmas.List.{take_at}
use Rattle.record_key.specs.declared.refusal.Refusal.{Refusal}
use Rattle.record_key.specs.declared.refusal.Refusal.TheVariants.{NoMemory, Device}
use Rattle.dc_tree.specs.Lists.{leaves_in}
use Rattle.codec.specs.declared.dc_record.DcRecord.{DcRecord}
use Rattle.stable.specs.PagesState.{Pages}
use Rattle.stable.specs.Usage.{Usage, is_due, called, failed, called_often}
use Rattle.dc_store.specs.Finding.{AreRead, log_of, RefusesLeaves, IsFound, StopsReading}
use Rattle.dc_store.specs.Kept.{IsSystem}
use Rattle.dc_store.specs.Paging.{RefusesPages}
use Rattle.dc_store.specs.Recovering.{AreOwnPages, Recovers, RefusesFrames, RefusesRecovery}
use Rattle.dc_store.specs.SystemView.{SystemView}
use Rattle.dc_store.specs.Devices.{spelled}
use Rattle.dc_store.specs.Uses.{StopsOpening, page_calls}
use Rattle.dc_store.specs.declared.frames.Frames.{Frames}
use Rattle.dc_store.specs.declared.recovering.Recovered.{Recovered}
use Rattle.dc_store.proofs.Used.{unused_so_far, used_all, lacks_memory, stops_beside_none, fails_at_once, fails_after}

-- no device fails where the log's bytes are read
no_device : (bytes : List ℕ) (pages : Pages) (r : Refusal) → RefusesFrames bytes pages r → r ≢ Device
no_device bytes pages r (inl memory) is = absurd (cc)
no_device bytes pages r (inr bad) is = let place = bad.1 in absurd (cc)

-- the log isn't read
pub log_unread : (bytes : List ℕ) (pages : Pages) (r : Refusal) (old new : Usage) → StopsReading bytes r old new
    → RefusesRecovery bytes pages r
log_unread bytes pages r old new (inl device) = inl device.0
log_unread bytes pages r old new (inr frames) = inr (inl (frames.1 pages))

pub unread_stops : (bytes : List ℕ) (pages : Pages) (r : Refusal) (log log' leaves : Usage)
    → StopsReading bytes r log log' → StopsOpening r pages log log' leaves leaves
unread_stops bytes pages r log log' leaves (inl device) =
    inr (device.0, fails_at_once 1 r log log' device.0 device.1 device.2, unused_so_far (page_calls pages) leaves)
unread_stops bytes pages r log log' leaves (inr frames) =
    inl (frames.0, stops_beside_none (page_calls pages) r leaves (no_device bytes pages r (frames.1 pages)))

-- the pages aren't read
pub pages_refused : (pages : Pages) (log : List DcRecord) (count : ℕ) (r : Refusal) → count ≡ length log
    → RefusesPages pages count r → RefusesLeaves pages log r
pages_refused pages log count r same (inl memory) = inl memory
pages_refused pages log count r same (inr (inl device)) = inr (inl device)
pages_refused pages log count r same (inr (inr bad)) =
    inr (inr (bad.0, inl (λ own. bad.1 (subst (AreOwnPages pages) (sym same) own))))

-- or the log's records and the pages give no leaves
pub leaves_refused : (bytes : List ℕ) (pages : Pages) (frames : Frames) (r : Refusal) → AreRead bytes frames
    → RefusesLeaves pages (log_of frames) r → RefusesRecovery bytes pages r
leaves_refused bytes pages frames r read (inl memory) = inr (inl (inl memory))
leaves_refused bytes pages frames r read (inr (inl device)) = inl device
leaves_refused bytes pages frames r read (inr (inr bad)) =
    inr (inr (
      bad.0,
      record {
        log = log_of frames;
        frames = read.held;
        readable = read.readable pages;
        numbered = read.numbered;
        bad = bad.1;
      },
    ))

-- all was read, but what isn't whole isn't cut off
pub uncut_stops : (pages : Pages) (r : Refusal) (log mid log' leaves leaves' : Usage) → r ≡ Device → mid ≡ called log
    → leaves' ≡ called_often (page_calls pages) leaves → IsTrue (is_due mid) → log' ≡ failed mid
    → StopsOpening r pages log log' leaves leaves'
uncut_stops pages r log mid log' leaves leaves' is read paged due after =
    inr (
      is,
      fails_after 1 1 r log mid log' is read (omega arith) due after,
      used_all (page_calls pages) leaves leaves' paged,
    )

-- or there was no memory for the leaves
pub unheld_stops : (pages : Pages) (r : Refusal) (log log' leaves leaves' : Usage) → r ≡ NoMemory → log' ≡ called log
    → leaves' ≡ called_often (page_calls pages) leaves → StopsOpening r pages log log' leaves leaves'
unheld_stops pages r log log' leaves leaves' is read paged =
    inl (read, lacks_memory (page_calls pages) (page_calls pages) r leaves leaves' (omega arith) is paged)

-- the whole frames are the first of the bytes, so many
pub whole_frames : (bytes : List ℕ) (frames : Frames) → AreRead bytes frames
    → take frames.end bytes ≡ spelled (log_of frames)
whole_frames bytes frames read =
    ap (take frames.end) read.held.parts
    ∙ take_at (spelled (log_of frames)) read.held.left frames.end (sym read.end_is)

-- what is opened of it, with devices that were used so
abbrev pub opened : (pages : Pages) (found : Recovered) (log : List DcRecord) (log_usage page_usage : Usage)
    → SystemView
opened pages found log log_usage page_usage = record {
  leaves = leaves_in found.leaves.items;
  log = log;
  stable = length log;
  pages = pages;
  log_usage = log_usage;
  page_usage = page_usage;
}

opened_kept : (bytes : List ℕ) (pages : Pages) (left : List ℕ) (found : Recovered) (is : IsFound bytes pages left found)
    (log_usage page_usage : Usage) → IsSystem (opened pages found is.log log_usage page_usage)
opened_kept bytes pages left found is log_usage page_usage = record {
  leaves = is.recovered.leaves;
  numbers = is.recovered.numbers;
  records = is.held.records;
  numbered = is.numbered;
  named = is.named;
  pages = λ id image there. let page = is.recovered.own id image there in (page.0, page.1);
}

opened_recovers : (bytes : List ℕ) (pages : Pages) (left : List ℕ) (found : Recovered)
    (is : IsFound bytes pages left found) (log_usage page_usage : Usage)
    → Recovers bytes pages (opened pages found is.log log_usage page_usage)
opened_recovers bytes pages left found is log_usage page_usage = record {
  frames = is.held;
  readable = is.readable;
  numbered = is.numbered;
  own = is.recovered.own;
  arranged = is.recovered.arranged;
  stable = refl;
  pages_are = refl;
}

-- what is seen of a system that was opened
pub record IsOpened (pages : Pages) (found : Recovered) (log : List DcRecord) (v : SystemView) : Type 0 where
  pub leaves : v.leaves ≡ leaves_in found.leaves.items
  pub log_is : v.log ≡ log
  pub stable : v.stable ≡ length log
  pub pages_are : v.pages ≡ pages

seen_so : (pages : Pages) (found : Recovered) (log : List DcRecord) (v : SystemView) → IsOpened pages found log v
    → v ≡ opened pages found log v.log_usage v.page_usage
seen_so pages found log v is i = record {
  leaves = is.leaves i;
  log = is.log_is i;
  stable = is.stable i;
  pages = is.pages_are i;
  log_usage = v.log_usage;
  page_usage = v.page_usage;
}

pub open_kept : (bytes : List ℕ) (pages : Pages) (left : List ℕ) (found : Recovered)
    (is : IsFound bytes pages left found) (v : SystemView) → IsOpened pages found is.log v → IsSystem v
open_kept bytes pages left found is v so =
    subst IsSystem (sym (seen_so pages found is.log v so))
    (opened_kept bytes pages left found is v.log_usage v.page_usage)

pub open_recovers : (bytes : List ℕ) (pages : Pages) (left : List ℕ) (found : Recovered)
    (is : IsFound bytes pages left found) (v : SystemView) → IsOpened pages found is.log v → Recovers bytes pages v
open_recovers bytes pages left found is v so =
    subst (Recovers bytes pages) (sym (seen_so pages found is.log v so))
    (opened_recovers bytes pages left found is v.log_usage v.page_usage)
