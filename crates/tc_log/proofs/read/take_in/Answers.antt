use Rattle.std.proofs.Common.{◌≡◌, ◌∙◌, ℕ, ◌+◌, List, ◌∷◌, sym, ap, subst, arith, length}
use Rattle.history.specs.declared.record.Record.{Record}
use Rattle.history.specs.Legal.{Fits, FitsCheckpoint}
use Rattle.tc_log.specs.NotSession.{last_with}
use Rattle.tc_log.specs.Replay.{IsIndex, TakesIn, Holds, Gains, latest_in, holder_in, adders_of}
use Rattle.tc_log.specs.declared.replay.Index.{Index}
use Rattle.tc_log.proofs.Answered.{answered_longer}
use Rattle.tc_log.proofs.Following.{followed}
use Rattle.tc_log.proofs.read.take_in.Goals as goal

-- what the goals below share: the records grew, and the index follows
index_now : (log log' : List Record) (r : Record) (number : ℕ) (old new : Index) → log' ≡ r ∷ log
    → number ≡ length log' → IsIndex log old → Fits log r
    → TakesIn r number old.analysis new.analysis → Holds r (holder_in old) (holder_in new)
    → Gains r (latest_in new) (adders_of old) (adders_of new)
    → FitsCheckpoint log' new.answered → new.last_not_session ≡ last_with r number old.last_not_session
    → IsIndex log' new
index_now log log' r number old new grown is h fits txns keys adders answered last =
    let Of : List Record → Type 0 = λ l. IsIndex l new in
    let At : List Record → Type 0 = λ l. FitsCheckpoint l new.answered in
    let n : number ≡ length log + 1 = is ∙ ap length grown ∙ omega arith in
    subst Of (sym grown) (followed log r number old new h fits n txns keys adders (subst At grown answered) last)

pub returns-in-Checkpoint-clause-index : goal.returns-in-Checkpoint-clause-index
returns-in-Checkpoint-clause-index g c =
    index_now c.args.frames.now.records c.accept.new.self.records c.args.found.now c.len-2.result c.args.index.now
    (record {
      analysis = c.follow.new.self.analysis;
      holders = c.follow.new.self.holders;
      adders = c.follow.new.self.adders;
      answered = c.answered_from-index.result;
      last_not_session = c.follow.new.self.last_not_session;
    })
    c.in_ok-accept.ensures.records c.len-2.ensures.count c.requires.index
    (c.fits.ensures.0 c.if-not-fits.false)
    c.in_ok-follow.ensures.analysis c.in_ok-follow.ensures.holders c.in_ok-follow.ensures.adders
    c.answered_from-index.ensures.is c.in_ok-follow.ensures.last

pub returns-in_default : goal.returns-in_default
returns-in_default g c = record {
  records = c.in_ok-accept.ensures.records;
  left = c.in_ok-accept.ensures.left;
  device = c.accept.ensures.device;
  room = omega (arith, c.len.ensures.count, c.if-len-ge-LAST_NUMBER.false);
  index =
      let r : Record = c.args.found.now in
      let log : List Record = c.args.frames.now.records in
      let At : List Record → Type 0 = λ l. FitsCheckpoint l c.follow.new.self.answered in
      let known : FitsCheckpoint log c.follow.new.self.answered = let P : ℕ → Type 0 = λ n. FitsCheckpoint log n in
      subst P (sym c.in_ok-follow.ensures.answered) c.requires.index.answered in
      index_now log c.accept.new.self.records r c.len-2.result c.args.index.now c.follow.new.self
      c.in_ok-accept.ensures.records c.len-2.ensures.count c.requires.index
      (c.fits.ensures.0 c.if-not-fits.false)
      c.in_ok-follow.ensures.analysis c.in_ok-follow.ensures.holders c.in_ok-follow.ensures.adders
      (subst At (sym c.in_ok-accept.ensures.records) (answered_longer r log c.follow.new.self.answered known))
      c.in_ok-follow.ensures.last;
  refused = tt;
  one_more = c.in_ok-follow.ensures.one_more;
}
