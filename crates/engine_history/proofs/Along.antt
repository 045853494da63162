-- What the entries give of each component, one step on, and how both together are a run of the node.
use Rattle.std.proofs.Common.{◌≡◌, ℕ, ◌+◌, Bool, true, false, List, [], ◌∷◌, ◌++◌, Option, Some, None, length, refl, ap, sym, ◌∙◌, subst}
use Rattle.std.proofs.lemmas.Bool.{not-false}
use Rattle.std.specs.Bool.{MatchBool}
use Rattle.std.specs.List.{AllByRecursion}
use Rattle.codec.specs.declared.request.Request.{Request}
use Rattle.codec.specs.declared.reply.Reply.{Reply}
use Rattle.node_sides.specs.node_laws.specs.declared.event.Event.{Event}
use Rattle.node_sides.specs.node_laws.specs.declared.event.Event.TheVariants as event
use Rattle.node_sides.specs.node_laws.specs.Halves.{node_of, also, BringsReply, BringsRequest, IsSpelledIf}
use Rattle.node_sides.specs.node_laws.specs.Kept.{IsKept}
use Rattle.node_sides.specs.node_laws.specs.Node.{NodeView, StepsTo}
use Rattle.node_sides.specs.node_laws.specs.Stepping.{IsStep, Chain}
use Rattle.node_sides.specs.node_laws.proofs.Machine.Headline.{follows}
use Rattle.node_sides.specs.node_laws.proofs.Stood.{chained, silent}
use Rattle.engine_history.specs.declared.step.Step.{Step}
use Rattle.engine_history.specs.Ending.{LeavesNode}
use Rattle.engine_history.specs.Kept.{is_dc, HandsReply, HandsRequest, EntersTc, EntersDc, IsInRun}
use Rattle.engine_history.specs.Steps.{is_tc, events, outs, asked_after, given_after, requests, replies, TcState, DcState, count, TcStep, DcStep, TcAlong, DcAlong, GivesTc, GivesDc, RunsTo, Start, IsStart, node_at, tc_start, dc_start}
use Rattle.engine_history.specs.Views.{Sees}
use Rattle.engine_history.proofs.Lists.{map_match, also_length, request_on, reply_on}

-- ---- one step on

pub tc_along_snoc : (ps : List Reply) (s : TcState) (es : List Step) (t : TcState) (e : Step) (u : TcState)
    → is_tc e ≡ true → TcAlong ps s es t → TcStep (given_after ps es) t e u → TcAlong ps s (es ++ e ∷ []) u
tc_along_snoc ps s [] t e u is a m =
    subst (λ (b : Bool). MatchBool b ((mid : TcState) × TcStep ps s e mid × (mid ≡ u)) (s ≡ u)) (sym is)
    (u, subst (λ (x : TcState). TcStep ps x e u) (sym a) m, refl)
tc_along_snoc ps s (x ∷ es) t e u is a m =
    map_match (is_tc x) (λ r. (r.0, r.1, tc_along_snoc (also ps x.given) r.0 es t e u is r.2 m))
    (λ r. tc_along_snoc (also ps x.given) s es t e u is r m) a

pub dc_along_snoc : (qs : List Request) (s : DcState) (es : List Step) (t : DcState) (e : Step) (u : DcState)
    → is_tc e ≡ false → DcAlong qs s es t → DcStep (asked_after qs es) t e u → DcAlong qs s (es ++ e ∷ []) u
dc_along_snoc qs s [] t e u is a m =
    subst (λ (b : Bool). MatchBool b (s ≡ u) ((mid : DcState) × DcStep qs s e mid × (mid ≡ u))) (sym is)
    (u, subst (λ (x : DcState). DcStep qs x e u) (sym a) m, refl)
dc_along_snoc qs s (x ∷ es) t e u is a m =
    map_match (is_tc x) (λ r. dc_along_snoc (also qs x.sent) s es t e u is r m)
    (λ r. (r.0, r.1, dc_along_snoc (also qs x.sent) r.0 es t e u is r.2 m)) a

tc_still : (ps : List Reply) (s t : TcState) (es : List Step) → AllByRecursion (λ e. is_tc e ≡ false) es → s ≡ t
    → TcAlong ps s es t
tc_still ps s t [] n a = a
tc_still ps s t (e ∷ es) n a =
    subst (λ (b : Bool). MatchBool b ((mid : TcState) × TcStep ps s e mid × TcAlong (also ps e.given) mid es t)
    (TcAlong (also ps e.given) s es t)) (sym n.0) (tc_still (also ps e.given) s t es n.1 a)

dc_still : (qs : List Request) (s t : DcState) (es : List Step) → AllByRecursion (λ e. is_dc e ≡ false) es → s ≡ t
    → DcAlong qs s es t
dc_still qs s t [] n a = a
dc_still qs s t (e ∷ es) n a =
    subst (λ (b : Bool). MatchBool b (DcAlong (also qs e.sent) s es t)
    ((mid : DcState) × DcStep qs s e mid × DcAlong (also qs e.sent) mid es t)) (sym (not-false (is_tc e) n.0))
    (dc_still (also qs e.sent) s t es n.1 a)

-- steps of the other component change nothing
tc_since : (ps : List Reply) (s t : TcState) (es more : List Step) → AllByRecursion (λ e. is_tc e ≡ false) more
    → TcAlong ps s es t → TcAlong ps s (es ++ more) t
tc_since ps s t [] more n a = tc_still ps s t more n a
tc_since ps s t (x ∷ es) more n a =
    map_match (is_tc x) (λ r. (r.0, r.1, tc_since (also ps x.given) r.0 t es more n r.2))
    (λ r. tc_since (also ps x.given) s t es more n r) a

dc_since : (qs : List Request) (s t : DcState) (es more : List Step) → AllByRecursion (λ e. is_dc e ≡ false) more
    → DcAlong qs s es t → DcAlong qs s (es ++ more) t
dc_since qs s t [] more n a = dc_still qs s t more n a
dc_since qs s t (x ∷ es) more n a =
    map_match (is_tc x) (λ r. dc_since (also qs x.sent) s t es more n r)
    (λ r. (r.0, r.1, dc_since (also qs x.sent) r.0 t es more n r.2)) a

pub tc_on : (start : Start) (before now : List Step) (s : TcState) → Sees is_tc before now → GivesTc start before s → GivesTc start now s
tc_on start before now s sees g =
    subst (λ (es : List Step). GivesTc start es s) (sym sees.all) (tc_since [] (tc_start start) s before sees.since sees.none g)

pub dc_on : (start : Start) (before now : List Step) (s : DcState) → Sees is_dc before now → GivesDc start before s → GivesDc start now s
dc_on start before now s sees g =
    subst (λ (es : List Step). GivesDc start es s) (sym sees.all) (dc_since [] (dc_start start) s before sees.since sees.none g)

-- ---- a step that goes on from what was seen goes on from what there is now

reply_brought : (before since : List Step) (e : Event) (reply : Option Reply) → HandsReply e reply
    → BringsReply (replies before) e reply → BringsReply (replies (before ++ since)) e reply
reply_brought before since (event.Reply i) None h b = absurd h
reply_brought before since (event.Reply i) (Some reply) h b = reply_on before since i reply b
reply_brought before since event.Reconnect reply h b = b
reply_brought before since event.Recover reply h b = b
reply_brought before since event.Begin reply h b = b
reply_brought before since (event.Act t op) reply h b = b
reply_brought before since (event.Get t k) reply h b = b
reply_brought before since (event.Scan t low high) reply h b = b
reply_brought before since (event.Save t) reply h b = b
reply_brought before since (event.GoBack t s) reply h b = b
reply_brought before since (event.Rollback t) reply h b = b
reply_brought before since (event.Commit t) reply h b = b
reply_brought before since (event.Undo t) reply h b = b
reply_brought before since event.Force reply h b = b
reply_brought before since (event.Send t) reply h b = b
reply_brought before since (event.LowWater l) reply h b = b
reply_brought before since event.Checkpoint reply h b = b
reply_brought before since event.Tell reply h b = b
reply_brought before since (event.Split k) reply h b = b
reply_brought before since (event.Merge k) reply h b = b
reply_brought before since event.Tend reply h b = b
reply_brought before since (event.Flush k) reply h b = b
reply_brought before since (event.Request i) reply h b = b
reply_brought before since (event.CrashTc frames bytes) reply h b = b
reply_brought before since event.RestartTc reply h b = b
reply_brought before since (event.CrashDc frames bytes) reply h b = b
reply_brought before since event.RestartDc reply h b = b
reply_brought before since (event.FailTc call) reply h b = b
reply_brought before since (event.FailDc device call) reply h b = b

request_brought : (before since : List Step) (e : Event) (request : Option Request) → HandsRequest e request
    → BringsRequest (requests before) e request → BringsRequest (requests (before ++ since)) e request
request_brought before since (event.Request i) None h b = absurd h
request_brought before since (event.Request i) (Some request) h b = request_on before since i request b
request_brought before since event.Reconnect request h b = b
request_brought before since event.Recover request h b = b
request_brought before since event.Begin request h b = b
request_brought before since (event.Act t op) request h b = b
request_brought before since (event.Get t k) request h b = b
request_brought before since (event.Scan t low high) request h b = b
request_brought before since (event.Save t) request h b = b
request_brought before since (event.GoBack t s) request h b = b
request_brought before since (event.Rollback t) request h b = b
request_brought before since (event.Commit t) request h b = b
request_brought before since (event.Undo t) request h b = b
request_brought before since event.Force request h b = b
request_brought before since (event.Send t) request h b = b
request_brought before since (event.LowWater l) request h b = b
request_brought before since event.Checkpoint request h b = b
request_brought before since event.Tell request h b = b
request_brought before since (event.Split k) request h b = b
request_brought before since (event.Merge k) request h b = b
request_brought before since event.Tend request h b = b
request_brought before since (event.Flush k) request h b = b
request_brought before since (event.Reply i) request h b = b
request_brought before since (event.CrashTc frames bytes) request h b = b
request_brought before since event.RestartTc request h b = b
request_brought before since (event.CrashDc frames bytes) request h b = b
request_brought before since event.RestartDc request h b = b
request_brought before since (event.FailTc call) request h b = b
request_brought before since (event.FailDc device call) request h b = b

pub tc_entered : (start : Start) (before now : List Step) (e : Step) (n : TcState) → is_tc e ≡ true → Sees is_tc before now
    → EntersTc start before e n → GivesTc start (now ++ e ∷ []) n
tc_entered start before now e n is sees enters =
    let m = enters.step in
    let brings : BringsReply (replies now) e.event m.reply =
    subst (λ (es : List Step). BringsReply (replies es) e.event m.reply) (sym sees.all)
    (reply_brought before sees.since e.event m.reply enters.handed m.brings) in
    tc_along_snoc [] (tc_start start) now enters.old e n is (tc_on start before now enters.old sees enters.gives)
    (record { reply = m.reply; brings = brings; leads = m.leads; sent = m.sent; none = m.none })

pub dc_entered : (start : Start) (before now : List Step) (e : Step) (n : DcState) → is_tc e ≡ false → Sees is_dc before now
    → EntersDc start before e n → GivesDc start (now ++ e ∷ []) n
dc_entered start before now e n is sees enters =
    let m = enters.step in
    let brings : BringsRequest (requests now) e.event m.request =
    subst (λ (es : List Step). BringsRequest (requests es) e.event m.request) (sym sees.all)
    (request_brought before sees.since e.event m.request enters.handed m.brings) in
    dc_along_snoc [] (dc_start start) now enters.old e n is (dc_on start before now enters.old sees enters.gives)
    (record { request = m.request; brings = brings; leads = m.leads; given = m.given; none = m.none })

-- ---- the whole

abbrev Whole : TcState → DcState → List Request → List Reply → NodeView
Whole s d qs ps = node_of s.side d.side qs ps

record Merged (es : List Step) (from to : NodeView) : Type 0 where
  chain : Chain from (events es) (outs es) to
  kept : IsKept to

abbrev Merges : List Step → TcState → DcState → Type 0
Merges es t u = (s : TcState) (d : DcState) (qs : List Request) (ps : List Reply) → s.sent ≡ length qs
    → d.given ≡ length ps → IsKept (Whole s d qs ps) → TcAlong ps s es t → DcAlong qs d es u
    → Merged es (Whole s d qs ps) (Whole t u (asked_after qs es) (given_after ps es))

stepped : (e : Step) (es : List Step) (old mid to : NodeView) → IsStep old e.event e.out mid → Merged es mid to
    → Merged (e ∷ es) old to
stepped e es old mid to step m = record { chain = (mid, step, m.chain); kept = m.kept }

merge_at : (e : Step) (es : List Step) (t : TcState) (u : DcState) → Merges es t u → (s : TcState) (d : DcState)
    → (qs : List Request) (ps : List Reply) → s.sent ≡ length qs → d.given ≡ length ps → IsKept (Whole s d qs ps)
    → (b : Bool)
    → MatchBool b ((mid : TcState) × TcStep ps s e mid × TcAlong (also ps e.given) mid es t)
    (TcAlong (also ps e.given) s es t)
    → MatchBool b (DcAlong (also qs e.sent) d es u)
    ((mid : DcState) × DcStep qs d e mid × DcAlong (also qs e.sent) mid es u)
    → Merged (e ∷ es) (Whole s d qs ps) (Whole t u (asked_after qs (e ∷ es)) (given_after ps (e ∷ es)))
merge_at e es t u rec s d qs ps sent given k true a b =
    let mid = a.0 in let m = a.1 in
    let none : also ps e.given ≡ ps = ap (also ps) m.none in
    let old = Whole s d qs ps in
    let new = Whole mid d (also qs e.sent) (also ps e.given) in
    let steps : StepsTo old e.event e.out new =
    subst (λ (xs : List Reply). StepsTo old e.event e.out (Whole mid d (also qs e.sent) xs)) (sym none)
    (m.leads.gives d.side qs ps (ap (λ (n : ℕ). n + 1) sent) m.brings) in
    let all = follows old new e.event e.out k m.leads.kept k.dc steps in
    stepped e es old new _ (record { step = steps; leads = all.leads; kept = all.kept })
    (rec mid d (also qs e.sent) (also ps e.given)
    (m.sent ∙ ap (λ (n : ℕ). n + count e.sent) sent ∙ sym (also_length qs e.sent))
    (given ∙ sym (ap length none)) all.kept a.2 b)
merge_at e es t u rec s d qs ps sent given k false a b =
    let mid = b.0 in let m = b.1 in
    let none : also qs e.sent ≡ qs = ap (also qs) m.none in
    let old = Whole s d qs ps in
    let new = Whole s mid (also qs e.sent) (also ps e.given) in
    let steps : StepsTo old e.event e.out new =
    subst (λ (xs : List Request). StepsTo old e.event e.out (Whole s mid xs (also ps e.given))) (sym none)
    (m.leads.gives s.side qs ps (ap (λ (n : ℕ). n + 1) given) m.brings) in
    let all = follows old new e.event e.out k k.tc m.leads.kept steps in
    stepped e es old new _ (record { step = steps; leads = all.leads; kept = all.kept })
    (rec s mid (also qs e.sent) (also ps e.given) (sent ∙ sym (ap length none))
    (m.given ∙ ap (λ (n : ℕ). n + count e.given) given ∙ sym (also_length ps e.given)) all.kept a b.2)

merge : (es : List Step) (t : TcState) (u : DcState) → Merges es t u
merge [] t u s d qs ps sent given k a b =
    let same : Whole t u qs ps ≡ Whole s d qs ps = λ i. Whole (sym a i) (sym b i) qs ps in
    record { chain = same; kept = subst IsKept (sym same) k }
merge (e ∷ es) t u s d qs ps sent given k a b =
    merge_at e es t u (merge es t u) s d qs ps sent given k (is_tc e) a b

-- what the entries give of both components is what some run of the node ends with
pub runs : (start : Start) (es : List Step) (t : TcState) (u : DcState) → IsStart start → GivesTc start es t → GivesDc start es u
    → RunsTo start es (node_of t.side u.side (requests es) (replies es))
runs start es t u is a b =
    let m = merge es t u (tc_start start) (dc_start start) [] [] refl refl is.kept a b in
    let node = node_of t.side u.side (requests es) (replies es) in record {
      chain = m.chain;
      kept = m.kept;
      stood = chained (node_at start) (events es) (outs es) node m.chain is.stood;
      requests = refl;
      replies = refl;
    }

-- and leaves, once its messages are let go
pub leaves_node : (start : Start) (es : List Step) (t : TcState) (u : DcState) → IsStart start → GivesTc start es t → GivesDc start es u
    → LeavesNode start es (node_of t.side u.side [] [])
leaves_node start es t u is a b =
    let node = node_of t.side u.side (requests es) (replies es) in
    let run = runs start es t u is a b in record {
      node = node;
      runs = run;
      left_is = refl;
      is_node = silent node (record { kept = run.kept; stood = run.stood });
    }

pub in_run : (start : Start) (es : List Step) (t : TcState) (u : DcState) → IsStart start → GivesTc start es t → GivesDc start es u
    → IsInRun start es u.side
in_run start es t u is a b =
    record { node = node_of t.side u.side (requests es) (replies es); runs = runs start es t u is a b; dc_is = refl }

-- ---- what was sent has a spelling

spelled_at : (e : Step) (b : Bool) (ps : List Reply) (qs : List Request) (es : List Step) (s t : TcState)
    (d u : DcState)
    → MatchBool b ((mid : TcState) × TcStep ps s e mid × TcAlong (also ps e.given) mid es t)
    (TcAlong (also ps e.given) s es t)
    → MatchBool b (DcAlong (also qs e.sent) d es u)
    ((mid : DcState) × DcStep qs d e mid × DcAlong (also qs e.sent) mid es u)
    → IsSpelledIf e.sent
spelled_at e true ps qs es s t d u a b = a.1.leads.spelled
spelled_at e false ps qs es s t d u a b = subst IsSpelledIf (sym b.1.none) tt

rest_at : (e : Step) (b : Bool) (ps : List Reply) (qs : List Request) (es : List Step) (s t : TcState) (d u : DcState)
    → MatchBool b ((mid : TcState) × TcStep ps s e mid × TcAlong (also ps e.given) mid es t)
    (TcAlong (also ps e.given) s es t)
    → MatchBool b (DcAlong (also qs e.sent) d es u)
    ((mid : DcState) × DcStep qs d e mid × DcAlong (also qs e.sent) mid es u)
    → (x : TcState) × (y : DcState) × TcAlong (also ps e.given) x es t × DcAlong (also qs e.sent) y es u
rest_at e true ps qs es s t d u a b = (a.0, d, a.2, b)
rest_at e false ps qs es s t d u a b = (s, b.0, a, b.2)

spelled_all : (es : List Step) (ps : List Reply) (qs : List Request) (s t : TcState) (d u : DcState)
    → TcAlong ps s es t → DcAlong qs d es u → AllByRecursion (λ (e : Step). IsSpelledIf e.sent) es
spelled_all [] ps qs s t d u a b = tt
spelled_all (e ∷ es) ps qs s t d u a b =
    let rest = rest_at e (is_tc e) ps qs es s t d u a b in (
      spelled_at e (is_tc e) ps qs es s t d u a b,
      spelled_all es (also ps e.given)
          (also qs e.sent) rest.0 t rest.1 u rest.2 rest.3,
    )

pub spelled : (start : Start) (es : List Step) (t : TcState) (u : DcState) → GivesTc start es t → GivesDc start es u
    → AllByRecursion (λ (e : Step). IsSpelledIf e.sent) es
spelled start es t u a b = spelled_all es [] [] (tc_start start) t (dc_start start) u a b
