use Rattle.std.proofs.Common.{◌≡◌, ◌<◌, ◌/◌, ℕ, zero, suc, List, [], ◌∷◌, length, get_or, slice_get, refl, sym, ap, ◌∙◌, arith}
use Rattle.std.proofs.lemmas.Bool.{leb-true}
use Rattle.std.specs.FinMap as map
use Rattle.record_key.specs.Rows.{Row}
use Rattle.dc_leaf.specs.Parting.{upper_of}
use Rattle.dc_leaf.specs.Leaf.{LeafView, first}
use Rattle.dc_tree.specs.Parting.{key_in, count, middle}
use Rattle.dc_tree.proofs.Places.{split_within, split_here}
use Rattle.dc_tree.proofs.planning.plan_split.Goals as goal

pub leaf-leaf-requires : goal.leaf-leaf-requires
leaf-leaf-requires g c =
    split_within (g.L.LeafSet.leaves c.args.leaves.now) c.args.place
    (sym c.may_split.ensures ∙ c.if-not-may_split.false)

pub key-cut-requires : goal.key-cut-requires
key-cut-requires g c =
    let leaves = g.L.LeafSet.leaves c.args.leaves.now in
    let may = sym c.may_split.ensures ∙ c.if-not-may_split.false in
    let two = leb-true 2 (count (get_or leaves c.args.place first))
    (sym (split_here leaves c.args.place (split_within leaves c.args.place may)) ∙ may) in
    rw (c.len.ensures, c.rows-rows.ensures, c.leaf-leaf.ensures) (omega (arith, two))

-- the key of a row that is there
key_there : (rows : List Row) (p : ℕ) (d : Row) → p < length rows → (get_or rows p d).0 ≡ key_in (slice_get rows p)
key_there [] p d within = absurd (omega (arith, within))
key_there (row ∷ rows) zero d within = refl
key_there (row ∷ rows) (suc p) d within = key_there rows p d (omega (arith, within))

pub returns-clause-half : goal.returns-clause-half
returns-clause-half g c =
    let leaves = g.L.LeafSet.leaves c.args.leaves.now in
    let leaf : LeafView = get_or leaves c.args.place first in
    let may = sym c.may_split.ensures ∙ c.if-not-may_split.false in
    let two = leb-true 2 (count leaf)
    (sym (split_here leaves c.args.place (split_within leaves c.args.place may)) ∙ may) in
    let cut : c.key-cut.result ≡ middle leaf =
    c.key-cut.ensures
    ∙ rw (c.len.ensures, c.rows-rows.ensures, c.leaf-leaf.ensures)
    (key_there (map.entries leaf.rows) (count leaf / 2) ([], []) (omega (arith, two))) in
    record {
      left = c.id.ensures ∙ ap (λ (l : LeafView). l.id) c.leaf-leaf.ensures;
      cut = cut;
      right = c.in_ok-right.ensures.ok ∙ c.in_ok-upper.ensures.upper
          ∙ (λ i. upper_of (c.leaf-leaf.ensures i) (cut i) c.args.id c.args.number);
    }
