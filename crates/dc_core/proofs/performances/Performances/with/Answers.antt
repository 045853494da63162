use mathlib.Core.List.{[], ◌++◌}
use Rattle.dc_core.proofs.Lifetimes.{none, themselves, both, no_more, with_three}
use Rattle.dc_core.proofs.performances.Performances.with.Goals as goal

-- the operation names the lifetime of its parts for its key and for each kind of change
pub picked-requires : goal.picked-requires
picked-requires g c κs within =
    let x = κs.1.1.1.1.1.0 in
    let three = x ++ [] ++ [] ++ [] in
    let one = no_more three x (with_three x) in
    let two = both three (three ++ []) x (with_three x) one in
    let changes = no_more (three ++ (three ++ (three ++ []))) x (both three (three ++ (three ++ [])) x (with_three x) two) in (
      none _,
      (none _, (both (x ++ []) (three ++ (three ++ (three ++ [])) ++ []) x (no_more x x (themselves x)) changes, within)),
    )
