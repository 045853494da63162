-- Room for the images of leaves, made before anything is written.
use Rattle.std.specs.Prelude.{◌≡◌, ℕ, ◌≤◌, Bool, true, List, length}
use Rattle.std.specs.List.{AllByRecursion}
use Rattle.codec.specs.Images.{image_bytes}
use Rattle.dc_leaf.specs.Leaf.{LeafView}
use Rattle.dc_recovery.specs.Images.{image_of}

abbrev pub image_len : LeafView → ℕ
image_len leaf = length (image_bytes (image_of leaf))

-- there is room for the leaf's image where images are spelled, and in its page, there for any that is no longer
pub record HasRoom (pages : ℕ → ℕ → Bool) (spelling : ℕ) (leaf : LeafView) : Type 0 where
  pub spelled : image_len leaf ≤ spelling
  pub page : (n : ℕ) → n ≤ image_len leaf → pages leaf.id n ≡ true

abbrev pub HaveRoom : (ℕ → ℕ → Bool) → ℕ → List LeafView → Type 0
HaveRoom pages spelling leaves = AllByRecursion (HasRoom pages spelling) leaves
