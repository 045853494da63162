-- The file of a page.
use Rattle.std.specs.Prelude.{ℕ, List, ◌++◌}
use Rattle.log_blocks.specs.Blocks.{head_at}

-- its bytes: the head of a block of version 2 that goes behind so many bytes of a log as the page's number says, and then
-- the image. So an image that belongs to another page or to another store is none of it.
abbrev pub page_bytes : ℕ → ℕ → List ℕ → List ℕ
page_bytes store id image = head_at store id image ++ image
