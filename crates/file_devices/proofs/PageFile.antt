-- The file of a page, taken apart.
use Rattle.std.proofs.Common.{◌≡◌, ℕ, ◌≤◌, List, ◌++◌, length, take, drop, refl, sym, ap, ◌∙◌, subst, arith}
use Rattle.std.proofs.Math.Seq.{take-append_seam, drop-append_seam}
use Rattle.std.proofs.lemmas.List.{length-append}
use Rattle.log_blocks.specs.Blocks.{number, fields, head_at}
use Rattle.file_devices.specs.PageFile.{page_bytes}

length-head : (store id : ℕ) (image : List ℕ) → length (head_at store id image) ≡ 32
unfolding number fields
length-head store id image = refl

pub is_long : (store id : ℕ) (image file : List ℕ) → file ≡ page_bytes store id image → 32 ≤ length file
is_long store id image file is =
    omega (arith, ap length is, length-append (head_at store id image) image, length-head store id image)

pub begins : (store id : ℕ) (image file : List ℕ) → file ≡ page_bytes store id image
    → take 32 file ≡ head_at store id (drop 32 file)
begins store id image file is =
    let head = head_at store id image in
    let front : take 32 (head ++ image) ≡ head =
    ap (λ n. take n (head ++ image)) (sym (length-head store id image)) ∙ take-append_seam head image in
    let back : drop 32 (head ++ image) ≡ image =
    ap (λ n. drop n (head ++ image)) (sym (length-head store id image)) ∙ drop-append_seam head image in
    subst (λ (f : List ℕ). take 32 f ≡ head_at store id (drop 32 f)) (sym is) (front ∙ ap (head_at store id) (sym back))
