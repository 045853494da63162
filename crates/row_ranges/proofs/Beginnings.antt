-- The range of the keys that begin with a text.
use Rattle.std.proofs.Common.{◌≡◌, ◌<◌, ◌≤◌, ℕ, ◌+◌, Bool, true, false, not, List, [], ◌∷◌, ◌++◌, Option, Some, None, refl, sym, ap, ◌∙◌, subst, arith}
use Rattle.std.specs.Prelude.{◌&&◌, nat_lt, IsTrue, if◌then◌else◌}
use Rattle.std.specs.List.{AllByRecursion}
use Rattle.std.specs.Ordering.{nat_cmp, ordering_then, is_lt, MatchOrdering}
use Rattle.std.specs.declared.cmp.Ordering.{Ordering}
use Rattle.std.specs.declared.cmp.Ordering.TheVariants.{Less, Equal, Greater}
use Rattle.std.proofs.lemmas.Bool.{ltb-true, ltb-false}
use Rattle.std.proofs.lemmas.Cmp.{ranked, tied_itself}
use Rattle.std.specs.Cmp.{nat_cmp_is, nat_cmp_total}
use Rattle.record_key.specs.Table.{Bytes}
use Rattle.record_key.specs.Laws.{key_cmp}
use Rattle.record_key.specs.Order.{is_below, ends_above, has_key}
use Rattle.row_ranges.specs.Beginnings.{end_behind, beginning_end, beginnings, IsBeginningsRange}

itself : (x : ℕ) → nat_cmp x x ≡ Equal
itself x = tied_itself nat_cmp_total x

less : (x y : ℕ) → x < y → nat_cmp x y ≡ Less
less x y h = sym (nat_cmp_is x y Less h)

-- a byte that both begin with decides nothing
same_first : (b : ℕ) (ks es : Bytes) → is_below (b ∷ ks) (b ∷ es) ≡ is_below ks es
same_first b ks es = ap (λ (o : Ordering). is_lt (ordering_then o (key_cmp ks es))) (itself b)

-- what begins with a text isn't below it
not_below : (text rest : Bytes) → is_below (text ++ rest) text ≡ false
not_below [] [] = refl
not_below [] (b ∷ bs) = refl
not_below (b ∷ bs) rest = same_first b (bs ++ rest) bs ∙ not_below bs rest

raised : (b : ℕ) (ks : Bytes) (small : Bool) → ends_above (if small then Some ((b + 1) ∷ []) else None) (b ∷ ks) ≡ true
raised b ks true =
    ap (λ (o : Ordering). is_lt (ordering_then o (key_cmp ks []))) (less b (b + 1) (omega arith))
raised b ks false = refl

end_behind_it : (b : ℕ) (ks : Bytes) (end : Option Bytes) → ends_above end ks ≡ true
    → ends_above (end_behind b end) (b ∷ ks) ≡ true
end_behind_it b ks (Some es) h = same_first b ks es ∙ h
end_behind_it b ks None h = raised b ks (nat_lt b 255)

-- and is below the end of the texts that do
before_end : (text rest : Bytes) → ends_above (beginning_end text) (text ++ rest) ≡ true
before_end [] rest = refl
before_end (b ∷ bs) rest = end_behind_it b (bs ++ rest) (beginning_end bs) (before_end bs rest)

both : {p q : Bool} → p ≡ false → q ≡ true → IsTrue (not p && q)
both {p} {q} low high =
    subst (λ (x : Bool). IsTrue (not x && q)) (sym low) (subst (λ (x : Bool). IsTrue x) (sym high) refl)

nothing_below : (ks : Bytes) → is_below ks [] ≡ false
nothing_below [] = refl
nothing_below (k ∷ ks) = refl

-- a key whose byte is greater isn't below its end
at_raised : (b c : ℕ) (ks : Bytes) (o : Ordering) → b < c → MatchOrdering o (c < b + 1) (c ≡ b + 1) (b + 1 < c)
    → is_lt (ordering_then o (key_cmp ks [])) ≡ false
at_raised b c ks Less more lies = let e : c < b + 1 = lies in absurd (omega arith)
at_raised b c ks Equal more lies = nothing_below ks
at_raised b c ks Greater more lies = refl

behind_raised : (b c : ℕ) (ks : Bytes) (small : Bool) → nat_lt b 255 ≡ small → b < c → c < 256
    → ends_above (if small then Some ((b + 1) ∷ []) else None) (c ∷ ks) ≡ false
behind_raised b c ks true e more byte = at_raised b c ks (nat_cmp c (b + 1)) more (ranked c (b + 1) _ refl)
behind_raised b c ks false e more byte = let most : 255 ≤ b = ltb-false b 255 e in absurd (omega arith)

behind : (b c : ℕ) (ks : Bytes) (end : Option Bytes) → b < c → c < 256
    → ends_above (end_behind b end) (c ∷ ks) ≡ false
behind b c ks (Some es) more byte =
    ap (λ (o : Ordering). is_lt (ordering_then o (key_cmp ks es))) (sym (nat_cmp_is c b Greater more))
behind b c ks None more byte = behind_raised b c ks (nat_lt b 255) refl more byte

later : (b : ℕ) (ks : Bytes) (end : Option Bytes) → ends_above (end_behind b end) (b ∷ ks) ≡ true
    → ends_above end ks ≡ true
later b ks (Some es) h = sym (same_first b ks es) ∙ h
later b ks None h = refl

-- what is in the range begins so
within : (text key : Bytes) → AllByRecursion (λ b. b < 256) key → is_below key text ≡ false
    → ends_above (beginning_end text) key ≡ true → (rest : Bytes) × (key ≡ text ++ rest)
within [] key bytes low high = (key, refl)
within (b ∷ bs) [] bytes low high = absurd (cc low)
within (b ∷ bs) (c ∷ cs) bytes low high = by (within bs cs bytes.1) (nat_cmp c b) refl (ranked c b _ refl)
  where
    by : (is_below cs bs ≡ false → ends_above (beginning_end bs) cs ≡ true → (rest : Bytes) × (cs ≡ bs ++ rest))
        → (o : Ordering) → nat_cmp c b ≡ o → MatchOrdering o (c < b) (c ≡ b) (b < c)
        → (rest : Bytes) × (c ∷ cs ≡ (b ∷ bs) ++ rest)
    by next Less e lies =
        absurd (cc (ap (λ (p : Ordering). is_lt (ordering_then p (key_cmp cs bs))) (sym e) ∙ low))
    by next Equal e lies =
        let same : c ≡ b = lies in
        let under : is_below cs bs ≡ false =
        sym (same_first b cs bs) ∙ subst (λ (x : ℕ). is_below (x ∷ cs) (b ∷ bs) ≡ false) same low in
        let over : ends_above (beginning_end bs) cs ≡ true =
        later b cs (beginning_end bs)
        (subst (λ (x : ℕ). ends_above (beginning_end (b ∷ bs)) (x ∷ cs) ≡ true) same high) in
        let rest = next under over in
        (rest.0, ap (λ (x : ℕ). x ∷ cs) same ∙ ap (λ (v : Bytes). b ∷ v) rest.1)
    by next Greater e lies =
        let more : b < c = lies in
        absurd (cc (sym high ∙ behind b c cs (beginning_end bs) more bytes.0))

parts : (p q : Bool) → IsTrue (not p && q) → (p ≡ false) × (q ≡ true)
parts true q h = absurd (cc h)
parts false true h = (refl, refl)
parts false false h = absurd (cc h)

pub is_beginnings_range : IsBeginningsRange
is_beginnings_range = record {
  all = λ text rest. both (not_below text rest) (before_end text rest);
  only = λ text key bytes inside. let h = parts _ _ inside in within text key bytes h.0 h.1;
}
