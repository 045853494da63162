-- Lists that go on, and messages among them by their numbers.
use Rattle.std.proofs.Common.{◌≡◌, ℕ, ◌+◌, zero, suc, Bool, true, false, cond, List, [], ◌∷◌, ◌++◌, Option, Some, None, length, refl, ap, sym, ◌∙◌, arith, slice_get, map, append_assoc, ◌<◌, take, drop, set}
use Rattle.std.specs.Bool.{MatchBool}
use Rattle.std.specs.Prelude.{filter, filter_map}
use Rattle.std.specs.List.{AllByRecursion, cons_option}
use Rattle.std.specs.Option.{is_some}
use Rattle.std.proofs.lemmas.List.{append-nil, length-append}
use Rattle.std.proofs.lemmas.List.Elements.{filter-append}
use Rattle.codec.specs.declared.request.Request.{Request}
use Rattle.codec.specs.declared.reply.Reply.{Reply}
use Rattle.node_sides.specs.node_laws.specs.Halves.{also}
use Rattle.node_sides.specs.node_laws.specs.Messages.{message_at}
use Rattle.node_sides.specs.dc_core.proofs.Walks.{all_get}
use Rattle.record_key.proofs.Kept.{all_filtered}
use Rattle.record_key.proofs.Lists.{all_appended}
use Rattle.engine_history.specs.declared.step.Step.{Step}
use Rattle.engine_history.specs.Kept.{IsSentBy}
use Rattle.engine_history.specs.Slots.{Slot, steps, asks, gives, last_of}
use Rattle.engine_history.specs.Steps.{asked_after, given_after, requests, replies, count}

pub map_match : (b : Bool) {X Y X' Y' : Type 0} → (X → X') → (Y → Y') → MatchBool b X Y → MatchBool b X' Y'
map_match true f g m = f m
map_match false f g m = g m

pub all_snoc : {A : Type 0} (P : A → Type 0) (xs : List A) (x : A) → AllByRecursion P xs → P x
    → AllByRecursion P (xs ++ x ∷ [])
all_snoc P xs x a p = all_appended P xs (x ∷ []) a (p, tt)

get_last : {A : Type 0} (xs : List A) (x : A) → slice_get (xs ++ x ∷ []) (length xs) ≡ Some x
get_last [] x = refl
get_last (y ∷ xs) x = get_last xs x

pub last_snoc : {A : Type 0} (xs : List A) (x : A) → last_of (xs ++ x ∷ []) ≡ Some x
last_snoc xs x =
    ap (slice_get (xs ++ x ∷ [])) (omega (arith, length-append xs (x ∷ []))) ∙ get_last xs x

pub filter_snoc : {A : Type 0} (f : A → Bool) (xs : List A) (x : A)
    → filter f (xs ++ x ∷ []) ≡ filter f xs ++ cond (f x) (x ∷ []) []
filter_snoc f xs x = filter-append f xs (x ∷ [])

-- what stands in a list still does where it goes on
pub get_on : {A : Type 0} (xs ys : List A) (k : ℕ) (y : A) → slice_get xs k ≡ Some y → slice_get (xs ++ ys) k ≡ Some y
get_on [] ys k y at = absurd (cc (at))
get_on (x ∷ xs) ys zero y at = at
get_on (x ∷ xs) ys (suc k) y at = get_on xs ys k y at

pub message_on : {A : Type 0} (xs ys : List A) (n : ℕ) (m : A) → message_at xs n ≡ Some m
    → message_at (xs ++ ys) n ≡ Some m
message_on xs ys zero m at = absurd (cc (at))
message_on xs ys (suc n) m at = get_on xs ys n m at

pub also_length : {A : Type 0} (xs : List A) (o : Option A) → length (also xs o) ≡ length xs + count o
also_length xs None = omega arith
also_length xs (Some x) = omega (arith, length-append xs (x ∷ []))

pub also_cons : {A : Type 0} (xs : List A) (o : Option A) (ys : List A) → also xs o ++ ys ≡ xs ++ cons_option o ys
also_cons xs None ys = refl
also_cons xs (Some a) ys = append_assoc xs (a ∷ []) ys

abbrev pub sent_in : List Step → List Request
sent_in es = filter_map (λ e. e.sent) es

abbrev pub given_in : List Step → List Reply
given_in es = filter_map (λ e. e.given) es

pub asked_is : (qs : List Request) (es : List Step) → asked_after qs es ≡ qs ++ sent_in es
asked_is qs [] = sym (append-nil qs)
asked_is qs (e ∷ es) = asked_is (also qs e.sent) es ∙ also_cons qs e.sent (sent_in es)

pub given_is : (ps : List Reply) (es : List Step) → given_after ps es ≡ ps ++ given_in es
given_is ps [] = sym (append-nil ps)
given_is ps (e ∷ es) = given_is (also ps e.given) es ∙ also_cons ps e.given (given_in es)

pub asked_append : (qs : List Request) (es fs : List Step) → asked_after qs (es ++ fs) ≡ asked_after (asked_after qs es) fs
asked_append qs [] fs = refl
asked_append qs (e ∷ es) fs = asked_append (also qs e.sent) es fs

pub given_append : (ps : List Reply) (es fs : List Step) → given_after ps (es ++ fs) ≡ given_after (given_after ps es) fs
given_append ps [] fs = refl
given_append ps (e ∷ es) fs = given_append (also ps e.given) es fs

pub request_on : (es fs : List Step) (n : ℕ) (q : Request) → message_at (requests es) n ≡ Some q
    → message_at (requests (es ++ fs)) n ≡ Some q
request_on es fs n q at =
    ap (λ (ms : List Request). message_at ms n) (asked_append [] es fs ∙ asked_is (requests es) fs)
    ∙ message_on (requests es) (sent_in fs) n q at

pub reply_on : (es fs : List Step) (n : ℕ) (p : Reply) → message_at (replies es) n ≡ Some p
    → message_at (replies (es ++ fs)) n ≡ Some p
reply_on es fs n p at =
    ap (λ (ms : List Reply). message_at ms n) (given_append [] es fs ∙ given_is (replies es) fs)
    ∙ message_on (replies es) (given_in fs) n p at

-- what is read off the elements that have it
module _ {A B : Type 0} (f : A → Option B) where
  abbrev has : A → Bool
  has x = is_some (f x)

  record Read (o : Option B) (found : Option B) : Type 0 where
    value : B
    is : o ≡ Some value
    there : found ≡ Some value

  read_at : (x : A) (xs : List A) (o : Option B) → f x ≡ o
      → ((k : ℕ) (m : A) → slice_get (filter has xs) k ≡ Some m → Read (f m) (slice_get (filter_map f xs) k))
      → (k : ℕ) (m : A) → slice_get (cond (is_some o) (x ∷ filter has xs) (filter has xs)) k ≡ Some m
      → Read (f m) (slice_get (cons_option o (filter_map f xs)) k)
  read_at x xs None is rec k m at = rec k m at
  read_at x xs (Some b) is rec zero m at = let same : x ≡ m = cc (at) in
      record { value = b; is = ap f (sym same) ∙ is; there = refl }
  read_at x xs (Some b) is rec (suc k) m at = rec k m at

  read : (xs : List A) (k : ℕ) (m : A) → slice_get (filter has xs) k ≡ Some m
      → Read (f m) (slice_get (filter_map f xs) k)
  read [] k m at = absurd (cc (at))
  read (x ∷ xs) k m at = read_at x xs (f x) refl (read xs) k m at

  none_at : (x : A) (xs : List A) (o : Option B)
      → ((k : ℕ) → slice_get (filter has xs) k ≡ None → slice_get (filter_map f xs) k ≡ None)
      → (k : ℕ) → slice_get (cond (is_some o) (x ∷ filter has xs) (filter has xs)) k ≡ None
      → slice_get (cons_option o (filter_map f xs)) k ≡ None
  none_at x xs None rec k at = rec k at
  none_at x xs (Some b) rec zero at = absurd (cc (at))
  none_at x xs (Some b) rec (suc k) at = rec k at

  none_read : (xs : List A) (k : ℕ) → slice_get (filter has xs) k ≡ None → slice_get (filter_map f xs) k ≡ None
  none_read [] k at = refl
  none_read (x ∷ xs) k at = none_at x xs (f x) (none_read xs) k at

pub all_map : {A B : Type 0} (v : A → B) (P : B → Type 0) (xs : List A) → AllByRecursion P (map v xs)
    → AllByRecursion (λ x. P (v x)) xs
all_map v P [] a = tt
all_map v P (x ∷ xs) a = (a.0, all_map v P xs a.1)

-- what holds of each holds of the one that is found by its number among some of them
pub kept_at : {A : Type 0} (P : A → Type 0) (f : A → Bool) (xs : List A) (n : ℕ) (x : A) → AllByRecursion P xs
    → message_at (filter f xs) n ≡ Some x → P x
kept_at P f xs zero x a at = absurd (cc (at))
kept_at P f xs (suc n) x a at = all_get P (filter f xs) n x (all_filtered P f xs a) at

pub filter_map-map : {A B C : Type 0} (h : B → Option C) (v : A → B) (xs : List A)
    → filter_map h (map v xs) ≡ filter_map (λ x. h (v x)) xs
filter_map-map h v [] = refl
filter_map-map h v (x ∷ xs) = ap (λ zs. cons_option (h (v x)) zs) (filter_map-map h v xs)

-- the token at a request's number is that of the entry that sent it
pub request_of : (tokens : List Slot) (n : ℕ) (p : Slot) → message_at (filter asks tokens) n ≡ Some p
    → IsSentBy (requests (steps tokens)) n p.value.step.value.sent
request_of tokens zero p at = absurd (cc (at))
request_of tokens (suc k) p at =
    let r = read (λ (q : Slot). q.value.step.value.sent) tokens k p at in
    let same : requests (steps tokens) ≡ filter_map (λ (q : Slot). q.value.step.value.sent) tokens =
    asked_is [] (steps tokens) ∙ filter_map-map (λ (e : Step). e.sent) (λ (q : Slot). q.value.step.value) tokens in
    record { value = r.value; is = r.is; found = ap (λ (ms : List Request). slice_get ms k) same ∙ r.there }

pub reply_of : (tokens : List Slot) (n : ℕ) (p : Slot) → message_at (filter gives tokens) n ≡ Some p
    → IsSentBy (replies (steps tokens)) n p.value.step.value.given
reply_of tokens zero p at = absurd (cc (at))
reply_of tokens (suc k) p at =
    let r = read (λ (q : Slot). q.value.step.value.given) tokens k p at in
    let same : replies (steps tokens) ≡ filter_map (λ (q : Slot). q.value.step.value.given) tokens =
    given_is [] (steps tokens) ∙ filter_map-map (λ (e : Step). e.given) (λ (q : Slot). q.value.step.value) tokens in
    record { value = r.value; is = r.is; found = ap (λ (ms : List Reply). slice_get ms k) same ∙ r.there }

-- where there is no token of a number, no message of it was sent
pub request_none : (tokens : List Slot) (n : ℕ) → message_at (filter asks tokens) n ≡ None
    → message_at (requests (steps tokens)) n ≡ None
request_none tokens zero at = refl
request_none tokens (suc k) at =
    ap (λ (ms : List Request). slice_get ms k) (asked_is [] (steps tokens) ∙ filter_map-map (λ (e : Step). e.sent) (λ
    (q : Slot). q.value.step.value) tokens)
    ∙ none_read (λ (q : Slot). q.value.step.value.sent) tokens k at

pub reply_none : (tokens : List Slot) (n : ℕ) → message_at (filter gives tokens) n ≡ None
    → message_at (replies (steps tokens)) n ≡ None
reply_none tokens zero at = refl
reply_none tokens (suc k) at =
    ap (λ (ms : List Reply). slice_get ms k) (given_is [] (steps tokens) ∙ filter_map-map (λ (e : Step). e.given) (λ
    (q : Slot). q.value.step.value) tokens)
    ∙ none_read (λ (q : Slot). q.value.step.value.given) tokens k at

-- one more element was replaced
pub replaced_at : {A : Type 0} (f : A → A) (xs : List A) (i : ℕ) (y : A) → i < length xs
    → slice_get (map f (take i xs) ++ drop i xs) i ≡ Some y
    → set (map f (take i xs) ++ drop i xs) i (f y) ≡ map f (take (i + 1) xs) ++ drop (i + 1) xs
replaced_at f xs i y less at =
    let same : suc i ≡ i + 1 = omega arith in
    replaced f xs i y less at ∙ ap (λ (k : ℕ). map f (take k xs) ++ drop k xs) same
  where
    replaced : {A : Type 0} (f : A → A) (xs : List A) (i : ℕ) (y : A) → i < length xs
        → slice_get (map f (take i xs) ++ drop i xs) i ≡ Some y
        → set (map f (take i xs) ++ drop i xs) i (f y) ≡ map f (take (suc i) xs) ++ drop (suc i) xs
    replaced f [] i y less at = absurd (omega (arith, less))
    replaced f (x ∷ xs) zero y less at = let same : x ≡ y = cc (at) in ap (λ z. f z ∷ xs) (sym same)
    replaced f (x ∷ xs) (suc i) y less at = ap (λ zs. f x ∷ zs) (replaced f xs i y (omega (arith, less)) at)
