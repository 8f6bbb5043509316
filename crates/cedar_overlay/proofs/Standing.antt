-- Which of some entities stands under a name.
use Rattle.std.proofs.Common.{◌≡◌, zero-add, add_assoc, append_assoc, length, get_or, take, drop, take-append-drop, refl, sym, ap, ◌∙◌, subst, Bool, true, false, ⊎_elim, ◌≤◌, ◌+◌, ◌<◌, ℕ, arith, cond, List, [], ◌∷◌, ◌++◌, map, Option, Some, if◌then◌else◌}
use Rattle.std.proofs.lemmas.Bool.{or_parts}
use Rattle.std.proofs.lemmas.List.{map-append, take_more}
use Rattle.std.proofs.lemmas.List.Elements.{All-head, All-tail, All-push}
use Rattle.std.specs.List.{All}
use Rattle.std.specs.Option.{is_some}
use Rattle.cedar_model.specs.Terms.{EntityName}
use Rattle.cedar_model.specs.Outcomes.{entity_eq}
use Rattle.cedar_model.specs.Settings.{is_among}
use Rattle.cedar_model.proofs.Injections.{none_is_not_some, some_inj, false_is_not_true}
use Rattle.cedar_names.specs.EqualityLaws.{entity_eq-decides}
use Rattle.cedar_names.proofs.Among.{entity_eq-self, is_among-none, is_among-cons, is_among-self, is_among-behind}
use Rattle.cedar_layers.specs.declared.policies.entities.Entity.{Entity}
use Rattle.cedar_layers.specs.Stores.{Standing, none_stands, standing_with, standing_with_each, last_of_each_name, entity_name}
use Rattle.cedar_hierarchy.specs.Sorting.{named_of}
use Rattle.cedar_hierarchy.proofs.Passing.{take_whole}
use Rattle.cedar_overlay.specs.Added.{times}

-- ---- names

not_among_parts : (n m : EntityName) (ns : List EntityName) → is_among n (m ∷ ns) ≡ false → (entity_eq n m ≡ false) × (is_among n ns ≡ false)
unfolding is_among
not_among_parts n m ns h = or_parts _ _ h

pub times-append : (n : EntityName) (ms ns : List EntityName) → times n (ms ++ ns) ≡ times n ms + times n ns
times-append n [] ns = sym (zero-add (times n ns))
times-append n (m ∷ ms) ns =
    ap (λ (k : ℕ). cond (entity_eq n m) 1 0 + k) (times-append n ms ns) ∙ sym (add_assoc (cond (entity_eq n m) 1 0) (times n ms) (times n ns))

times_if : (b : Bool) (k : ℕ) → b ≡ false → cond b 1 0 + k ≡ k
times_if true k h = absurd (false_is_not_true (sym h))
times_if false k h = omega arith

-- a name that isn't among them stands there at no place, and one that is at one at least
pub times-none : (n : EntityName) (ns : List EntityName) → is_among n ns ≡ false → times n ns ≡ 0
times-none n [] h = refl
times-none n (m ∷ ns) h =
    let parts = not_among_parts n m ns h in
    times_if (entity_eq n m) (times n ns) parts.0 ∙ times-none n ns parts.1

times_some : (b : Bool) (k : ℕ) → (b ≡ false → 1 ≤ k) → 1 ≤ cond b 1 0 + k
times_some true k h = omega arith
times_some false k h = let l : 1 ≤ k = h refl in omega arith

pub times-some : (n : EntityName) (ns : List EntityName) → is_among n ns ≡ true → 1 ≤ times n ns
times-some n [] h = absurd (is_among-none n h)
times-some n (m ∷ ns) h =
    times_some (entity_eq n m) (times n ns) (λ other. times-some n ns (⊎_elim (λ (e : n ≡ m). absurd (false_is_not_true (sym other ∙ (entity_eq-decides n m).1 e))) (λ k. k) (is_among-cons n m ns h)))

times_self : (n : EntityName) (ns : List EntityName) → 1 ≤ times n (n ∷ ns)
times_self n ns = times-some n (n ∷ ns) (is_among-self n ns)

-- a name that stands at no place isn't among them
pub none-times : (n : EntityName) (ns : List EntityName) (b : Bool) → is_among n ns ≡ b → times n ns ≤ 0 → is_among n ns ≡ false
none-times n ns false h few = h
none-times n ns true h few =
    let some : 1 ≤ times n ns = times-some n ns h in
    absurd (never (times n ns) some few)
  where
    never : (k : ℕ) → 1 ≤ k → k ≤ 0 → ⊥
    never k a b = omega arith

times_one : (b : Bool) → cond b 1 0 + 0 ≤ 1
times_one true = omega arith
times_one false = omega arith

-- one more name, which is none of those
pub times-more : (n m : EntityName) (ns : List EntityName) → ((k : EntityName) → times k ns ≤ 1) → is_among m ns ≡ false → times n (ns ++ m ∷ []) ≤ 1
times-more n m ns once new = by (entity_eq n m) refl
  where
    small : (a b c : ℕ) → a ≡ b + c → b ≤ 1 → c ≡ 0 → a ≤ 1
    small a b c e h k = omega arith

    small_too : (a b c : ℕ) → a ≡ b + c → b ≡ 0 → c ≤ 1 → a ≤ 1
    small_too a b c e h k = omega arith

    by : (b : Bool) → entity_eq n m ≡ b → times n (ns ++ m ∷ []) ≤ 1
    by true h =
        let same : n ≡ m = (entity_eq-decides n m).0 h in
        small_too (times n (ns ++ m ∷ [])) (times n ns) (times n (m ∷ [])) (times-append n ns (m ∷ [])) (times-none n ns (ap (λ (k : EntityName). is_among k ns) same ∙ new)) (times_one (entity_eq n m))
    by false h =
        small (times n (ns ++ m ∷ [])) (times n ns) (times n (m ∷ [])) (times-append n ns (m ∷ [])) (once n) (times_if (entity_eq n m) 0 h)

-- ---- entities

pub names-append : (ds es : List Entity) → map entity_name (ds ++ es) ≡ map entity_name ds ++ map entity_name es
names-append ds es = map-append entity_name ds es

-- none has the name: what stood there stays
pub unchanged : (f : Standing) (es : List Entity) (n : EntityName) → named_of es n ≡ false → standing_with_each f es n ≡ f n
unchanged f [] n h = refl
unchanged f (e ∷ es) n h =
    let parts = not_among_parts n (entity_name e) (map entity_name es) h in
    unchanged (standing_with f e) es n parts.1 ∙ ap (λ (b : Bool). if b then Some e else f n) parts.0

-- one has: one of them stands there
one_stands : (f : Standing) (e : Entity) (es : List Entity) (n : EntityName) (b : Bool) → named_of es n ≡ b → (b ≡ true → is_some (standing_with_each (standing_with f e) es n) ≡ true) → (b ≡ false → n ≡ entity_name e) → is_some (standing_with_each (standing_with f e) es n) ≡ true
one_stands f e es n true h later here = later refl
one_stands f e es n false h later here =
    ap is_some (unchanged (standing_with f e) es n h ∙ ap (λ (b : Bool). if b then Some e else f n) (ap (entity_eq n) (sym (here refl)) ∙ entity_eq-self n))

pub named_stands : (f : Standing) (es : List Entity) (n : EntityName) → named_of es n ≡ true → is_some (standing_with_each f es n) ≡ true
named_stands f [] n h = absurd (is_among-none n h)
named_stands f (e ∷ es) n h =
    one_stands f e es n (named_of es n) refl (λ k. named_stands (standing_with f e) es n k) (λ k. ⊎_elim (λ l. l) (λ l. absurd (false_is_not_true (sym k ∙ l))) (is_among-cons n (entity_name e) (map entity_name es) h))

pub last_is_brought : (es : List Entity) (n : EntityName) (e : Entity) → last_of_each_name es n ≡ Some e → named_of es n ≡ true
last_is_brought es n e h = by (named_of es n) refl
  where
    by : (b : Bool) → named_of es n ≡ b → named_of es n ≡ true
    by true k = k
    by false k = absurd (none_is_not_some (sym (unchanged none_stands es n k) ∙ h))

-- what holds of each holds of the last of a name
holds_if : (P : Entity → Type 0) (b : Bool) (d e : Entity) (o : Option Entity) → P d → (o ≡ Some e → P e) → (if b then Some d else o) ≡ Some e → P e
holds_if P true d e o here before h = subst P (some_inj h) here
holds_if P false d e o here before h = before h

holds_standing : (P : Entity → Type 0) (f : Standing) (es : List Entity) (n : EntityName) (e : Entity) → (f n ≡ Some e → P e) → All P es → standing_with_each f es n ≡ Some e → P e
holds_standing P f [] n e before all h = before h
holds_standing P f (d ∷ es) n e before all h =
    holds_standing P (standing_with f d) es n e (holds_if P (entity_eq n (entity_name d)) d e (f n) (All-head P d es all) before) (All-tail P d es all) h

pub holds_of_last : (P : Entity → Type 0) (es : List Entity) (n : EntityName) (e : Entity) → All P es → last_of_each_name es n ≡ Some e → P e
holds_of_last P es n e all h = holds_standing P none_stands es n e (λ k. absurd (none_is_not_some k)) all h

-- ---- each stands once

standing-append : (f : Standing) (ds es : List Entity) → standing_with_each f (ds ++ es) ≡ standing_with_each (standing_with_each f ds) es
standing-append f [] es = refl
standing-append f (d ∷ ds) es = standing-append (standing_with f d) ds es

behind_none : (a b c d : ℕ) → a ≤ 1 → a ≡ b + c → c ≡ 1 + d → d ≤ 0
behind_none a b c d h e f = omega arith

self_more : (n : EntityName) (ns : List EntityName) → times n (n ∷ ns) ≡ 1 + times n ns
self_more n ns = ap (λ (b : Bool). cond b 1 0 + times n ns) (entity_eq-self n)

-- it is the last of its name
pub is_last : (es before : List Entity) (e : Entity) (behind : List Entity) → ((n : EntityName) → times n (map entity_name es) ≤ 1) → es ≡ before ++ e ∷ behind → last_of_each_name es (entity_name e) ≡ Some e
is_last es before e behind once all =
    let n : EntityName = entity_name e in
    let names : map entity_name es ≡ map entity_name before ++ n ∷ map entity_name behind = ap (map entity_name) all ∙ names-append before (e ∷ behind) in
    let few : times n (map entity_name behind) ≤ 0 = behind_none (times n (map entity_name es)) (times n (map entity_name before)) (times n (n ∷ map entity_name behind)) (times n (map entity_name behind)) (once n) (ap (times n) names ∙ times-append n (map entity_name before) (n ∷ map entity_name behind)) (self_more n (map entity_name behind)) in
    let none : named_of behind n ≡ false = none-times n (map entity_name behind) (is_among n (map entity_name behind)) refl few in
    let f : Standing = standing_with_each none_stands before in
    ap (λ (ds : List Entity). last_of_each_name ds n) all
    ∙ (λ i. standing-append none_stands before (e ∷ behind) i n)
    ∙ unchanged (standing_with f e) behind n none
    ∙ ap (λ (b : Bool). if b then Some e else f n) (entity_eq-self n)

-- it is among them
pub one_is_brought : (es before : List Entity) (e : Entity) (behind : List Entity) → es ≡ before ++ e ∷ behind → named_of es (entity_name e) ≡ true
one_is_brought es before e behind all =
    ap (is_among (entity_name e)) (ap (map entity_name) all ∙ names-append before (e ∷ behind))
    ∙ is_among-behind (entity_name e) (map entity_name before) (entity_name e ∷ map entity_name behind) (is_among-self (entity_name e) (map entity_name behind))

twice_at_least : (a b c d : ℕ) → a ≡ b + c → 1 ≤ b → c ≡ 1 + d → 2 ≤ a
twice_at_least a b c d e h f = omega arith

-- one before it has its name
pub is_twice : (es before : List Entity) (e : Entity) (behind : List Entity) → es ≡ before ++ e ∷ behind → named_of before (entity_name e) ≡ true → 2 ≤ times (entity_name e) (map entity_name es)
is_twice es before e behind all there =
    let n : EntityName = entity_name e in
    let names : map entity_name es ≡ map entity_name before ++ n ∷ map entity_name behind = ap (map entity_name) all ∙ names-append before (e ∷ behind) in
    twice_at_least (times n (map entity_name es)) (times n (map entity_name before)) (times n (n ∷ map entity_name behind)) (times n (map entity_name behind))
    (ap (times n) names ∙ times-append n (map entity_name before) (n ∷ map entity_name behind)) (times-some n (map entity_name before) there) (self_more n (map entity_name behind))

-- ---- a loop over them

-- the entity that it has come to
pub taken_more : (xs ys : List Entity) (i : ℕ) (e : Entity) → ys ≡ xs → i < length ys → e ≡ get_or ys i e → take (i + 1) xs ≡ take i xs ++ e ∷ []
taken_more xs ys i e same within at =
    let here : i < length xs = subst (λ (zs : List Entity). i < length zs) same within in
    take_more xs i e here ∙ ap (λ (d : Entity). take i xs ++ d ∷ []) (sym (at ∙ ap (λ (zs : List Entity). get_or zs i e) same))

pub stands_between : (xs ys : List Entity) (i : ℕ) (e : Entity) → ys ≡ xs → i < length ys → e ≡ get_or ys i e → xs ≡ take i xs ++ e ∷ drop (i + 1) xs
stands_between xs ys i e same within at =
    sym (take-append-drop (i + 1) xs) ∙ ap (λ (zs : List Entity). zs ++ drop (i + 1) xs) (taken_more xs ys i e same within at)
    ∙ append_assoc (take i xs) (e ∷ []) (drop (i + 1) xs)

pub all_taken : (xs ys : List Entity) (i : ℕ) → ys ≡ xs → length ys ≤ i → take i xs ≡ xs
all_taken xs ys i same ended =
    take_whole xs i (subst (λ (zs : List Entity). length zs ≤ i) same ended)

pub holds_more : (P : Entity → Type 0) (xs ys : List Entity) (i : ℕ) (e : Entity) → ys ≡ xs → i < length ys → e ≡ get_or ys i e → All P (take i xs) → P e → All P (take (i + 1) xs)
holds_more P xs ys i e same within at before here =
    subst (All P) (sym (taken_more xs ys i e same within at)) (All-push P (take i xs) e before here)
