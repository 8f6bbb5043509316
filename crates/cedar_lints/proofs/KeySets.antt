-- Sets of keys: their order ties those of the same texts.
use Rattle.std.proofs.Common.{◌≡◌, refl, sym, ◌∙◌, subst, Bool, true, ◌&&◌, List, [], ◌∷◌}
use Rattle.std.proofs.lemmas.Bool.{and_from, and_parts}
use Rattle.std.specs.Bool.{Decides}
use Rattle.std.specs.Cmp.Lexicographic.{slice_cmp, texts_ties}
use Rattle.std.specs.List.{list_any}
use Rattle.std.specs.Ordering.{is_eq, nat_cmp, eq_by_cmp}
use Rattle.std.specs.Rc.{rc_str_bytes}
use Rattle.std.specs.Set.{KeepsOthers}
use Rattle.std.specs.declared.alloc.Global.{Global}
use Rattle.std.specs.declared.cmp.Ordering.{Ordering}
use Rattle.std.specs.declared.rc.RcStr.{RcStr}
use Rattle.std.specs.declared.vec.Vec.{Vec}
use Rattle.cedar_model.specs.Outcomes.{text_eq}
use Rattle.cedar_model.proofs.Injections.{false_is_not_true}
use Rattle.cedar_names.specs.EqualityLaws.{text_eq-decides, then_eq}
use Rattle.cedar_names.specs.Leaves.{texts_view}
use Rattle.cedar_lints.specs.Keys.{Key, key_eq, has_key, with_key}
use Rattle.cedar_lints.proofs.Putting.{asked_by_name, put_by_name}

abbrev pub Stored : Type 0
Stored = Vec (RcStr Global) Global

abbrev pub name_of : Stored → Key
name_of v = texts_view v.items

abbrev pub text_cmp : RcStr Global → RcStr Global → Ordering
text_cmp x y = slice_cmp nat_cmp (rc_str_bytes x) (rc_str_bytes y)

-- whether the order does not tell two keys apart
abbrev pub is_tied_key : Stored → Stored → Bool
is_tied_key = eq_by_cmp (λ (a b : Stored). slice_cmp text_cmp a.items b.items)

texts_tied : (xs ys : List (RcStr Global)) → is_eq (slice_cmp text_cmp xs ys) ≡ key_eq (texts_view xs) (texts_view ys)
texts_tied [] [] = refl
texts_tied [] (y ∷ ys) = refl
texts_tied (x ∷ xs) [] = refl
texts_tied (x ∷ xs) (y ∷ ys) =
    then_eq (text_cmp x y) (slice_cmp text_cmp xs ys)
    ∙ (λ i. sym (texts_ties (rc_str_bytes x) (rc_str_bytes y)) i && texts_tied xs ys i)

pub is_tied_key-by_texts : (a b : Stored) → is_tied_key a b ≡ key_eq (name_of a) (name_of b)
is_tied_key-by_texts a b = texts_tied a.items b.items

key_eq-same : (k l : Key) → key_eq k l ≡ true → k ≡ l
key_eq-same [] [] h = refl
key_eq-same [] (l ∷ ls) h = absurd (false_is_not_true h)
key_eq-same (k ∷ ks) [] h = absurd (false_is_not_true h)
key_eq-same (k ∷ ks) (l ∷ ls) h =
    let p = and_parts (text_eq k l) (key_eq ks ls) h in
    λ i. (text_eq-decides k l).0 p.0 i ∷ key_eq-same ks ls p.1 i

key_eq-self : (k : Key) → key_eq k k ≡ true
key_eq-self [] = refl
key_eq-self (k ∷ ks) = and_from _ _ ((text_eq-decides k k).1 refl) (key_eq-self ks)

pub key_eq-decides : (k l : Key) → Decides (key_eq k l) (k ≡ l)
key_eq-decides k l = (key_eq-same k l, λ e. subst (λ m. key_eq k m ≡ true) e (key_eq-self k))

-- a key is there where its texts are
pub has_key-stored : (k : Stored) (ks : List Stored) → list_any (is_tied_key k) ks ≡ has_key ks (name_of k)
has_key-stored k ks = asked_by_name name_of key_eq key_eq-decides is_tied_key is_tied_key-by_texts k ks

-- one more was put in
pub has_key-put : (old new : List Stored) (key : Stored) → list_any (is_tied_key key) new ≡ true
    → KeepsOthers is_tied_key (is_tied_key key) old new
    → has_key new ≡ with_key (has_key old) (name_of key)
has_key-put old new key there others =
    λ i n. put_by_name name_of key_eq key_eq-decides is_tied_key is_tied_key-by_texts old new key there others n i
