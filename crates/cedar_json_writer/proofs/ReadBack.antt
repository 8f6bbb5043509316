-- What is written of a restricted expression is read as the same.
use Rattle.std.proofs.Common.{◌≡◌, ℕ, ◌+◌, ◌||◌, Bool, true, false, List, [], ◌∷◌, ◌++◌, Result, Ok, Err, IfOk, OnOk, Global, refl, sym, ap, ◌∙◌}
use Rattle.std.proofs.lemmas.Bool.{or_parts}
use Rattle.std.specs.Prelude.{bytes_eq, codes}
use Rattle.cedar_model.specs.Terms.{Text, bool_literal, long_literal, text_literal, entity_literal}
use Rattle.cedar_model.specs.Terms.{Term, literal, variable, slot, unknown, if_then_else, both, either, unary, binary, call}
use Rattle.cedar_model.specs.Terms.{get_attribute, has_attribute, extended_has, like, is_of_type, set_of, record_of}
use Rattle.cedar_model.specs.Terms.{Terms, no_terms, one_term, Fields, no_fields, one_field, terms_of}
use Rattle.std.specs.declared.rc.RcStr.{RcStr}
use Rattle.cedar_expressions.specs.declared.expr.Expr.{Expr}
use Rattle.cedar_expressions.specs.View.{view, terms_view, fields_view}
use Rattle.cedar_json_reader.specs.Paths.{at_key, at_index}
use Rattle.cedar_json_reader.specs.Refusals.{Said, under, before, made_of, and_then}
use Rattle.cedar_json_reader.specs.Said.{said, said_items, said_members, is_reserved_key, pair_of, member_said, called, long_said}
use Rattle.cedar_json_reader.specs.Said.{record_said, set_said, one, sole_said, entity_said, said_call}
use Rattle.cedar_json_reader.specs.Words.{is_name}
use Rattle.cedar_json_reader.proofs.Longs.{long_read}
use Rattle.cedar_json_writer.specs.ReadBack.{HasJson, AllHaveJson, FieldsHaveJson, pairs_in, AreInOrder, IsKept, AreKept, FieldsAreKept}
use Rattle.cedar_json_writer.specs.Trees.{json_view}
use Rattle.cedar_json_writer.specs.declared.tree.JsonValue.{JsonValue}
use Rattle.cedar_json_writer.specs.Written.{written, written_items, written_members}

-- the terms as a list
abbrev list_of : Terms → List Term
list_of no_terms = []
list_of (one_term t ts) = t ∷ list_of ts

listed : (ts : Terms) → terms_of (list_of ts) ≡ ts
listed no_terms = refl
listed (one_term t ts) = ap (one_term t) (listed ts)

called_back : (f : Text) (ts : List Term) → is_name f ≡ true → bytes_eq f (codes "unknown") ≡ false → called f ts ≡ Ok (call f (terms_of ts))
called_back f ts named other = rw (other, named) refl

key_free : (k : Text) (t : Term) → is_reserved_key k ≡ false → member_said k (Ok t) ≡ Ok (pair_of k t)
key_free k t free = rw free refl

record_back : (fs : Fields) → AreInOrder fs → record_said (Ok (pairs_in fs)) ≡ Ok (record_of fs)
record_back fs kept = rw kept.0 (ap (λ gs. Ok (record_of gs)) kept.1)

sole_back : (s : Said Term) (t : Term) → before (under (at_index 0) s) (Ok []) ≡ Ok (t ∷ []) → s ≡ Ok t
sole_back (Ok u) t h = cc
sole_back (Err r) t h = absurd (cc)

call_back : (f : Text) (ts : Terms) → is_name f ≡ true → bytes_eq f (codes "unknown") ≡ false → said_items 0 (written_items ts) ≡ Ok (list_of ts)
    → said (written (call f ts)) ≡ Ok (call f ts)
call_back f no_terms named other all = ap (under (at_key (codes "__extn"))) (called_back f [] named other)
call_back f (one_term t no_terms) named other all =
    ap (λ s. under (at_key (codes "__extn")) (and_then (called f) (made_of one (under (at_key (codes "arg")) s)))) (sole_back (said (written t)) t all)
    ∙ ap (under (at_key (codes "__extn"))) (called_back f (t ∷ []) named other)
call_back f (one_term t (one_term u ts)) named other all =
    ap (λ s. under (at_key (codes "__extn")) (and_then (called f) (under (at_key (codes "args")) s))) all
    ∙ ap (under (at_key (codes "__extn"))) (called_back f (t ∷ u ∷ list_of ts) named other)
    ∙ ap (λ us. Ok (call f us)) (listed (one_term t (one_term u ts)))

-- a key that isn't reserved stands for no entity and no call
sole_record : (k : Text) (a b c : Said Term) → is_reserved_key k ≡ false → sole_said k a b c ≡ c
sole_record k a b c free =
    let rest = bytes_eq k (codes "__extn") || bytes_eq k (codes "__expr") in
    let no_entity : bytes_eq k (codes "__entity") ≡ false = (or_parts (bytes_eq k (codes "__entity")) rest free).0 in
    let no_call : bytes_eq k (codes "__extn") ≡ false =
    (or_parts (bytes_eq k (codes "__extn")) (bytes_eq k (codes "__expr")) (or_parts (bytes_eq k (codes "__entity")) rest free).1).0 in
    rw (no_entity, no_call) refl

fields_back : (fs : Fields) → AreInOrder fs → FieldsHaveJson fs → said_members (written_members fs) ≡ Ok (pairs_in fs)
    → said (written (record_of fs)) ≡ Ok (record_of fs)
fields_back no_fields o g all = refl
fields_back (one_field k t no_fields) o g all =
    sole_record k (entity_said (written t)) (said_call (written t)) (record_said (said_members (written_members (one_field k t no_fields)))) g.0
    ∙ ap record_said all ∙ record_back (one_field k t no_fields) o
fields_back (one_field k t (one_field l u fs)) o g all = ap record_said all ∙ record_back (one_field k t (one_field l u fs)) o

mutual
  pub read_back : (t : Term) → IsKept t → HasJson t → said (written t) ≡ Ok t
  read_back (literal (bool_literal b)) h g = refl
  read_back (literal (long_literal n)) h g = ap long_said (long_read n h)
  read_back (literal (text_literal t)) h g = refl
  read_back (literal (entity_literal e)) h g = rw g refl
  read_back (variable v) h g = absurd g
  read_back (slot s) h g = absurd g
  read_back (unknown n t) h g = ap (λ a. Ok (unknown n a)) (sym g)
  read_back (if_then_else c t u) h g = absurd g
  read_back (both t u) h g = absurd g
  read_back (either t u) h g = absurd g
  read_back (unary op t) h g = absurd g
  read_back (binary op t u) h g = absurd g
  read_back (call f ts) h g = call_back f ts g.0 g.1 (items_back 0 ts h g.2)
  read_back (get_attribute t k) h g = absurd g
  read_back (has_attribute t k) h g = absurd g
  read_back (extended_has t k ks) h g = absurd g
  read_back (like t p) h g = absurd g
  read_back (is_of_type t n) h g = absurd g
  read_back (set_of ts) h g = ap set_said (items_back 0 ts h g) ∙ ap (λ us. Ok (set_of us)) (listed ts)
  read_back (record_of fs) h g = fields_back fs h.0 g (members_back fs h.1 g)

  items_back : (n : ℕ) (ts : Terms) → AreKept ts → AllHaveJson ts → said_items n (written_items ts) ≡ Ok (list_of ts)
  items_back n no_terms h g = refl
  items_back n (one_term t ts) h g =
      ap (λ s. before (under (at_index n) s) (said_items (n + 1) (written_items ts))) (read_back t h.0 g.0)
      ∙ ap (λ s. before (Ok t) s) (items_back (n + 1) ts h.1 g.1)

  members_back : (fs : Fields) → FieldsAreKept fs → FieldsHaveJson fs → said_members (written_members fs) ≡ Ok (pairs_in fs)
  members_back no_fields h g = refl
  members_back (one_field k t fs) h g =
      ap (λ s. before (member_said k s) (said_members (written_members fs))) (read_back t h.0 g.1)
      ∙ ap (λ s. before s (said_members (written_members fs))) (key_free k t g.0)
      ∙ ap (λ s. before (Ok (pair_of k t)) s) (members_back fs h.1 g.2)

-- ---- in an answer

pub back_if_ok : {E : Type 0} (r : Result JsonValue E) (t : Term) → IfOk r (λ j. json_view j ≡ written t) → OnOk r (IsKept t)
    → IfOk r (λ j. HasJson t → said (json_view j) ≡ Ok t)
back_if_ok (Ok j) t is kept = λ has. ap said is ∙ read_back t kept has
back_if_ok (Err e) t is kept = tt

-- ---- parts that are kept, one more at the end

pub one_more_kept : (es : List Expr) (e : Expr) → AreKept (terms_view es) → IsKept (view e) → AreKept (terms_view (es ++ e ∷ []))
one_more_kept [] e h k = (k, tt)
one_more_kept (d ∷ es) e h k = (h.0, one_more_kept es e h.1 k)

pub one_more_field : (es : List (RcStr Global × Expr)) (e : RcStr Global × Expr) → FieldsAreKept (fields_view es) → IsKept (view e.1) → FieldsAreKept (fields_view (es ++ e ∷ []))
one_more_field [] e h k = (k, tt)
one_more_field (d ∷ es) e h k = (h.0, one_more_field es e h.1 k)
