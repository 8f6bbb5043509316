-- Records among expressions, and what they are evaluated to.
use Rattle.std.proofs.Common.{◌≡◌, ◌⊎◌, ℕ, zero, suc, true, List, Option, Some, None, Result, Ok, Err, refl, subst, inl}
use Rattle.std.proofs.Common.{inr, ap}
use Rattle.std.specs.List.{AllZip}
use Rattle.cedar_model.specs.Terms.{Text, Term, Fields, literal, variable, slot, unknown, if_then_else, both, either}
use Rattle.cedar_model.specs.Terms.{unary, binary, call, get_attribute, has_attribute, extended_has, like, is_of_type}
use Rattle.cedar_model.specs.Terms.{set_of, record_of}
use Rattle.cedar_model.specs.Values.{Represented, record_represented}
use Rattle.cedar_model.specs.Sets.{represented_fields_of}
use Rattle.cedar_model.specs.Failures.{PartialValue, value, residual, answers}
use Rattle.cedar_model.specs.Settings.{Setting}
use Rattle.cedar_model.specs.Rules.{StoredCalls, Runs, fields_of_record, fields_of_parts, record_answer}
use Rattle.cedar_model.specs.Rules.{record_of_parts}
use Rattle.cedar_model.specs.Rules.{values_of_field_parts}
use Rattle.cedar_expressions.specs.View.{fields_view}
use Rattle.cedar_requests.specs.Contexts.{ExprMap}
use Rattle.cedar_requests.specs.Creations.{is_record, IsRecordPart}
use Rattle.cedar_requests.proofs.Copies.{IsExprCopy, fields_view-copied}

-- what was shared is taken out, or copied
pub fields_view-unshared : (m x : ExprMap) → (x ≡ m) ⊎ AllZip IsExprCopy m.entries x.entries → fields_view x.entries
    ≡ fields_view m.entries
fields_view-unshared m x (inl e) = ap (λ (n : ExprMap). fields_view n.entries) e
fields_view-unshared m x (inr h) = fields_view-copied m.entries x.entries h

-- ---- records

pub is_record-record_of : (fs : Fields) → is_record (record_of fs) ≡ true
unfolding fields_of_record
is_record-record_of fs = refl

-- a record is made of its parts
pub record_of-fields : (t : Term) (fs : Fields) → Some fs ≡ fields_of_record t → record_of fs ≡ t
unfolding fields_of_record
record_of-fields (literal l) fs e = absurd (cc)
record_of-fields (variable v) fs e = absurd (cc)
record_of-fields (slot i) fs e = absurd (cc)
record_of-fields (unknown n o) fs e = absurd (cc)
record_of-fields (if_then_else c a b) fs e = absurd (cc)
record_of-fields (both a b) fs e = absurd (cc)
record_of-fields (either a b) fs e = absurd (cc)
record_of-fields (unary op a) fs e = absurd (cc)
record_of-fields (binary op a b) fs e = absurd (cc)
record_of-fields (call f ts) fs e = absurd (cc)
record_of-fields (get_attribute a k) fs e = absurd (cc)
record_of-fields (has_attribute a k) fs e = absurd (cc)
record_of-fields (extended_has a k ks) fs e = absurd (cc)
record_of-fields (like a p) fs e = absurd (cc)
record_of-fields (is_of_type a u) fs e = absurd (cc)
record_of-fields (set_of ts) fs e = absurd (cc)
record_of-fields (record_of gs) fs e = let h : fs ≡ gs = cc in ap record_of h

-- ---- answers

made_record : (o : Option (List (Text × Represented))) (ps : List (Text × PartialValue)) (p : PartialValue)
    → answers p ≡ record_of_parts o ps → IsRecordPart p
unfolding record_of_parts
made_record (Some vs) ps p e =
    let h : value (record_represented (represented_fields_of vs)) ≡ p = cc in subst IsRecordPart h tt
made_record None ps p e =
    let h : residual (record_of (fields_of_parts ps)) ≡ p = cc in
    subst IsRecordPart h (is_record-record_of (fields_of_parts ps))

answered_record : (r : Result (List (Text × PartialValue)) _) (p : PartialValue) → answers p ≡ record_answer r
    → IsRecordPart p
unfolding record_answer
answered_record (Ok ps) p e = made_record (values_of_field_parts ps) ps p e
answered_record (Err f) p e = absurd (cc)

-- what a record answers is a record
pub record_part : (s : Setting) (calls : StoredCalls) (n : ℕ) (t : Term) (p : PartialValue) → is_record t ≡ true
    → Runs s calls n t (answers p) → IsRecordPart p
unfolding fields_of_record
record_part s calls n (literal l) p is runs = absurd (cc)
record_part s calls n (variable v) p is runs = absurd (cc)
record_part s calls n (slot i) p is runs = absurd (cc)
record_part s calls m (unknown n o) p is runs = absurd (cc)
record_part s calls n (if_then_else c a b) p is runs = absurd (cc)
record_part s calls n (both a b) p is runs = absurd (cc)
record_part s calls n (either a b) p is runs = absurd (cc)
record_part s calls n (unary op a) p is runs = absurd (cc)
record_part s calls n (binary op a b) p is runs = absurd (cc)
record_part s calls n (call f ts) p is runs = absurd (cc)
record_part s calls n (get_attribute a k) p is runs = absurd (cc)
record_part s calls n (has_attribute a k) p is runs = absurd (cc)
record_part s calls n (extended_has a k ks) p is runs = absurd (cc)
record_part s calls n (like a q) p is runs = absurd (cc)
record_part s calls n (is_of_type a u) p is runs = absurd (cc)
record_part s calls n (set_of ts) p is runs = absurd (cc)
record_part s calls zero (record_of fs) p is runs = absurd (cc)
record_part s calls (suc n) (record_of fs) p is (r, parts, made) = answered_record r p made
