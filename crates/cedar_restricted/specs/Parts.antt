-- Sets, records and calls, part by part: what their parts have answered so far, and what all of them make.
use Rattle.std.specs.Prelude.{◌≡◌, ℕ, List, [], ◌∷◌, length, map, Option, None, Result}
use native.Mathlib.Nat.{ℕ_set}
use Rattle.std.proofs.lemmas.Map.Keys.{IsStrictlySortedBy-prop}
use Rattle.std.specs.List.Sorted.{IsStrictlySortedBy}
use Rattle.std.specs.declared.alloc.Global.{Global}
use Rattle.std.specs.declared.rc.RcStr.{RcStr}
use Rattle.std.specs.declared.vec.Vec.{Vec}
use Rattle.cedar_model.specs.Terms.{Term, call, set_of, record_of, Terms}
use Rattle.cedar_model.specs.Values.{Represented, set_represented, record_represented}
use Rattle.cedar_model.specs.Sets.{canonical_set, represented_fields_of}
use Rattle.cedar_model.specs.Failures as model
use Rattle.cedar_model.specs.Failures.{Failure, value, Answer, answers_value, answers_residual}
use Rattle.cedar_model.specs.Rules.{MayAnswer, Parts, StoredCalls, LooksUp, part_then, values_of_parts, terms_of_parts}
use Rattle.cedar_model.specs.World as world
use Rattle.cedar_names.specs.declared.names.Loc.{Loc}
use Rattle.cedar_names.specs.declared.names.Name.{Name}
use Rattle.cedar_names.specs.Names.{name_text}
use Rattle.cedar_expressions.specs.View.{terms_view, expr_loc}
use Rattle.cedar_values.specs.Sound.{whats}
use Rattle.cedar_restricted.specs.declared.whole.Whole.{Whole}
use Rattle.cedar_restricted.specs.declared.whole.Whole.TheVariants as wholes
use Rattle.cedar_restricted.specs.declared.answers.Answers.{Answers}
use Rattle.cedar_restricted.specs.declared.answers.Answers.TheVariants as answereds
use Rattle.cedar_expressions.specs.Nodes.{key_order}
use Rattle.cedar_restricted.specs.Keys.{texts_of, fields_named, each_under}

-- ---- a whole and its parts

-- the whole of these parts
abbrev pub whole_term : Whole → Terms → Term
whole_term wholes.Set ts = set_of ts
whole_term (wholes.Record ks) ts = record_of (fields_named (texts_of ks.items) ts)
whole_term (wholes.Call f) ts = call (name_text f) ts

-- a record has a key for each part, in order
abbrev pub HasKeys : Whole → ℕ → Type 0
HasKeys wholes.Set n = Unit {0}
HasKeys (wholes.Record ks) n = (length ks.items ≡ n) × IsStrictlySortedBy key_order ks.items
HasKeys (wholes.Call f) n = Unit {0}

pub HasKeys-prop : (w : Whole) (n : ℕ) → IsProp (HasKeys w n)
HasKeys-prop wholes.Set n = hlevel
HasKeys-prop (wholes.Record ks) n = hlevel (ℕ_set, IsStrictlySortedBy-prop key_order ks.items)
HasKeys-prop (wholes.Call f) n = hlevel

-- ---- answers so far

-- how many there are
abbrev pub count : Answers → ℕ
count (answereds.Values vs) = length vs.items
count (answereds.Mixed m) = length m.exprs.items

-- where they stand
abbrev pub answered_locs : Answers → List (Option Loc)
answered_locs (answereds.Values vs) = map (λ v. v.loc) vs.items
answered_locs (answereds.Mixed m) = map expr_loc m.exprs.items

abbrev pub all_values : List Represented → List model.PartialValue
all_values vs = map {B = model.PartialValue} (λ v. value v) vs

-- they are these: values alone, or with a residual among them
abbrev pub Are : Answers → List model.PartialValue → Type 0
Are (answereds.Values vs) ps = ps ≡ all_values (whats vs.items)
Are (answereds.Mixed m) ps = (terms_of_parts ps ≡ terms_view m.exprs.items) × (values_of_parts ps ≡ None)

-- what they make as a set
abbrev pub set_made : Answers → Answer
set_made (answereds.Values vs) = answers_value (set_represented (canonical_set (whats vs.items)))
set_made (answereds.Mixed m) = answers_residual (set_of (terms_view m.exprs.items))

-- what they make as a record, under these keys
abbrev pub record_made : Vec (RcStr Global) Global → Answers → Answer
record_made ks (answereds.Values vs) =
    answers_value (record_represented (represented_fields_of (each_under (texts_of ks.items) (whats vs.items))))
record_made ks (answereds.Mixed m) =
    answers_residual (record_of (fields_named (texts_of ks.items) (terms_view m.exprs.items)))

-- what a call of them may answer: the function is looked up where all are values
abbrev pub CallMakes : world.Extensions → StoredCalls → Name → Answers → Answer → Type 0
CallMakes x calls f (answereds.Values vs) a = LooksUp calls (x.arity (name_text f)) (name_text f) (whats vs.items) a
CallMakes x calls f (answereds.Mixed m) a = a ≡ answers_residual (call (name_text f) (terms_view m.exprs.items))

-- what they may make together, with these extensions, where stored functions may answer this
abbrev pub Makes : world.Extensions → StoredCalls → Whole → Answers → Answer → Type 0
Makes x calls wholes.Set answers a = a ≡ set_made answers
Makes x calls (wholes.Record ks) answers a = a ≡ record_made ks answers
Makes x calls (wholes.Call f) answers a = CallMakes x calls f answers a

-- ---- in turn

-- what parts answer of which the first have answered this, and then the others
abbrev pub parts_after : List model.PartialValue → Result (List model.PartialValue) Failure →
    Result (List model.PartialValue) Failure
parts_after [] r = r
parts_after (p ∷ ps) r = part_then p (parts_after ps r)

-- whatever the rest answers, all parts answer after these
abbrev pub SoFar : MayAnswer → Terms → Terms → List model.PartialValue → Type 0
SoFar May all rest ps =
    (r : Result (List model.PartialValue) Failure) → Parts May rest r → Parts May all (parts_after ps r)
