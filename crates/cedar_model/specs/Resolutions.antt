-- Worked examples: what stored residuals answer with each resolution, and how many levels that takes.
use Rattle.std.specs.Prelude.{◌≡◌, ℕ, pos, Bool, true, false, cond, [], ◌∷◌, Option, Some, None, codes}
use Rattle.cedar_model.specs.Terms.{Text, EntityName, text_literal, long_literal, entity_literal, string_type}
use Rattle.cedar_model.specs.Terms.{long_type, record_type}
use Rattle.cedar_model.specs.Terms.{get_tag_operator, has_tag_operator, Term, literal, unknown, binary, call}
use Rattle.cedar_model.specs.Terms.{get_attribute, has_attribute, extended_has, set_of, record_of, no_terms, terms_of}
use Rattle.cedar_model.specs.Terms.{Fields, fields_of}
use Rattle.cedar_model.specs.Values.{Represented, plain_represented, set_represented, extension_represented}
use Rattle.cedar_model.specs.Values.{expression_of}
use Rattle.cedar_model.specs.Values.{no_represented, one_represented, no_represented_at}
use Rattle.cedar_model.specs.Outcomes.{text_eq, entity_eq}
use Rattle.cedar_model.specs.Failures.{type_is_wrong, any_entity, value, residual, Answer, answers_value}
use Rattle.cedar_model.specs.Failures.{answers_residual, answers_bool, fails}
use Rattle.cedar_model.specs.Settings.{known_entry, ContextPart, known_context, residual_context, StoredEntity}
use Rattle.cedar_model.specs.Settings.{Resolution, shallow, deep}
use Rattle.cedar_model.specs.Settings.{Setting, missing_entity, printed_entity}
use Rattle.cedar_model.specs.Rules.{StoredCalls, Runs, Allows, Exceeds}
use Rattle.cedar_model.specs.Agreement.{height, no_slots}
use Rattle.cedar_model.specs.Restricted.{IsGivenSound}
use Rattle.cedar_model.specs.Depth.{IsNoHigher, substituted_height}
use Rattle.cedar_model.specs.Chains.{with_context, substituted_at}
use Rattle.cedar_model.specs.examples.Setting.{entity_of_type, user, long, entity, x, example_entity, some_calls, some_extensions}
use Rattle.cedar_model.specs.examples.Instances.{deeper_set, nesting_extensions}

abbrev u : Term
u = unknown (codes "u") None

abbrev one : Represented
one = plain_represented (long_literal (pos 1))

abbrev c : Term
c = unknown (codes "c") None

abbrev pair : Term → Term
pair t = record_of (fields_of ((codes "l", t) ∷ (codes "m", c) ∷ []))

-- an unknown c, u and c in a record, a record and the set of u, and u where a text is expected; and two tags, the set
-- of u, and u
abbrev pub stored_facts : StoredEntity
stored_facts = record {
  attributes = (codes "child", residual c) ∷ (codes "pair", residual (pair u)) ∷ (
    codes "parts",
    residual
        (record_of (fields_of ((codes "l", u) ∷ []))),
  ) ∷ (codes "set", residual (set_of (terms_of (u ∷ []))))
      ∷ (codes "text", residual (unknown (codes "u") (Some string_type))) ∷ [];
  tags = (codes "t", residual (set_of (terms_of (u ∷ [])))) ∷ (codes "u", residual u) ∷ [];
  ancestors = [];
}

abbrev missing_user : EntityName
missing_user = user (codes "m")

-- u is 1, c is the entity itself, and the unknown of a missing entity is named too
abbrev pub all_named : Text → Option Represented
all_named n =
    cond (text_eq n (codes "u")) (Some one) (cond (text_eq n (codes "c")) (Some (plain_represented
    (entity_literal example_entity))) (cond (text_eq n (printed_entity missing_user)) (Some one) None))

abbrev pub one_named : Text → Option Represented
one_named n = cond (text_eq n (codes "u")) (Some one) None

abbrev pub none_named : Text → Option Represented
none_named n = None

abbrev pub resolving_setting : Resolution → Bool → (Text → Option Represented) → Setting
resolving_setting r is_partial m = record {
  request = record {
    principal_entry = known_entry (user (codes "p"));
    action_entry = known_entry (user (codes "act"));
    resource_entry = known_entry (user (codes "r"));
    context_part = known_context no_represented_at;
  };
  store = record { entity = λ e. cond (entity_eq e example_entity) (Some stored_facts) None; is_partial = is_partial };
  map = m;
  slots = no_slots;
  extensions = some_extensions;
  resolution = r;
}

-- of a concrete store
abbrev AllowsAnswer : Resolution → (Text → Option Represented) → Term → Answer → Type 0
AllowsAnswer r m t a = Allows (resolving_setting r false m) some_calls t a

abbrev pub attribute : Text → Term
attribute k = get_attribute (entity example_entity) k

abbrev pub tag_of : EntityName → Text → Term
tag_of e k = binary get_tag_operator (entity e) (literal (text_literal k))

abbrev pub tag : Term
tag = tag_of example_entity (codes "t")

abbrev pub path : Text → Text → Term
path k l = extended_has (entity example_entity) k (l ∷ [])

abbrev pub the_set : Term
the_set = set_of (terms_of (u ∷ []))

abbrev pub the_value : Represented
the_value = set_represented (one_represented one no_represented)

-- ---- an attribute and a tag

abbrev pub AttributeResolves : Type 0
AttributeResolves =
    AllowsAnswer shallow all_named (attribute (codes "set")) (answers_residual the_set)
    × AllowsAnswer deep all_named (attribute (codes "set")) (answers_value the_value)

-- what the map doesn't name stays
abbrev pub AttributeStays : Type 0
AttributeStays =
    AllowsAnswer deep none_named (attribute (codes "set")) (answers_residual the_set)
    × AllowsAnswer deep one_named (attribute (codes "pair")) (answers_residual (pair (long 1)))

-- an error is answered
abbrev pub AttributeErrs : Type 0
AttributeErrs = AllowsAnswer deep all_named (attribute (codes "text")) (fails (type_is_wrong string_type [] long_type))

abbrev pub TagResolves : Type 0
TagResolves =
    AllowsAnswer shallow all_named tag (answers_residual the_set) × AllowsAnswer deep all_named tag (answers_value the_value)

-- a stored attribute that is itself an unknown goes through the map with either resolution, a stored tag with deep
-- resolution alone
abbrev pub UnknownResolves : Type 0
UnknownResolves =
    AllowsAnswer shallow all_named (attribute (codes "child")) (answers_value (plain_represented
    (entity_literal example_entity)))
    × AllowsAnswer deep all_named (attribute (codes "child")) (answers_value (plain_represented
    (entity_literal example_entity)))
    × AllowsAnswer shallow all_named (tag_of example_entity (codes "u")) (answers_residual u)
    × AllowsAnswer deep all_named (tag_of example_entity (codes "u")) (answers_value one)

-- whether there is an attribute or a tag reads none
abbrev pub PresenceReadsNone : Type 0
PresenceReadsNone =
    AllowsAnswer deep all_named (has_attribute (entity example_entity) (codes "text")) (answers_bool true)
    × AllowsAnswer deep none_named (binary has_tag_operator (entity example_entity) (literal (text_literal (codes "t"))))
    (answers_bool true)

-- ---- extended `has`

-- a value is walked on
abbrev pub PathWalksOn : Type 0
PathWalksOn =
    AllowsAnswer shallow all_named (path (codes "parts") (codes "l")) (answers_residual (extended_has
    (record_of (fields_of ((codes "l", u) ∷ []))) (codes "l") []))
    × AllowsAnswer deep all_named (path (codes "parts") (codes "l")) (answers_bool true)
    × AllowsAnswer deep all_named (path (codes "parts") (codes "m")) (answers_bool false)

-- a residual, as it is evaluated, keeps the attributes after it
abbrev pub PathKeeps : Type 0
PathKeeps =
    AllowsAnswer deep one_named (extended_has (entity example_entity) (codes "pair") (codes "l" ∷ codes "n" ∷ []))
    (answers_residual (extended_has (pair (long 1)) (codes "l") (codes "n" ∷ [])))
    × AllowsAnswer deep none_named (path (codes "parts") (codes "l")) (answers_residual (extended_has
    (record_of (fields_of ((codes "l", u) ∷ []))) (codes "l") []))

-- an error is answered
abbrev pub PathErrs : Type 0
PathErrs =
    AllowsAnswer deep all_named (path (codes "text") (codes "l")) (fails (type_is_wrong string_type [] long_type))

-- the last attribute is a presence check, also after a stored residual that is walked on
abbrev pub LastIsPresence : Type 0
LastIsPresence =
    AllowsAnswer deep all_named (extended_has (entity example_entity) (codes "text") []) (answers_bool true)
    × AllowsAnswer deep all_named (path (codes "child") (codes "text")) (answers_bool true)

-- `E::"p"` stores `child` = c, and `friend` = `E::"e"`, which stores `foo` = 1 and `set` = `[u]`
abbrev pub holder : EntityName
holder = entity_of_type (codes "E") (codes "p")

abbrev pub holder_facts : StoredEntity
holder_facts = record {
  attributes = (codes "child", residual c) ∷
      (codes "friend", value (plain_represented (entity_literal example_entity))) ∷ [];
  tags = [];
  ancestors = [];
}

abbrev pub friend_facts : StoredEntity
friend_facts =
    record { attributes = (codes "foo", value one) ∷ (codes "set", residual the_set) ∷ []; tags = []; ancestors = [] }

abbrev pub walking : Resolution → (Text → Option Represented) → Setting
walking r m = record {
  request = (resolving_setting r false m).request;
  store = record {
    entity = λ e. cond (entity_eq e holder) (Some holder_facts)
        (cond (entity_eq e example_entity) (Some friend_facts) None);
    is_partial = false;
  };
  map = m;
  slots = no_slots;
  extensions = some_extensions;
  resolution = r;
}

-- c alone is named
abbrev pub c_is : Represented → Text → Option Represented
c_is v n = cond (text_eq n (codes "c")) (Some v) None

abbrev pub walk : Text → Text → Term
walk k l = extended_has (entity holder) k (l ∷ [])

-- where c is 3 the walk errs, since 3 is neither record nor entity; with shallow resolution c is kept, though the map
-- names it
abbrev pub WalkMeetsLong : Type 0
WalkMeetsLong =
    Allows (walking shallow (c_is (plain_represented (long_literal (pos 3))))) some_calls
    (walk (codes "child") (codes "foo")) (answers_residual (extended_has c (codes "foo") []))
    × Allows (walking deep (c_is (plain_represented (long_literal (pos 3))))) some_calls
    (walk (codes "child") (codes "foo")) (fails (type_is_wrong record_type (any_entity ∷ []) long_type))

-- where c is `E::"e"` the walk goes on to it
abbrev pub WalkMeetsEntity : Type 0
WalkMeetsEntity =
    Allows (walking deep (c_is (plain_represented (entity_literal example_entity)))) some_calls
    (walk (codes "child") (codes "foo")) (answers_bool true)
    × Allows (walking deep (c_is (plain_represented (entity_literal example_entity)))) some_calls
    (walk (codes "child") (codes "none")) (answers_bool false)

-- the last attribute is not interpreted: a stored residual there takes no level
abbrev pub LastNeedsTwo : Type 0
LastNeedsTwo =
    Runs (walking shallow none_named) some_calls 2 (walk (codes "friend") (codes "set")) (answers_bool true)
    × Runs (walking deep none_named) some_calls 2 (walk (codes "friend") (codes "set")) (answers_bool true)

-- ---- an entity that a partial store lacks: its unknown stays, though the map names it

abbrev MissingAnswers : Term → Term → Type 0
MissingAnswers t r = Allows (resolving_setting deep true all_named) some_calls t (answers_residual r)

abbrev pub MissingStays : Type 0
MissingStays =
    MissingAnswers (get_attribute (entity missing_user) (codes "k")) (get_attribute (missing_entity missing_user) (codes "k"))
    × MissingAnswers (tag_of missing_user (codes "t")) (binary get_tag_operator (missing_entity missing_user)
    (literal (text_literal (codes "t"))))
    × MissingAnswers (extended_has (entity missing_user) (codes "k") (codes "l" ∷ []))
    (extended_has (missing_entity missing_user) (codes "k") (codes "l" ∷ []))

-- ---- levels

-- a stored residual is evaluated one level below what reads it: at three levels an answer, at two the limit
abbrev NeedsThree : Term → Answer → Type 0
NeedsThree t a =
    Runs (resolving_setting deep false all_named) some_calls 3 t a × Exceeds (resolving_setting deep false all_named) some_calls t 2

abbrev pub StoredNeedThree : Type 0
StoredNeedThree =
    NeedsThree (attribute (codes "set")) (answers_value the_value)
    × NeedsThree tag (answers_value the_value)
    × NeedsThree (path (codes "parts") (codes "l")) (answers_bool true)

-- with shallow resolution two are enough, and more answer the same
abbrev pub ShallowNeedsTwo : Type 0
ShallowNeedsTwo =
    Exceeds (resolving_setting shallow false all_named) some_calls (attribute (codes "set")) 1
    × Runs (resolving_setting shallow false all_named) some_calls 2 (attribute (codes "set")) (answers_residual the_set)
    × Runs (resolving_setting shallow false all_named) some_calls 3 (attribute (codes "set")) (answers_residual the_set)

-- why stored residuals are restricted: one that reads itself has no answer, at whatever level
abbrev pub looping : Setting
looping = record {
  request = (resolving_setting deep false none_named).request;
  store = record {
    entity = λ e. Some record {
      attributes = (codes "k", residual (attribute (codes "k"))) ∷ [];
      tags = [];
      ancestors = [];
    };
    is_partial = false;
  };
  map = none_named;
  slots = no_slots;
  extensions = some_extensions;
  resolution = deep;
}

abbrev pub SelfReadingNeverAnswers : Type 0
SelfReadingNeverAnswers = (n : ℕ) → Exceeds looping some_calls (attribute (codes "k")) n

-- why the depth bound has twice the bound: a function answers `{{{{1}}}}`, of height 5, and is called in a stored
-- residual of height 5, `{a: {b: {c: {d: f(), e: x}}}}`; then `e.r.a`, of height 3, needs more than 3 + 5
abbrev pub deepest_set : Represented
deepest_set = set_represented (one_represented deeper_set no_represented)

abbrev pub deepest_calls : StoredCalls
deepest_calls f vs a = a ≡ answers_value deepest_set

abbrev pub around : Text → Term → Term
around k t = record_of (fields_of ((k, t) ∷ []))

abbrev pub nested_residual : Term
nested_residual =
    around (codes "a") (around (codes "b") (around (codes "c") (record_of (fields_of ((
      codes "d",
      call (codes "f") no_terms,
    ) ∷ (codes "e", x) ∷ [])))))

abbrev pub nesting_facts : StoredEntity
nesting_facts = record { attributes = (codes "r", residual nested_residual) ∷ []; tags = []; ancestors = [] }

abbrev pub nesting : ContextPart → Setting
nesting c = record {
  request = with_context (resolving_setting deep false none_named).request c;
  store = record { entity = λ e. Some nesting_facts; is_partial = false };
  map = none_named;
  slots = no_slots;
  extensions = nesting_extensions;
  resolution = deep;
}

abbrev pub no_context : ContextPart
no_context = known_context no_represented_at

abbrev pub projects_nested : Term
projects_nested = get_attribute (attribute (codes "r")) (codes "a")

abbrev pub StoredResidualsGrow : Type 0
StoredResidualsGrow =
    IsGivenSound deepest_calls (nesting no_context) × IsNoHigher deepest_calls (nesting no_context) none_named 5
    × (height projects_nested ≡ 3) × Exceeds (nesting no_context) deepest_calls projects_nested 8

-- why values that are put into a context are sound: one that is written as `f(e.r)` reads the residual, so that the
-- context `{a: y}`, no higher than 5 with it, answers what is higher than 10
abbrev pub unsound : Represented
unsound = extension_represented (codes "T") [] (codes "f") (terms_of (attribute (codes "r") ∷ []))

abbrev pub unsound_named : Text → Option Represented
unsound_named n = cond (text_eq n (codes "y")) (Some unsound) None

abbrev pub reading_context : Fields
reading_context = fields_of ((codes "a", unknown (codes "y") None) ∷ [])

abbrev pub grown_residual : Term
grown_residual =
    around (codes "a") (around (codes "b") (around (codes "c") (record_of (fields_of ((
      codes "d",
      expression_of deepest_set,
    ) ∷ (codes "e", x) ∷ [])))))

abbrev pub read_context : Term
read_context = around (codes "a") (call (codes "f") (terms_of (grown_residual ∷ [])))

abbrev pub UnsoundContextsGrow : Type 0
UnsoundContextsGrow =
    IsGivenSound deepest_calls (nesting (residual_context reading_context))
    × IsNoHigher deepest_calls (nesting (residual_context reading_context)) unsound_named 5
    × Allows (nesting (residual_context reading_context)) deepest_calls
    (record_of (substituted_at unsound_named reading_context)) (answers_residual read_context)
    × (substituted_height unsound_named (residual read_context) ≡ 11)
